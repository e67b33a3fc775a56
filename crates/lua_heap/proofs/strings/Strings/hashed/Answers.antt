use Rattle.std.proofs.Common.{rules, ◌≡◌, Some}
use Rattle.std.specs.Prelude.{slice_get, bytes_eq}
use Rattle.std.specs.List.{list_any}
use Rattle.lua_heap.proofs.Finding.{contents, found_there, any_content}
use Rattle.lua_heap.proofs.strings.Strings.hashed.Goals as goal

pub returns-clause-found : goal.returns-clause-found
returns-clause-found c =
    let h : slice_get (contents c.self.inside.contents.keys) c.in_ok-get_index_of.field-0 ≡ Some c.args.bytes.now = found_there c.args.bytes.now c.self.inside.contents.keys c.in_ok-get_index_of.field-0 (search rules) in
    search rules

pub returns-clause-there : goal.returns-clause-there
returns-clause-there c =
    let h : list_any (λ k. bytes_eq c.args.bytes.now k.items) c.self.inside.contents.keys ≡ list_any (bytes_eq c.args.bytes.now) (contents c.self.inside.contents.keys) = any_content c.args.bytes.now c.self.inside.contents.keys in
    search rules

pub returns-in_err-get_index_of-clause-there : goal.returns-in_err-get_index_of-clause-there
returns-in_err-get_index_of-clause-there c =
    let h : list_any (λ k. bytes_eq c.args.bytes.now k.items) c.self.inside.contents.keys ≡ list_any (bytes_eq c.args.bytes.now) (contents c.self.inside.contents.keys) = any_content c.args.bytes.now c.self.inside.contents.keys in
    search rules
