use Rattle.std.proofs.Common.{rules, ◌≡◌, ap, ◌∙◌, ◌++◌, [], ◌∷◌, false}
use Rattle.std.specs.Prelude.{bytes_eq, OnOk}
use Rattle.std.specs.List.{list_any}
use Rattle.lua_heap.proofs.Finding.{contents, inserted, short_inserted}
use Rattle.lua_heap.proofs.strings.Strings.add.Goals as goal

pub invariant_of-self : goal.invariant_of-self
invariant_of-self c =
    let t : c.in_ok-content.content.items ≡ c.args.bytes.now = search rules in
    let f : list_any (bytes_eq c.args.bytes.now) (contents c.self.inside.contents.keys) ≡ false = ap (list_any (bytes_eq c.args.bytes.now)) c.self.view_is ∙ c.requires.new in
    short_inserted c.args.bytes.now c.self.inside.contents.keys c.insert.new.self.keys c.in_ok-content.content t f c.insert.result c.insert.ensures.keys c.insert.ensures.err c.self.invariant c.requires.short

pub returns-clause-added : goal.returns-clause-added
returns-clause-added c =
    let t : c.in_ok-content.content.items ≡ c.args.bytes.now = search rules in
    let f : list_any (bytes_eq c.args.bytes.now) (contents c.self.inside.contents.keys) ≡ false = ap (list_any (bytes_eq c.args.bytes.now)) c.self.view_is ∙ c.requires.new in
    let q : OnOk c.insert.result (contents c.insert.new.self.keys ≡ contents c.self.inside.contents.keys ++ c.args.bytes.now ∷ []) = inserted c.args.bytes.now c.self.inside.contents.keys c.insert.new.self.keys c.in_ok-content.content t f c.insert.result c.insert.ensures.keys in
    search rules
