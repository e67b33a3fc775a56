-- The map with the file put in holds it, and all others as before.
use Rattle.std.proofs.Common.{rules, ◌≡◌, List, ℕ, ◌∙◌, ap, Some}
use Rattle.std.proofs.Math.Path.{fun_ext}
use Rattle.std.specs.Option.{option_map}
use Rattle.std.specs.BTreeMap.{get_by_text}
use Rattle.std.specs.Str.{bytes_eq}
use Rattle.std.specs.String.{string_bytes}
use Rattle.std.proofs.lemmas.Map.Text.{btree_map_updates_text}
use Rattle.io_edge.proofs.Options.{option_map-cond}
use Rattle.io_edge.specs.Schedules.{files_held}
use Rattle.io_edge.specs.Content.{with_file}
use Rattle.io_edge.proofs.mem_files.MemFiles.keep.Goals as goal

pub returns-clause-replaced : goal.returns-clause-replaced
returns-clause-replaced c =
    let before = c.args.self.now.files in
    let name = string_bytes c.in_ok-name.name in
    let file = c.in_ok-file.file in
    let same_name : name ≡ c.args.name.now = search rules in
    let same_bytes : file.items ≡ c.args.bytes.now = search rules in
    let put : (other : List ℕ) → option_map (λ f. f.items) (get_by_text c.insert.new.self other) ≡ with_file (files_held c.args.self.now) name file.items other = λ other.
    ap (option_map (λ f. f.items)) (btree_map_updates_text name before c.insert.new.self (Some file) c.in_ok-insert.ensures.updates other)
    ∙ option_map-cond (λ f. f.items) (bytes_eq name other) file (get_by_text before other) in
    fun_ext put ∙ ap (λ n. with_file (files_held c.args.self.now) n file.items) same_name
    ∙ ap (with_file (files_held c.args.self.now) c.args.name.now) same_bytes
