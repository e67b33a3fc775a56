use Rattle.std.proofs.Common.{◌≡◌, Some, None, sym, ap, ◌∙◌}
use Rattle.std.specs.Option.{option_copied}
use Rattle.tree_core.specs.Plain.{plain_stat}
use Rattle.lua_scope.specs.Indexed.{found_in, label_of, or_first}
use Rattle.lua_scope.proofs.Indexing.{is_name, label_by_name, no_label}
use Rattle.lua_scope.proofs.index.add_label.Goals as goal

pub returns-in_ok-add_name-in-Some : goal.returns-in_ok-add_name-in-Some
returns-in_ok-add_name-in-Some c =
    let s = plain_stat c.args.stat.now in
    let is : label_of s ≡ Some c.in-Some.name.now = sym c.label_of.ensures ∙ ap option_copied c.in-Some.is in
    λ text. c.in_ok-add_name-in-Some.ensures text ∙ ap (λ b. or_first (found_in text c.args.labels.now) b c.args.place) (sym (label_by_name text s ∙ ap (is_name text) is))

pub returns-in-None : goal.returns-in-None
returns-in-None c =
    let s = plain_stat c.args.stat.now in
    let is : label_of s ≡ None = sym c.label_of.ensures ∙ ap option_copied c.in-None.is in
    λ text. no_label (found_in text c.args.labels.now) c.args.place ∙ ap (λ b. or_first (found_in text c.args.labels.now) b c.args.place) (sym (label_by_name text s ∙ ap (is_name text) is))
