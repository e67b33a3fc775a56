use Rattle.std.proofs.Common.{rules, ◌≡◌, ◌≤◌, ◌∙◌, ℕ, List, false, length, ap, subst}
use Rattle.std.specs.Prelude.{bytes_eq}
use Rattle.std.specs.List.{list_any}
use Rattle.int_core.specs.Value.{greatest_string}
use Rattle.lua_opening.specs.Opened.{IsShort, item_value}
use Rattle.lua_opening.proofs.RowByRow.{no_text}
use Rattle.lua_opening.proofs.comparing.value_in.Goals as goal

pub returns-in_err-find-in-Text-clause-none : goal.returns-in_err-find-in-Text-clause-none
returns-in_err-find-in-Text-clause-none c = λ _ v e.
    let text : List ℕ = c.in-Text.text.now in
    let short : length text ≤ greatest_string = subst IsShort c.in-Text.is c.requires in
    let absent : list_any (bytes_eq text) c.args.strings.now ≡ false = search rules in
    no_text c.args.strings.now text short absent v (e ∙ ap item_value c.in-Text.is)
