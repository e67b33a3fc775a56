use Rattle.std.proofs.Common.{rules, ◌≡◌, ◌∙◌, sym}
use Rattle.table_core.specs.Value.{value_eq}
use Rattle.lua_opening.specs.Opened.{item_value}
use Rattle.lua_opening.proofs.RowByRow.{value_told}
use Rattle.lua_opening.proofs.comparing.is_item.Goals as goal

pub returns-in-Some : goal.returns-in-Some
returns-in-Some c =
    let same : c.eq.result ≡ value_eq c.args.value c.in-Some.wanted = search rules in
    let told = value_told c.args.strings.now c.len.ensures.apart c.len.ensures.short c.args.value c.in-Some.wanted (item_value c.args.item) c.in-Some.ensures.there in
    (λ h. told.0 (sym same ∙ h), λ e. same ∙ told.1 e)
