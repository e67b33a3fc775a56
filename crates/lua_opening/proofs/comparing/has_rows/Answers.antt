use Rattle.std.proofs.Common.{rules, arith, ◌≡◌, ◌<◌, ◌∙◌, ℕ, List, [], Bor, Some, true, false, length, refl, sym, subst, true≢false}
use Rattle.std.specs.Prelude.{slice_get}
use Rattle.table_core.specs.declared.value.Value.{Value as Kept}
use Rattle.lua_opening.specs.declared.rows.Item.{Item}
use Rattle.lua_opening.specs.declared.rows.Item.TheVariants.{Primitive}
use Rattle.lua_opening.proofs.RowByRow.{row_differs, rows_more, rows_all}
use Rattle.lua_opening.proofs.comparing.has_rows.Goals as goal

abbrev none : Bor (List ℕ) × Item
none = (record { ref_ptr = (0, 0); now = [] }, Primitive 0)

pub returns-then-not-is_row : goal.returns-then-not-is_row
returns-then-not-is_row c =
    let n : ℕ = c.rows.at in
    let within : n < length c.args.rows.now = search rules in
    let here : slice_get c.args.held.now.rows n ≡ Some (c.value.result, c.row-key.result.1) = subst (λ (k : Kept). slice_get c.args.held.now.rows n ≡ Some (k, c.row-key.result.1)) (sym c.value.ensures.same) c.row-key.ensures in
    let other : c.is_row.result ≡ false = search rules in
    (λ h. absurd (cc), λ e. absurd (row_differs c.args.strings.now c.args.held.now.rows c.args.rows.now n none c.value.result c.row-key.result.1 within here (λ same. true≢false (sym (c.is_row.ensures.1 same) ∙ other)) e))

pub rows-preserved : goal.rows-preserved
rows-preserved c =
    let n : ℕ = c.rows.at in
    let within : n < length c.args.rows.now = search rules in
    let here : slice_get c.args.held.now.rows n ≡ Some (c.value.result, c.row-key.result.1) = subst (λ (k : Kept). slice_get c.args.held.now.rows n ≡ Some (k, c.row-key.result.1)) (sym c.value.ensures.same) c.row-key.ensures in
    let same : c.is_row.result ≡ true = search rules in
    rows_more c.args.strings.now c.args.held.now.rows c.args.rows.now n none c.value.result c.row-key.result.1 within here (c.is_row.ensures.0 same) c.rows.invariant

pub returns : goal.returns
returns c =
    let n : ℕ = c.rows.at in
    let end : n ≡ length c.args.rows.now = omega (arith, c.rows-test.false, c.rows.auto.at-end) in
    let size : length c.args.held.now.rows ≡ length c.args.rows.now = search rules in
    (λ _. rows_all c.args.strings.now c.args.held.now.rows c.args.rows.now n size end c.rows.invariant, λ _. refl)
