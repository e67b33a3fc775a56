use Rattle.std.proofs.Common.{◌≡◌, true, false, sym, ◌∙◌, ap, ◌++◌, ◌∷◌, [], rules}
use Rattle.std.specs.List.{IsDistinct}
use Rattle.std.specs.Map.{keys_of}
use Rattle.int_core.specs.Rows.{is_filled}
use Rattle.int_core.proofs.RowsLemmas.{absent-filter}
use Rattle.table_core.specs.Value.{is_nil, lua_values, value_eq}
use Rattle.table_core.proofs.NumberedLemmas.{absent-before}
use Rattle.table_core.proofs.TableLemmas.{filled-kept, filled-skipped}
use Rattle.table_core.proofs.ValueLemmas.{lua_values-AreValues}
use Rattle.table_core.proofs.rows.Rows.filled.Goals as goal

pub insert_last-requires : goal.insert_last-requires
insert_last-requires c =
    let rows = c.args.self.now in
    let row = c.row-key.result in
    let distinct : IsDistinct value_eq (keys_of rows) = search rules in
    rw c.loop-at.invariant (absent-filter lua_values lua_values-AreValues (is_filled lua_values) _ row.0 (absent-before rows c.loop-at.at row.0 row.1 distinct c.row-key.ensures))

pub loop-at-preserved-then-is_nil : goal.loop-at-preserved-then-is_nil
loop-at-preserved-then-is_nil c =
    let row = c.row-key.result in
    let cleared : is_nil row.1 ≡ true = sym c.is_nil.ensures ∙ c.if-is_nil.true in
    c.loop-at.invariant ∙ sym (filled-skipped c.args.self.now c.loop-at.at row c.row-key.ensures cleared)

pub loop-at-preserved : goal.loop-at-preserved
loop-at-preserved c =
    let row = c.row-key.result in
    let filled : is_nil row.1 ≡ false = sym c.is_nil.ensures ∙ c.if-is_nil.false in
    c.in_ok-insert_last.ensures.added ∙ ap (λ rows. rows ++ row ∷ []) c.loop-at.invariant ∙ sym (filled-kept c.args.self.now c.loop-at.at row c.row-key.ensures filled)
