use Rattle.std.proofs.Common.{◌≡◌, ◌≤◌, true, false, not, rules, find, length, refl, sym, ◌∙◌, ap, arith}
use Rattle.std.proofs.Math.ListN.{drop_of_length-le}
use Rattle.int_core.specs.Rows.{is_filled}
use Rattle.table_core.specs.Value.{lua_values}
use Rattle.table_core.proofs.TableLemmas.{find-drop}
use Rattle.table_core.proofs.table.Table.first_filled.Goals as goal

pub returns-then-not-is_nil : goal.returns-then-not-is_nil
returns-then-not-is_nil c =
    let rows = c.args.self.now.rows in
    let row = c.row-key.result in
    let filled : is_filled lua_values row ≡ true = let no : c.is_nil.result ≡ false = search rules in ap not (sym c.is_nil.ensures ∙ no) in
    sym (c.loop-at.invariant ∙ find-drop (is_filled lua_values) rows c.loop-at.at row c.row-key.ensures ∙ rw filled refl)

pub loop-at-preserved : goal.loop-at-preserved
loop-at-preserved c =
    let rows = c.args.self.now.rows in
    let row = c.row-key.result in
    let cleared : is_filled lua_values row ≡ false = let yes : c.is_nil.result ≡ true = search rules in ap not (sym c.is_nil.ensures ∙ yes) in
    c.loop-at.invariant ∙ find-drop (is_filled lua_values) rows c.loop-at.at row c.row-key.ensures ∙ rw cleared refl

pub returns : goal.returns
returns c =
    let rows = c.args.self.now.rows in
    let past : length rows ≤ c.loop-at.at = omega arith in
    sym (c.loop-at.invariant ∙ ap (find (is_filled lua_values)) (drop_of_length-le rows past))
