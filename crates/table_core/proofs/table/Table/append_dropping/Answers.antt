use Rattle.std.proofs.Common.{◌≡◌, false, filter, ◌+◌, refl}
use Rattle.std.proofs.lemmas.Map.Made.{IsDistinct-keys_filter}
use Rattle.int_core.specs.Rows.{has_row, is_filled}
use Rattle.int_core.proofs.RowsLemmas.{absent-filter}
use Rattle.table_core.specs.Table.{IsKept}
use Rattle.table_core.specs.Value.{lua_values, value_eq}
use Rattle.table_core.proofs.BorderLemmas.{beside-grown, border-few, border-filter, get-grown}
use Rattle.table_core.proofs.TableLemmas.{IsKept-filter, IsKept-grown, tally}
use Rattle.table_core.proofs.ValueLemmas.{lua_values-AreValues}
use Rattle.table_core.proofs.table.Table.append_dropping.Goals as goal

pub mended-self-inside-requires : goal.mended-self-inside-requires
mended-self-inside-requires c =
    let rows = c.self.inside.rows in
    let absent : has_row lua_values rows c.args.key ≡ false = rw (← c.self.view_is) at c.requires.absent in
    record {
      beside = beside-grown (filter (is_filled lua_values) rows) c.insert_dropping.new.self c.args.key c.args.value c.self.inside.border (border-filter rows c.self.inside.border c.self.invariant.0.are_rows.distinct c.self.invariant.1) c.in_ok-insert_dropping.ensures.added;
      small = border-few c.self.inside.rows c.self.inside.border c.self.invariant.1 c.self.invariant.0.few;
      written = get-grown (filter (is_filled lua_values) rows) c.insert_dropping.new.self c.args.key c.args.value (absent-filter lua_values lua_values-AreValues (is_filled lua_values) rows c.args.key absent) c.in_ok-insert_dropping.ensures.added;
    }

pub invariant_of-self-2 : goal.invariant_of-self-2
invariant_of-self-2 c =
    let rows = c.self.inside.rows in
    let e = c.in_ok-insert_dropping.ensures in
    let was : IsKept (filter (is_filled lua_values) rows) 0 = IsKept-filter rows c.self.inside.cleared c.self.invariant.0 (IsDistinct-keys_filter value_eq (is_filled lua_values) rows c.self.invariant.0.are_rows.distinct) in
    let none : tally c.args.value ≡ 0 = rw c.requires.filled refl in
    let grown : IsKept c.insert_dropping.new.self (0 + tally c.args.value) =
    IsKept-grown (filter (is_filled lua_values) rows) c.insert_dropping.new.self 0 c.in_ok-insert_dropping.field-0 c.args.key c.args.value was c.requires.not_nil e.added e.distinct e.len e.small in
    (rw none at grown, c.mended-self-inside.ensures)

pub returns-clause-ok : goal.returns-clause-ok
returns-clause-ok c = rw (← c.self.view_is) c.in_ok-insert_dropping.ensures.added
