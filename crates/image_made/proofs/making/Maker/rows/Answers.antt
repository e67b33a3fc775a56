use Rattle.std.proofs.Common.{◌≤◌, length, sym, ◌∙◌, arith}
use Rattle.std.proofs.lemmas.Simd.{map-map}
use Rattle.image_core.specs.Loading.{row_made}
use Rattle.lua_heap.specs.Reading.{row as row_read}
use Rattle.image_records.specs.Views.{row}
use Rattle.image_made.proofs.Steps.{one_more_at, all_done}
use Rattle.image_made.proofs.Values.{table_is}
use Rattle.image_made.proofs.making.Maker.rows.Goals as goal

pub loop-at-preserved : goal.loop-at-preserved
loop-at-preserved c = record {
  rows = λ T rs m.
      one_more_at (row_read c.args.strings.now) (λ r. row_made T rs (row r)) c.args.rows.now c.loop-at.at c.pair_at.result.now _ _ c.in_ok-made.made c.pair_at.ensures (c.in_ok-made.ensures.is T rs m)
      c.in_ok-push_row.ensures.rows (c.loop-at.invariant.rows T rs m);
  metatable = c.push_row.ensures.metatable ∙ c.loop-at.invariant.metatable;
}

pub returns : goal.returns
returns c = record {
  is = λ T rs m.
      let ended : length c.args.rows.now ≤ c.loop-at.at = omega arith in
      table_is c.args.strings.now c.loop-at.table _
      (all_done (row_read c.args.strings.now) (λ r. row_made T rs (row r)) c.args.rows.now c.loop-at.at _ ended (c.loop-at.invariant.rows T rs m) ∙ sym (map-map (row_made T rs) row c.args.rows.now)) c.loop-at.invariant.metatable;
}
