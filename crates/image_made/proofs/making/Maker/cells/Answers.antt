use Rattle.std.proofs.Common.{◌≤◌, length, arith}
use Rattle.image_core.specs.Loading.{new_cell}
use Rattle.image_made.proofs.Steps.{one_more_at, all_done}
use Rattle.image_made.proofs.Values.{cell_is}
use Rattle.image_made.proofs.making.Maker.cells.Goals as goal

pub loop-at-preserved : goal.loop-at-preserved
loop-at-preserved c T rs m =
    one_more_at (λ c. c.0) (new_cell T rs) c.args.records.now c.loop-at.at c.number_at.result _ _ c.in-Some.cell c.number_at.ensures (cell_is T rs c.args.self.now.places.now m.places c.number_at.result c.in-Some.cell c.in-Some.ensures)
    c.in_ok-push.ensures.items (c.loop-at.invariant T rs m)

pub returns : goal.returns
returns c = record {
  is = λ T rs m.
      let ended : length c.args.records.now ≤ c.loop-at.at = omega arith in
      all_done (λ c. c.0) (new_cell T rs) c.args.records.now c.loop-at.at _ ended (c.loop-at.invariant T rs m);
}
