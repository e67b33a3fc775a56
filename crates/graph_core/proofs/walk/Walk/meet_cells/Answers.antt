use Rattle.std.proofs.Common.{[], ◌∷◌}
use Rattle.table_core.specs.declared.value.CellId.{CellId}
use Rattle.image_core.specs.Records.{of_cell}
use Rattle.graph_core.proofs.Meeting.{one_more}
use Rattle.graph_core.proofs.walk.Walk.meet_cells.Goals as goal

pub loop-at-preserved : goal.loop-at-preserved
loop-at-preserved c =
    one_more c.args.self.now (λ (id : CellId). of_cell id.0 ∷ []) c.args.seen.now.keys c.loop-at.seen.keys c.meet.new.seen.keys c.loop-at.at c.args.cells.now c.item_at.result c.item_at.ensures
    c.loop-at.invariant c.in_ok-meet.ensures
