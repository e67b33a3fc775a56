use Rattle.graph_core.proofs.Meeting.{on_ok, fields_as}
use Rattle.graph_core.proofs.Framed.{cell_met}
use Rattle.graph_core.proofs.walk.Walk.meet_cell_at.Goals as goal

pub returns-in-None : goal.returns-in-None
returns-in-None c =
    on_ok c.meet-in-None.result c.meet-in-None.ensures (λ m fuel. fields_as c.args.self.now c.args.seen.now.keys c.meet-in-None.new.seen.keys _ _
    (cell_met c.args.self.now fuel c.args.number c.get.result.now c.cell_value.result c.get.ensures c.in-None.ensures (c.cell_value.ensures fuel)) m)
