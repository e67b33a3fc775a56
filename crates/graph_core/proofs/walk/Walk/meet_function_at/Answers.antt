use Rattle.graph_core.proofs.Meeting.{on_ok, fields_as}
use Rattle.graph_core.proofs.Framed.{function_met}
use Rattle.graph_core.proofs.walk.Walk.meet_function_at.Goals as goal

pub returns : goal.returns
returns c =
    on_ok c.meet_cells.result c.meet_cells.ensures (λ m fuel. fields_as c.args.self.now c.args.seen.now.keys c.meet_cells.new.seen.keys _ _
    (function_met c.args.self.now fuel c.args.number c.get.result.now c.deref.result.now c.get.ensures c.deref.ensures.value) m)
