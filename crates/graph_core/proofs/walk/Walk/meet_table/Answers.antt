use Rattle.graph_core.proofs.Meeting.{on_ok}
use Rattle.graph_core.specs.Walk.{texts_in}
use Rattle.graph_core.proofs.Framed.{table_met}
use Rattle.graph_core.proofs.walk.Walk.meet_table.Goals as goal

pub returns : goal.returns
returns c =
    on_ok c.meet.result c.meet.ensures
    (λ m. table_met c.args.self.now c.args.table.now c.metatable.result c.metatable_of.result c.args.seen.now.keys c.meet_rows.new.seen.keys c.meet.new.seen.keys c.metatable.ensures
    (c.metatable_of.ensures (texts_in c.args.self.now)) c.in_ok-meet_rows.ensures m)
