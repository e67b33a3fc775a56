use Rattle.graph_core.proofs.Meeting.{on_ok}
use Rattle.graph_core.proofs.Framed.{closing_met}
use Rattle.graph_core.proofs.walk.Walk.meet_error_and.Goals as goal

pub returns : goal.returns
returns c =
    on_ok c.meet_all.result c.meet_all.ensures
    (λ m. closing_met c.args.self.now c.args.error c.args.left.now c.args.seen.now.keys c.meet_error.new.seen.keys c.meet_all.new.seen.keys c.in_ok-meet_error.ensures m)
