use Rattle.graph_core.proofs.Meeting.{on_ok}
use Rattle.graph_core.proofs.Framed.{lua_met}
use Rattle.graph_core.proofs.walk.Walk.meet_lua.Goals as goal

pub returns : goal.returns
returns c =
    on_ok c.meet_wait.result c.meet_wait.ensures
    (λ m. lua_met c.args.self.now c.args.view c.args.seen.now.keys c.meet.new.seen.keys c.meet_all.new.seen.keys c.meet_all-2.new.seen.keys c.meet_wait.new.seen.keys c.in_ok-meet.ensures
    c.in_ok-meet_all.ensures c.in_ok-meet_all-2.ensures m)
