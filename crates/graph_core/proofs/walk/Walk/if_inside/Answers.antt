use Rattle.std.proofs.Common.{true, false, sym, ◌∙◌}
use Rattle.graph_core.proofs.Meeting.{inside_is}
use Rattle.graph_core.proofs.walk.Walk.if_inside.Goals as goal

pub returns-then-contains : goal.returns-then-contains
returns-then-contains c = sym (inside_is c.args.self.now.inside.now.keys c.args.coro.0 true (sym c.contains.ensures ∙ c.if-contains.true))

pub returns : goal.returns
returns c = sym (inside_is c.args.self.now.inside.now.keys c.args.coro.0 false (sym c.contains.ensures ∙ c.if-contains.false))
