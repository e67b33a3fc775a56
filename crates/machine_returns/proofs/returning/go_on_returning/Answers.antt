use Rattle.std.proofs.Common.{[], ◌∷◌, ◌++◌, length}
use Rattle.int_core.specs.Value.{nil}
use Rattle.machine_core.specs.World.{returning}
use Rattle.machine_core.specs.Text.{read, written}
use Rattle.machine_core.specs.FrameRows.{by_asking, expand_by}
use Rattle.lua_heap.specs.Reading.{value as meant}
use Rattle.move_laws.proofs.Rows.{first}
use Rattle.machine_returns.proofs.Tops.{can_see, can_return}
use Rattle.machine_returns.proofs.Closed.{names_return, return_text, seen_some, seen_none, where_ok}
use Rattle.machine_returns.proofs.returning.go_on_returning.Goals as goal

pub see_pending-requires : goal.see_pending-requires
see_pending-requires c = can_see c.args.world.now c.requires.there.place 0 c.requires.solid c.requires.there.is

pub returns-in_default-clause-leads : goal.returns-in_default-clause-leads
returns-in_default-clause-leads c =
    where_ok c.leave_with_results.result c.leave_with_results.ensures.leads (λ ending l env.
    first (λ v s. expand_by by_asking (return_text c.args.from c.args.count v s)) (seen_none c.args.world.now 0 c.see_pending.result c.see_pending.ensures c.in_default.is env) (l by_asking (env ++ [])))

pub ask_to_close-requires-clause-ready : goal.ask_to_close-requires-clause-ready
ask_to_close-requires-clause-ready c = can_return c.args.world.now c.args.from c.args.count c.requires.solid c.requires.there

pub returns-clause-leads : goal.returns-clause-leads
returns-clause-leads c =
    let W = c.args.world.now in
    let v = c.in-Some.v in
    where_ok c.ask_to_close.result c.ask_to_close.ensures.leads (λ ending asks env.
    first (λ v s. expand_by by_asking (return_text c.args.from c.args.count v s)) (seen_some W 0 c.see_pending.result v c.see_pending.ensures c.in-Some.is env)
    (asks.leads (env ++ meant W.strings v ∷ []) (read (length env)) (written nil) (written nil) (returning c.args.count) (names_return W v env c.args.from c.args.count)))
