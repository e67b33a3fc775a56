use Rattle.std.proofs.Common.{[], ◌∷◌, ◌++◌, length}
use Rattle.int_core.specs.Value.{nil}
use Rattle.machine_core.specs.World.{returning}
use Rattle.machine_core.specs.Text.{read, written}
use Rattle.machine_core.specs.FrameRows.{at_once, expand}
use Rattle.lua_heap.specs.Reading.{value as meant}
use Rattle.move_laws.proofs.Order.{steps_of}
use Rattle.move_laws.proofs.Rows.{safe_after}
use Rattle.machine_moves.proofs.OnTop.{if_ok}
use Rattle.machine_returns.proofs.Tops.{solid_of, can_see, can_return}
use Rattle.machine_returns.proofs.Closed.{may_so, names_return, not_spent, return_text, seen_some, seen_none, steps_first, where_ok}
use Rattle.machine_returns.proofs.returning.return_some.Goals as goal

pub see_pending-requires : goal.see_pending-requires
see_pending-requires c = can_see c.args.world.now c.requires.there.place 0 (solid_of c.requires.sound) c.requires.there.is

pub returns-in_default-clause-steps : goal.returns-in_default-clause-steps
returns-in_default-clause-steps c =
    if_ok c.leave_with_results.result c.leave_with_results.ensures.leads c.leave_with_results.ensures.paid (λ ending l n env.
    steps_first (λ v s. expand (return_text c.args.from c.args.count v s)) (seen_none c.args.world.now 0 c.see_pending.result c.see_pending.ensures c.in_default.is env)
    (steps_of c.args.budget.now (not_spent ending n) (l at_once (env ++ []))))

pub call_to_close-requires-clause-ready : goal.call_to_close-requires-clause-ready
call_to_close-requires-clause-ready c = can_return c.args.world.now c.args.from c.args.count (solid_of c.requires.sound) c.requires.there

pub call_to_close-requires-clause-safe : goal.call_to_close-requires-clause-safe
call_to_close-requires-clause-safe c =
    let W = c.args.world.now in
    let v = c.in-Some.v in
    let k = c.requires.safe in
    may_so (names_return W v k.env c.args.from c.args.count)
    (safe_after (λ v s. expand (return_text c.args.from c.args.count v s)) k.safe (seen_some W 0 c.see_pending.result v c.see_pending.ensures c.in-Some.is k.env)) tt tt

pub returns-clause-steps : goal.returns-clause-steps
returns-clause-steps c =
    let W = c.args.world.now in
    let v = c.in-Some.v in
    where_ok c.call_to_close.result c.call_to_close.ensures.steps (λ ending calls env.
    steps_first (λ v s. expand (return_text c.args.from c.args.count v s)) (seen_some W 0 c.see_pending.result v c.see_pending.ensures c.in-Some.is env)
    (calls.steps (env ++ meant W.strings v ∷ []) (read (length env)) (written nil) (written nil) (returning c.args.count) (names_return W v env c.args.from c.args.count)))
