use Rattle.std.proofs.Common.{[], ◌+◌, ◌-◌, refl, ap, sym, subst, ◌∙◌, arith}
use Rattle.std.proofs.lemmas.Result.{IfOk-weaker}
use Rattle.lua_heap.specs.Codes.{no_code}
use Rattle.lua_heap.specs.declared.world.World.{World as Memory}
use Rattle.machine_core.specs.Moves.{go}
use Rattle.machine_errors.proofs.Leaving.{can_leave}
use Rattle.machine_moves.specs.Ending.{ending_of}
use Rattle.machine_calls.specs.declared.preparing.Prepared.TheVariants.{Nothing}
use Rattle.machine_calls.specs.Waiting.{CallsSo, MayCall}
use Rattle.lua_stack.specs.declared.frame.Wait.TheVariants.{ForConcat}
use Rattle.lua_stack.proofs.Called.{on_err as always}
use Rattle.machine_moves.proofs.OnTop.{if_ok, on_err}
use Rattle.move_laws.proofs.Order.{steps_of}
use Rattle.machine_operations.specs.Joining.{Joins}
use Rattle.machine_operations.specs.declared.joining.Joined.TheVariants.{Whole, Asks, Fails}
use Rattle.machine_operations.proofs.Came.{calls_may, calls_steps, can_last, can_prepare, fails_leads, frame_at, last_comes, last_steps, may_join, none_may, none_steps, printed_kept, raised_steps, safe_last, stands_same, whole_leads, whole_may}
use Rattle.machine_operations.proofs.Joins.{operand_there}
use Rattle.machine_operations.proofs.concatenating.concatenate.Goals as goal

pub advance-requires : goal.advance-requires
advance-requires c =
    record {
      order = c.requires.stands.sound.order;
      at = c.requires.stands.at;
      room = omega (arith, c.requires.stands.room);
      safe = none_may c.args.world.now no_code c.args.pc c.args.first c.args.count c.if-count-eq0.true (c.requires.safe no_code);
    }

pub returns-then-count-eq0-clause-steps : goal.returns-then-count-eq0-clause-steps
returns-then-count-eq0-clause-steps c = λ p. none_steps c.args.world.now c.advance.new.world c.args.budget.now p c.args.pc c.args.first c.args.count c.if-count-eq0.true (c.advance.ensures.leads [])

pub read_register-last-requires : goal.read_register-last-requires
read_register-last-requires c =
    can_last c.args.world.now c.args.first (c.args.count - 1) (safe_last c.args.world.now no_code c.args.pc c.args.first c.args.count c.if-count-eq0.false (c.requires.safe no_code))

pub join-requires : goal.join-requires
join-requires c =
    let W = c.args.world.now in
    let n = c.args.count - 1 in
    let size = c.requires.size in
    record {
      sound = c.requires.stands.sound;
      frame = frame_at c.requires.stands.at;
      last = operand_there W (c.args.first + n) c.read_register-last.result c.requires.stands.sound c.operands_are_there.ensures c.read_register-last.ensures;
      room = omega (arith, size);
      safe = may_join W c.args.first n c.read_register-last.result c.read_register-last.ensures (safe_last W no_code c.args.pc c.args.first c.args.count c.if-count-eq0.false (c.requires.safe no_code));
    }

pub keep-requires-clause-order : goal.keep-requires-clause-order
keep-requires-clause-order c = c.join.ensures.sound.order

pub keep-requires-clause-at : goal.keep-requires-clause-at
keep-requires-clause-at c = stands_same c.join.ensures.same c.requires.stands.at

pub keep-requires-clause-room : goal.keep-requires-clause-room
keep-requires-clause-room c = c.requires.stands.room

pub keep-requires-clause-safe : goal.keep-requires-clause-safe
keep-requires-clause-safe c =
    let W = c.args.world.now in
    let n = c.args.count - 1 in
    let j = subst (λ o. Joins W c.join.new.world c.args.first n c.read_register-last.result o) c.in-Whole.is c.in_ok-v.ensures.joins in
    whole_may (last_comes W c.args.first n c.read_register-last.result c.read_register-last.ensures c.join.new.world (Whole c.in-Whole.v) j)
    (safe_last W no_code c.args.pc c.args.first c.args.count c.if-count-eq0.false (c.requires.safe no_code))

pub returns-in-Whole-clause-steps : goal.returns-in-Whole-clause-steps
returns-in-Whole-clause-steps c = λ p.
    let W = c.args.world.now in
    let n = c.args.count - 1 in
    let j = subst (λ o. Joins W c.join.new.world c.args.first n c.read_register-last.result o) c.in-Whole.is c.in_ok-v.ensures.joins in
    last_steps W c.keep.new.world c.args.budget.now c.args.budget.now go p c.args.pc c.args.first c.args.count c.if-count-eq0.false
    (steps_of c.args.budget.now (λ n. n) (whole_leads (last_comes W c.args.first n c.read_register-last.result c.read_register-last.ensures c.join.new.world (Whole c.in-Whole.v) j) c.keep.ensures.leads))

pub call_over-requires-clause-ready : goal.call_over-requires-clause-ready
call_over-requires-clause-ready c = can_prepare (can_leave c.join.new.world c.join.ensures.sound (frame_at (stands_same c.join.ensures.same c.requires.stands.at)))

pub call_over-requires-clause-safe : goal.call_over-requires-clause-safe
call_over-requires-clause-safe c =
    let W = c.args.world.now in
    let n = c.args.count - 1 in
    let a = c.in-Asks.asked in
    let j = subst (λ o. Joins W c.join.new.world c.args.first n c.read_register-last.result o) c.in-Asks.is c.in_ok-v.ensures.joins in
    let m = calls_may (last_comes W c.args.first n c.read_register-last.result c.read_register-last.ensures c.join.new.world (Asks a) j)
    (safe_last W no_code c.args.pc c.args.first c.args.count c.if-count-eq0.false (c.requires.safe no_code)) in
    subst (λ vs. MayCall c.join.new.world a.handler vs (ForConcat a.below) Nothing) (sym c.in_ok-operands-in-Asks.ensures) m

pub returns-in_ok-operands-in-Asks-clause-steps : goal.returns-in_ok-operands-in-Asks-clause-steps
returns-in_ok-operands-in-Asks-clause-steps c =
    let W = c.args.world.now in
    let V = c.join.new.world in
    let n = c.args.count - 1 in
    let a = c.in-Asks.asked in
    let j = subst (λ o. Joins W V c.args.first n c.read_register-last.result o) c.in-Asks.is c.in_ok-v.ensures.joins in
    let come = last_comes W c.args.first n c.read_register-last.result c.read_register-last.ensures V (Asks a) j in
    IfOk-weaker c.call_over.result _ _ (λ ending k p.
    last_steps W c.call_over.new.world c.args.budget.now c.call_over.new.budget (ending_of ending) p c.args.pc c.args.first c.args.count c.if-count-eq0.false
    (calls_steps come c.join.ensures.same (subst (λ vs. CallsSo V c.call_over.new.world c.args.budget.now c.call_over.new.budget a.handler vs (ForConcat a.below) Nothing (ending_of ending)) c.in_ok-operands-in-Asks.ensures k))) c.call_over.ensures.steps

pub raise-requires-clause-frame : goal.raise-requires-clause-frame
raise-requires-clause-frame c = frame_at (stands_same c.join.ensures.same c.requires.stands.at)

pub returns-in_ok-text-in-Fails-clause-steps : goal.returns-in_ok-text-in-Fails-clause-steps
returns-in_ok-text-in-Fails-clause-steps c =
    let W = c.args.world.now in
    let n = c.args.count - 1 in
    let j = subst (λ o. Joins W c.join.new.world c.args.first n c.read_register-last.result o) c.in-Fails.is c.in_ok-v.ensures.joins in
    let come = last_comes W c.args.first n c.read_register-last.result c.read_register-last.ensures c.join.new.world (Fails c.in-Fails.fault) j in
    if_ok c.raise.result c.raise.ensures.leads c.raise.ensures.raised (λ ending l q p.
    last_steps W c.raise.new.world c.args.budget.now c.args.budget.now (ending_of ending) p c.args.pc c.args.first c.args.count c.if-count-eq0.false
    (raised_steps c.args.budget.now q (fails_leads come (c.deref.ensures.value ∙ c.in_ok-text-in-Fails.ensures c.join.new.world.strings) l)))

pub returns-in_err-v-clause-order : goal.returns-in_err-v-clause-order
returns-in_err-v-clause-order c = c.join.ensures.sound.order

pub returns-in_err-v-clause-err : goal.returns-in_err-v-clause-err
returns-in_err-v-clause-err c = always _ c.from_residual.result (printed_kept c.args.world.now c.join.ensures.rest, refl)

pub returns-in_err-operands-in-Asks-clause-order : goal.returns-in_err-operands-in-Asks-clause-order
returns-in_err-operands-in-Asks-clause-order c = c.join.ensures.sound.order

pub returns-in_err-operands-in-Asks-clause-err : goal.returns-in_err-operands-in-Asks-clause-err
returns-in_err-operands-in-Asks-clause-err c = always _ c.from_residual-in_err-operands-in-Asks.result (printed_kept c.args.world.now c.join.ensures.rest, refl)

pub returns-in_ok-operands-in-Asks-clause-err : goal.returns-in_ok-operands-in-Asks-clause-err
returns-in_ok-operands-in-Asks-clause-err c = on_err c.call_over.result c.call_over.ensures.err (λ e. (e.0 ∙ printed_kept c.args.world.now c.join.ensures.rest, e.1))

pub returns-in_err-text-in-Fails-clause-order : goal.returns-in_err-text-in-Fails-clause-order
returns-in_err-text-in-Fails-clause-order c = c.join.ensures.sound.order

pub returns-in_err-text-in-Fails-clause-err : goal.returns-in_err-text-in-Fails-clause-err
returns-in_err-text-in-Fails-clause-err c = always _ c.from_residual-in_err-text-in-Fails.result (printed_kept c.args.world.now c.join.ensures.rest, refl)

pub returns-in_ok-text-in-Fails-clause-err : goal.returns-in_ok-text-in-Fails-clause-err
returns-in_ok-text-in-Fails-clause-err c = on_err c.raise.result c.raise.ensures.err (λ e. (ap (λ (W : Memory). W.printed) e ∙ printed_kept c.args.world.now c.join.ensures.rest, refl))
