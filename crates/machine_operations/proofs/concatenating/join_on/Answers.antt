use Rattle.std.proofs.Common.{sym, subst, ◌∙◌}
use Rattle.std.proofs.lemmas.Result.{IfOk-weaker}
use Rattle.lua_stack.specs.declared.frame.Wait.TheVariants.{ForConcat}
use Rattle.meta_ops.specs.Heap.{IsIn}
use Rattle.machine_errors.proofs.Leaving.{can_leave}
use Rattle.machine_calls.specs.declared.preparing.Prepared.TheVariants.{Nothing}
use Rattle.machine_calls.specs.Waiting.{AsksSo}
use Rattle.machine_moves.specs.Ending.{ending_of}
use Rattle.lua_stack.proofs.Called.{on_err as always}
use Rattle.machine_moves.proofs.OnTop.{on_err}
use Rattle.move_laws.specs.Memory.{ReadsSame}
use Rattle.machine_operations.specs.Joining.{Joins}
use Rattle.machine_operations.specs.declared.joining.Joined.TheVariants.{Whole, Asks, Fails}
use Rattle.machine_operations.proofs.Came.{asks_leads, came_comes, came_may, can_prepare, fails_leads, first_there, frame_at, stands_same, whole_leads, whole_may}
use Rattle.machine_operations.proofs.concatenating.join_on.Goals as goal

pub join-requires : goal.join-requires
join-requires c =
    let W = c.args.world.now in
    record {
      sound = c.requires.stands.sound;
      frame = frame_at c.requires.stands.at;
      last = subst (λ v. IsIn W.strings W.tables.objects v) (sym c.first_or_nil-last.ensures) (first_there c.operands_are_there.ensures W c.args.came.now c.requires.came);
      room = c.requires.size;
      safe = came_may W c.args.first c.args.left c.args.came.now c.first_or_nil-last.result c.first_or_nil-last.ensures c.requires.safe;
    }

pub keep-requires : goal.keep-requires
keep-requires c =
    let W = c.args.world.now in
    let j = subst (λ o. Joins W c.join.new.world c.args.first c.args.left c.first_or_nil-last.result o) c.in-Whole.is c.in_ok-v.ensures.joins in
    record {
      order = c.join.ensures.sound.order;
      at = stands_same c.join.ensures.same c.requires.stands.at;
      room = c.requires.stands.room;
      safe = whole_may (came_comes W c.args.first c.args.left c.args.came.now c.first_or_nil-last.result c.first_or_nil-last.ensures c.join.new.world (Whole c.in-Whole.v) j) c.requires.safe;
    }

pub returns-in-Whole-clause-leads : goal.returns-in-Whole-clause-leads
returns-in-Whole-clause-leads c =
    let W = c.args.world.now in
    let j = subst (λ o. Joins W c.join.new.world c.args.first c.args.left c.first_or_nil-last.result o) c.in-Whole.is c.in_ok-v.ensures.joins in
    whole_leads (came_comes W c.args.first c.args.left c.args.came.now c.first_or_nil-last.result c.first_or_nil-last.ensures c.join.new.world (Whole c.in-Whole.v) j) c.keep.ensures.leads

pub ask_over-requires : goal.ask_over-requires
ask_over-requires c = record { order = c.join.ensures.sound.order; ready = can_prepare (can_leave c.join.new.world c.join.ensures.sound (frame_at (stands_same c.join.ensures.same c.requires.stands.at))) }

pub returns-in_ok-operands-in-Asks-clause-leads : goal.returns-in_ok-operands-in-Asks-clause-leads
returns-in_ok-operands-in-Asks-clause-leads c =
    let W = c.args.world.now in
    let V = c.join.new.world in
    let a = c.in-Asks.asked in
    let j = subst (λ o. Joins W V c.args.first c.args.left c.first_or_nil-last.result o) c.in-Asks.is c.in_ok-v.ensures.joins in
    let come = came_comes W c.args.first c.args.left c.args.came.now c.first_or_nil-last.result c.first_or_nil-last.ensures V (Asks a) j in
    IfOk-weaker c.ask_over.result _ _ (λ ending k.
    asks_leads come (subst (λ vs. AsksSo V c.ask_over.new.world a.handler vs (ForConcat a.below) Nothing (ending_of ending)) c.in_ok-operands-in-Asks.ensures k)) c.ask_over.ensures.leads

pub raise-requires-clause-frame : goal.raise-requires-clause-frame
raise-requires-clause-frame c = frame_at (stands_same c.join.ensures.same c.requires.stands.at)

pub returns-in_ok-text-in-Fails-clause-leads : goal.returns-in_ok-text-in-Fails-clause-leads
returns-in_ok-text-in-Fails-clause-leads c =
    let W = c.args.world.now in
    let V = c.join.new.world in
    let j = subst (λ o. Joins W V c.args.first c.args.left c.first_or_nil-last.result o) c.in-Fails.is c.in_ok-v.ensures.joins in
    let come = came_comes W c.args.first c.args.left c.args.came.now c.first_or_nil-last.result c.first_or_nil-last.ensures V (Fails c.in-Fails.fault) j in
    IfOk-weaker c.raise.result _ _ (λ ending l. fails_leads come (c.deref.ensures.value ∙ c.in_ok-text-in-Fails.ensures V.strings) l) c.raise.ensures.leads

-- after a refusal

pub returns-in_err-v-clause-order : goal.returns-in_err-v-clause-order
returns-in_err-v-clause-order c = c.join.ensures.sound.order

pub returns-in_err-operands-in-Asks-clause-order : goal.returns-in_err-operands-in-Asks-clause-order
returns-in_err-operands-in-Asks-clause-order c = c.join.ensures.sound.order

pub returns-in_err-text-in-Fails-clause-order : goal.returns-in_err-text-in-Fails-clause-order
returns-in_err-text-in-Fails-clause-order c = c.join.ensures.sound.order

pub returns-in_err-v-clause-err : goal.returns-in_err-v-clause-err
returns-in_err-v-clause-err c = always _ c.from_residual.result c.join.ensures.same

pub returns-in_err-operands-in-Asks-clause-err : goal.returns-in_err-operands-in-Asks-clause-err
returns-in_err-operands-in-Asks-clause-err c = always _ c.from_residual-in_err-operands-in-Asks.result c.join.ensures.same

pub returns-in_err-text-in-Fails-clause-err : goal.returns-in_err-text-in-Fails-clause-err
returns-in_err-text-in-Fails-clause-err c = always _ c.from_residual-in_err-text-in-Fails.result c.join.ensures.same

pub returns-in_ok-operands-in-Asks-clause-err : goal.returns-in_ok-operands-in-Asks-clause-err
returns-in_ok-operands-in-Asks-clause-err c = on_err c.ask_over.result c.ask_over.ensures.err (λ e. subst (λ V. ReadsSame c.args.world.now V) (sym e) c.join.ensures.same)

pub returns-in_ok-text-in-Fails-clause-err : goal.returns-in_ok-text-in-Fails-clause-err
returns-in_ok-text-in-Fails-clause-err c = on_err c.raise.result c.raise.ensures.err (λ e. subst (λ V. ReadsSame c.args.world.now V) (sym e) c.join.ensures.same)
