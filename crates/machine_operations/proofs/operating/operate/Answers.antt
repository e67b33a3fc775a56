use Rattle.std.proofs.Common.{ap, refl, ◌∙◌}
use Rattle.std.proofs.lemmas.Result.{IfOk-weaker}
use Rattle.lua_stack.proofs.Called.{on_err as always}
use Rattle.table_core.specs.declared.value.Value.TheVariants.{Nil}
use Rattle.lua_heap.specs.declared.world.World.{World as Memory}
use Rattle.machine_moves.specs.Ending.{ending_of}
use Rattle.machine_moves.proofs.OnTop.{if_ok, on_err}
use Rattle.machine_rows.proofs.Going.{function_of}
use Rattle.machine_operations.proofs.Operated.{are_read, operands_in}
use Rattle.machine_operations.proofs.Outcomes.{ask_ready, ask_safe, ask_sound, asked_steps, can_end, can_fail, end_steps, fail_steps, settling, value_of}
use Rattle.machine_operations.proofs.Settled.{may_take}
use Rattle.machine_operations.proofs.operating.operate.Goals as goal

pub read_operands-values-requires : goal.read_operands-values-requires
read_operands-values-requires c =
    let at = c.requires.stands.at in
    record { function = function_of c.requires.stands.at.place c.requires.stands.sound c.requires.stands.at.is; there = are_read at.place c.args.pc c.args.operation c.args.operands c.args.also c.args.after (c.requires.safe at.place at.is) }

pub operation_on-asked-requires : goal.operation_on-asked-requires
operation_on-asked-requires c =
    let W = c.args.world.now in
    let at = c.requires.stands.at in
    let r = c.read_operands-values in
    may_take W c.args.operation c.args.operands c.args.also c.args.after c.args.pc r.result (record { place = at.place; is = at.is }) r.ensures at.place (c.requires.safe at.place at.is)

pub settle-requires-clause-frame : goal.settle-requires-clause-frame
settle-requires-clause-frame c = record { place = c.requires.stands.at.place; is = c.requires.stands.at.is }

pub settle-requires-clause-operands : goal.settle-requires-clause-operands
settle-requires-clause-operands c =
    let r = c.read_operands-values in
    let a = c.operation_on-asked in
    operands_in c.operands_are_there.ensures r.result c.requires.stands.sound r.ensures a.result a.ensures.operands

pub end_with-requires : goal.end_with-requires
end_with-requires c =
    let x = settling c.args.operation c.args.operands c.args.also c.args.after c.requires.stands c.requires.copy c.requires.safe c.read_operands-values.ensures c.operation_on-asked.ensures.kind c.operation_on-asked.ensures.operands c.first_of-first.ensures c.settle.ensures.rest c.in_ok-came.ensures.settles in
    can_end x c.in-Found.v (ap value_of c.in-Found.is)

pub returns-in-Found-clause-steps : goal.returns-in-Found-clause-steps
returns-in-Found-clause-steps c =
    let x = settling c.args.operation c.args.operands c.args.also c.args.after c.requires.stands c.requires.copy c.requires.safe c.read_operands-values.ensures c.operation_on-asked.ensures.kind c.operation_on-asked.ensures.operands c.first_of-first.ensures c.settle.ensures.rest c.in_ok-came.ensures.settles in
    end_steps x c.in-Found.v (ap value_of c.in-Found.is) c.args.budget.now c.end_with.new.world c.end_with.result c.end_with.ensures.ends c.end_with.ensures.went

pub end_with-requires-in-Done : goal.end_with-requires-in-Done
end_with-requires-in-Done c =
    let x = settling c.args.operation c.args.operands c.args.also c.args.after c.requires.stands c.requires.copy c.requires.safe c.read_operands-values.ensures c.operation_on-asked.ensures.kind c.operation_on-asked.ensures.operands c.first_of-first.ensures c.settle.ensures.rest c.in_ok-came.ensures.settles in
    can_end x Nil (ap value_of c.in-Done.is)

pub returns-in-Done-clause-steps : goal.returns-in-Done-clause-steps
returns-in-Done-clause-steps c =
    let x = settling c.args.operation c.args.operands c.args.also c.args.after c.requires.stands c.requires.copy c.requires.safe c.read_operands-values.ensures c.operation_on-asked.ensures.kind c.operation_on-asked.ensures.operands c.first_of-first.ensures c.settle.ensures.rest c.in_ok-came.ensures.settles in
    end_steps x Nil (ap value_of c.in-Done.is) c.args.budget.now c.end_with-in-Done.new.world c.end_with-in-Done.result c.end_with-in-Done.ensures.ends c.end_with-in-Done.ensures.went

pub call_over-requires : goal.call_over-requires
call_over-requires c =
    let x = settling c.args.operation c.args.operands c.args.also c.args.after c.requires.stands c.requires.copy c.requires.safe c.read_operands-values.ensures c.operation_on-asked.ensures.kind c.operation_on-asked.ensures.operands c.first_of-first.ensures c.settle.ensures.rest c.in_ok-came.ensures.settles in
    let a = c.in-Ask in
    record {
      sound = ask_sound x a.handler a.object a.is;
      ready = ask_ready x c.prepared.result c.prepared.ensures;
      safe = ask_safe x a.handler a.object a.is c.in_ok-arguments-in-Ask.arguments.items c.in_ok-arguments-in-Ask.ensures c.wait_for.result c.wait_for.ensures c.prepared.result c.prepared.ensures c.operands_are_there.ensures;
    }

pub returns-in_ok-arguments-in-Ask-clause-steps : goal.returns-in_ok-arguments-in-Ask-clause-steps
returns-in_ok-arguments-in-Ask-clause-steps c =
    let x = settling c.args.operation c.args.operands c.args.also c.args.after c.requires.stands c.requires.copy c.requires.safe c.read_operands-values.ensures c.operation_on-asked.ensures.kind c.operation_on-asked.ensures.operands c.first_of-first.ensures c.settle.ensures.rest c.in_ok-came.ensures.settles in
    let a = c.in-Ask in
    IfOk-weaker c.call_over.result _ _
    (λ ending k. λ place is.
    asked_steps x a.handler a.object a.is c.in_ok-arguments-in-Ask.arguments.items c.in_ok-arguments-in-Ask.ensures c.wait_for.result c.wait_for.ensures c.prepared.result c.prepared.ensures c.call_over.new.world c.args.budget.now c.call_over.new.budget (ending_of ending) k place)
    c.call_over.ensures.steps

pub fail-requires : goal.fail-requires
fail-requires c =
    let x = settling c.args.operation c.args.operands c.args.also c.args.after c.requires.stands c.requires.copy c.requires.safe c.read_operands-values.ensures c.operation_on-asked.ensures.kind c.operation_on-asked.ensures.operands c.first_of-first.ensures c.settle.ensures.rest c.in_ok-came.ensures.settles in
    can_fail x c.in-Fault.fault c.in-Fault.is c.operands_are_there.ensures

pub returns-in-Fault-clause-steps : goal.returns-in-Fault-clause-steps
returns-in-Fault-clause-steps c =
    let x = settling c.args.operation c.args.operands c.args.also c.args.after c.requires.stands c.requires.copy c.requires.safe c.read_operands-values.ensures c.operation_on-asked.ensures.kind c.operation_on-asked.ensures.operands c.first_of-first.ensures c.settle.ensures.rest c.in_ok-came.ensures.settles in
    if_ok c.fail.result c.fail.ensures.fails c.fail.ensures.raised
    (λ ending f q. λ place is. fail_steps x c.in-Fault.fault c.in-Fault.is c.args.budget.now c.fail.new.world ending f q place)

pub returns-in_err-arguments-in-Ask-clause-err : goal.returns-in_err-arguments-in-Ask-clause-err
returns-in_err-arguments-in-Ask-clause-err c =
    always _ c.from_residual-in_err-arguments-in-Ask.result (ap (λ (W : Memory). W.printed) c.settle.ensures.rest, refl)

pub returns-in_ok-arguments-in-Ask-clause-err : goal.returns-in_ok-arguments-in-Ask-clause-err
returns-in_ok-arguments-in-Ask-clause-err c =
    on_err c.call_over.result c.call_over.ensures.err (λ e. (e.0 ∙ ap (λ (W : Memory). W.printed) c.settle.ensures.rest, e.1))

pub returns-in-Fault-clause-err : goal.returns-in-Fault-clause-err
returns-in-Fault-clause-err c =
    on_err c.fail.result c.fail.ensures.err (λ e. (ap (λ (W : Memory). W.printed) e ∙ ap (λ (W : Memory). W.printed) c.settle.ensures.rest, refl))
