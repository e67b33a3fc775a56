use Rattle.std.proofs.Common.{◌≡◌, [], ap, sym, ◌∙◌, w32, to_z, of_z, arith, rules}
use Rattle.std.proofs.lemmas.Result.{IfOk-weaker}
use Rattle.instruction_forms.specs.declared.form.Form.TheVariants.{Jump}
use Rattle.step_laws.proofs.Unpaid.{arithmetic_unpaid, extra_unpaid, fill_unpaid, function_unpaid, mark_unpaid, start_unpaid}
use Rattle.machine_step.proofs.ByForm.{begins, copies, does, frame_runs, keeps, may_return, may_run, passes, returns_there, room, safe, safe_here, small, stands, unpaid}
use Rattle.machine_step.proofs.instructions.run_instruction.Goals as goal

pub go_on-requires : goal.go_on-requires
go_on-requires c =
    let m = may_run c.requires c.in-Next.is in
    record { at = stands m.runs; room = room m.runs; order = m.sound.order; safe = safe m.runs m.sound }

pub returns-in-Next-clause-does : goal.returns-in-Next-clause-does
returns-in-Next-clause-does c =
    let m = may_run c.requires c.in-Next.is in
    passes m.runs (λ s. s) c.go_on.ensures.leads

pub load-requires : goal.load-requires
load-requires c =
    let m = may_run c.requires c.in-Load.is in
    record { stands = begins m.runs m.sound; safe = λ p. safe m.runs m.sound }

pub returns-in-Load-clause-does : goal.returns-in-Load-clause-does
returns-in-Load-clause-does c =
    let m = may_run c.requires c.in-Load.is in
    passes m.runs (λ s. s) (c.load.ensures.leads m.runs.runs.place.function.code)

pub load_far-requires : goal.load_far-requires
load_far-requires c =
    let m = may_run c.requires c.in-LoadFar.is in
    record { stands = begins m.runs m.sound; safe = safe_here m.runs m.sound }

pub returns-in-LoadFar-clause-does : goal.returns-in-LoadFar-clause-does
returns-in-LoadFar-clause-does c =
    let m = may_run c.requires c.in-LoadFar.is in
    passes m.runs (λ s. s) (c.load_far.ensures.leads m.runs.runs.place m.runs.runs.is)

pub clear-requires : goal.clear-requires
clear-requires c =
    let m = may_run c.requires c.in-Clear.is in
    record { at = stands m.runs; room = room m.runs; order = m.sound.order; safe = λ p. safe m.runs m.sound }

pub returns-in-Clear-clause-does : goal.returns-in-Clear-clause-does
returns-in-Clear-clause-does c =
    let m = may_run c.requires c.in-Clear.is in
    passes m.runs (λ s. s) (c.clear.ensures.leads m.runs.runs.place.function.code)

pub store_upvalue-requires : goal.store_upvalue-requires
store_upvalue-requires c =
    let m = may_run c.requires c.in-StoreUpvalue.is in
    record { at = stands m.runs; room = room m.runs; order = m.sound.order; safe = λ p. safe m.runs m.sound }

pub returns-in-StoreUpvalue-clause-does : goal.returns-in-StoreUpvalue-clause-does
returns-in-StoreUpvalue-clause-does c =
    let m = may_run c.requires c.in-StoreUpvalue.is in
    passes m.runs (λ s. s) (c.store_upvalue.ensures.leads m.runs.runs.place.function.code)

pub operate-requires : goal.operate-requires
operate-requires c =
    let m = may_run c.requires c.in-Operate.is in
    record { stands = begins m.runs m.sound; copy = copies _ _ c.in-Operate.also _ m.runs m.sound; safe = safe_here m.runs m.sound }

pub returns-in-Operate-clause-does : goal.returns-in-Operate-clause-does
returns-in-Operate-clause-does c =
    let m = may_run c.requires c.in-Operate.is in
    IfOk-weaker c.operate.result _ _ (λ ending s. does m.runs (s m.runs.runs.place m.runs.runs.is)) c.operate.ensures.steps

pub arithmetic-requires : goal.arithmetic-requires
arithmetic-requires c =
    let m = may_run c.requires c.in-Arithmetic.is in
    record { stands = begins m.runs m.sound; safe = λ p. safe m.runs m.sound }

pub returns-in-Arithmetic-clause-does : goal.returns-in-Arithmetic-clause-does
returns-in-Arithmetic-clause-does c =
    let m = may_run c.requires c.in-Arithmetic.is in
    let p = m.runs.runs.place.function.code in
    let u = arithmetic_unpaid p c.args.pc c.in-Arithmetic.operator c.in-Arithmetic.left c.in-Arithmetic.right c.in-Arithmetic.to in
    IfOk-weaker c.arithmetic.result _ _ (λ ending l. unpaid m.runs u (l p)) c.arithmetic.ensures.leads

pub negate-requires : goal.negate-requires
negate-requires c =
    let m = may_run c.requires c.in-Negate.is in
    record { at = stands m.runs; room = room m.runs; order = m.sound.order; safe = λ p. safe m.runs m.sound }

pub returns-in-Negate-clause-does : goal.returns-in-Negate-clause-does
returns-in-Negate-clause-does c =
    let m = may_run c.requires c.in-Negate.is in
    passes m.runs (λ s. s) (c.negate.ensures.leads m.runs.runs.place.function.code)

pub concatenate-requires : goal.concatenate-requires
concatenate-requires c =
    let m = may_run c.requires c.in-Concatenate.is in
    let l = (small m.runs).0 in
    let n = (small m.runs).1 in
    record { stands = begins m.runs m.sound; size = omega (arith, l, n); safe = λ p. safe m.runs m.sound }

pub returns-in-Concatenate-clause-does : goal.returns-in-Concatenate-clause-does
returns-in-Concatenate-clause-does c =
    let m = may_run c.requires c.in-Concatenate.is in
    IfOk-weaker c.concatenate.result _ _ (λ ending s. does m.runs (s m.runs.runs.place.function.code)) c.concatenate.ensures.steps

pub close_from-requires : goal.close_from-requires
close_from-requires c = may_run c.requires c.in-Close.is

pub mark-requires : goal.mark-requires
mark-requires c =
    let m = may_run c.requires c.in-Mark.is in
    let n = m.runs.near in
    let l = (small m.runs).1 in
    record { stands = record { sound = m.sound; at = stands m.runs; room = omega (arith, n, l) }; safe = safe_here m.runs m.sound }

pub returns-in-Mark-clause-does : goal.returns-in-Mark-clause-does
returns-in-Mark-clause-does c =
    let m = may_run c.requires c.in-Mark.is in
    let p = m.runs.runs.place.function.code in
    let u = mark_unpaid p c.args.pc c.in-Mark.register c.in-Mark.ahead in
    IfOk-weaker c.mark.result _ _ (λ ending l. unpaid m.runs u (l m.runs.runs.place m.runs.runs.is)) c.mark.ensures.leads

pub jump-requires-clause-at : goal.jump-requires-clause-at
jump-requires-clause-at c = stands c.requires.runs

pub jump-requires-clause-room : goal.jump-requires-clause-room
jump-requires-clause-room c = c.requires.runs.near

pub jump-requires-clause-order : goal.jump-requires-clause-order
jump-requires-clause-order c = c.requires.sound.order

pub jump-requires-clause-safe : goal.jump-requires-clause-safe
jump-requires-clause-safe c = λ p.
    let same : to_z w32 (of_z w32 c.in-Jump.by) ≡ c.in-Jump.by = search rules in
    let m = may_run c.requires (c.in-Jump.is ∙ ap Jump (sym same)) in
    safe m.runs m.sound

pub returns-in-Jump-clause-does : goal.returns-in-Jump-clause-does
returns-in-Jump-clause-does c =
    let same : to_z w32 (of_z w32 c.in-Jump.by) ≡ c.in-Jump.by = search rules in
    let m = may_run c.requires (c.in-Jump.is ∙ ap Jump (sym same)) in
    does m.runs (c.jump.ensures.steps m.runs.runs.place.function.code)

pub test-requires : goal.test-requires
test-requires c =
    let m = may_run c.requires c.in-Test.is in
    record { at = stands m.runs; room = room m.runs; order = m.sound.order; safe = λ p. safe m.runs m.sound }

pub returns-in-Test-clause-does : goal.returns-in-Test-clause-does
returns-in-Test-clause-does c =
    let m = may_run c.requires c.in-Test.is in
    passes m.runs (λ s. s) (c.test.ensures.leads m.runs.runs.place.function.code)

pub test_set-requires : goal.test_set-requires
test_set-requires c =
    let m = may_run c.requires c.in-TestSet.is in
    record { at = stands m.runs; room = room m.runs; order = m.sound.order; safe = λ p. safe m.runs m.sound }

pub returns-in-TestSet-clause-does : goal.returns-in-TestSet-clause-does
returns-in-TestSet-clause-does c =
    let m = may_run c.requires c.in-TestSet.is in
    passes m.runs (λ s. s) (c.test_set.ensures.leads m.runs.runs.place.function.code)

pub start_loop-requires : goal.start_loop-requires
start_loop-requires c =
    let m = may_run c.requires c.in-StartLoop.is in
    record {
      sound = m.sound;
      at = stands m.runs;
      room = m.runs.near;
      near = let l = (small m.runs).0 in omega (arith, l);
      ahead = let l = (small m.runs).1 in omega (arith, l);
      safe = λ p. safe m.runs m.sound;
    }

pub returns-in-StartLoop-clause-does : goal.returns-in-StartLoop-clause-does
returns-in-StartLoop-clause-does c =
    let m = may_run c.requires c.in-StartLoop.is in
    let p = m.runs.runs.place.function.code in
    let u = start_unpaid p c.args.pc c.in-StartLoop.base c.in-StartLoop.by in
    IfOk-weaker c.start_loop.result _ _ (λ ending l. unpaid m.runs u (l p)) c.start_loop.ensures.leads

pub go_round-requires : goal.go_round-requires
go_round-requires c =
    let m = may_run c.requires c.in-Loop.is in
    let l = (small m.runs).0 in
    record { sound = m.sound; at = stands m.runs; room = m.runs.near; near = omega (arith, l); safe = λ p. safe m.runs m.sound }

pub returns-in-Loop-clause-does : goal.returns-in-Loop-clause-does
returns-in-Loop-clause-does c =
    let m = may_run c.requires c.in-Loop.is in
    IfOk-weaker c.go_round.result _ _ (λ ending s. does m.runs (s m.runs.runs.place.function.code)) c.go_round.ensures.steps

pub loop_over-requires : goal.loop_over-requires
loop_over-requires c =
    let m = may_run c.requires c.in-LoopOver.is in
    let l = (small m.runs).0 in
    record { at = stands m.runs; room = m.runs.near; near = omega (arith, l); order = m.sound.order; safe = λ p. safe m.runs m.sound }

pub returns-in-LoopOver-clause-does : goal.returns-in-LoopOver-clause-does
returns-in-LoopOver-clause-does c =
    let m = may_run c.requires c.in-LoopOver.is in
    does m.runs (c.loop_over.ensures.steps m.runs.runs.place.function.code)

pub call-requires : goal.call-requires
call-requires c =
    let m = may_run c.requires c.in-Call.is in
    let l = (small m.runs).0 in
    record { sound = m.sound; keeps = keeps m.runs; near = omega (arith, l); safe = λ p pc. safe m.runs m.sound }

pub returns-in-Call-clause-does : goal.returns-in-Call-clause-does
returns-in-Call-clause-does c =
    let m = may_run c.requires c.in-Call.is in
    IfOk-weaker c.call.result _ _ (λ ending s. does m.runs (s m.runs.runs.place.function.code c.args.pc)) c.call.ensures.steps

pub tail_call-requires : goal.tail_call-requires
tail_call-requires c =
    let m = may_run c.requires c.in-TailCall.is in
    let l = (small m.runs).0 in
    record { sound = m.sound; near = omega (arith, l); safe = λ p pc. safe m.runs m.sound }

pub returns-in-TailCall-clause-does : goal.returns-in-TailCall-clause-does
returns-in-TailCall-clause-does c =
    let m = may_run c.requires c.in-TailCall.is in
    IfOk-weaker c.tail_call.result _ _ (λ ending s. does m.runs (s m.runs.runs.place.function.code c.args.pc)) c.tail_call.ensures.steps

pub return_values-requires-clause-safe : goal.return_values-requires-clause-safe
return_values-requires-clause-safe c = λ p pc.
    let m = may_run c.requires c.in-Return.is in
    safe m.runs m.sound

pub returns-in-Return-clause-does : goal.returns-in-Return-clause-does
returns-in-Return-clause-does c =
    let m = may_run c.requires c.in-Return.is in
    IfOk-weaker c.return_values.result _ _ (λ ending s. does m.runs (s m.runs.runs.place.function.code c.args.pc)) c.return_values.ensures.steps

pub return_some-requires : goal.return_some-requires
return_some-requires c =
    let m = may_run c.requires c.in-ReturnSome.is in
    record { sound = m.sound; there = returns_there m.runs m.sound; safe = may_return m.runs m.sound }

pub returns-in-ReturnSome-clause-does : goal.returns-in-ReturnSome-clause-does
returns-in-ReturnSome-clause-does c =
    let m = may_run c.requires c.in-ReturnSome.is in
    IfOk-weaker c.return_some.result _ _ (λ ending s. does m.runs (s [])) c.return_some.ensures.steps

pub new_table-requires : goal.new_table-requires
new_table-requires c =
    let m = may_run c.requires c.in-NewTable.is in
    record { at = stands m.runs; room = room m.runs; order = m.sound.order; safe = safe_here m.runs m.sound }

pub returns-in_ok-new_table-in-NewTable-clause-does : goal.returns-in_ok-new_table-in-NewTable-clause-does
returns-in_ok-new_table-in-NewTable-clause-does c =
    let m = may_run c.requires c.in-NewTable.is in
    passes m.runs (λ s. s) (c.in_ok-new_table-in-NewTable.ensures.leads m.runs.runs.place m.runs.runs.is)

pub fill_table-requires : goal.fill_table-requires
fill_table-requires c =
    let m = may_run c.requires c.in-FillTable.is in
    record {
      sound = m.sound;
      at = stands m.runs;
      runs = frame_runs m.runs;
      room = room m.runs;
      near = let l = (small m.runs).0 in omega (arith, l);
      small = let l = (small m.runs).2 in omega (arith, l);
      safe = safe_here m.runs m.sound;
    }

pub returns-in-FillTable-clause-does : goal.returns-in-FillTable-clause-does
returns-in-FillTable-clause-does c =
    let m = may_run c.requires c.in-FillTable.is in
    let p = m.runs.runs.place.function.code in
    let u = fill_unpaid p c.args.pc c.in-FillTable.table c.in-FillTable.count c.in-FillTable.last c.in-FillTable.far in
    IfOk-weaker c.fill_table.result _ _ (λ ending l. unpaid m.runs u (l m.runs.runs.place m.runs.runs.is)) c.fill_table.ensures.leads

pub new_function-requires : goal.new_function-requires
new_function-requires c =
    let m = may_run c.requires c.in-NewFunction.is in
    let l = small m.runs in
    record { stands = begins m.runs m.sound; small = omega (arith, l); safe = safe_here m.runs m.sound }

pub returns-in-NewFunction-clause-does : goal.returns-in-NewFunction-clause-does
returns-in-NewFunction-clause-does c =
    let m = may_run c.requires c.in-NewFunction.is in
    let p = m.runs.runs.place.function.code in
    let u = function_unpaid p c.args.pc c.in-NewFunction.inner c.in-NewFunction.to in
    IfOk-weaker c.new_function.result _ _ (λ ending l. unpaid m.runs u (l m.runs.runs.place m.runs.runs.is)) c.new_function.ensures.leads

pub extra_arguments-requires : goal.extra_arguments-requires
extra_arguments-requires c =
    let m = may_run c.requires c.in-ExtraArguments.is in
    record { at = stands m.runs; room = room m.runs; order = m.sound.order; safe = λ p. safe m.runs m.sound }

pub returns-in-ExtraArguments-clause-does : goal.returns-in-ExtraArguments-clause-does
returns-in-ExtraArguments-clause-does c =
    let m = may_run c.requires c.in-ExtraArguments.is in
    let p = m.runs.runs.place.function.code in
    let u = extra_unpaid p c.args.pc c.in-ExtraArguments.to c.in-ExtraArguments.count in
    IfOk-weaker c.extra_arguments.result _ _ (λ ending l. unpaid m.runs u (l p)) c.extra_arguments.ensures.leads
