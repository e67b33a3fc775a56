use Rattle.std.proofs.Common.{◌≡◌, ℕ, ◌≤◌, ap, length, refl, sym, subst, true, ◌∙◌, Result, Ok, Err, OnErr}
use Rattle.std.specs.Prelude.{not}
use Rattle.lua_heap.specs.Plain.{plain}
use Rattle.lua_stack.specs.Frames.{KeptStack, NoneFrom}
use Rattle.machine_core.specs.Moves.{has_room}
use Rattle.move_laws.proofs.Running.{has_stack}
use Rattle.move_laws.proofs.Order.{order_after}
use Rattle.machine_moves.proofs.OnTop.{size_on_top}
use Rattle.machine_moves.proofs.OnRunning.{changes_on, kept_on, listed_on, registers_on}
use Rattle.machine_calls.proofs.Given.{calls_given, enters_given}
use Rattle.machine_calls.proofs.registers.call_registers.Goals as goal

unpaid : {A E P : Type 0} (r : Result A E) (budget : ℕ) → P → OnErr r (P × (budget ≡ budget))
unpaid (Ok x) budget p = tt
unpaid (Err e) budget p = (p, refl)

pub is_full-requires : goal.is_full-requires
is_full-requires c = has_stack c.args.world.now c.requires.ready.place c.requires.ready.is

pub running_stack_mut-requires : goal.running_stack_mut-requires
running_stack_mut-requires c = has_stack c.args.world.now c.requires.ready.place c.requires.ready.is

pub call-requires-clause-arguments : goal.call-requires-clause-arguments
call-requires-clause-arguments c = registers_on c.running_stack_mut.ensures.runs c.requires.room.place _ c.requires.room.is c.requires.room.there

pub call-requires-clause-size : goal.call-requires-clause-size
call-requires-clause-size c =
    let h = c.requires.ready in
    registers_on c.running_stack_mut.ensures.runs h.place _ h.is (subst (λ n. n ≤ length h.place.top.own.registers) (sym (size_on_top c.code_on_top.ensures h.is)) h.room)

pub call-requires-clause-closed : goal.call-requires-clause-closed
call-requires-clause-closed c =
    let h = c.requires.ready in
    subst (NoneFrom c.running_stack_mut.result.now) (sym (size_on_top c.code_on_top.ensures h.is)) (h.there.1 c.running_stack_mut.ensures.runs.co c.running_stack_mut.result.now c.running_stack_mut.ensures.runs.runs)

pub returns-clause-calls : goal.returns-clause-calls
returns-clause-calls c = λ e.
    let W = c.args.world.now in
    let r = c.running_stack_mut.ensures.runs in
    let h = c.requires.ready in
    let free : has_room (plain W 0) 1 ≡ true = c.is_full.ensures.is ∙ ap not c.if-is_full.false in
    calls_given W _ h.place c.args.budget.now c.args.function c.args.register c.args.given c.args.wait h.is c.if-budget-eq0.false
    (enters_given W _ r.co c.running_stack_mut.result.now c.call.new.self c.args.register c.args.given c.args.wait _ c.args.function c.shape_of-shape.result h.place r.runs h.is
    c.shape_of-shape.ensures c.in_ok-call.ensures.frames (size_on_top c.code_on_top.ensures h.is) (changes_on r c.call.new.self) free)

pub returns-clause-order : goal.returns-clause-order
returns-clause-order c =
    let o = c.requires.order in
    order_after o refl refl (listed_on c.running_stack_mut.ensures.runs c.call.new.self c.in_ok-call.ensures.frames.cells o.listed)

pub returns-in_err-call-clause-order : goal.returns-in_err-call-clause-order
returns-in_err-call-clause-order c =
    let o = c.requires.order in
    order_after o refl refl (listed_on c.running_stack_mut.ensures.runs c.call.new.self (ap (λ (s : KeptStack). s.open_cells) c.in_err-call.ensures.err) o.listed)

pub returns-in_err-call-clause-err : goal.returns-in_err-call-clause-err
returns-in_err-call-clause-err c = unpaid c.from_residual.result c.args.budget.now (kept_on c.running_stack_mut.ensures.runs c.call.new.self c.in_err-call.ensures.err)
