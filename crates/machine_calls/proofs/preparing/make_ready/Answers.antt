use Rattle.std.proofs.Common.{◌≤◌, length, ap, sym, subst}
use Rattle.lua_heap.specs.declared.world.World.{World as Memory}
use Rattle.move_laws.proofs.Running.{has_stack}
use Rattle.move_laws.proofs.Order.{order_after}
use Rattle.machine_moves.proofs.OnRunning.{changes_on, listed_on}
use Rattle.machine_moves.proofs.OnTop.{size_on_top}
use Rattle.machine_calls.proofs.Readied.{can_change, shut_place, ready_so, whole_so}
use Rattle.machine_calls.proofs.preparing.make_ready.Goals as goal

pub code_on_top-requires-clause-frame : goal.code_on_top-requires-clause-frame
code_on_top-requires-clause-frame c = let h = c.requires.ready in record { place = h.place; is = h.is; checked = h.checked }

pub close_for-requires-clause-frame : goal.close_for-requires-clause-frame
close_for-requires-clause-frame c = let h = c.requires.ready in record { place = h.place; is = h.is }

pub running_stack_mut-requires : goal.running_stack_mut-requires
running_stack_mut-requires c = let h = c.requires.ready in has_stack c.close_for.new.world h.place (shut_place h.place h.is c.close_for.ensures.closes)

pub change_top-requires : goal.change_top-requires
change_top-requires c =
    let h = c.requires.ready in
    let size = size_on_top c.code_on_top.ensures h.is in
    can_change c.args.world.now c.close_for.new.world c.running_stack_mut.ensures.runs.co c.running_stack_mut.result.now h.place c.args.prepared _ c.running_stack_mut.ensures.runs.runs (shut_place h.place h.is c.close_for.ensures.closes) size (subst (λ n. n ≤ length h.place.top.own.registers) (sym size) h.room) h.there c.close_for.ensures.none

pub returns-clause-ready : goal.returns-clause-ready
returns-clause-ready c =
    let h = c.requires.ready in
    ready_so c.args.world.now c.close_for.new.world _ c.running_stack_mut.ensures.runs.co c.running_stack_mut.result.now c.change_top.new.stack c.args.wait c.args.prepared _ h.place c.running_stack_mut.ensures.runs.runs h.is c.close_for.ensures.closes
    (changes_on c.running_stack_mut.ensures.runs c.change_top.new.stack) c.change_top.ensures (size_on_top c.code_on_top.ensures h.is) (ap (λ (W : Memory). W.strings) c.close_for.ensures.rest)

pub returns-clause-whole : goal.returns-clause-whole
returns-clause-whole c =
    let h = c.requires.ready in
    whole_so c.args.world.now c.close_for.new.world _ c.running_stack_mut.ensures.runs.co c.running_stack_mut.result.now c.change_top.new.stack c.args.wait c.args.prepared _ h.place c.running_stack_mut.ensures.runs.runs h.is c.close_for.ensures.closes
    (changes_on c.running_stack_mut.ensures.runs c.change_top.new.stack) c.change_top.ensures (size_on_top c.code_on_top.ensures h.is) (ap (λ (W : Memory). W.strings) c.close_for.ensures.rest) h

pub returns-clause-order : goal.returns-clause-order
returns-clause-order c =
    order_after c.requires.order (ap (λ (W : Memory). W.strings) c.close_for.ensures.rest) (ap (λ (W : Memory). W.codes) c.close_for.ensures.rest)
    (listed_on c.running_stack_mut.ensures.runs c.change_top.new.stack c.change_top.ensures.cells c.close_for.ensures.listed)
