use Rattle.std.proofs.Common.{sym, subst}
use Rattle.lua_heap.specs.Reading.{value as meant}
use Rattle.machine_core.specs.Moves.{take_closing}
use Rattle.move_laws.specs.Memory.{Makes}
use Rattle.machine_moves.specs.Lending.{with_running}
use Rattle.machine_moves.proofs.OnTop.{has_running}
use Rattle.machine_moves.proofs.OnRunning.{changes_on, listed_on}
use Rattle.machine_coroutines.specs.Closings.{shape_of, values_of}
use Rattle.machine_coroutines.proofs.Closed.{closing_found, takes_is, top_after}
use Rattle.machine_coroutines.proofs.closing.take_closing.Goals as goal

pub running_stack_mut-requires : goal.running_stack_mut-requires
running_stack_mut-requires c = let q = c.requires in has_running c.args.world.now q.co q.stack q.runs

pub take_left-requires : goal.take_left-requires
take_left-requires c = closing_found c.requires c.running_stack_mut.ensures.runs.runs

pub returns-clause-makes : goal.returns-clause-makes
returns-clause-makes c = λ env.
    let W = c.args.world.now in
    let r = c.running_stack_mut.ensures.runs.runs in
    let t = closing_found c.requires r in
    let new = with_running W c.take_left.new.stack in
    subst (λ d. Makes W new take_closing env (values_of (meant W.strings) d) (shape_of d)) (sym (c.take_left.ensures.taken t.below t.error t.left t.is))
    (takes_is W new c.running_stack_mut.ensures.runs.co c.running_stack_mut.result.now c.take_left.new.stack t.below r (changes_on c.running_stack_mut.ensures.runs c.take_left.new.stack) t.error t.left env t.is (c.take_left.ensures.frames t.below t.error t.left t.is))

pub returns-clause-top : goal.returns-clause-top
returns-clause-top c =
    let W = c.args.world.now in
    let r = c.running_stack_mut.ensures.runs.runs in
    let t = closing_found c.requires r in
    top_after W (with_running W c.take_left.new.stack) c.running_stack_mut.ensures.runs.co c.running_stack_mut.result.now c.take_left.new.stack t.below t.error _ r (changes_on c.running_stack_mut.ensures.runs c.take_left.new.stack) (c.take_left.ensures.frames t.below t.error t.left t.is)

pub returns-clause-listed : goal.returns-clause-listed
returns-clause-listed c = listed_on c.running_stack_mut.ensures.runs c.take_left.new.stack c.take_left.ensures.cells
