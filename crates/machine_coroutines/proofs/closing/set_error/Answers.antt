use Rattle.machine_moves.specs.Lending.{with_running}
use Rattle.machine_moves.proofs.OnTop.{has_running}
use Rattle.machine_moves.proofs.OnRunning.{changes_on, listed_on}
use Rattle.machine_coroutines.proofs.Closed.{closing_found, sets_is, top_after}
use Rattle.machine_coroutines.proofs.closing.set_error.Goals as goal

pub running_stack_mut-requires : goal.running_stack_mut-requires
running_stack_mut-requires c = let q = c.requires in has_running c.args.world.now q.co q.stack q.runs

pub set_error-requires : goal.set_error-requires
set_error-requires c = closing_found c.requires c.running_stack_mut.ensures.runs.runs

pub returns-clause-makes : goal.returns-clause-makes
returns-clause-makes c = λ env x e.
    let W = c.args.world.now in
    let r = c.running_stack_mut.ensures.runs.runs in
    let t = closing_found c.requires r in
    let new = with_running W c.set_error.new.self in
    sets_is W new c.running_stack_mut.ensures.runs.co c.running_stack_mut.result.now c.set_error.new.self t.below r (changes_on c.running_stack_mut.ensures.runs c.set_error.new.self) t.error t.left c.args.error env x t.is (c.set_error.ensures.frames t.below t.error t.left t.is) e

pub returns-clause-top : goal.returns-clause-top
returns-clause-top c =
    let W = c.args.world.now in
    let r = c.running_stack_mut.ensures.runs.runs in
    let t = closing_found c.requires r in
    top_after W (with_running W c.set_error.new.self) c.running_stack_mut.ensures.runs.co c.running_stack_mut.result.now c.set_error.new.self t.below _ _ r (changes_on c.running_stack_mut.ensures.runs c.set_error.new.self) (c.set_error.ensures.frames t.below t.error t.left t.is)

pub returns-clause-listed : goal.returns-clause-listed
returns-clause-listed c = listed_on c.running_stack_mut.ensures.runs c.set_error.new.self c.set_error.ensures.cells
