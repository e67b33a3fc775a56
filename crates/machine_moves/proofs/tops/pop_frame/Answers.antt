use Rattle.std.proofs.Common.{ap, ◌∙◌}
use Rattle.machine_moves.proofs.OnTop.{has_running, same_stack, no_lua}
use Rattle.machine_moves.proofs.OnRunning.{listed_on, popped_on, runs_on}
use Rattle.machine_moves.proofs.tops.pop_frame.Goals as goal

pub running_stack_mut-requires : goal.running_stack_mut-requires
running_stack_mut-requires c = let q = c.requires.seen in has_running c.args.world.now q.co q.stack q.runs

pub pop-requires-clause-closed : goal.pop-requires-clause-closed
pop-requires-clause-closed c = λ f below t h.
    let q = c.requires.seen in
    let r = c.running_stack_mut.ensures.runs.runs in
    let e = same_stack c.args.world.now q.co c.running_stack_mut.ensures.runs.co q.stack c.running_stack_mut.result.now q.runs r in
    absurd (no_lua q.stack c.requires.top q.is c.requires.other f below t (ap (Rattle.lua_stack.specs.Frames.frames f) e ∙ h))

pub returns-clause-makes : goal.returns-clause-makes
returns-clause-makes c = λ env.
    popped_on c.running_stack_mut.ensures.runs c.pop.new.self env c.pop.ensures.frames

pub returns-clause-running : goal.returns-clause-running
returns-clause-running c = runs_on c.running_stack_mut.ensures.runs c.pop.new.self

pub returns-clause-listed : goal.returns-clause-listed
returns-clause-listed c = listed_on c.running_stack_mut.ensures.runs c.pop.new.self c.pop.ensures.cells
