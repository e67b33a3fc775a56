use Rattle.std.proofs.Common.{refl}
use Rattle.move_laws.proofs.Running.{has_stack}
use Rattle.machine_moves.specs.Lending.{with_running}
use Rattle.machine_moves.proofs.OnRunning.{changes_on, stays_on, top_on}
use Rattle.machine_returns.proofs.Woken.{wait_set}
use Rattle.machine_returns.proofs.waking.set_wait.Goals as goal

pub running_stack_mut-requires : goal.running_stack_mut-requires
running_stack_mut-requires c = has_stack c.args.world.now c.requires.place c.requires.is

pub set_wait-requires : goal.set_wait-requires
set_wait-requires c = top_on c.running_stack_mut.ensures.runs c.requires.place c.requires.is

pub returns-clause-waits : goal.returns-clause-waits
returns-clause-waits c =
    let r = c.running_stack_mut.ensures.runs.runs in
    wait_set c.args.world.now (with_running c.args.world.now c.set_wait.new.self) c.running_stack_mut.ensures.runs.co c.running_stack_mut.result.now c.set_wait.new.self c.args.wait r (changes_on c.running_stack_mut.ensures.runs c.set_wait.new.self) c.set_wait.ensures

pub returns-clause-stays : goal.returns-clause-stays
returns-clause-stays c = stays_on c.running_stack_mut.ensures.runs c.set_wait.ensures (λ u. refl) (λ u. refl)
