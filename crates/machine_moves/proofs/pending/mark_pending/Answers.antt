use Rattle.std.proofs.Common.{refl}
use Rattle.machine_core.specs.Text.{mark_pending}
use Rattle.move_laws.proofs.Running.{has_stack}
use Rattle.machine_moves.proofs.OnTop.{on_ok, on_err}
use Rattle.machine_moves.proofs.Stacks.{less}
use Rattle.machine_moves.proofs.OnRunning.{kept_on, listed_on, own_on, registers_on, stands_on}
use Rattle.machine_moves.proofs.pending.mark_pending.Goals as goal

pub running_stack_mut-requires : goal.running_stack_mut-requires
running_stack_mut-requires c = has_stack c.args.world.now c.requires.place c.requires.is

pub mark_pending-requires : goal.mark_pending-requires
mark_pending-requires c = registers_on c.running_stack_mut.ensures.runs c.requires.place _ c.requires.is (less _ _ c.requires.fits)

pub returns-clause-makes : goal.returns-clause-makes
returns-clause-makes c =
    on_ok c.mark_pending.result c.mark_pending.ensures.ok (λ becomes env.
    own_on c.running_stack_mut.ensures.runs c.requires.place (mark_pending c.args.register) env c.requires.is c.requires.fits becomes (λ co frame cells. refl) refl)

pub returns-clause-at : goal.returns-clause-at
returns-clause-at c =
    on_ok c.mark_pending.result c.mark_pending.ensures.ok (λ becomes. stands_on c.running_stack_mut.ensures.runs becomes (λ u. refl) (λ u. refl))

pub returns-clause-err : goal.returns-clause-err
returns-clause-err c = on_err c.mark_pending.result c.mark_pending.ensures.err (λ e. kept_on c.running_stack_mut.ensures.runs c.mark_pending.new.self e)

pub returns-clause-listed : goal.returns-clause-listed
returns-clause-listed c = on_ok c.mark_pending.result c.mark_pending.ensures.ok (λ becomes. listed_on c.running_stack_mut.ensures.runs c.mark_pending.new.self becomes.cells)
