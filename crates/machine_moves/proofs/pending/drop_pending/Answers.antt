use Rattle.std.proofs.Common.{refl}
use Rattle.machine_core.specs.Text.{drop_pending}
use Rattle.move_laws.proofs.Running.{has_stack}
use Rattle.machine_moves.proofs.OnRunning.{own_on, stays_on, top_on}
use Rattle.machine_moves.proofs.pending.drop_pending.Goals as goal

pub running_stack_mut-requires : goal.running_stack_mut-requires
running_stack_mut-requires c = has_stack c.args.world.now c.requires.place c.requires.is

pub drop_pending-requires : goal.drop_pending-requires
drop_pending-requires c = top_on c.running_stack_mut.ensures.runs c.requires.place c.requires.is

pub returns : goal.returns
returns c = record {
  makes = λ env. own_on c.running_stack_mut.ensures.runs c.requires.place (drop_pending c.args.register) env c.requires.is c.requires.fits c.drop_pending.ensures (λ co frame cells. refl) refl;
  stays = stays_on c.running_stack_mut.ensures.runs c.drop_pending.ensures (λ u. refl) (λ u. refl);
}
