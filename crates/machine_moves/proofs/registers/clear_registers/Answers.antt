use Rattle.std.proofs.Common.{refl}
use Rattle.machine_core.specs.Text.{write_nils}
use Rattle.move_laws.proofs.Running.{has_stack}
use Rattle.machine_moves.proofs.Stacks.{at_most}
use Rattle.machine_moves.proofs.OnRunning.{own_on, registers_on, stays_on}
use Rattle.machine_moves.proofs.registers.clear_registers.Goals as goal

pub running_stack_mut-requires : goal.running_stack_mut-requires
running_stack_mut-requires c = has_stack c.args.world.now c.requires.place c.requires.is

pub write_nils-requires : goal.write_nils-requires
write_nils-requires c = registers_on c.running_stack_mut.ensures.runs c.requires.place _ c.requires.is (at_most _ _ c.requires.fits)

pub returns : goal.returns
returns c = record {
  makes = λ env. own_on c.running_stack_mut.ensures.runs c.requires.place (write_nils c.args.from c.args.count) env c.requires.is c.requires.fits c.write_nils.ensures (λ co frame cells. refl) refl;
  stays = stays_on c.running_stack_mut.ensures.runs c.write_nils.ensures (λ u. refl) (λ u. refl);
}
