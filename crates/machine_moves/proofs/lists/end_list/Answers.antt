use Rattle.std.proofs.Common.{refl, ap, sym}
use Rattle.std.specs.Prelude.{take}
use Rattle.machine_core.specs.Text.{end_list}
use Rattle.lua_stack.specs.Frames.{with_opened, with_registers}
use Rattle.move_laws.proofs.Running.{has_stack}
use Rattle.machine_moves.proofs.OnRunning.{own_on, registers_on, stays_on}
use Rattle.machine_moves.proofs.lists.end_list.Goals as goal

pub running_stack_mut-requires : goal.running_stack_mut-requires
running_stack_mut-requires c = has_stack c.args.world.now c.requires.place c.requires.is

pub end_list-requires-clause-there : goal.end_list-requires-clause-there
end_list-requires-clause-there c = registers_on c.running_stack_mut.ensures.runs c.requires.place c.args.stack_size c.requires.is c.requires.room

pub returns : goal.returns
returns c = record {
  makes = λ env. own_on c.running_stack_mut.ensures.runs c.requires.place end_list env c.requires.is refl c.end_list.ensures (λ co frame cells. refl) (ap (λ n. with_opened 0 (with_registers (take n c.requires.place.top.own.registers) c.requires.place.top)) (sym c.requires.size));
  stays = stays_on c.running_stack_mut.ensures.runs c.end_list.ensures (λ u. refl) (λ u. refl);
}
