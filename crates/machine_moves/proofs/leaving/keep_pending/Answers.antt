use Rattle.std.proofs.Common.{refl, ap, sym}
use Rattle.machine_core.specs.Text.{keep_pending, is_pending, blanked}
use Rattle.lua_stack.specs.Frames.{with_opened, with_registers}
use Rattle.move_laws.proofs.Running.{has_stack}
use Rattle.machine_moves.proofs.OnRunning.{own_on, registers_on, stays_on}
use Rattle.machine_moves.proofs.leaving.keep_pending.Goals as goal

pub running_stack_mut-requires : goal.running_stack_mut-requires
running_stack_mut-requires c = has_stack c.args.world.now c.requires.place c.requires.is

pub keep_pending-requires-clause-there : goal.keep_pending-requires-clause-there
keep_pending-requires-clause-there c = registers_on c.running_stack_mut.ensures.runs c.requires.place c.args.stack_size c.requires.is c.requires.room

pub returns : goal.returns
returns c =
    let top = c.requires.place.top in
    record {
      makes = λ env. own_on c.running_stack_mut.ensures.runs c.requires.place keep_pending env c.requires.is refl c.keep_pending.ensures (λ co frame cells. refl)
          (ap (λ n. with_opened 0 (with_registers (blanked (is_pending top.own.pending) 0 n top.own.registers) top)) (sym c.requires.size));
      stays = stays_on c.running_stack_mut.ensures.runs c.keep_pending.ensures (λ u. refl) (λ u. refl);
    }
