use Rattle.std.proofs.Common.{refl, ap, sym}
use Rattle.std.specs.Prelude.{nat_lt, nat_le, ◌||◌, ◌&&◌, ◌+◌, max}
use Rattle.machine_core.specs.Text.{keep_results, is_pending, blanked, behind}
use Rattle.lua_stack.specs.Frames.{with_opened, with_registers}
use Rattle.move_laws.proofs.Running.{has_stack}
use Rattle.machine_moves.proofs.OnRunning.{own_on, registers_on, stays_on}
use Rattle.machine_moves.proofs.leaving.keep_results.Goals as goal

pub running_stack_mut-requires : goal.running_stack_mut-requires
running_stack_mut-requires c = has_stack c.args.world.now c.requires.place c.requires.is

pub keep_results-requires-clause-there : goal.keep_results-requires-clause-there
keep_results-requires-clause-there c = registers_on c.running_stack_mut.ensures.runs c.requires.place (max c.args.stack_size (behind c.args.from c.args.count)) c.requires.is c.requires.room

pub returns : goal.returns
returns c =
    let top = c.requires.place.top in
    record {
      makes = λ env. own_on c.running_stack_mut.ensures.runs c.requires.place (keep_results c.args.from c.args.count) env c.requires.is refl c.keep_results.ensures (λ co frame cells. refl)
          (ap (λ n. with_opened 0 (with_registers (blanked (λ i. is_pending top.own.pending i || (nat_le c.args.from i && nat_lt i (c.args.from + c.args.count))) 0 (max n (behind c.args.from c.args.count)) top.own.registers) top)) (sym c.requires.size));
      stays = stays_on c.running_stack_mut.ensures.runs c.keep_results.ensures (λ u. refl) (λ u. refl);
    }
