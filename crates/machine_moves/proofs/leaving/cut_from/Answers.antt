use Rattle.std.proofs.Common.{refl, ap, sym}
use Rattle.machine_core.specs.Text.{cut_from}
use Rattle.lua_stack.specs.Frames.{cut_at}
use Rattle.move_laws.proofs.Running.{has_stack}
use Rattle.machine_moves.proofs.OnRunning.{own_on, registers_on, stays_on}
use Rattle.machine_moves.proofs.leaving.cut_from.Goals as goal

pub running_stack_mut-requires : goal.running_stack_mut-requires
running_stack_mut-requires c = has_stack c.args.world.now c.requires.frame.place c.requires.frame.is

pub cut_from-requires-clause-there : goal.cut_from-requires-clause-there
cut_from-requires-clause-there c = registers_on c.running_stack_mut.ensures.runs c.requires.frame.place c.args.stack_size c.requires.frame.is c.requires.frame.room

pub returns : goal.returns
returns c =
    let h = c.requires.frame in
    record {
      makes = λ env. own_on c.running_stack_mut.ensures.runs h.place (cut_from c.args.register) env h.is refl c.cut_from.ensures (λ co frame cells. refl) (ap (λ n. cut_at c.args.register n h.place.top) (sym h.size));
      stays = stays_on c.running_stack_mut.ensures.runs c.cut_from.ensures (λ u. refl) (λ u. refl);
    }
