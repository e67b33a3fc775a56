use Rattle.std.proofs.Common.{refl}
use Rattle.machine_sound.proofs.Lists.{some_is}
use Rattle.machine_moves.proofs.Stacks.{found_runs, within}
use Rattle.machine_moves.proofs.OnRunning.{put_there}
use Rattle.machine_moves.proofs.chain.running_stack_mut.Goals as goal

pub get_mut-requires : goal.get_mut-requires
get_mut-requires c = within c.running-co.ensures

pub stack_mut-requires : goal.stack_mut-requires
stack_mut-requires c = record { stack = c.running-co.ensures.stack; is = some_is c.get_mut.ensures.value c.running-co.ensures.runs.there }

pub returns : goal.returns
returns c = (
  (refl, λ w. put_there c.args.world.now c.running-co.result w c.running-co.ensures.runs),
  record {
    writes_back = tt;
    runs = record { co = c.running-co.result; runs = found_runs c.get_mut.result.now c.stack_mut.result.now c.running-co.ensures c.get_mut.ensures.value c.stack_mut.ensures.value };
  },
)
