use Rattle.machine_core.specs.Moves.{wait_for_another}
use Rattle.lua_heap.proofs.world.World.wait_for_another.Goals as goal

pub returns-clause-plain : goal.returns-clause-plain
unfolding wait_for_another
returns-clause-plain c fuel s e = c.pause_running.ensures.plain fuel s e
