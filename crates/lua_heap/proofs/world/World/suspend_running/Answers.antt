use Rattle.lua_heap.proofs.Resumed.{back_after}
use Rattle.lua_heap.proofs.world.World.suspend_running.Goals as goal

pub returns-clause-plain : goal.returns-clause-plain
returns-clause-plain c fuel s e = back_after c.args.self.now c.pause_running.new.self c.back_to_resumer.new.self fuel s (c.pause_running.ensures.plain fuel s e) (c.back_to_resumer.ensures.plain fuel)
