use Rattle.machine_sound.proofs.Example.{world, world_sound}
use Rattle.machine_sound.proofs.law.some_world_is_sound.Goals as goal

pub returns : goal.returns
returns c = (6, world, world_sound)
