use Rattle.move_laws.proofs.Running.{has_stack, lua_top}
use Rattle.running_frame.proofs.place.stack_of_frame.Goals as goal

pub running_stack-requires : goal.running_stack-requires
running_stack-requires c = has_stack c.args.world.now c.requires.place c.requires.is

pub returns-clause-top : goal.returns-clause-top
returns-clause-top c = lua_top c.args.world.now c.running_stack.ensures.co c.running_stack.result.now c.requires.place c.running_stack.ensures.runs c.requires.is
