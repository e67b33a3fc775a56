use Rattle.pure_functions.proofs.Interning.{nothing}
use Rattle.pure_functions.proofs.calls.over_texts.Goals as goal

pub returns-in-Some-clause-kept : goal.returns-in-Some-clause-kept
returns-in-Some-clause-kept c = nothing c.args.world.now c.args.arguments.now c.requires
