use Rattle.std.proofs.Common.{◌-◌, arith}
use Rattle.library_arguments.proofs.Places.{argument_there, argument_missing}
use Rattle.library_arguments.proofs.reading.argument.Goals as goal

pub returns-in-Some : goal.returns-in-Some
returns-in-Some c =
    let found = c.in-Some.ensures.lookup in
    argument_there c.args.shapes.now (c.args.place - 1) c.args.place c.in-Some.shape.now (omega arith) (found.3.0) (found.1)

pub returns-in-None : goal.returns-in-None
returns-in-None c = argument_missing c.args.shapes.now (c.args.place - 1) c.args.place (omega arith) (c.in-None.ensures.lookup.3)
