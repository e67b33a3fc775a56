use Rattle.std.proofs.Common.{map, take}
use Rattle.library_arguments.specs.Shapes.{known_of}
use Rattle.pure_functions.specs.Answers.{MeanAll, OnlyStrings}
use Rattle.pure_functions.proofs.plain.values_of.Given as goal

abbrev pub invariant-loop-written : goal.invariant-loop-written
invariant-loop-written l = OnlyStrings l.initial.world l.world l.arguments × MeanAll l.world.strings l.values.items (map known_of (take l.written-index l.all))
