use Rattle.lua_opening.proofs.Preludes.{AreAdded}
use Rattle.lua_opening.proofs.functions.add_functions.Given as goal

abbrev pub invariant-functions : goal.invariant-functions
invariant-functions l = AreAdded l.fn.world l.initial.world l.world l.environment.0 l.fn.prelude l.place
