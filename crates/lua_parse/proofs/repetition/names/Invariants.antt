use Rattle.std.proofs.Common.{length, [], ◌∷◌}
use Rattle.lua_parse.specs.Moves.{more_names}
use Rattle.lua_parse.specs.Grammar.{expects}
use Rattle.lua_parse.proofs.Steps.{Follows}
use Rattle.lua_parse.proofs.repetition.names.Given as goal

abbrev pub invariant-loop-cursor : goal.invariant-loop-cursor
invariant-loop-cursor l = Follows (expects 0 (more_names (l.fn.first ∷ []))) l.fn.cursor (expects 0 (more_names l.names.items)) l.cursor

abbrev pub decreases-loop-cursor : goal.decreases-loop-cursor
decreases-loop-cursor l = length l.cursor
