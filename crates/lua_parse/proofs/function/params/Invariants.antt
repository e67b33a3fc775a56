use Rattle.std.proofs.Common.{length}
use Rattle.lua_parse.specs.Moves.{params, more_params}
use Rattle.lua_parse.specs.Grammar.{expects}
use Rattle.lua_parse.proofs.Steps.{Follows}
use Rattle.lua_parse.proofs.function.params.Given as goal

abbrev pub invariant-loop-cursor : goal.invariant-loop-cursor
invariant-loop-cursor l = Follows (expects 0 (params l.fn.own.items)) l.fn.cursor (expects 0 (more_params l.names.items)) l.cursor

abbrev pub decreases-loop-cursor : goal.decreases-loop-cursor
decreases-loop-cursor l = length l.cursor
