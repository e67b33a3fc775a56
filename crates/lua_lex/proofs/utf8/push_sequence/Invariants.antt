use Rattle.std.proofs.Common.{◌≡◌, ◌++◌}
use Rattle.lua_lex.specs.Utf8.{continuation}
use Rattle.lua_lex.proofs.utf8.push_sequence.Given as goal

abbrev pub invariant-loop-place : goal.invariant-loop-place
invariant-loop-place l = l.out.items ++ continuation l.place l.value ≡ l.initial.out.items ++ continuation l.count l.value
