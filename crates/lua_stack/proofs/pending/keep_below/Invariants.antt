use Rattle.lua_stack.proofs.Marks.{IsKeptSoFar}
use Rattle.lua_stack.proofs.pending.keep_below.Given as goal

abbrev pub invariant-loop-k : goal.invariant-loop-k
invariant-loop-k l = IsKeptSoFar l.register l.from l.k l.kept l.initial.pending.items l.pending.items
