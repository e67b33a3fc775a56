use Rattle.std.proofs.Common.{◌≡◌, ◌++◌, map}
use Rattle.lua_stack.specs.View.{kept_at, part, registers_at}
use Rattle.lua_stack.proofs.pending.add_pending.Given as goal

abbrev pub invariant-loop-k : goal.invariant-loop-k
invariant-loop-k l = l.found.items ≡ l.initial.found.items ++ map (kept_at (registers_at l.values l.frame.window)) (part l.frame.window.marks l.k l.pending)
