use Rattle.std.proofs.Common.{◌≡◌, ◌++◌, take}
use Rattle.std.specs.Prelude.{flat_map}
use Rattle.lua_stack.specs.View.{marked_values}
use Rattle.lua_stack.proofs.pending.add_all_pending.Given as goal

abbrev pub invariant-loop-k : goal.invariant-loop-k
invariant-loop-k l = l.found.items ≡ l.initial.found.items ++ flat_map (marked_values l.values l.pending) (take l.k l.frames)
