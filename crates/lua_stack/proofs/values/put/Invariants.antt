use Rattle.std.proofs.Common.{◌≡◌, ◌+◌, drop, length}
use Rattle.lua_stack.specs.View.{put_all}
use Rattle.lua_stack.proofs.values.put.Given as goal

abbrev pub invariant-loop-k : goal.invariant-loop-k
invariant-loop-k l =
    (put_all (l.at + l.k) (drop l.k l.from) l.values.items ≡ put_all l.at l.from l.initial.values.items)
    × (length l.values.items ≡ length l.initial.values.items)
