use Rattle.std.proofs.Common.{◌≡◌, ◌+◌, ◌-◌, length}
use Rattle.lua_stack.specs.View.{put_all, blank}
use Rattle.lua_stack.proofs.values.clear.Given as goal

abbrev pub invariant-loop-k : goal.invariant-loop-k
invariant-loop-k l =
    (put_all (l.at + l.k) (blank (l.count - l.k)) l.values.items ≡ put_all l.at (blank l.count) l.initial.values.items)
    × (length l.values.items ≡ length l.initial.values.items)
