use Rattle.std.proofs.Common.{◌≡◌, ◌≤◌, length, take}
use Rattle.std.specs.Prelude.{reverse}
use Rattle.lua_stack.specs.View.{catcher_of}
use Rattle.lua_stack.proofs.closing.catcher_in.Given as goal

abbrev pub invariant-back : goal.invariant-back
invariant-back l = (l.count ≤ length l.below) × (catcher_of (reverse l.below) ≡ catcher_of (reverse (take l.count l.below)))

abbrev pub decreases-back : goal.decreases-back
decreases-back l = l.count
