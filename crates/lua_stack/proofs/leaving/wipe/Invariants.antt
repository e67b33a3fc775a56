use Rattle.std.proofs.Common.{◌≡◌}
use Rattle.std.specs.Prelude.{◌&&◌, ◌||◌, nat_le, nat_lt}
use Rattle.machine_core.specs.Text.{is_pending}
use Rattle.lua_stack.specs.View.{part, put_all, wiped_but}
use Rattle.lua_stack.proofs.leaving.wipe.Given as goal

abbrev pub invariant-loop-k : goal.invariant-loop-k
invariant-loop-k l = l.values.items ≡ put_all l.base (wiped_but (λ i. is_pending l.marks i || (nat_le l.from i && nat_lt i l.end)) 0 (part l.base l.k l.initial.values.items)) l.initial.values.items
