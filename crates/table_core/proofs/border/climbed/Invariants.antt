use Rattle.std.proofs.Common.{◌≡◌, ℕ, ◌<◌, false}
use Rattle.int_core.specs.Rows.{behind}
use Rattle.table_core.specs.Value.{is_nil, lua_values}
use Rattle.table_core.proofs.border.climbed.Given as goal

abbrev pub invariant-loop-n : goal.invariant-loop-n
invariant-loop-n l = (m : ℕ) → m < l.n → is_nil (behind lua_values l.rows m) ≡ false
