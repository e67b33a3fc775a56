-- An activation that runs, and that of its frame, which may have fewer registers.
use Rattle.std.proofs.Common.{ℕ, ◌≤◌, ◌≡◌, length}
use Rattle.int_core.specs.Value.{nth}
use Rattle.machine_core.specs.World.{Activation}

-- what an activation has beside its registers
pub record Fixed (a a' : Activation) : Type 0 where
  pub pc : a.pc ≡ a'.pc
  pub varargs : a.varargs ≡ a'.varargs
  pub pending : a.pending ≡ a'.pending
  pub opened : a.opened ≡ a'.opened

-- what both have, with the same value in each register
pub record Alike (a a' : Activation) : Type 0 where
  pub fixed : Fixed a a'
  pub values : (r : ℕ) → nth a.registers r ≡ nth a'.registers r
  pub size : length a'.registers ≤ length a.registers
