-- What `error` raises.
use Rattle.std.specs.Prelude.{◌≡◌, ℕ, suc, ℤ, pos, [], ◌∷◌, Option, None, Some}
use Rattle.int_core.specs.Value.{Value}
use Rattle.lua_heap.specs.declared.world.World.{World as Memory}
use Rattle.lua_heap.specs.Plain.{plain}
use Rattle.machine_errors.specs.declared.throwing.Level.{Level}
use Rattle.machine_errors.specs.declared.throwing.Level.TheVariants.{Of, Nowhere, Wrong}

abbrev pub level_of : Option ℤ → Level
level_of None = Wrong
level_of (Some (pos (suc level))) = Of level
level_of (Some _) = Nowhere

-- one value moves, whatever the budget is
pub record Sends (old new : Memory) (v : (fuel : ℕ) → Value) : Type 0 where
  pub is : (fuel : ℕ) → plain new fuel ≡ record (plain old fuel) { moving = v fuel ∷ [] }
