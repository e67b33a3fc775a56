-- Texts that become strings of a world.
use Rattle.std.specs.Prelude.{◌≡◌, ℕ, ◌<◌, List, length}
use Rattle.machine_sound.specs.Sound.{Sound}
use Rattle.table_core.specs.declared.value.Value.{Value as Kept}
use Rattle.table_core.specs.declared.value.Value.TheVariants.{Str}
use Rattle.lua_heap.specs.declared.world.World.{World as Memory}
use Rattle.lua_heap.specs.Adding.{Begins}
use Rattle.lua_heap.specs.Codes.{AreCodes}
use Rattle.lua_heap.specs.Plain.{plain}

-- strings may have been put last, and all else stays: a sound world reads the same, and code stays what it was
pub record AddsTexts (old new : Memory) : Type 0 where
  pub strings : Begins (List ℕ) old.strings new.strings
  pub rest : new ≡ record old { strings = new.strings }
  pub plain : (primitives fuel : ℕ) → Sound primitives (plain old fuel) → plain new fuel ≡ plain old fuel
  pub codes : AreCodes old.strings old.codes → AreCodes new.strings new.codes

-- where a value is a string's number, the string is there
abbrev pub HasText : List (List ℕ) → Kept → Type 0
HasText texts (Str id) = id.0 < length texts
HasText texts _ = Unit {0}
