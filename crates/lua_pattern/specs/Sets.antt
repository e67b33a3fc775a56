-- Which bytes a class of a pattern takes in, sets among them (Lua 5.4 manual, 6.4.1, "Character Class").
use Rattle.std.specs.Prelude.{ℕ, Bool, not, if◌then◌else◌, List}
use Rattle.std.specs.List.{list_any}
use Rattle.lua_pattern.specs.declared.class.Part.{Part}
use Rattle.lua_pattern.specs.Classes.{part_has}

-- what stands between square brackets, and whether a `^` stands before it
pub record ByteSet : Type 0 where
  pub parts : List Part
  pub inverted : Bool

abbrev pub is_named : List Part → ℕ → Bool
is_named parts byte = list_any (λ part. part_has part byte) parts

abbrev pub set_has : ByteSet → ℕ → Bool
set_has set byte = if set.inverted then not (is_named set.parts byte) else is_named set.parts byte
