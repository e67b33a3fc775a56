-- Which bytes the class of one place of a pattern takes in (Lua 5.4 manual, 6.4.1, "Character Class").
use Rattle.std.specs.Prelude.{ℕ, Bool, true}
use Rattle.lua_pattern.specs.declared.class.Class.{Class}
use Rattle.lua_pattern.specs.declared.class.Class.TheVariants.{Any, Alone, Among}
use Rattle.lua_pattern.specs.Classes.{part_has}
use Rattle.lua_pattern.specs.Sets.{set_has}

abbrev pub class_has : Class → ℕ → Bool
class_has Any byte = true
class_has (Alone part) byte = part_has part byte
class_has (Among set) byte = set_has set byte
