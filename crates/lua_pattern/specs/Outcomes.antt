-- What the functions that read a pattern answer, by the definitions of what is there to be read.
use Rattle.std.specs.Prelude.{◌≡◌, ℕ, List, ⊤, Option, Some, None, Result, Ok, Err}
use Rattle.lua_pattern.specs.declared.answer.PatternFault.{PatternFault}
use Rattle.lua_pattern.specs.declared.answer.PatternFault.TheVariants.{Malformed, TooComplex, Memory}
use Rattle.lua_pattern.specs.declared.item.Item.{Item}
use Rattle.lua_pattern.specs.declared.rule.TheConstants.{MISSING_BRACKET}
use Rattle.lua_pattern.specs.Reading.{Read, SetRead}
use Rattle.lua_pattern.specs.Scope.{Scope}
use Rattle.lua_pattern.specs.Sets.{ByteSet}

-- an item was read as told, or its rule is broken, or memory ran out
abbrev pub IsRead : Result Item PatternFault → Result Read ℕ → Scope → List ℕ → Type 0
IsRead (Ok item) told scope rest = told ≡ Ok (record { item = item; scope = scope; rest = rest })
IsRead (Err (Malformed rule)) told scope rest = told ≡ Err rule
IsRead (Err TooComplex) told scope rest = ⊥
IsRead (Err Memory) told scope rest = ⊤

-- the same of a set
abbrev pub IsSetRead : Result ByteSet PatternFault → Option SetRead → List ℕ → Type 0
IsSetRead (Ok set) told rest = told ≡ Some (record { set = set; rest = rest })
IsSetRead (Err (Malformed rule)) told rest = (told ≡ None) × (rule ≡ MISSING_BRACKET)
IsSetRead (Err TooComplex) told rest = ⊥
IsSetRead (Err Memory) told rest = ⊤

-- why the items of a pattern were not read
abbrev pub IsRefused : PatternFault → Result (List Item) ℕ → Type 0
IsRefused (Malformed rule) told = told ≡ Err rule
IsRefused TooComplex told = ⊥
IsRefused Memory told = ⊤
