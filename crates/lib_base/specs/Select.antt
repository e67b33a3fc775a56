-- Lengths, and places among arguments.
use Rattle.std.specs.Prelude.{◌≡◌, ℕ, zero, suc, ◌-◌, ℤ, pos, negsuc, true, false, nat_lt, List, [], ◌∷◌, map, Option, Some, None, Result, Ok, Err}
use Rattle.int_core.specs.Value.{known}
use Rattle.library_rows.specs.Arguments.{plain_of}
use Rattle.library_rows.specs.Base.{raw_length}
use Rattle.library_rows.specs.Look.{looked, done, refused}
use Rattle.library_arguments.specs.Refusals.{refusal_text}
use Rattle.library_arguments.specs.declared.refusal.Refusal.{Refusal}
use Rattle.table_core.specs.declared.value.Value.{Value as Kept}
use Rattle.lua_heap.specs.declared.world.World.{World as Memory}
use Rattle.lua_heap.specs.Reading.{value}
use Rattle.lib_base.specs.Raw.{told_border}
use Rattle.pure_functions.specs.Answers.{heap_of}

-- where the arguments from the nth on begin, of so many behind the first one
abbrev pub selected_place : ℤ → ℕ → Option ℕ
selected_place (pos zero) many = None
selected_place (pos (suc n)) many = Some (suc n)
selected_place (negsuc n) many = elim (nat_lt n many) [ true ↦ Some (many - n) | false ↦ None ]

-- a border as a value
abbrev pub IsBorderValue : Option ℤ → Kept → Type 0
IsBorderValue n v = (texts : List (List ℕ)) → value texts v ≡ known (plain_of (told_border n))

-- the length of the first argument, or its error
abbrev pub IsLength : Memory → List Kept → Result Kept Refusal → Type 0
IsLength W arguments (Ok size) = looked raw_length (map (value W.strings) arguments) (heap_of W) ≡ done (heap_of W) (value W.strings size ∷ [])
IsLength W arguments (Err why) = looked raw_length (map (value W.strings) arguments) (heap_of W) ≡ refused (refusal_text why)
