-- A concatenation whose result is a string of the world.
use Rattle.std.specs.Prelude.{◌≡◌, ℕ, ◌<◌, cond, nat_le, List, [], ◌++◌, length, Option, Some, None}
use Rattle.int_core.specs.Operations.{text_of}
use Rattle.int_core.specs.Value.{greatest_string}
use Rattle.table_core.specs.declared.value.Value.{Value as Kept}
use Rattle.table_core.specs.declared.value.Value.TheVariants.{Str}
use Rattle.lua_heap.specs.Reading.{value}
use Rattle.lua_heap.specs.Strings.{interned}

-- a string's number is that of a string
abbrev pub IsString : List (List ℕ) → Kept → Type 0
IsString texts (Str id) = id.0 < length texts
IsString texts _ = Unit {0}

abbrev pub text_or_none : Option (List ℕ) → List ℕ
text_or_none None = []
text_or_none (Some text) = text

-- a value has a text, which is put at the end of another
pub record AppendsText (texts : List (List ℕ)) (old new : List ℕ) (v : Kept) : Type 0 where
  pub piece : List ℕ
  pub has : text_of (value texts v) ≡ Some piece
  pub is : new ≡ old ++ piece

-- the strings after it: the result is among them, where both operands have texts and a string may be so long
abbrev pub with_joined : List (List ℕ) → Option (List ℕ) → Option (List ℕ) → List (List ℕ)
with_joined texts (Some s) (Some t) = cond (nat_le (length (s ++ t)) greatest_string) (interned texts (s ++ t)) texts
with_joined texts _ _ = texts
