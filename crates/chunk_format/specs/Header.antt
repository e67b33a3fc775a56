-- The header of a chunk (lundump.h of Lua 5.4): signature, version 5.4, format 0 and the data bytes, then the sizes of an instruction,
-- an integer and a float with the test numbers 0x5678 and 370.5.
use Rattle.std.specs.Prelude.{ℕ, List, [], ◌∷◌}

abbrev pub signature : List ℕ
signature = 0x1b ∷ 0x4c ∷ 0x75 ∷ 0x61 ∷ []

abbrev pub version : List ℕ
version = 0x54 ∷ []

abbrev pub format : List ℕ
format = 0 ∷ 0x19 ∷ 0x93 ∷ 0x0d ∷ 0x0a ∷ 0x1a ∷ 0x0a ∷ []

abbrev pub sizes : List ℕ
sizes =
    4 ∷ 8 ∷ 8 ∷ 0x78 ∷ 0x56 ∷ 0 ∷ 0 ∷ 0 ∷ 0 ∷ 0 ∷ 0 ∷ 0 ∷ 0 ∷ 0 ∷ 0 ∷ 0 ∷ 0x28 ∷ 0x77 ∷ 0x40 ∷ []
