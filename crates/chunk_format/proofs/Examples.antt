-- The definitions tried on the chunk that luac writes for `print("hi")` with its debug information stripped, whole and altered.
use Rattle.std.proofs.Common.{◌≡◌, ℕ, ◌+◌, true, List, [], ◌∷◌, ◌++◌, Some, map, refl, take, drop}
use Rattle.code_core.specs.declared.proto.Const.TheVariants.{Str}
use Rattle.code_core.specs.Prototype.{Prototype, none, stripped}
use Rattle.code_core.specs.Writable.{is_writable}
use Rattle.chunk_format.specs.Spelling.{chunk}
use Rattle.chunk_format.specs.Reading.{read_function, chunk_kind}
use Rattle.chunk_format.specs.Grammar.{ChunkOf, WholeOf, BeginsWith}
use Rattle.chunk_format.proofs.SpelledFunctions.{chunk_spelled, whole_spelled}

unfoldable pub print_hi : Prototype
print_hi =
    stripped 0 true 2 (record { 0 = 0x51 } ∷ record { 0 = 0x0b } ∷ record { 0 = 0x8083 } ∷ record { 0 = 0x01020044 } ∷ record { 0 = 0x01010046 } ∷ [])
    (Str (112 ∷ 114 ∷ 105 ∷ 110 ∷ 116 ∷ []) ∷ Str (104 ∷ 105 ∷ []) ∷ []) (record { in_stack = true; index = 0; kind = 0 } ∷ []) none

abbrev pub print_hi_bytes : List ℕ
print_hi_bytes =
    27 ∷ 76 ∷ 117 ∷ 97 ∷ 84 ∷ 0 ∷ 25 ∷ 147 ∷ 13 ∷ 10 ∷ 26 ∷ 10 ∷ 4 ∷ 8 ∷ 8 ∷ 120 ∷ 86 ∷ 0 ∷ 0 ∷ 0 ∷
    0 ∷ 0 ∷ 0 ∷ 0 ∷ 0 ∷ 0 ∷ 0 ∷ 0 ∷ 40 ∷ 119 ∷ 64 ∷ 1 ∷ 128 ∷ 128 ∷ 128 ∷ 0 ∷ 1 ∷ 2 ∷ 133 ∷ 81 ∷
    0 ∷ 0 ∷ 0 ∷ 11 ∷ 0 ∷ 0 ∷ 0 ∷ 131 ∷ 128 ∷ 0 ∷ 0 ∷ 68 ∷ 0 ∷ 2 ∷ 1 ∷ 70 ∷ 0 ∷ 1 ∷ 1 ∷ 130 ∷
    4 ∷ 134 ∷ 112 ∷ 114 ∷ 105 ∷ 110 ∷ 116 ∷ 4 ∷ 131 ∷ 104 ∷ 105 ∷ 129 ∷ 1 ∷ 0 ∷ 0 ∷ 128 ∷ 128 ∷ 128 ∷ 128 ∷ 128 ∷
    []

pub print_hi_is_writable : is_writable print_hi ≡ true
unfolding print_hi
print_hi_is_writable = refl

print_hi_chunk : chunk print_hi ≡ print_hi_bytes
unfolding print_hi
print_hi_chunk = refl

pub begins_with_print_hi : BeginsWith ChunkOf print_hi 80 print_hi_bytes
unfolding print_hi
begins_with_print_hi = record { front = print_hi_bytes; rest = []; whole = refl; spells = chunk_spelled print_hi refl; counted = refl }

pub begins_with_function : BeginsWith WholeOf print_hi 48 (drop 32 print_hi_bytes)
unfolding print_hi
begins_with_function = record { front = drop 32 print_hi_bytes; rest = []; whole = refl; spells = whole_spelled print_hi refl; counted = refl }

-- the chunk with another byte at this place
abbrev altered : (at byte : ℕ) → List ℕ
altered at byte = take at print_hi_bytes ++ byte ∷ drop (at + 1) print_hi_bytes

-- a byte in another's place, and the kind of the first fault then: of the signature, the version, the format, a size, whether there
-- are extra arguments, a number of 32 bits, a float and an unknown constant
abbrev alterations : List (ℕ × ℕ × ℕ)
alterations = (0, 28, 1) ∷ (4, 83, 2) ∷ (5, 1, 3) ∷ (12, 8, 4) ∷ (36, 2, 8) ∷ (38, 5, 7) ∷ (60, 19, 5) ∷ (60, 32, 8) ∷ []

altered_kinds : map (λ change. chunk_kind (altered change.0 change.1)) alterations ≡ map (λ change. Some change.2) alterations
unfolding read_function
altered_kinds = refl
