-- The functions on texts in UTF-8 (Lua 5.4 manual, 6.5): sequences of up to six bytes, for numbers below 2^31.
use Rattle.std.specs.Prelude.{ℕ, zero, suc, ◌+◌, ◌-◌, ◌*◌, ◌/◌, ◌%◌, ◌^◌, ℤ, pos, negsuc, Bool, true, false, cond, ◌&&◌, ◌||◌, ◌==◌, not, nat_le, nat_lt, List, [], ◌∷◌, ◌++◌, length, take, drop, Option, Some, None, Result, Ok, Err, slice_index, codes}
use Rattle.std.specs.List.{fold, prefix_len}
use Rattle.int_core.specs.Value.{Plain, nil, integer, string, primitive, Shape, holds}
use Rattle.library_rows.specs.Plainly.{Outcome, results, error}
use Rattle.library_rows.specs.Arguments.{argument, bad_argument, integer_argument, text_argument, integer_or, with, one, nothing}

-- Sequences.

abbrev pub is_continuation : ℕ → Bool
is_continuation b = nat_le 128 b && nat_lt b 192

-- what a first byte says: its own part of the number, how many bytes follow, and the least number of such a sequence
pub record Lead : Type 0 where
  pub bits : ℕ
  pub more : ℕ
  pub least : ℕ

abbrev pub leads : ℕ → ℕ → ℕ → Option Lead
leads bits more least = Some (record { bits = bits; more = more; least = least })

abbrev pub lead_of : ℕ → Option Lead
lead_of b =
    cond (nat_lt b 128) (leads b 0 0)
    (cond (nat_lt b 192) None
    (cond (nat_lt b 224) (leads (b - 192) 1 128)
    (cond (nat_lt b 240) (leads (b - 224) 2 2048)
    (cond (nat_lt b 248) (leads (b - 240) 3 65536)
    (cond (nat_lt b 252) (leads (b - 248) 4 2097152)
    (cond (nat_lt b 254) (leads (b - 252) 5 67108864) None))))))

pub record Decoded : Type 0 where
  pub code : ℕ
  pub more : ℕ

abbrev pub joined_bits : ℕ → List ℕ → ℕ
joined_bits bits bytes = fold (λ n b. n * 64 + (b - 128)) bits bytes

-- without `lax` a number is a scalar value of Unicode
abbrev pub is_accepted : Bool → ℕ → Bool
is_accepted lax n = lax || (nat_le n 1114111 && not (nat_le 55296 n && nat_le n 57343))

abbrev pub decoded_by : Bool → Lead → List ℕ → Option Decoded
decoded_by lax l text =
    let n = joined_bits l.bits (take l.more text) in
    cond (nat_le l.more (prefix_len is_continuation text) && nat_le l.least n && is_accepted lax n) (Some (record { code = n; more = l.more })) None

-- the number that a text begins with
abbrev pub decode : Bool → List ℕ → Option Decoded
decode lax [] = None
decode lax (b ∷ text) = elim (lead_of b) [ None ↦ None | Some l ↦ decoded_by lax l text ]

-- the last bytes of a sequence: six bits each
abbrev pub continuation_bytes : ℕ → ℕ → List ℕ → List ℕ
continuation_bytes zero n after = after
continuation_bytes (suc many) n after = continuation_bytes many (n / 64) ((128 + n % 64) ∷ after)

abbrev pub encoded : ℕ → ℕ → ℕ → List ℕ
encoded first many n = (first + n / 64 ^ many) ∷ continuation_bytes many n []

abbrev pub encode : ℕ → List ℕ
encode n =
    cond (nat_lt n 128) (n ∷ [])
    (cond (nat_lt n 2048) (encoded 192 1 n)
    (cond (nat_lt n 65536) (encoded 224 2 n)
    (cond (nat_lt n 2097152) (encoded 240 3 n)
    (cond (nat_lt n 67108864) (encoded 248 4 n) (encoded 252 5 n)))))

-- The functions.

abbrev pub code_in : ℕ → ℤ → Result ℕ (List ℕ)
code_in i (pos n) = elim (nat_lt n 2147483648) [ true ↦ Ok n | false ↦ Err (bad_argument i (codes "char") (codes "value out of range")) ]
code_in i (negsuc n) = Err (bad_argument i (codes "char") (codes "value out of range"))

abbrev pub encodes : ℕ → List Shape → (List ℕ → Outcome) → Outcome
encodes i [] k = k []
encodes i (s ∷ ss) k = with (integer_argument (codes "char") i s) (λ n. with (code_in i n) (λ code. encodes (suc i) ss (λ bytes. k (encode code ++ bytes))))

abbrev pub utf8_char_row : List Shape → Outcome
utf8_char_row ss = encodes 1 ss (λ bytes. one (string bytes))

-- a place in n bytes, from 1; a negative one counts from the end, and is 0 before the first byte
abbrev pub place_in : ℕ → ℤ → ℕ
place_in n (pos i) = i
place_in n (negsuc i) = n - i

abbrev pub invalid_code : List ℕ
invalid_code = codes "invalid UTF-8 code"

abbrev pub is_lax : Shape → Bool
is_lax s = holds s

-- the codes of the sequences that begin before a place, counted from 0, where so many bytes belong to the one before
abbrev pub codes_until : Bool → ℕ → ℕ → ℕ → List ℕ → (List Plain → Outcome) → Outcome
codes_until lax more at end [] k = k []
codes_until lax (suc more) at end (b ∷ text) k = codes_until lax more (at + 1) end text k
codes_until lax zero at end (b ∷ text) k = elim (nat_lt at end) [
  | false ↦ k []
  | true ↦ elim (decode lax (b ∷ text)) [
    | None ↦ error invalid_code
    | Some d ↦ codes_until lax d.more (at + 1) end text (λ ps. k (integer (pos d.code) ∷ ps))
  ]
]

abbrev pub codepoints : List ℕ → ℕ → ℕ → Bool → Outcome
codepoints s i j lax =
    cond (i == 0) (error (bad_argument 2 (codes "codepoint") (codes "out of bounds")))
    (cond (nat_lt (length s) j) (error (bad_argument 3 (codes "codepoint") (codes "out of bounds")))
    (codes_until lax 0 (i - 1) j (drop (i - 1) s) (λ ps. results ps)))

abbrev pub utf8_codepoint_row : List Shape → Outcome
utf8_codepoint_row ss = with (text_argument (codes "codepoint") 1 (argument ss 1)) (λ s. with (integer_or (pos 1) (codes "codepoint") 2 (argument ss 2)) (λ i.
    with (integer_or (pos (place_in (length s) i)) (codes "codepoint") 3 (argument ss 3)) (λ j.
    codepoints s (place_in (length s) i) (place_in (length s) j) (is_lax (argument ss 4)))))

-- how many sequences begin before a place, counted from 0; or nil and the place of the first byte that begins none
abbrev pub counted_until : Bool → ℕ → ℕ → ℕ → List ℕ → ℕ → Outcome
counted_until lax more at end [] n = one (integer (pos n))
counted_until lax (suc more) at end (b ∷ text) n = counted_until lax more (at + 1) end text n
counted_until lax zero at end (b ∷ text) n = elim (nat_lt at end) [
  | false ↦ one (integer (pos n))
  | true ↦ elim (decode lax (b ∷ text)) [
    | None ↦ results (nil ∷ integer (pos (at + 1)) ∷ [])
    | Some d ↦ counted_until lax d.more (at + 1) end text (n + 1)
  ]
]

abbrev pub counted : List ℕ → ℕ → ℕ → Bool → Outcome
counted s i j lax =
    cond (i == 0 || nat_lt (length s + 1) i) (error (bad_argument 2 (codes "len") (codes "initial position out of bounds")))
    (cond (nat_lt (length s) j) (error (bad_argument 3 (codes "len") (codes "final position out of bounds")))
    (counted_until lax 0 (i - 1) j (drop (i - 1) s) 0))

abbrev pub utf8_len_row : List Shape → Outcome
utf8_len_row ss = with (text_argument (codes "len") 1 (argument ss 1)) (λ s. with (integer_or (pos 1) (codes "len") 2 (argument ss 2)) (λ i.
    with (integer_or (negsuc 0) (codes "len") 3 (argument ss 3)) (λ j.
    counted s (place_in (length s) i) (place_in (length s) j) (is_lax (argument ss 4)))))

-- Places from 0. No byte continues a sequence past the end.

abbrev pub continues_at : List ℕ → ℕ → Bool
continues_at s at = is_continuation (slice_index s at)

-- the first byte of the sequence at a place
abbrev pub sequence_start : List ℕ → ℕ → ℕ
sequence_start s zero = zero
sequence_start s (suc at) = elim (continues_at s (suc at)) [ true ↦ sequence_start s at | false ↦ suc at ]

abbrev pub sequences_back : List ℕ → ℕ → ℕ → Option ℕ
sequences_back s zero at = Some at
sequences_back s (suc many) zero = None
sequences_back s (suc many) (suc at) = sequences_back s many (sequence_start s at)

-- how many bytes from a place on continue a sequence
abbrev pub continued : List ℕ → ℕ → ℕ
continued s at = prefix_len is_continuation (drop at s)

abbrev pub sequences_on : List ℕ → ℕ → ℕ → Option ℕ
sequences_on s zero at = Some at
sequences_on s (suc many) at = elim (nat_lt at (length s)) [ true ↦ sequences_on s many (at + 1 + continued s (at + 1)) | false ↦ None ]

abbrev pub place_or_nil : Option ℕ → Outcome
place_or_nil None = nothing
place_or_nil (Some at) = one (integer (pos (at + 1)))

abbrev pub moved : List ℕ → ℤ → ℕ → Outcome
moved s (pos zero) at = one (integer (pos (sequence_start s at + 1)))
moved s (pos (suc n)) at = elim (continues_at s at) [ true ↦ error (codes "initial position is a continuation byte") | false ↦ place_or_nil (sequences_on s n at) ]
moved s (negsuc n) at = elim (continues_at s at) [ true ↦ error (codes "initial position is a continuation byte") | false ↦ place_or_nil (sequences_back s (n + 1) at) ]

-- without a place: the first byte, or past the end where sequences are counted back
abbrev pub usual_place : List ℕ → ℤ → ℤ
usual_place s (pos n) = pos 1
usual_place s (negsuc n) = pos (length s + 1)

abbrev pub utf8_offset_row : List Shape → Outcome
utf8_offset_row ss = with (text_argument (codes "offset") 1 (argument ss 1)) (λ s. with (integer_argument (codes "offset") 2 (argument ss 2)) (λ n.
    with (integer_or (usual_place s n) (codes "offset") 3 (argument ss 3)) (λ i.
    let at = place_in (length s) i in
    cond (at == 0 || nat_lt (length s + 1) at) (error (bad_argument 3 (codes "offset") (codes "position out of bounds"))) (moved s n (at - 1)))))

-- the sequence after the one whose first byte has the place i, from 1; with 0 the first one
abbrev pub walked : Bool → List ℕ → ℕ → Outcome
walked lax s at = elim (drop at s) [
  | [] ↦ results []
  | b ∷ text ↦ elim (decode lax (b ∷ text)) [
    | None ↦ error invalid_code
    | Some d ↦ cond (is_continuation (slice_index text d.more)) (error invalid_code) (results (integer (pos (at + 1)) ∷ integer (pos d.code) ∷ []))
  ]
]

abbrev pub walked_from : Bool → List ℕ → ℤ → Outcome
walked_from lax s (pos zero) = walked lax s 0
walked_from lax s (pos i) = walked lax s (i + continued s i)
walked_from lax s (negsuc i) = results []

abbrev pub walks : Bool → List Shape → Outcome
walks lax ss = with (text_argument (codes "codes") 1 (argument ss 1)) (λ s. with (integer_argument (codes "codes") 2 (argument ss 2)) (λ i. walked_from lax s i))

-- the function that walks, the text, and the place before its first byte
abbrev pub utf8_codes_row : (walk walk_lax : ℕ) → List Shape → Outcome
utf8_codes_row walk walk_lax ss = with (text_argument (codes "codes") 1 (argument ss 1)) (λ s.
    results (primitive (cond (is_lax (argument ss 2)) walk_lax walk) ∷ string s ∷ integer (pos 0) ∷ []))
