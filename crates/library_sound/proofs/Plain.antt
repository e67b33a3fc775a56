-- Rows on plain values give no primitive but those that are there.
use Rattle.std.proofs.Common.{ℕ, zero, suc, ◌+◌, ◌-◌, List, [], ◌∷◌, ◌++◌, map, length, Option, Some, None, Bool, true, false, Result, Ok, Err}
use Rattle.std.specs.Prelude.{◌*◌, ℤ, pos, negsuc, cond, int_lt, nat_lt, nat_le, drop, ◌<◌, ◌==◌, ◌||◌, slice_index, codes}
use Rattle.std.specs.List.{repeat}
use Rattle.int_core.specs.Value.{Plain, nil, integer, string, primitive, Shape, is_known, holds, greatest_string}
use Rattle.lua_pattern.specs.declared.answer.Capture.{Capture}
use Rattle.lua_pattern.specs.declared.answer.Capture.TheVariants.{Text, Position}
use Rattle.library_rows.specs.Plainly.{Outcome, results, error, too_large}
use Rattle.library_rows.specs.Arguments.{bad_argument, is_absent, number_of, with, one, nothing, argument, integer_argument, text_argument, integer_or, text_or}
use Rattle.library_rows.specs.Integers
use Rattle.library_rows.specs.Strings
use Rattle.library_rows.specs.Codepoints
use Rattle.library_rows.specs.Searches
use Rattle.library_rows.specs.Formats
use Rattle.machine_sound.specs.Sound.{Each}
use Rattle.machine_sound.proofs.Lists.{each_none, each_cons, each_append, each_one}

abbrev pub IsThere : ℕ → Plain → Type 0
IsThere primitives (primitive n) = n < primitives
IsThere primitives _ = Unit {0}

abbrev pub AllThere : ℕ → Outcome → Type 0
AllThere n (results ps) = Each (IsThere n) ps
AllThere n (error text) = Unit {0}

module _ (n : ℕ) where
  abbrev There : Plain → Type 0
  There p = IsThere n p

  one_there : (p : Plain) → There p → AllThere n (one p)
  one_there p h = each_one There p h

  nil_there : AllThere n nothing
  nil_there = one_there nil tt

  with_there : {A : Type 0} (r : Result A (List ℕ)) (k : A → Outcome) → ((x : A) → AllThere n (k x)) → AllThere n (with r k)
  with_there (Ok x) k h = h x
  with_there (Err text) k h = tt

  pick : (b : Bool) (x y : Outcome) → AllThere n x → AllThere n y → AllThere n (elim b as (λ _. Outcome) [ true ↦ x | false ↦ y ])
  pick true x y p q = p
  pick false x y p q = q

  choose : (b : Bool) (x y : Outcome) → AllThere n x → AllThere n y → AllThere n (cond b x y)
  choose true x y p q = p
  choose false x y p q = q

  integers_there : (ns : List ℕ) → Each There (map (λ b. integer (pos b)) ns)
  integers_there [] = each_none There
  integers_there (b ∷ bs) = each_cons There (integer (pos b)) (map (λ b. integer (pos b)) bs) tt (integers_there bs)

  -- math

  pub abs_there : (ss : List Shape) → AllThere n (Integers.math_abs_row ss)
  abs_there ss = with_there (integer_argument (codes "abs") 1 (argument ss 1)) (λ n. one (integer (Integers.absolute n))) (λ m. one_there (integer (Integers.absolute m)) tt)

  best_there : (better : ℤ → ℤ → Bool) (f : List ℕ) (i : ℕ) (m : ℤ) (ss : List Shape) → AllThere n (Integers.best better f i m ss)
  best_there better f i m [] = one_there (integer m) tt
  best_there better f i m (s ∷ ss) = with_there (integer_argument f i s) (λ k. Integers.best better f (suc i) (elim (better k m) as (λ _. ℤ) [ true ↦ k | false ↦ m ]) ss)
      (λ k. best_there better f (suc i) (elim (better k m) as (λ _. ℤ) [ true ↦ k | false ↦ m ]) ss)

  best_of_there : (better : ℤ → ℤ → Bool) (f : List ℕ) (ss : List Shape) → AllThere n (Integers.best_of better f ss)
  best_of_there better f [] = with_there (integer_argument f 1 (is_known nil)) (λ m. one (integer m)) (λ m. one_there (integer m) tt)
  best_of_there better f (s ∷ ss) = with_there (integer_argument f 1 s) (λ m. Integers.best better f 2 m ss) (λ m. best_there better f 2 m ss)

  pub max_there : (ss : List Shape) → AllThere n (Integers.math_max_row ss)
  max_there ss = best_of_there (λ m n. int_lt n m) (codes "max") ss

  pub min_there : (ss : List Shape) → AllThere n (Integers.math_min_row ss)
  min_there ss = best_of_there (λ m n. int_lt m n) (codes "min") ss

  remainder_there : (a b : ℤ) → AllThere n (Integers.remainder a b)
  remainder_there a (pos zero) = tt
  remainder_there a (pos (suc b)) = one_there _ tt
  remainder_there a (negsuc b) = one_there _ tt

  pub fmod_there : (ss : List Shape) → AllThere n (Integers.math_fmod_row ss)
  fmod_there ss = with_there (integer_argument (codes "fmod") 1 (argument ss 1)) _ (λ a. with_there (integer_argument (codes "fmod") 2 (argument ss 2)) _ (λ b. remainder_there a b))

  to_integer : (s : Shape) → AllThere n (elim s as (λ _. Outcome) [ is_known p ↦ elim p as (λ _. Outcome) [ integer n ↦ one (integer n) | _ ↦ nothing ] | _ ↦ nothing ])
  to_integer (is_known (integer m)) = one_there (integer m) tt
  to_integer _ = nil_there

  pub tointeger_there : (ss : List Shape) → AllThere n (Integers.math_tointeger_row ss)
  tointeger_there ss = to_integer (argument ss 1)

  type_told : (s : Shape) → AllThere n (elim s as (λ _. Outcome) [ is_known p ↦ elim p as (λ _. Outcome) [ integer n ↦ one (string (codes "integer")) | _ ↦ nothing ] | _ ↦ nothing ])
  type_told (is_known (integer m)) = one_there (string (codes "integer")) tt
  type_told _ = nil_there

  pub type_there : (ss : List Shape) → AllThere n (Integers.math_type_row ss)
  type_there ss = type_told (argument ss 1)

  pub ult_there : (ss : List Shape) → AllThere n (Integers.math_ult_row ss)
  ult_there ss = with_there (integer_argument (codes "ult") 1 (argument ss 1)) _ (λ a. with_there (integer_argument (codes "ult") 2 (argument ss 2)) _ (λ b. one_there _ tt))

  -- strings

  pub byte_there : (ss : List Shape) → AllThere n (Strings.byte_row ss)
  byte_there ss = with_there (text_argument (codes "byte") 1 (argument ss 1)) _ (λ s. with_there (integer_or (pos 1) (codes "byte") 2 (argument ss 2)) _ (λ i.
      with_there (integer_or i (codes "byte") 3 (argument ss 3)) _ (λ j. integers_there (Strings.part s i j))))

  pub sub_there : (ss : List Shape) → AllThere n (Strings.sub_row ss)
  sub_there ss = with_there (text_argument (codes "sub") 1 (argument ss 1)) _ (λ s. with_there (integer_argument (codes "sub") 2 (argument ss 2)) _ (λ i.
      with_there (integer_or Strings.minus_one (codes "sub") 3 (argument ss 3)) _ (λ j. one_there _ tt)))

  pub len_there : (ss : List Shape) → AllThere n (Strings.len_row ss)
  len_there ss = with_there (text_argument (codes "len") 1 (argument ss 1)) _ (λ s. one_there _ tt)

  pub lower_there : (ss : List Shape) → AllThere n (Strings.lower_row ss)
  lower_there ss = with_there (text_argument (codes "lower") 1 (argument ss 1)) _ (λ s. one_there _ tt)

  pub upper_there : (ss : List Shape) → AllThere n (Strings.upper_row ss)
  upper_there ss = with_there (text_argument (codes "upper") 1 (argument ss 1)) _ (λ s. one_there _ tt)

  pub reverse_there : (ss : List Shape) → AllThere n (Strings.reverse_row ss)
  reverse_there ss = with_there (text_argument (codes "reverse") 1 (argument ss 1)) _ (λ s. one_there _ tt)

  chars_there : (i : ℕ) (ss : List Shape) (k : List ℕ → Outcome) → ((bytes : List ℕ) → AllThere n (k bytes)) → AllThere n (Strings.chars i ss k)
  chars_there i [] k h = h []
  chars_there i (s ∷ ss) k h = with_there (integer_argument (codes "char") i s) _ (λ m. with_there (Strings.byte_in i m) _ (λ b. chars_there (suc i) ss (λ bytes. k (b ∷ bytes)) (λ bytes. h (b ∷ bytes))))

  pub char_there : (ss : List Shape) → AllThere n (Strings.char_row ss)
  char_there ss = chars_there 1 ss (λ bytes. one (string bytes)) (λ bytes. one_there (string bytes) tt)

  copies_there : (s between : List ℕ) (m : ℤ) → AllThere n (Strings.copies s between m)
  copies_there s between (pos (suc m)) = pick (nat_le (length s * (m + 1) + length between * m) greatest_string) (one (string (s ++ repeat m (between ++ s)))) (error too_large) (one_there _ tt) tt
  copies_there s between (pos zero) = one_there _ tt
  copies_there s between (negsuc m) = one_there _ tt

  pub rep_there : (ss : List Shape) → AllThere n (Strings.rep_row ss)
  rep_there ss = with_there (text_argument (codes "rep") 1 (argument ss 1)) _ (λ s. with_there (integer_argument (codes "rep") 2 (argument ss 2)) _ (λ m.
      with_there (text_or [] (codes "rep") 3 (argument ss 3)) _ (λ between. copies_there s between m)))

  or_nil_there : (o : Option ℤ) → AllThere n (Strings.integer_or_nil o)
  or_nil_there None = nil_there
  or_nil_there (Some m) = one_there (integer m) tt

  pub tonumber_there : (ss : List Shape) → AllThere n (Strings.tonumber_row ss)
  tonumber_there ss = pick (is_absent (argument ss 2)) (Strings.integer_or_nil (number_of (argument ss 1)))
      (with (integer_argument (codes "tonumber") 2 (argument ss 2)) (λ n. with (Strings.base_in n) (λ base. Strings.integer_or_nil (Strings.in_base base (argument ss 1)))))
      (or_nil_there (number_of (argument ss 1)))
      (with_there (integer_argument (codes "tonumber") 2 (argument ss 2)) _ (λ m. with_there (Strings.base_in m) _ (λ base. or_nil_there (Strings.in_base base (argument ss 1)))))

  pub toint_there : (ss : List Shape) → AllThere n (Strings.toint_row ss)
  toint_there ss = or_nil_there (number_of (argument ss 1))

  pub from_there : (ss : List Shape) → AllThere n (Strings.from_row ss)
  from_there ss = with_there (integer_or (pos 1) (codes "from") 1 (argument ss 1)) _ (λ i. with_there (integer_argument (codes "from") 2 (argument ss 2)) _ (λ m. one_there _ tt))

  pub kinds_there : (ss : List Shape) → AllThere n (Formats.kinds_row ss)
  kinds_there ss = with_there (text_argument (codes "format") 1 (argument ss 1)) _ (λ f. one_there _ tt)

  pub layout_there : (ss : List Shape) → AllThere n (Formats.layout_row ss)
  layout_there ss = with_there (text_argument (codes "format") 1 (argument ss 1)) _ (λ f. with_there (Formats.filled_in (Formats.pieces 0 f) ss 2 greatest_string) _ (λ text. one_there (string text) tt))

  -- texts in UTF-8

  encodes_there : (i : ℕ) (ss : List Shape) (k : List ℕ → Outcome) → ((bytes : List ℕ) → AllThere n (k bytes)) → AllThere n (Codepoints.encodes i ss k)
  encodes_there i [] k h = h []
  encodes_there i (s ∷ ss) k h = with_there (integer_argument (codes "char") i s) _ (λ m. with_there (Codepoints.code_in i m) _ (λ code. encodes_there (suc i) ss (λ bytes. k (Codepoints.encode code ++ bytes)) (λ bytes. h (Codepoints.encode code ++ bytes))))

  pub utf8_char_there : (ss : List Shape) → AllThere n (Codepoints.utf8_char_row ss)
  utf8_char_there ss = encodes_there 1 ss (λ bytes. one (string bytes)) (λ bytes. one_there (string bytes) tt)

  decoded_there : (o : Option Codepoints.Decoded) (none : Outcome) (more : Codepoints.Decoded → Outcome) → AllThere n none → ((d : Codepoints.Decoded) → AllThere n (more d)) → AllThere n (elim o as (λ _. Outcome) [ None ↦ none | Some d ↦ more d ])
  decoded_there None none more p q = p
  decoded_there (Some d) none more p q = q d

  codes_within : (c : Bool) (o : Option Codepoints.Decoded) (x : Outcome) (more : Codepoints.Decoded → Outcome) → AllThere n x → ((d : Codepoints.Decoded) → AllThere n (more d))
      → AllThere n (elim c as (λ _. Outcome) [ false ↦ x | true ↦ elim o as (λ _. Outcome) [ None ↦ error Codepoints.invalid_code | Some d ↦ more d ] ])
  codes_within false o x more p q = p
  codes_within true o x more p q = decoded_there o (error Codepoints.invalid_code) more tt q

  -- what goes on is right for integers
  codes_there : (lax : Bool) (more at end : ℕ) (text : List ℕ) (k : List Plain → Outcome) → ((ps : List Plain) → Each There ps → AllThere n (k ps)) → AllThere n (Codepoints.codes_until lax more at end text k)
  codes_there lax more at end [] k h = h [] (each_none There)
  codes_there lax (suc more) at end (b ∷ text) k h = codes_there lax more (at + 1) end text k h
  codes_there lax zero at end (b ∷ text) k h =
      codes_within (nat_lt at end) (Codepoints.decode lax (b ∷ text)) (k []) (λ d. Codepoints.codes_until lax d.more (at + 1) end text (λ ps. k (integer (pos d.code) ∷ ps))) (h [] (each_none There))
      (λ d. codes_there lax d.more (at + 1) end text (λ ps. k (integer (pos d.code) ∷ ps)) (λ ps e. h (integer (pos d.code) ∷ ps) (each_cons There (integer (pos d.code)) ps tt e)))

  codepoints_there : (s : List ℕ) (i j : ℕ) (lax : Bool) → AllThere n (Codepoints.codepoints s i j lax)
  codepoints_there s i j lax =
      choose (i == 0) (error (bad_argument 2 (codes "codepoint") (codes "out of bounds"))) _ tt
      (choose (nat_lt (length s) j) (error (bad_argument 3 (codes "codepoint") (codes "out of bounds"))) _ tt
      (codes_there lax 0 (i - 1) j (drop (i - 1) s) (λ ps. results ps) (λ ps h. h)))

  pub codepoint_there : (ss : List Shape) → AllThere n (Codepoints.utf8_codepoint_row ss)
  codepoint_there ss = with_there (text_argument (codes "codepoint") 1 (argument ss 1)) _ (λ s. with_there (integer_or (pos 1) (codes "codepoint") 2 (argument ss 2)) _ (λ i.
      with_there (integer_or (pos (Codepoints.place_in (length s) i)) (codes "codepoint") 3 (argument ss 3)) _ (λ j.
      codepoints_there s (Codepoints.place_in (length s) i) (Codepoints.place_in (length s) j) (Codepoints.is_lax (argument ss 4)))))

  counted_within : (c : Bool) (o : Option Codepoints.Decoded) (m at : ℕ) (more : Codepoints.Decoded → Outcome) → ((d : Codepoints.Decoded) → AllThere n (more d))
      → AllThere n (elim c as (λ _. Outcome) [ false ↦ one (integer (pos m)) | true ↦ elim o as (λ _. Outcome) [ None ↦ results (nil ∷ integer (pos (at + 1)) ∷ []) | Some d ↦ more d ] ])
  counted_within false o m at more q = one_there (integer (pos m)) tt
  counted_within true o m at more q = decoded_there o (results (nil ∷ integer (pos (at + 1)) ∷ [])) more (each_cons There nil (integer (pos (at + 1)) ∷ []) tt (each_one There (integer (pos (at + 1))) tt)) q

  counted_there : (lax : Bool) (more at end : ℕ) (text : List ℕ) (m : ℕ) → AllThere n (Codepoints.counted_until lax more at end text m)
  counted_there lax more at end [] m = one_there _ tt
  counted_there lax (suc more) at end (b ∷ text) m = counted_there lax more (at + 1) end text m
  counted_there lax zero at end (b ∷ text) m =
      counted_within (nat_lt at end) (Codepoints.decode lax (b ∷ text)) m at (λ d. Codepoints.counted_until lax d.more (at + 1) end text (m + 1)) (λ d. counted_there lax d.more (at + 1) end text (m + 1))

  pub utf8_len_there : (ss : List Shape) → AllThere n (Codepoints.utf8_len_row ss)
  utf8_len_there ss = with_there (text_argument (codes "len") 1 (argument ss 1)) _ (λ s. with_there (integer_or (pos 1) (codes "len") 2 (argument ss 2)) _ (λ i.
      with_there (integer_or (negsuc 0) (codes "len") 3 (argument ss 3)) _ (λ j. counts s (Codepoints.place_in (length s) i) (Codepoints.place_in (length s) j) (Codepoints.is_lax (argument ss 4)))))
    where
      counts : (s : List ℕ) (i j : ℕ) (lax : Bool) → AllThere n (Codepoints.counted s i j lax)
      counts s i j lax =
          choose (i == 0 || nat_lt (length s + 1) i) (error (bad_argument 2 (codes "len") (codes "initial position out of bounds"))) _ tt
          (choose (nat_lt (length s) j) (error (bad_argument 3 (codes "len") (codes "final position out of bounds"))) _ tt
          (counted_there lax 0 (i - 1) j (drop (i - 1) s) 0))

  place_there : (o : Option ℕ) → AllThere n (Codepoints.place_or_nil o)
  place_there None = nil_there
  place_there (Some at) = one_there _ tt

  moved_there : (s : List ℕ) (m : ℤ) (at : ℕ) → AllThere n (Codepoints.moved s m at)
  moved_there s (pos zero) at = one_there _ tt
  moved_there s (pos (suc m)) at = pick (Codepoints.continues_at s at) (error (codes "initial position is a continuation byte")) (Codepoints.place_or_nil (Codepoints.sequences_on s m at)) tt (place_there (Codepoints.sequences_on s m at))
  moved_there s (negsuc m) at = pick (Codepoints.continues_at s at) (error (codes "initial position is a continuation byte")) (Codepoints.place_or_nil (Codepoints.sequences_back s (m + 1) at)) tt (place_there (Codepoints.sequences_back s (m + 1) at))

  pub offset_there : (ss : List Shape) → AllThere n (Codepoints.utf8_offset_row ss)
  offset_there ss = with_there (text_argument (codes "offset") 1 (argument ss 1)) _ (λ s. with_there (integer_argument (codes "offset") 2 (argument ss 2)) _ (λ m.
      with_there (integer_or (Codepoints.usual_place s m) (codes "offset") 3 (argument ss 3)) _ (λ i.
      choose (Codepoints.place_in (length s) i == 0 || nat_lt (length s + 1) (Codepoints.place_in (length s) i)) (error (bad_argument 3 (codes "offset") (codes "position out of bounds"))) _ tt
      (moved_there s m (Codepoints.place_in (length s) i - 1)))))

  walked_there : (lax : Bool) (s : List ℕ) (at : ℕ) → AllThere n (Codepoints.walked lax s at)
  walked_there lax s at = by (drop at s)
    where
      of : (text : List ℕ) (o : Option Codepoints.Decoded) → AllThere n (elim o as (λ _. Outcome) [
        | None ↦ error Codepoints.invalid_code
        | Some d ↦ cond (Codepoints.is_continuation (slice_index text d.more)) (error Codepoints.invalid_code) (results (integer (pos (at + 1)) ∷ integer (pos d.code) ∷ []))
      ])
      of text None = tt
      of text (Some d) = choose (Codepoints.is_continuation (slice_index text d.more)) (error Codepoints.invalid_code) (results (integer (pos (at + 1)) ∷ integer (pos d.code) ∷ [])) tt
          (each_cons There (integer (pos (at + 1))) (integer (pos d.code) ∷ []) tt (each_one There (integer (pos d.code)) tt))

      by : (text : List ℕ) → AllThere n (elim text as (λ _. Outcome) [
        | [] ↦ results []
        | b ∷ text ↦ elim (Codepoints.decode lax (b ∷ text)) as (λ _. Outcome) [
          | None ↦ error Codepoints.invalid_code
          | Some d ↦ cond (Codepoints.is_continuation (slice_index text d.more)) (error Codepoints.invalid_code) (results (integer (pos (at + 1)) ∷ integer (pos d.code) ∷ []))
        ]
      ])
      by [] = each_none There
      by (b ∷ text) = of text (Codepoints.decode lax (b ∷ text))

  walked_from_there : (lax : Bool) (s : List ℕ) (i : ℤ) → AllThere n (Codepoints.walked_from lax s i)
  walked_from_there lax s (pos zero) = walked_there lax s 0
  walked_from_there lax s (pos (suc i)) = walked_there lax s (suc i + Codepoints.continued s (suc i))
  walked_from_there lax s (negsuc i) = each_none There

  pub walks_there : (lax : Bool) (ss : List Shape) → AllThere n (Codepoints.walks lax ss)
  walks_there lax ss = with_there (text_argument (codes "codes") 1 (argument ss 1)) _ (λ s. with_there (integer_argument (codes "codes") 2 (argument ss 2)) _ (λ i. walked_from_there lax s i))

  -- the two functions that walk are there
  pub utf8_codes_there : (walk walk_lax : ℕ) → walk < n → walk_lax < n → (ss : List Shape) → AllThere n (Codepoints.utf8_codes_row walk walk_lax ss)
  utf8_codes_there walk walk_lax w x ss = with_there (text_argument (codes "codes") 1 (argument ss 1)) _ (λ s.
      each_cons There (primitive (cond (Codepoints.is_lax (argument ss 2)) walk_lax walk)) (string s ∷ integer (pos 0) ∷ []) (either (Codepoints.is_lax (argument ss 2)))
      (each_cons There (string s) (integer (pos 0) ∷ []) tt (each_one There (integer (pos 0)) tt)))
    where
      either : (b : Bool) → There (primitive (cond b walk_lax walk))
      either true = x
      either false = w

  -- matches

  capture_there : (s : List ℕ) (c : Capture) → There (Searches.capture_value s c)
  capture_there s (Text start end) = tt
  capture_there s (Position at) = tt

  captures_there : (s : List ℕ) (cs : List Capture) → Each There (map (Searches.capture_value s) cs)
  captures_there s [] = each_none There
  captures_there s (c ∷ cs) = each_cons There (Searches.capture_value s c) (map (Searches.capture_value s) cs) (capture_there s c) (captures_there s cs)

  places_there : (start end : ℕ) → Each There (Searches.places start end)
  places_there start end = each_cons There (integer (pos (start + 1))) (integer (pos end) ∷ []) tt (each_one There (integer (pos end)) tt)

  text_there : (t : List ℕ) (o : Option ℕ) → AllThere n (Searches.found_text t o)
  text_there t None = nil_there
  text_there t (Some at) = places_there at (at + length t)

  found_there : (s : List ℕ) (r : Result (Option Searches.Hit) (List ℕ)) → AllThere n (Searches.found_places s r)
  found_there s (Err text) = tt
  found_there s (Ok None) = nil_there
  found_there s (Ok (Some hit)) = each_append There (Searches.places hit.start hit.end) (Searches.captured s hit) (places_there hit.start hit.end) (captures_there s hit.captures)

  or_whole_there : (s : List ℕ) (hit : Searches.Hit) (ps : List Plain) → Each There ps → Each There (elim ps as (λ _. List Plain) [ [] ↦ Searches.whole s hit ∷ [] | p ∷ ps ↦ p ∷ ps ])
  or_whole_there s hit [] h = each_one There (Searches.whole s hit) tt
  or_whole_there s hit (p ∷ ps) h = h

  matched_there : (s : List ℕ) (r : Result (Option Searches.Hit) (List ℕ)) → AllThere n (Searches.found_match s r)
  matched_there s (Err text) = tt
  matched_there s (Ok None) = nil_there
  matched_there s (Ok (Some hit)) = or_whole_there s hit (Searches.captured s hit) (captures_there s hit.captures)

  from_place_there : (s : List ℕ) (i : ℤ) (k : ℕ → Outcome) → ((at : ℕ) → AllThere n (k at)) → AllThere n (Searches.from_place s i k)
  from_place_there s i k h = pick (nat_lt (length s) (Strings.start_place (length s) i - 1)) nothing (k (Strings.start_place (length s) i - 1)) nil_there (h (Strings.start_place (length s) i - 1))

  pub find_there : (ss : List Shape) → AllThere n (Searches.find_row ss)
  find_there ss = with_there (text_argument (codes "find") 1 (argument ss 1)) _ (λ s. with_there (text_argument (codes "find") 2 (argument ss 2)) _ (λ p.
      with_there (integer_or (pos 1) (codes "find") 3 (argument ss 3)) _ (λ i. from_place_there s i _ (λ at.
      pick (holds (argument ss 4)) (Searches.found_text p (Searches.text_from p at (drop at s))) (Searches.found_places s (Searches.search s p at)) (text_there p (Searches.text_from p at (drop at s))) (found_there s (Searches.search s p at))))))

  pub match_there : (ss : List Shape) → AllThere n (Searches.match_row ss)
  match_there ss = with_there (text_argument (codes "match") 1 (argument ss 1)) _ (λ s. with_there (text_argument (codes "match") 2 (argument ss 2)) _ (λ p.
      with_there (integer_or (pos 1) (codes "match") 3 (argument ss 3)) _ (λ i. from_place_there s i _ (λ at. matched_there s (Searches.search s p at)))))
