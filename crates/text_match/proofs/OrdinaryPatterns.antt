-- A pattern in which each byte stands for itself: it is found where it stands as a text.
use Rattle.std.proofs.Common.{◌≡◌, ℕ, zero, suc, ◌+◌, ◌-◌, ◌≤◌, ◌<◌, Bool, true, false, cond, List, [], ◌∷◌, ◌++◌, length, drop, take, get_or, Option, Some, None, Result, Ok, Err, refl, sym, ap, ◌∙◌, append-nil, arith}
use Rattle.std.specs.Prelude.{◌==◌, ◌&&◌, ◌||◌, not, count_by, map, nat_eq, nat_lt, slice_get, codes}
use Rattle.std.specs.List.{flat_map, list_any, starts_with}
use Rattle.std.specs.Option.{option_map_or, option_to_list}
use Rattle.std.specs.Cmp.Lexicographic.{pointwise}
use Rattle.std.proofs.lemmas.Bool.Decides.{nat_tests}
use Rattle.std.proofs.lemmas.List.{drop_more, drop_all}
use Rattle.std.proofs.lemmas.List.Sums.{sum_by-cons}
use Rattle.std.proofs.lemmas.Option.{slice_get-get_or, slice_get_past}
use Rattle.lua_pattern.specs.declared.answer.Capture.{Capture}
use Rattle.lua_pattern.specs.declared.class.Class.{Class}
use Rattle.lua_pattern.specs.declared.class.Class.TheVariants.{Alone}
use Rattle.lua_pattern.specs.declared.class.Part.TheVariants.{Byte}
use Rattle.lua_pattern.specs.declared.item.Item.{Item}
use Rattle.lua_pattern.specs.declared.item.Item.TheVariants.{Plain}
use Rattle.lua_pattern.specs.declared.item.Plain.TheVariants.{Single}
use Rattle.lua_pattern.specs.Answer.{first_found, is_counted}
use Rattle.lua_pattern.specs.ClassBytes.{class_has}
use Rattle.lua_pattern.specs.Ends.{ends}
use Rattle.lua_pattern.specs.Reading.{Read, class_at, item_at, items_from, items_of, joined, more_of, read_of, scope_of}
use Rattle.lua_pattern.specs.Scope.{Scope, empty_scope, is_closed}
use Rattle.lua_pattern.specs.Ways.{Found}
use Rattle.library_rows.specs.Searches.{Hit, barred_end, counts, first_hit, hit_from, is_anchored, next_hit, pattern_items, search, text_from}
use Rattle.text_match.specs.Ordinary.{is_special, plain_hit}
use Rattle.text_match.proofs.Readings.{items_known}

abbrev alone : ℕ → Item
alone b = Plain (Single (Alone (Byte b)))

-- Bytes without a meaning of their own.

or_false : (p q : Bool) → (p || q) ≡ false → (p ≡ false) × (q ≡ false)
or_false false q e = (refl, e)
or_false true q e = absurd (cc)

record IsOrdinary (b : ℕ) : Type 0 where
  not_dollar : (b == 36) ≡ false
  not_percent : (b == 37) ≡ false
  not_open : (b == 40) ≡ false
  not_close : (b == 41) ≡ false
  not_star : (b == 42) ≡ false
  not_plus : (b == 43) ≡ false
  not_minus : (b == 45) ≡ false
  not_dot : (b == 46) ≡ false
  not_mark : (b == 63) ≡ false
  not_bracket : (b == 91) ≡ false
  not_caret : (b == 94) ≡ false

ordinary : (b : ℕ) → is_special b ≡ false → IsOrdinary b
ordinary b e =
    let dollar = or_false (b == 36) _ e in
    let percent = or_false (b == 37) _ dollar.1 in
    let open' = or_false (b == 40) _ percent.1 in
    let close = or_false (b == 41) _ open'.1 in
    let star = or_false (b == 42) _ close.1 in
    let plus = or_false (b == 43) _ star.1 in
    let minus = or_false (b == 45) _ plus.1 in
    let dot = or_false (b == 46) _ minus.1 in
    let mark = or_false (b == 63) _ dot.1 in
    let last = or_false (b == 91) (b == 94) mark.1 in
    record {
      not_dollar = dollar.0;
      not_percent = percent.0;
      not_open = open'.0;
      not_close = close.0;
      not_star = star.0;
      not_plus = plus.0;
      not_minus = minus.0;
      not_dot = dot.0;
      not_mark = mark.0;
      not_bracket = last.0;
      not_caret = last.1;
    }

-- Reading.

class_alone : (class : Class) (scope : Scope) (text : List ℕ) → list_any is_special text ≡ false → class_at class scope text ≡ read_of (Plain (Single class)) scope text
class_alone class scope [] e = refl
class_alone class scope (c ∷ text) e =
    let o = ordinary c (or_false (is_special c) _ e).0 in
    rw (o.not_star, o.not_plus, o.not_minus, o.not_mark) refl

item_alone : (scope : Scope) (b : ℕ) (text : List ℕ) → is_special b ≡ false → list_any is_special text ≡ false → item_at scope b text ≡ read_of (alone b) scope text
unfolding item_at
item_alone scope b text e rest =
    let o = ordinary b e in
    rw (o.not_open, o.not_close, o.not_percent, o.not_bracket, o.not_dollar, o.not_dot) (class_alone (Alone (Byte b)) scope text rest)

items_alone : (p : List ℕ) → list_any is_special p ≡ false → items_from 0 empty_scope p ≡ Ok (map alone p)
unfolding items_from
items_alone [] e = refl
items_alone (b ∷ text) e =
    let parts = or_false (is_special b) (list_any is_special text) e in
    let is : item_at empty_scope b text ≡ read_of (alone b) empty_scope text = item_alone empty_scope b text parts.0 parts.1 in
    let none : length text - length text ≡ 0 = omega arith in
    ap (λ r. joined r (items_from (more_of r text) (scope_of r empty_scope) text)) is
    ∙ ap (λ n. joined (read_of (alone b) empty_scope text) (items_from n empty_scope text)) none
    ∙ ap (joined (read_of (alone b) empty_scope text)) (items_alone text parts.1)

none_counted : (p : List ℕ) → count_by is_counted (map alone p) ≡ 0
none_counted [] = refl
none_counted (b ∷ p) = omega (arith, none_counted p, sum_by-cons (λ item. cond (is_counted item) 1 0) (alone b) (map alone p))

pattern_alone : (p : List ℕ) → list_any is_special p ≡ false → pattern_items p ≡ Ok (map alone p)
pattern_alone p e = items_known p (map alone p) (items_alone p e) (let none = none_counted p in omega arith)

-- Matching.

abbrev matches : List ℕ → List ℕ → Bool
matches [] hay = true
matches (b ∷ p) [] = false
matches (b ∷ p) (c ∷ hay) = nat_eq b c && matches p hay

starts_is : (p hay : List ℕ) → starts_with nat_eq hay p ≡ matches p hay
starts_is [] hay = refl
starts_is (b ∷ p) [] = refl
starts_is (b ∷ p) (c ∷ hay) = ap (λ t. nat_eq b c && t) (starts_is p hay)

abbrev found_at : ℕ → List Capture → Found
found_at end captures = record { end = end; captures = captures }

abbrev if_found : Bool → ℕ → List Capture → List Found
if_found t end captures = cond t (found_at end captures ∷ []) []

-- one byte, and what is behind it
abbrev step : List ℕ → List ℕ → ℕ → List Capture → Bool → List Found
step s p at captures t = flat_map (λ way. ends s (map alone p) way.end way.captures) (map (λ end. found_at end captures) (option_to_list (cond t (Some (at + 1)) None)))

-- what is behind the first byte is found from the next place on
abbrev IsFoundBehind : List ℕ → List ℕ → ℕ → List Capture → Type 0
IsFoundBehind s p at captures = ends s (map alone p) (at + 1) captures ≡ if_found (matches p (drop (at + 1) s)) (at + 1 + length p) captures

by_byte : (s p : List ℕ) (at b : ℕ) (captures : List Capture) (t : Bool) → IsFoundBehind s p at captures
    → step s p at captures t ≡ if_found (t && matches p (drop (at + 1) s)) (at + length (b ∷ p)) captures
by_byte s p at b captures true behind =
    append-nil (ends s (map alone p) (at + 1) captures) ∙ behind ∙ ap (λ n. if_found (matches p (drop (at + 1) s)) n captures) (omega arith)
by_byte s p at b captures false behind = refl

first_byte : (s p : List ℕ) (at b : ℕ) (captures : List Capture) (t : Bool) → nat_lt at (length s) ≡ t → IsFoundBehind s p at captures
    → ends s (map alone (b ∷ p)) at captures ≡ if_found (matches (b ∷ p) (drop at s)) (at + length (b ∷ p)) captures
first_byte s p at b captures true within behind =
    let h : at < length s = grind (arith, nat_tests) in
    ap (λ o. step s p at captures (option_map_or (class_has (Alone (Byte b))) o false)) (slice_get-get_or s at 0 h)
    ∙ by_byte s p at b captures (b == get_or s at 0) behind ∙ ap (λ hay. if_found (matches (b ∷ p) hay) (at + length (b ∷ p)) captures) (sym (drop_more s at 0 h))
first_byte s p at b captures false past behind =
    let h : length s ≤ at = grind (arith, nat_tests) in
    ap (λ o. step s p at captures (option_map_or (class_has (Alone (Byte b))) o false)) (slice_get_past s at h)
    ∙ ap (λ hay. if_found (matches (b ∷ p) hay) (at + length (b ∷ p)) captures) (sym (drop_all at s h))

ends_alone : (s p : List ℕ) (at : ℕ) (captures : List Capture) → ends s (map alone p) at captures ≡ if_found (matches p (drop at s)) (at + length p) captures
ends_alone s [] at captures = ap (λ n. found_at n captures ∷ []) (omega arith)
ends_alone s (b ∷ p) at captures = first_byte s p at b captures (nat_lt at (length s)) refl (ends_alone s p (at + 1) captures)

abbrev hit_here : List ℕ → ℕ → Bool → Option Hit
hit_here p at t = cond t (Some (record { start = at; end = at + length p; captures = [] })) None

here_is : (s p : List ℕ) (at : ℕ) → counts None at (first_found s (map alone p) at) ≡ hit_here p at (matches p (drop at s))
here_is s p at = ap (λ all. counts None at (slice_get all 0)) (ends_alone s p at []) ∙ by (matches p (drop at s))
  where
    by : (t : Bool) → counts None at (slice_get (if_found t (at + length p) []) 0) ≡ hit_here p at t
    by true = refl
    by false = refl

abbrev or_later : List ℕ → List ℕ → ℕ → ℕ → Option Hit → Option Hit
or_later s p at left o = elim o as (λ _. Option Hit) [ Some hit ↦ Some hit | None ↦ first_hit None s (map alone p) (at + 1) left ]

nowhere : (p : List ℕ) (at : ℕ) → hit_here p at (matches p []) ≡ plain_hit p (text_from p at [])
nowhere [] at = refl
nowhere (b ∷ p) at = refl

abbrev by_start : List ℕ → List ℕ → ℕ → Bool → Option Hit
by_start s p at t = plain_hit p (elim t as (λ _. Option ℕ) [ true ↦ Some at | false ↦ text_from p (at + 1) (drop (at + 1) s) ])

here_or_later : (s p : List ℕ) (at left : ℕ) (t : Bool) → first_hit None s (map alone p) (at + 1) left ≡ plain_hit p (text_from p (at + 1) (drop (at + 1) s))
    → or_later s p at left (hit_here p at t) ≡ by_start s p at t
here_or_later s p at left true later = refl
here_or_later s p at left false later = later

first_hit_alone : (s p : List ℕ) (at left : ℕ) → at + left ≡ length s → first_hit None s (map alone p) at left ≡ plain_hit p (text_from p at (drop at s))
first_hit_alone s p at zero sum =
    let none : drop at s ≡ [] = drop_all at s (omega arith) in
    here_is s p at ∙ ap (λ hay. hit_here p at (matches p hay)) none ∙ nowhere p at ∙ ap (λ hay. plain_hit p (text_from p at hay)) (sym none)
first_hit_alone s p at (suc left) sum =
    let c : ℕ = get_or s at 0 in
    let front : drop at s ≡ c ∷ drop (at + 1) s = drop_more s at 0 (omega arith) in
    ap (or_later s p at left) (here_is s p at ∙ ap (λ hay. hit_here p at (matches p hay)) front)
    ∙ here_or_later s p at left (matches p (c ∷ drop (at + 1) s)) (first_hit_alone s p (at + 1) left (omega arith))
    ∙ ap (by_start s p at) (sym (starts_is p (c ∷ drop (at + 1) s)))
    ∙ ap (λ hay. plain_hit p (text_from p at hay)) (sym front)

not_anchored : (p : List ℕ) → list_any is_special p ≡ false → is_anchored p ≡ false
not_anchored [] e = refl
not_anchored (b ∷ p) e = (ordinary b (or_false (is_special b) _ e).0).not_caret

abbrev Answer : Type 0
Answer = Result (Option Hit) (List ℕ)

abbrev by_items : List ℕ → ℕ → Result (List Item) (List ℕ) → Answer
by_items s at r = elim r as (λ _. Answer) [ Err text ↦ Err text | Ok items ↦ Ok (first_hit None s items at (length s - at)) ]

abbrev by_anchor : List ℕ → List ℕ → ℕ → Bool → Answer
by_anchor s p at t = elim t as (λ _. Answer) [
  | true ↦ elim (pattern_items (drop 1 p)) as (λ _. Answer) [ Err text ↦ Err text | Ok items ↦ Ok (first_hit None s items at 0) ]
  | false ↦ by_items s at (pattern_items p)
]

pub searched_plainly : (s p : List ℕ) (at : ℕ) → list_any is_special p ≡ false → at ≤ length s → search s p at ≡ Ok (plain_hit p (text_from p at (drop at s)))
searched_plainly s p at e within =
    ap (by_anchor s p at) (not_anchored p e) ∙ ap (by_items s at) (pattern_alone p e)
    ∙ ap {A = Option Hit} (λ hit. Ok hit) (first_hit_alone s p at (length s - at) (omega arith))

-- Where no match may end at a place that is not behind the place where the search begins.

ends_later : (s p : List ℕ) (at barred : ℕ) → barred ≤ at → 0 < length p → counts (Some barred) at (first_found s (map alone p) at) ≡ counts None at (first_found s (map alone p) at)
ends_later s p at barred before some =
    let apart : (barred == at + length p) ≡ false = grind (arith, nat_tests) in
    ap (λ all. counts (Some barred) at (slice_get all 0)) (ends_alone s p at []) ∙ by (matches p (drop at s)) apart ∙ ap (λ all. counts None at (slice_get all 0)) (sym (ends_alone s p at []))
  where
    by : (t : Bool) → (barred == at + length p) ≡ false → counts (Some barred) at (slice_get (if_found t (at + length p) []) 0) ≡ counts None at (slice_get (if_found t (at + length p) []) 0)
    by true apart = ap (λ u. elim u as (λ _. Option Hit) [ true ↦ None | false ↦ Some (record { start = at; end = at + length p; captures = [] }) ]) apart
    by false apart = refl

abbrev or_later_by : Option ℕ → List ℕ → List ℕ → ℕ → ℕ → Option Hit → Option Hit
or_later_by barred s p at left o = elim o as (λ _. Option Hit) [ Some hit ↦ Some hit | None ↦ first_hit barred s (map alone p) (at + 1) left ]

no_bar : (s p : List ℕ) (barred at left : ℕ) → barred ≤ at → 0 < length p → first_hit (Some barred) s (map alone p) at left ≡ first_hit None s (map alone p) at left
no_bar s p barred at zero before some = ends_later s p at barred before some
no_bar s p barred at (suc left) before some =
    ap (or_later_by (Some barred) s p at left) (ends_later s p at barred before some)
    ∙ ap (λ later. elim (counts None at (first_found s (map alone p) at)) as (λ _. Option Hit) [ Some hit ↦ Some hit | None ↦ later ]) (no_bar s p barred (at + 1) left (omega arith) some)

by_last : (s p : List ℕ) (at last left : ℕ) → last ≤ at + 1 → 0 < length p → first_hit (barred_end last) s (map alone p) at left ≡ first_hit None s (map alone p) at left
by_last s p at zero left before some = refl
by_last s p at (suc barred) left before some = no_bar s p barred at left (omega arith) some

abbrev by_raw : List ℕ → List ℕ → ℕ → ℕ → Bool → Answer
by_raw s p at last t = elim t as (λ _. Answer) [
  | true ↦ hit_from s at last 0 (pattern_items (drop 1 p))
  | false ↦ hit_from s at last (length s - at) (pattern_items p)
]

abbrev by_end : List ℕ → List ℕ → ℕ → ℕ → Bool → Answer
by_end s p at last t = elim t as (λ _. Answer) [ true ↦ Ok None | false ↦ Ok (first_hit (barred_end last) s (map alone p) at (length s - at)) ]

pub next_plainly : (s p : List ℕ) (at last : ℕ) (raw : Bool) → list_any is_special p ≡ false → 0 < length p → at ≤ length s → last ≤ at + 1
    → next_hit s p at last raw ≡ Ok (plain_hit p (text_from p at (drop at s)))
next_plainly s p at last raw e some within before =
    let inside : nat_lt (length s) at ≡ false = grind (arith, nat_tests) in
    ap (λ t. by_raw s p at last (t && not raw)) (not_anchored p e) ∙ ap (hit_from s at last (length s - at)) (pattern_alone p e) ∙ ap (by_end s p at last) inside
    ∙ ap {A = Option Hit} (λ hit. Ok hit) (by_last s p at last (length s - at) before some ∙ first_hit_alone s p at (length s - at) (omega arith))
