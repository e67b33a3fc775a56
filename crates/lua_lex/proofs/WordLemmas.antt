-- The longest mark at the front of a text, and what no keyword is.
use Rattle.std.proofs.Common.{◌≡◌, ℕ, ◌+◌, ◌<◌, ◌≤◌, List, [], ◌∷◌, ◌++◌, length, take, drop, Bool, true, false, Some, None, refl, ap, sym, ◌∙◌, arith, nat_eq, ⊎_elim, length-append, take-append-drop, length-take-le}
use Rattle.std.specs.Prelude.{◌&&◌, ◌||◌, ◌==◌, nat_lt, nat_le, slice_index, Option}
use Rattle.std.specs.List.{position_from, list_all}
use Rattle.std.specs.Cmp.Lexicographic.{pointwise, same_text}
use Rattle.std.proofs.lemmas.List.{take_at, get_or-take}
use Rattle.std.proofs.lemmas.Bool.{cases_lt}
use Rattle.std.proofs.lemmas.Bool.Decides.{nat_tests}
use Rattle.lua_lex.specs.Words.{keywords, marks, place_of}
use Rattle.lua_lex.specs.Classes.{is_in_mark}
use Rattle.lua_lex.specs.Lexical.{IsMark}
use Rattle.lua_lex.specs.Inner.{NoneFrom, may_be_keyword}

pub and-left : (a b : Bool) → a && b ≡ true → a ≡ true
and-left true b h = refl
and-left false b h = h

pub and-right : (a b : Bool) → a && b ≡ true → b ≡ true
and-right true b h = h
and-right false b h = absurd cc

-- what has a place in a list passes each test that all of the list passes
placed_passes : (test : List ℕ → Bool) (words : List (List ℕ)) (word : List ℕ) (from place : ℕ) → list_all test words ≡ true → position_from (λ other. pointwise nat_eq other word) from words ≡ Some place → test word ≡ true
placed_passes test [] word from place all found = absurd cc
placed_passes test (first ∷ words) word from place all found = by_first (placed_passes test words word (from + 1) place (and-right (test first) (list_all test words) all)) (pointwise nat_eq first word) refl where
  by_first : (position_from (λ other. pointwise nat_eq other word) (from + 1) words ≡ Some place → test word ≡ true) → (same : Bool) → pointwise nat_eq first word ≡ same → test word ≡ true
  by_first later true same = ap test (sym (same_text first word (sym same))) ∙ and-left (test first) (list_all test words) all
  by_first later false same = later (rw same at found)

has_bounds : List ℕ → Bool
has_bounds word = nat_lt 0 (length word) && nat_le (length word) 3

-- a mark has one to three bytes
mark-bounds : (spelling : List ℕ) (place : ℕ) → place_of marks spelling ≡ Some place → (0 < length spelling) × (length spelling ≤ 3)
unfolding marks has_bounds
mark-bounds spelling place found =
    let passes : has_bounds spelling ≡ true = placed_passes has_bounds marks spelling 0 place refl found in
    let low = and-left (nat_lt 0 (length spelling)) (nat_le (length spelling) 3) passes in
    let high = and-right (nat_lt 0 (length spelling)) (nat_le (length spelling) 3) passes in
    (grind (arith, nat_tests), grind (arith, nat_tests))

-- what fails a test that all of a list passes has no place in it
unplaced : (test : List ℕ → Bool) (words : List (List ℕ)) (word : List ℕ) → list_all test words ≡ true → test word ≡ false → place_of words word ≡ None
unplaced test words word all fails = by_place (place_of words word) refl where
  by_place : (place : Option ℕ) → place_of words word ≡ place → place_of words word ≡ None
  by_place None found = found
  by_place (Some place) found = let bad : true ≡ false = sym (placed_passes test words word 0 place all found) ∙ fails in absurd cc

-- what does not begin as a keyword is none
pub no_keyword : (word : List ℕ) → may_be_keyword word ≡ false → place_of keywords word ≡ None
unfolding keywords
no_keyword word fails = unplaced may_be_keyword keywords word refl fails

goes_on : List ℕ → Bool
goes_on word = nat_le (length word) 1 || is_in_mark (slice_index word 1)

-- a mark of more bytes than one goes on with one of six
pub none_longer_than_one : (text : List ℕ) → is_in_mark (slice_index text 1) ≡ false → NoneFrom text 1
unfolding marks goes_on
none_longer_than_one text ends longer more most in_range =
    let long : nat_le longer 1 ≡ false = grind (arith, nat_tests) in
    let fails : goes_on (take longer text) ≡ false = rw (length-take-le longer text in_range, get_or-take longer text 1 0 more, ends, long) refl in
    unplaced goes_on marks (take longer text) refl fails

has_three : List ℕ → Bool
has_three word = nat_le (length word) 2 || slice_index word 2 == 46

-- a mark of three bytes ends by `.`
pub none_longer_than_two : (text : List ℕ) → (slice_index text 2 == 46) ≡ false → NoneFrom text 2
unfolding marks has_three
none_longer_than_two text ends longer more most in_range =
    let long : nat_le longer 2 ≡ false = grind (arith, nat_tests) in
    let fails : has_three (take longer text) ≡ false = rw (length-take-le longer text in_range, get_or-take longer text 2 0 more, ends, long) refl in
    unplaced has_three marks (take longer text) refl fails

no_longer : (text : List ℕ) (len : ℕ) → NoneFrom text len → (other after : List ℕ) (place : ℕ) → place_of marks other ≡ Some place → text ≡ other ++ after → len < length other → ⊥
no_longer text len none other after place placed whole long =
    let bounds = mark-bounds other place placed in
    let front : take (length other) text ≡ other = ap (take (length other)) whole ∙ take_at other after (length other) refl in
    let in_range : length other ≤ length text = omega (arith, ap length whole, length-append other after) in
    let bad : None ≡ Some place = sym (none (length other) long bounds.1 in_range) ∙ ap (place_of marks) front ∙ placed in
    cc

pub longest_mark : (text : List ℕ) (len number : ℕ) → len ≤ length text → NoneFrom text len → place_of marks (take len text) ≡ Some number → IsMark text number (drop len text)
longest_mark text len number in_range none placed = record {
  spelling = take len text;
  place = placed;
  whole = sym (take-append-drop len text);
  longest = λ other after place other_placed whole. ⊎_elim (λ long. absurd (no_longer text len none other after place other_placed whole long)) (λ short. omega (arith, length-take-le len text in_range)) (cases_lt len (length other));
}

pub no_mark : (text : List ℕ) → NoneFrom text 0 → (number : ℕ) (rest : List ℕ) → IsMark text number rest → ⊥
no_mark text none number rest m = no_longer text 0 none m.spelling rest number m.place m.whole (mark-bounds m.spelling number m.place).0
