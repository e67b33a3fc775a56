-- The matches of a list of items by the ways of the first one, and tries of several places one after another.
use Rattle.std.proofs.Common.{◌≡◌, ◌⊎◌, inl, inr, ℕ, zero, suc, ◌+◌, ◌-◌, min, set, Result, Ok, Err, IfOk, IfSome, add-one, subst, ◌<◌, ◌≤◌, true, false, List, [], ◌∷◌, ◌++◌, length, drop, reverse, None, Some, Option, refl, sym, ap, ◌∙◌, arith}
use Rattle.std.specs.Prelude.{slice_get, is_some}
use Rattle.std.specs.List.{flat_map, range_with_len}
use Rattle.std.proofs.lemmas.List.{append-nil, reverse-append, set-set, set-get_or}
use Rattle.std.proofs.lemmas.Option.{get_or_from_slice_get}
use Rattle.std.proofs.lemmas.List.Folds.{flat_map-map}
use Rattle.std.proofs.lemmas.List.Elements.{All-weaker}
use Rattle.lua_pattern.specs.declared.answer.Capture.{Capture}
use Rattle.lua_pattern.specs.declared.answer.Capture.TheVariants.{Text, Position}
use Rattle.lua_pattern.specs.declared.class.Class.{Class}
use Rattle.lua_pattern.specs.declared.item.Item.{Item}
use Rattle.lua_pattern.specs.declared.item.Item.TheVariants.{Plain, Repeated, Open, Close, Place}
use Rattle.lua_pattern.specs.declared.item.Plain.{Plain as PlainItem}
use Rattle.lua_pattern.specs.declared.item.Repeat.{Repeat}
use Rattle.lua_pattern.specs.Ends.{ends}
use Rattle.lua_pattern.specs.Firsts.{AreBefore, IsBefore, IsFirst, IsInside}
use Rattle.lua_pattern.specs.Ways.{Found, places, plain_end, ended, is_class_at, run_of}
use Rattle.lua_pattern.proofs.Balanced.{range-more}
use Rattle.lua_pattern.proofs.Runs.{run_more, run_none}

-- Lists.

flat_map-one : {X A : Type 0} (f : X → List A) (x : X) → flat_map f (x ∷ []) ≡ f x
flat_map-one f x = append-nil (f x)

-- the first of two lists, where the one before has one
pub first-append : {X : Type 0} (x : X) (xs ys : List X) → slice_get xs 0 ≡ Some x → slice_get (xs ++ ys) 0 ≡ Some x
first-append x [] ys first = cc
first-append x (y ∷ xs) ys first = first

pub reverse-range-more : (first tries : ℕ) → reverse (range_with_len first (tries + 1)) ≡ (first + tries) ∷ reverse (range_with_len first tries)
reverse-range-more first tries = rw (range-more first tries, reverse-append (range_with_len first tries) ((first + tries) ∷ [])) refl

-- Items.

module _ (subject : List ℕ) (rest : List Item) (at : ℕ) (captures : List Capture) where
  pub ends-plain_some : (plain : PlainItem) (end : ℕ) → Some end ≡ plain_end subject plain at captures → ends subject (Plain plain ∷ rest) at captures ≡ ends subject rest end captures
  ends-plain_some plain end is = rw (← is) (flat_map-one (λ (way : Found). ends subject rest way.end way.captures) (record { end = end; captures = captures }))

  pub ends-plain_none : (plain : PlainItem) → None ≡ plain_end subject plain at captures → ends subject (Plain plain ∷ rest) at captures ≡ []
  ends-plain_none plain is = rw (← is) refl

  pub ends-open : ends subject (Open ∷ rest) at captures ≡ ends subject rest at (captures ++ Text at at ∷ [])
  ends-open = flat_map-one (λ (way : Found). ends subject rest way.end way.captures) (record { end = at; captures = captures ++ Text at at ∷ [] })

  pub ends-place : ends subject (Place ∷ rest) at captures ≡ ends subject rest at (captures ++ Position at ∷ [])
  ends-place = flat_map-one (λ (way : Found). ends subject rest way.end way.captures) (record { end = at; captures = captures ++ Position at ∷ [] })

  pub ends-close : (number : ℕ) → ends subject (Close number ∷ rest) at captures ≡ ends subject rest at (ended captures number at)
  ends-close number = flat_map-one (λ (way : Found). ends subject rest way.end way.captures) (record { end = at; captures = ended captures number at })

  pub ends-repeated : (class : Class) (repeat : Repeat) → ends subject (Repeated class repeat ∷ rest) at captures ≡ flat_map (λ place. ends subject rest place captures) (places repeat at (run_of class (drop at subject)))
  ends-repeated class repeat = flat_map-map (λ (way : Found). ends subject rest way.end way.captures) (λ end. record { end = end; captures = captures }) (places repeat at (run_of class (drop at subject)))

  -- a quantifier is tried at some places
  pub repeated_by : (class : Class) (repeat known : Repeat) (tried : List ℕ) → repeat ≡ known → places known at (run_of class (drop at subject)) ≡ tried → ends subject (Repeated class repeat ∷ rest) at captures ≡ flat_map (λ place. ends subject rest place captures) tried
  repeated_by class repeat known tried is same =
      ends-repeated class repeat ∙ ap (λ (repeat : Repeat). flat_map (λ place. ends subject rest place captures) (places repeat at (run_of class (drop at subject)))) is ∙ ap (flat_map (λ place. ends subject rest place captures)) same

-- Captures lie before each later place too.

later : (place next : ℕ) → place ≤ next → (capture : Capture) → IsBefore place capture → IsBefore next capture
later place next order (Text start end) before = (before.0, omega (arith, before.1))
later place next order (Position at) before = omega arith

pub AreBefore-later : (place next : ℕ) (captures : List Capture) → place ≤ next → AreBefore place captures → AreBefore next captures
AreBefore-later place next captures order before = All-weaker (IsBefore place) (IsBefore next) (later place next order) captures before

-- Tries.

-- the same matches, with the same captures before
pub retold : {E : Type 0} (r : Result (Option ℕ) E) {told matches : List Found} {was before : List Capture} (after : List Capture) → matches ≡ told → before ≡ was → IfOk r (λ end. IsFirst told end was after) → IfOk r (λ end. IsFirst matches end before after)
retold (Err fault) after same kept first = tt
retold (Ok None) after same kept first = (same ∙ first.0, first.1 ∙ sym kept)
retold (Ok (Some end)) after same kept first = ap (λ matches. slice_get matches 0) same ∙ first

-- the matches of all items are those of the ones that are left
pub from_left : (subject : List ℕ) (items left rest : List Item) (item shown : Item) (start at : ℕ) (captures before : List Capture) → ends subject left at captures ≡ ends subject items start before → left ≡ item ∷ rest → item ≡ shown → ends subject items start before ≡ ends subject (shown ∷ rest) at captures
from_left subject items left rest item shown start at captures before same split is =
    sym same ∙ ap (λ left. ends subject left at captures) (split ∙ ap (λ item. item ∷ rest) is)

module _ (behind : ℕ → List Found) (before after : List Capture) where
  -- the last of some places that are tried
  split_last : (first tries : ℕ) → 0 < tries → flat_map behind (reverse (range_with_len first tries)) ≡ behind (first + (tries - 1)) ++ flat_map behind (reverse (range_with_len first (tries - 1)))
  split_last first tries some =
      let one_more : tries ≡ (tries - 1) + 1 = omega arith in
      ap (λ n. flat_map behind (reverse (range_with_len first n))) one_more ∙ ap (flat_map behind) (reverse-range-more first (tries - 1))

  split_first : (place more : ℕ) → flat_map behind (range_with_len place (more + 1)) ≡ behind place ++ flat_map behind (range_with_len (place + 1) more)
  split_first place more = ap (λ n. flat_map behind (range_with_len place n)) (add-one more)

  found_first : (end : Option ℕ) (xs ys : List Found) → is_some end ≡ true → IsFirst xs end before after → IsFirst (xs ++ ys) end before after
  found_first None xs ys some first = cc
  found_first (Some end) xs ys some first = first-append _ xs ys first

  none_first : (end : Option ℕ) (xs ys : List Found) → is_some end ≡ false → IsFirst xs end before after → (xs ++ ys ≡ ys) × (after ≡ before)
  none_first None xs ys none first = (ap (λ xs. xs ++ ys) first.0, first.1)
  none_first (Some end) xs ys none first = cc

  same_first : (end : Option ℕ) {xs ys : List Found} → ys ≡ xs → IsFirst xs end before after → IsFirst ys end before after
  same_first None same first = (same ∙ first.0, first.1)
  same_first (Some end) same first = ap (λ xs. slice_get xs 0) same ∙ first

  -- the longest try matches
  pub longest_found : (first tries : ℕ) (end : Option ℕ) {whole : List Found} → 0 < tries → flat_map behind (reverse (range_with_len first tries)) ≡ whole → is_some end ≡ true → IsFirst (behind (first + (tries - 1))) end before after → IsFirst whole end before after
  longest_found first tries end some same holds is =
      same_first end (sym same ∙ split_last first tries some) (found_first end _ _ holds is)

  -- it does not, and the shorter ones are left
  pub longest_more : (first tries : ℕ) (end : Option ℕ) {whole : List Found} → 0 < tries → flat_map behind (reverse (range_with_len first tries)) ≡ whole → is_some end ≡ false → IsFirst (behind (first + (tries - 1))) end before after → (after ≡ before) × (flat_map behind (reverse (range_with_len first (tries - 1))) ≡ whole)
  longest_more first tries end some same fails is =
      let none = none_first end _ (flat_map behind (reverse (range_with_len first (tries - 1)))) fails is in
      (none.1, sym none.0 ∙ sym (split_last first tries some) ∙ same)

  -- the shortest try does not match, and the longer ones are left
  pub shortest_more : (place run more : ℕ) (end : Option ℕ) {whole : List Found} → run ≡ 1 + more → flat_map behind (range_with_len place (run + 1)) ≡ whole → is_some end ≡ false → IsFirst (behind place) end before after → (after ≡ before) × (flat_map behind (range_with_len (place + 1) (more + 1)) ≡ whole)
  shortest_more place run more end longer same fails is =
      let none = none_first end _ (flat_map behind (range_with_len (place + 1) (more + 1))) fails is in
      let one_more : run + 1 ≡ (more + 1) + 1 = omega (arith, longer) in
      (none.1, sym none.0 ∙ sym (split_first place (more + 1)) ∙ ap (λ n. flat_map behind (range_with_len place n)) (sym one_more) ∙ same)

  -- the shortest try does not match, and there is no longer one
  pub shortest_none : (place run : ℕ) (end : Option ℕ) {whole : List Found} → run ≡ 0 → flat_map behind (range_with_len place (run + 1)) ≡ whole → is_some end ≡ false → IsFirst (behind place) end before after → IsFirst whole None before after
  shortest_none place run end over same fails is =
      let none = none_first end _ (flat_map behind (range_with_len (place + 1) 0)) fails is in
      let one : run + 1 ≡ 0 + 1 = omega (arith, over) in
      (sym same ∙ ap (λ n. flat_map behind (range_with_len place n)) one ∙ none.0, none.1)

-- how many places `?` tries
pub optional_tries : (class : Class) (subject : List ℕ) (at tries : ℕ) → ((is_class_at class subject at ≡ true) × (tries ≡ 2)) ⊎ ((is_class_at class subject at ≡ false) × (tries ≡ 1)) → min (run_of class (drop at subject)) 1 + 1 ≡ tries
optional_tries class subject at tries (inl holds) = omega (arith, run_more class subject at holds.0, holds.1)
optional_tries class subject at tries (inr fails) = omega (arith, run_none class subject at fails.0, fails.1)

-- Captures that end.

pub ended-text : (captures : List Capture) (number start end at : ℕ) → slice_get captures number ≡ Some (Text start end) → ended captures number at ≡ set captures number (Text start at)
ended-text [] number start end at is = refl
ended-text (Text s e ∷ captures) zero start end at is = let same : s ≡ start = cc in ap (λ n. Text n at ∷ captures) same
ended-text (Position p ∷ captures) zero start end at is = cc
ended-text (capture ∷ captures) (suc number) start end at is = ap (λ rest. capture ∷ rest) (ended-text captures number start end at is)

pub ended-position : (captures : List Capture) (number place at : ℕ) → slice_get captures number ≡ Some (Position place) → ended captures number at ≡ captures
ended-position [] number place at is = refl
ended-position (Text s e ∷ captures) zero place at is = cc
ended-position (Position p ∷ captures) zero place at is = refl
ended-position (capture ∷ captures) (suc number) place at is = ap (λ rest. capture ∷ rest) (ended-position captures number place at is)

pub ended-none : (captures : List Capture) (number at : ℕ) → slice_get captures number ≡ None → ended captures number at ≡ captures
ended-none [] number at is = refl
ended-none (Text s e ∷ captures) zero at is = cc
ended-none (Position p ∷ captures) zero at is = refl
ended-none (capture ∷ captures) (suc number) at is = ap (λ rest. capture ∷ rest) (ended-none captures number at is)

-- the capture as it was is put back
pub put_back : (captures : List Capture) (number : ℕ) (ended capture : Capture) → slice_get captures number ≡ Some capture → set (set captures number ended) number capture ≡ captures
put_back captures number ended capture is =
    rw (set-set captures number ended capture) (subst (λ c. set captures number c ≡ captures) (get_or_from_slice_get captures number capture capture is) (set-get_or captures number capture))

-- nothing is found, and the captures are as before again
pub given_up : (found : Option ℕ) {told matches : List Found} (was new : List Capture) {before after : List Capture} → matches ≡ told → (new ≡ was → after ≡ before) → is_some found ≡ false → IsFirst told found was new → IsFirst matches found before after
given_up None was new same back none first = (same ∙ first.0, back first.1)
given_up (Some end) was new same back none first = cc

-- what was found is found, whatever was before
pub kept_found : (found : Option ℕ) {told matches : List Found} (was before new : List Capture) → matches ≡ told → is_some found ≡ true → IsFirst told found was new → IsFirst matches found before new
kept_found None was before new same some first = cc
kept_found (Some end) was before new same some first = ap (λ matches. slice_get matches 0) same ∙ first

-- what is found from a later place on is found from a place before it
pub inside_later : {E : Type 0} (r : Result (Option ℕ) E) (length at next : ℕ) (captures : List Capture) → at ≤ next → IfOk r (λ end. IfSome end (λ place. IsInside length next place captures)) → IfOk r (λ end. IfSome end (λ place. IsInside length at place captures))
inside_later (Err fault) length at next captures order inside = tt
inside_later (Ok None) length at next captures order inside = tt
inside_later (Ok (Some place)) length at next captures order inside = (omega (arith, inside.0, order), inside.1, inside.2)
