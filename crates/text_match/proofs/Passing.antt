-- The first match at one of some places, where places are passed over.
use Rattle.std.proofs.Common.{◌≡◌, ℕ, zero, suc, ◌+◌, ◌-◌, ◌<◌, ◌≤◌, List, Option, Some, None, sym, ap, subst, ◌∙◌, arith}
use Rattle.lua_pattern.specs.declared.item.Item.{Item}
use Rattle.lua_pattern.specs.Answer.{first_found}
use Rattle.lua_pattern.specs.Begins.{IsPassed}
use Rattle.library_rows.specs.Searches.{Hit, counts, first_hit}

abbrev or_later : Option ℕ → List ℕ → List Item → ℕ → ℕ → Option Hit → Option Hit
or_later barred s items at left o = elim o as (λ _. Option Hit) [ Some hit ↦ Some hit | None ↦ first_hit barred s items (at + 1) left ]

-- what counts at the first place is the first match
pub found_here : (barred : Option ℕ) (s : List ℕ) (items : List Item) (at left : ℕ) (hit : Hit) → Some hit ≡ counts barred at (first_found s items at) → first_hit barred s items at left ≡ Some hit
found_here barred s items at zero hit here = sym here
found_here barred s items at (suc left) hit here = ap (or_later barred s items at left) (sym here)

-- nothing counts at the first place
pub none_here : (barred : Option ℕ) (s : List ℕ) (items : List Item) (at left : ℕ) → None ≡ counts barred at (first_found s items at) → 0 < left → first_hit barred s items at left ≡ first_hit barred s items (at + 1) (left - 1)
none_here barred s items at zero none some = absurd (omega (arith, some))
none_here barred s items at (suc left) none some =
    let less : left ≡ suc left - 1 = omega arith in
    ap (or_later barred s items at left) (sym none) ∙ ap (first_hit barred s items (at + 1)) less

-- so many places at which no match begins
passed_places : (n : ℕ) (barred : Option ℕ) (s : List ℕ) (items : List Item) (at left : ℕ) → n ≤ left → IsPassed s items at (at + n) → first_hit barred s items at left ≡ first_hit barred s items (at + n) (left - n)
passed_places zero barred s items at left within passed =
    let here : at ≡ at + zero = omega arith in
    let all : left ≡ left - zero = omega arith in
    ap (λ p. first_hit barred s items p left) here ∙ ap (first_hit barred s items (at + zero)) all
passed_places (suc n) barred s items at left within passed =
    let none : None ≡ counts barred at (first_found s items at) = sym (ap (counts barred at) (passed.none at (omega arith) (omega arith))) in
    let moved : at + 1 + n ≡ at + suc n = omega arith in
    let fewer : left - 1 - n ≡ left - suc n = omega arith in
    let rest : IsPassed s items (at + 1) (at + 1 + n) = record { none = λ place from before. passed.none place (omega (arith, from)) (omega (arith, before)) } in
    none_here barred s items at left none (omega (arith, within)) ∙ passed_places n barred s items (at + 1) (left - 1) (omega (arith, within)) rest
    ∙ ap (λ p. first_hit barred s items p (left - 1 - n)) moved ∙ ap (first_hit barred s items (at + suc n)) fewer

-- the search goes on at a later place
pub passed_to : (barred : Option ℕ) (s : List ℕ) (items : List Item) (at left start : ℕ) → at ≤ start → start ≤ at + left → IsPassed s items at start → first_hit barred s items at left ≡ first_hit barred s items start (at + left - start)
passed_to barred s items at left start from within passed = by (start - at) (omega (arith, from))
  where
    by : (n : ℕ) → at + n ≡ start → first_hit barred s items at left ≡ first_hit barred s items start (at + left - start)
    by n is =
        let rest : left - n ≡ at + left - start = omega (arith, is) in
        passed_places n barred s items at left (omega (arith, is, within)) (subst (IsPassed s items at) (sym is) passed)
        ∙ ap (λ p. first_hit barred s items p (left - n)) is ∙ ap (first_hit barred s items start) rest

-- one round of the search: nothing counts at a place, and the next one is further on
pub next_round : (barred : Option ℕ) (s : List ℕ) (items : List Item) (at left place more next : ℕ) → first_hit barred s items at left ≡ first_hit barred s items place more → None ≡ counts barred place (first_found s items place) → 0 < more →
    place + 1 ≤ next → next ≤ place + 1 + (more - 1) → IsPassed s items (place + 1) next → first_hit barred s items at left ≡ first_hit barred s items next (more - (next - place))
next_round barred s items at left place more next same none some from within passed =
    let rest : place + 1 + (more - 1) - next ≡ more - (next - place) = omega (arith, some, from, within) in
    same ∙ none_here barred s items place more none some ∙ passed_to barred s items (place + 1) (more - 1) next from within passed ∙ ap (first_hit barred s items next) rest
