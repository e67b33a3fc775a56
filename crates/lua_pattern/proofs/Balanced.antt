-- The search for the byte that closes a balanced text, one byte on.
use Rattle.std.proofs.Common.{◌≡◌, ◌≢◌, ℕ, zero, suc, ◌+◌, ◌-◌, ◌<◌, Bool, true, false, eqb, not, ◌&&◌, List, [], ◌∷◌, ◌++◌, length, get_or, None, Some, refl, ap, arith}
use Rattle.std.specs.Prelude.{find}
use Rattle.std.specs.List.{range_with_len}
use Rattle.std.proofs.lemmas.Bool.{eq-eqb, ne_eqb, and_from, and_left, and_right}
use Rattle.std.proofs.lemmas.List.Folds.{find-append}
use Rattle.std.proofs.lemmas.List.Sums.{count_by_more_yes, count_by_more_no}
use Rattle.lua_pattern.specs.Ways.{open_after}

-- a range in two parts
pub range-add : (a n m : ℕ) → range_with_len a (n + m) ≡ range_with_len a n ++ range_with_len (a + n) m
range-add a zero m = grind arith
range-add a (suc n) m =
    let one_on : suc n + m ≡ suc (n + m) = omega arith in
    let moved : a + suc n ≡ (a + 1) + n = omega arith in
    rw (one_on, moved) (ap (λ xs. a ∷ xs) (range-add (a + 1) n m))

-- a range with one number more
pub range-more : (a n : ℕ) → range_with_len a (n + 1) ≡ range_with_len a n ++ (a + n) ∷ []
range-more a n = range-add a n 1

pub find_more : (test : ℕ → Bool) (n : ℕ) → find test (range_with_len 1 n) ≡ None → test (n + 1) ≡ false → find test (range_with_len 1 (n + 1)) ≡ None
find_more test n none fails =
    let swapped : 1 + n ≡ n + 1 = omega arith in
    rw (range-more 1 n, find-append test (range_with_len 1 n) ((1 + n) ∷ []), none, swapped, fails) refl

pub find_first : (test : ℕ → Bool) (n m : ℕ) → find test (range_with_len 1 n) ≡ None → test (n + 1) ≡ true → n < m → find test (range_with_len 1 m) ≡ Some (n + 1)
find_first test n m none holds below =
    let parts : m ≡ n + suc (m - n - 1) = omega arith in
    let swapped : 1 + n ≡ n + 1 = omega arith in
    rw (parts, range-add 1 n (suc (m - n - 1)), find-append test (range_with_len 1 n) (range_with_len (1 + n) (suc (m - n - 1))), none, swapped, holds) refl

module _ (opening closing : ℕ) (text : List ℕ) (at : ℕ) (inside : at < length text) where
  -- a byte that closes takes one away
  pub open_closed : get_or text at 0 ≡ closing → open_after opening closing text (at + 1) ≡ open_after opening closing text at - 1
  open_closed same =
      let yes : eqb (get_or text at 0) closing ≡ true = eq-eqb _ _ same in
      let no : (eqb (get_or text at 0) opening && not (eqb (get_or text at 0) closing)) ≡ false = rw yes (and_right _ _ refl) in
      let down = count_by_more_yes (λ byte. eqb byte closing) text at 0 inside yes in
      let up = count_by_more_no (λ byte. eqb byte opening && not (eqb byte closing)) text at 0 inside no in
      omega (arith, down, up)

  -- a byte that opens and does not close adds one
  pub open_opened : get_or text at 0 ≢ closing → get_or text at 0 ≡ opening → 0 < open_after opening closing text at → open_after opening closing text (at + 1) ≡ open_after opening closing text at + 1
  open_opened other same positive =
      let no : eqb (get_or text at 0) closing ≡ false = ne_eqb _ _ other in
      let yes : (eqb (get_or text at 0) opening && not (eqb (get_or text at 0) closing)) ≡ true = and_from _ _ (eq-eqb _ _ same) (rw no refl) in
      let down = count_by_more_no (λ byte. eqb byte closing) text at 0 inside no in
      let up = count_by_more_yes (λ byte. eqb byte opening && not (eqb byte closing)) text at 0 inside yes in
      omega (arith, down, up, positive)

  -- another byte changes nothing
  pub open_kept : get_or text at 0 ≢ closing → get_or text at 0 ≢ opening → open_after opening closing text (at + 1) ≡ open_after opening closing text at
  open_kept other neither =
      let no : eqb (get_or text at 0) closing ≡ false = ne_eqb _ _ other in
      let none : (eqb (get_or text at 0) opening && not (eqb (get_or text at 0) closing)) ≡ false = and_left _ _ (ne_eqb _ _ neither) in
      let down = count_by_more_no (λ byte. eqb byte closing) text at 0 inside no in
      let up = count_by_more_no (λ byte. eqb byte opening && not (eqb byte closing)) text at 0 inside none in
      omega (arith, down, up)
