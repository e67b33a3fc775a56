-- Pending registers: the last one from a register on, the list without it, and those below one.
use Rattle.std.proofs.Common.{◌≡◌, ℕ, zero, suc, ◌+◌, ◌<◌, ◌≤◌, Bool, true, false, List, [], ◌∷◌, ◌++◌, length, take, drop, Option, Some, None, refl, ap, sym, ◌∙◌, arith, le_refl}
use Rattle.std.specs.Prelude.{cond, filter, nat_le, nat_lt, slice_get, slice_set}
use Rattle.std.proofs.lemmas.Bool.Decides.{nat_tests}
use Rattle.list_laws.proofs.Items.{some_same}
use Rattle.machine_core.specs.Text.{last_pending, without_pending, is_there}
use Rattle.lua_stack.specs.View.{part, IsLastFrom}
use Rattle.lua_stack.proofs.Parts.{drop_set, drop_there, length_set, part_kept, part_next, get_set, take_set}

at_least : (r q : ℕ) → r ≤ q → nat_le r q ≡ true
at_least r q l = grind (arith, nat_tests)

less : (r q : ℕ) → q < r → nat_le r q ≡ false
less r q l = grind (arith, nat_tests)

-- one more that is below
pub later_less : (r at q : ℕ) (marks : List ℕ) → slice_get marks at ≡ Some q → q < r → last_pending r (drop (suc at) marks) ≡ None → last_pending r (drop at marks) ≡ None
later_less r at q [] g l n = absurd (cc)
later_less r zero q (x ∷ marks) g l n =
    ap (λ o. elim o [ Some p ↦ Some p | None ↦ cond (nat_le r x) (Some x) None ]) n
    ∙ ap (λ t. cond t (Some x) None) (ap (nat_le r) (some_same x q g) ∙ less r q l)
later_less r (suc at) q (x ∷ marks) g l n = later_less r at q marks g l n

pub last_is_there : (r at q : ℕ) (marks : List ℕ) → slice_get marks at ≡ Some q → r ≤ q → last_pending r (drop (suc at) marks) ≡ None → last_pending r marks ≡ Some q
last_is_there r at q [] g l n = absurd (cc)
last_is_there r zero q (x ∷ marks) g l n =
    ap (λ o. elim o [ Some p ↦ Some p | None ↦ cond (nat_le r x) (Some x) None ]) n
    ∙ ap (λ t. cond t (Some x) None) (ap (nat_le r) (some_same x q g) ∙ at_least r q l) ∙ ap Some (some_same x q g)
last_is_there r (suc at) q (x ∷ marks) g l n =
    ap (λ o. elim o [ Some p ↦ Some p | None ↦ cond (nat_le r x) (Some x) None ]) (last_is_there r at q marks g l n)

pub without_is : (r at q : ℕ) (marks : List ℕ) → slice_get marks at ≡ Some q → r ≤ q → last_pending r (drop (suc at) marks) ≡ None → without_pending r marks ≡ take at marks ++ drop (suc at) marks
without_is r at q [] g l n = absurd (cc)
without_is r zero q (x ∷ marks) g l n =
    ap (λ o. cond (is_there o) (x ∷ without_pending r marks) (cond (nat_le r x) marks (x ∷ marks))) n
    ∙ ap (λ t. cond t marks (x ∷ marks)) (ap (nat_le r) (some_same x q g) ∙ at_least r q l)
without_is r (suc at) q (x ∷ marks) g l n =
    ap (λ o. cond (is_there o) (x ∷ without_pending r marks) (cond (nat_le r x) marks (x ∷ marks))) (last_is_there r at q marks g l n)
    ∙ ap (λ l. x ∷ l) (without_is r at q marks g l n)

pub without_none : (r : ℕ) (marks : List ℕ) → last_pending r marks ≡ None → without_pending r marks ≡ marks
without_none r [] n = refl
without_none r (x ∷ marks) n = by (last_pending r marks) refl
  where
    some_none : (p : ℕ) → Some p ≡ None → ⊥
    some_none p e = cc

    last : (b : Bool) → nat_le r x ≡ b → last_pending r marks ≡ None → without_pending r (x ∷ marks) ≡ x ∷ marks
    last false t e =
        ap (λ o. cond (is_there o) (x ∷ without_pending r marks) (cond (nat_le r x) marks (x ∷ marks))) e ∙ ap (λ t. cond t marks (x ∷ marks)) t
    last true t e =
        absurd (some_none x (sym (ap (λ o. elim o [ Some p ↦ Some p | None ↦ cond (nat_le r x) (Some x) None ]) e ∙ ap (λ t. cond t (Some x) None) t) ∙ n))

    by : (o : Option ℕ) → last_pending r marks ≡ o → without_pending r (x ∷ marks) ≡ x ∷ marks
    by None e = last (nat_le r x) refl e
    by (Some p) e = absurd (some_none p (sym (ap (λ o. elim o [ Some p ↦ Some p | None ↦ cond (nat_le r x) (Some x) None ]) e) ∙ n))

-- the part that a frame has, with one more at its end
pub part_marked : (b n m at r : ℕ) (ps : List ℕ) → m ≡ suc n → at ≡ b + n → at ≤ length ps → part b m (take at ps ++ r ∷ []) ≡ part b n ps ++ r ∷ []
part_marked zero n m at r ps e p l =
    let q : at ≡ n = omega (arith, p) in
    ap (λ m. take m (take at ps ++ r ∷ [])) e ∙ ap (λ at. take (suc n) (take at ps ++ r ∷ [])) q ∙ first n ps (omega (arith, q, l))
  where
    first : (n : ℕ) (ps : List ℕ) → n ≤ length ps → take (suc n) (take n ps ++ r ∷ []) ≡ take n ps ++ r ∷ []
    first zero ps l = refl
    first (suc n) [] l = absurd (omega arith)
    first (suc n) (p ∷ ps) l = ap (λ l. p ∷ l) (first n ps (omega arith))
part_marked (suc b) n m zero r ps e p l = absurd (omega (arith, p))
part_marked (suc b) n m (suc at) r [] e p l = absurd (omega arith)
part_marked (suc b) n m (suc at) r (q ∷ ps) e p l = part_marked b n m at r ps e (omega (arith, p)) (omega arith)

-- without one of its own
pub part_without : (b n m at to : ℕ) (ps : List ℕ) → n ≡ suc m → to ≡ b + at → b + n ≤ length ps → at < n → part b m (take to ps ++ drop (suc to) ps) ≡ take at (part b n ps) ++ drop (suc at) (part b n ps)
part_without zero n m at to ps e p l a =
    let q : to ≡ at = omega (arith, p) in
    ap (λ to. take m (take to ps ++ drop (suc to) ps)) q ∙ first m at ps (omega (arith, e, l)) (omega (arith, e, a)) ∙ ap (λ n. take at (take n ps) ++ drop (suc at) (take n ps)) (sym e)
  where
    first : (m at : ℕ) (ps : List ℕ) → suc m ≤ length ps → at ≤ m → take m (take at ps ++ drop (suc at) ps) ≡ take at (take (suc m) ps) ++ drop (suc at) (take (suc m) ps)
    first m at [] l a = absurd (omega arith)
    first m zero (p ∷ ps) l a = refl
    first zero (suc at) (p ∷ ps) l a = absurd (omega arith)
    first (suc m) (suc at) (p ∷ ps) l a = ap (λ l. p ∷ l) (first m at ps (omega arith) (omega arith))
part_without (suc b) n m at zero ps e p l a = absurd (omega (arith, p))
part_without (suc b) n m at (suc to) [] e p l a = absurd (omega arith)
part_without (suc b) n m at (suc to) (q ∷ ps) e p l a = part_without b n m at to ps e (omega (arith, p)) (omega arith) a

-- the loops

pub none_later : (r n : ℕ) (marks : List ℕ) → n ≡ length marks → last_pending r (drop n marks) ≡ None
none_later r n marks e = ap (λ n. last_pending r (drop n marks)) e ∙ ap (last_pending r) (nothing marks)
  where
    nothing : (marks : List ℕ) → drop (length marks) marks ≡ []
    nothing [] = refl
    nothing (q ∷ marks) = nothing marks

pub one_less : (r n m q : ℕ) (marks : List ℕ) → suc n ≡ m → slice_get marks n ≡ Some q → q < r → last_pending r (drop m marks) ≡ None → last_pending r (drop n marks) ≡ None
one_less r n m q marks e g l h = later_less r n q marks g l (ap (λ m. last_pending r (drop m marks)) e ∙ h)

pub is_last : (r n m q : ℕ) (marks : List ℕ) → suc n ≡ m → slice_get marks n ≡ Some q → r ≤ q → last_pending r (drop m marks) ≡ None → IsLastFrom r marks n
is_last r n m q marks e g l h = record { mark = q; is = g; at_least = l; later = ap (λ m. last_pending r (drop m marks)) e ∙ h }

pub none_at_all : (r n : ℕ) (marks : List ℕ) → n ≡ 0 → last_pending r (drop n marks) ≡ None → last_pending r marks ≡ None
none_at_all r n marks e h = ap (λ n. last_pending r (drop n marks)) (sym e) ∙ h

pub last_is : (r at q : ℕ) (marks : List ℕ) → IsLastFrom r marks at → slice_get marks at ≡ Some q → Some q ≡ last_pending r marks
last_is r at q marks h g = sym (last_is_there r at h.mark marks h.is h.at_least h.later ∙ sym h.is ∙ g)

-- the registers below one, of those that were looked at so far
pub record IsKeptSoFar (register from k kept : ℕ) (old new : List ℕ) : Type 0 where
  pub those : part from kept new ≡ filter (λ q. nat_lt q register) (part from k old)
  pub others : drop (from + k) new ≡ drop (from + k) old
  pub front : take from new ≡ take from old
  pub size : length new ≡ length old
  pub at_most : kept ≤ k

filter_more : (p : ℕ → Bool) (xs : List ℕ) (v : ℕ) (b : Bool) → p v ≡ b → filter p (xs ++ v ∷ []) ≡ filter p xs ++ cond b (v ∷ []) []
filter_more p [] v b e = ap (λ b. cond b (v ∷ []) []) e
filter_more p (x ∷ xs) v b e = by (filter_more p xs v b e) (p x)
  where
    by : filter p (xs ++ v ∷ []) ≡ filter p xs ++ cond b (v ∷ []) [] → (c : Bool) → cond c (x ∷ filter p (xs ++ v ∷ [])) (filter p (xs ++ v ∷ [])) ≡ cond c (x ∷ filter p xs) (filter p xs) ++ cond b (v ∷ []) []
    by h true = ap (λ l. x ∷ l) h
    by h false = h

append_none : (xs : List ℕ) → xs ++ [] ≡ xs
append_none [] = refl
append_none (x ∷ xs) = ap (λ l. x ∷ l) (append_none xs)

pub kept_none : (register from : ℕ) (old : List ℕ) → IsKeptSoFar register from 0 0 old old
kept_none register from old = record { those = refl; others = refl; front = refl; size = refl; at_most = omega arith }

module _ (register from k kept v : ℕ) (old new : List ℕ) (h : IsKeptSoFar register from k kept old new) (g : slice_get new (from + k) ≡ Some v) where
  was : slice_get old (from + k) ≡ Some v
  was = get_dropped old (from + k) v (drop (suc (from + k)) new) (sym h.others ∙ drop_there new (from + k) v g)
    where
      get_dropped : (xs : List ℕ) (n v : ℕ) (ys : List ℕ) → drop n xs ≡ v ∷ ys → slice_get xs n ≡ Some v
      get_dropped [] zero v ys e = absurd (cc)
      get_dropped [] (suc n) v ys e = absurd (cc)
      get_dropped (x ∷ xs) zero v ys e = ap (λ l. slice_get l 0) e
      get_dropped (x ∷ xs) (suc n) v ys e = get_dropped xs n v ys e

  rest_same : drop (from + (k + 1)) new ≡ drop (from + (k + 1)) old
  rest_same =
      let e : from + (k + 1) ≡ suc (from + k) = omega arith in
      ap (λ n. drop n new) e ∙ tail_same (sym (drop_there new (from + k) v g) ∙ h.others ∙ drop_there old (from + k) v was) ∙ ap (λ n. drop n old) (sym e)
    where
      tail_same : {xs ys : List ℕ} → v ∷ xs ≡ v ∷ ys → xs ≡ ys
      tail_same e = ap (drop 1) e

  more : (b : Bool) → nat_lt v register ≡ b → filter (λ q. nat_lt q register) (part from (k + 1) old) ≡ filter (λ q. nat_lt q register) (part from k old) ++ cond b (v ∷ []) []
  more b e = ap (filter (λ q. nat_lt q register)) (part_next from k (k + 1) (from + k) old v (omega arith) refl was) ∙ filter_more (λ q. nat_lt q register) (part from k old) v b e

  pub kept_less : (v < register → ⊥) → IsKeptSoFar register from (k + 1) kept old new
  kept_less l =
      let f : nat_lt v register ≡ false = by (nat_lt v register) refl in
      record { those = h.those ∙ sym (more false f ∙ append_none _); others = rest_same; front = h.front; size = h.size; at_most = (let m = h.at_most in omega arith) }
    where
      by : (b : Bool) → nat_lt v register ≡ b → nat_lt v register ≡ false
      by false e = e
      by true e = absurd (l (grind (arith, nat_tests)))

  pub kept_more : v < register → from + k < length old → IsKeptSoFar register from (k + 1) (kept + 1) old (slice_set new (from + kept) v)
  kept_more l room =
      let t : nat_lt v register ≡ true = grind (arith, nat_tests) in
      let m = h.at_most in
      let n = h.size in
      record {
        those = part_next from kept (kept + 1) (from + kept) (slice_set new (from + kept) v) v (omega arith) refl (get_set new (from + kept) v (omega (arith, m, n, room)))
            ∙ ap (λ l. l ++ v ∷ []) (part_kept from kept (from + kept) new (slice_set new (from + kept) v) (le_refl _) (take_set new (from + kept) (from + kept) v (le_refl _)) ∙ h.those) ∙ sym (more true t);
        others = drop_set new (from + (k + 1)) (from + kept) v (omega (arith, m)) ∙ rest_same;
        front = take_set new from (from + kept) v (omega arith) ∙ h.front;
        size = length_set new (from + kept) v ∙ h.size;
        at_most = omega (arith, m);
      }
