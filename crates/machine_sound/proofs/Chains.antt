-- The chain of coroutines, with one more at its end and with one less.
use Rattle.std.proofs.Common.{ℕ, suc, ◌+◌, ◌-◌, ◌<◌, ◌≤◌, ◌≡◌, ◌⊎◌, inl, inr, ⊎_elim, List, [], ◌∷◌, ◌++◌, Option, Some, subst, sym, ap, ◌∙◌, length, arith, length-append}
use Rattle.std.specs.Prelude.{slice_get, slice_set}
use Rattle.std.proofs.lemmas.Bool.{cases_eq}
use Rattle.int_core.specs.Value.{last}
use Rattle.int_core.specs.Limits.{greatest_resumes}
use Rattle.machine_sound.specs.Sound.{Standing, runs, resumed_another, apart, ChainOk}
use Rattle.machine_sound.proofs.Lists.{get_set_same, get_set_other, get_push_old, get_push_new, push_cases, get_within, get_front, some_is}

pub last_get : (ch : List ℕ) (r : ℕ) → last ch ≡ Some r → (slice_get ch (length ch - 1) ≡ Some r) × (0 < length ch)
last_get [] r h = absurd (cc)
last_get (x ∷ xs) r h = let e : length (x ∷ xs) - 1 ≡ length xs = omega arith in (rw e h, omega arith)

-- none, where no coroutine runs or resumed another one
pub chain_none : (main : Option ℕ) (st : List Standing) → ((co : ℕ) → slice_get st co ≡ Some runs → ⊥) → ((co : ℕ) → slice_get st co ≡ Some resumed_another → ⊥) → ChainOk main st []
chain_none main st none_runs none_waits = record {
  first = λ co e. absurd (cc);
  last_runs = λ i co e l. absurd (cc);
  before = λ i co e l. absurd (cc);
  running_in = λ co e. absurd (none_runs co e);
  normal_in = λ co e. absurd (none_waits co e);
  once = λ i j co e l. absurd (cc);
  bound = omega arith;
}

-- one more, which was in none of its places
module _ (main : Option ℕ) (st : List Standing) (ch : List ℕ) (r n : ℕ) (h : ChainOk main st ch) (l : last ch ≡ Some r) (a : slice_get st r ≡ Some runs) (b : slice_get st n ≡ Some apart) (k : length ch ≤ greatest_resumes) where
  abbrev new : List Standing
  new = slice_set (slice_set st r resumed_another) n runs

  differ : r ≡ n → ⊥
  differ e = let c : Some runs ≡ Some apart = sym a ∙ ap (slice_get st) e ∙ b in absurd (cc)

  absent : (i : ℕ) → slice_get ch i ≡ Some n → ⊥
  absent i e =
      let w = get_within ch i n e in
      ⊎_elim (λ (q : suc i ≡ length ch). let c : Some runs ≡ Some apart = sym (h.last_runs i n e q) ∙ b in absurd (cc)) (λ q. let c : Some resumed_another ≡ Some apart = sym (h.before i n e (omega arith)) ∙ b in absurd (cc)) (cases_eq (suc i) (length ch))

  at_n : slice_get new n ≡ Some runs
  at_n = get_set_same (slice_set st r resumed_another) n apart runs (get_set_other st r n resumed_another differ ∙ b)

  at_r : slice_get new r ≡ Some resumed_another
  at_r = get_set_other (slice_set st r resumed_another) n r runs (λ e. differ (sym e)) ∙ get_set_same st r runs resumed_another a

  at_other : (co : ℕ) → (co ≡ r → ⊥) → (co ≡ n → ⊥) → slice_get new co ≡ slice_get st co
  at_other co p q = get_set_other (slice_set st r resumed_another) n co runs (λ e. q (sym e)) ∙ get_set_other st r co resumed_another (λ e. p (sym e))

  long : length (ch ++ n ∷ []) ≡ length ch + 1
  long = length-append ch (n ∷ [])

  now_before : (i co : ℕ) → slice_get ch i ≡ Some co → slice_get new co ≡ Some resumed_another
  now_before i co e = ⊎_elim last' before' (cases_eq (suc i) (length ch))
    where
      last' : suc i ≡ length ch → slice_get (slice_set (slice_set st r resumed_another) n runs) co ≡ Some resumed_another
      last' q =
          let f : i ≡ length ch - 1 = omega arith in
          let g : co ≡ r = some_is (sym (ap (slice_get ch) f) ∙ e) (last_get ch r l).0 in
          subst (λ co. slice_get (slice_set (slice_set st r resumed_another) n runs) co ≡ Some resumed_another) (sym g) at_r

      before' : (suc i ≡ length ch → ⊥) → slice_get (slice_set (slice_set st r resumed_another) n runs) co ≡ Some resumed_another
      before' q =
          let w = get_within ch i co e in
          let s = h.before i co e (omega arith) in
          at_other co (λ p. let c : Some resumed_another ≡ Some runs = sym s ∙ ap (slice_get st) p ∙ a in absurd (cc)) (λ p. absent i (e ∙ ap Some p)) ∙ s

  pub chain_forward : ChainOk main new (ch ++ n ∷ [])
  chain_forward = record {
    first = λ co e. h.first co (sym (get_front ch (n ∷ []) 0 (last_get ch r l).1) ∙ e);
    last_runs = λ i co e q. ⊎_elim (λ (x : slice_get ch i ≡ Some co). absurd (let w = get_within ch i co x in let m = long in omega arith)) (λ x. subst (λ co. slice_get new co ≡ Some runs) x.1 at_n) (push_cases ch n co i e);
    before = λ i co e q. ⊎_elim (λ (x : slice_get ch i ≡ Some co). now_before i co x) (λ x. absurd (let w = x.0 in let m = long in omega arith)) (push_cases ch n co i e);
    running_in = λ co x. place co (inl x);
    normal_in = λ co x. place co (inr x);
    once = only;
    bound = let m = long in omega arith;
  }
    where
      place : (co : ℕ) → (slice_get (slice_set (slice_set st r resumed_another) n runs) co ≡ Some runs) ⊎ (slice_get (slice_set (slice_set st r resumed_another) n runs) co ≡ Some resumed_another) → (i : ℕ) × (slice_get (ch ++ n ∷ []) i ≡ Some co)
      place co x = ⊎_elim (λ (p : co ≡ n). (length ch, get_push_new ch n ∙ ap Some (sym p)))
          (λ p. ⊎_elim (λ (q : co ≡ r). (length ch - 1, get_push_old ch (n ∷ []) (length ch - 1) co ((last_get ch r l).0 ∙ ap Some (sym q))))
          (λ q. ⊎_elim
          (λ z. let y = h.running_in co (sym (at_other co q p) ∙ z) in (y.0, get_push_old ch (n ∷ []) y.0 co y.1))
          (λ z. let y = h.normal_in co (sym (at_other co q p) ∙ z) in (y.0, get_push_old ch (n ∷ []) y.0 co y.1)) x) (cases_eq co r)) (cases_eq co n)

      only : (i j co : ℕ) → slice_get (ch ++ n ∷ []) i ≡ Some co → slice_get (ch ++ n ∷ []) j ≡ Some co → i ≡ j
      only i j co x y = both (push_cases ch n co i x) (push_cases ch n co j y)
        where
          both : (slice_get ch i ≡ Some co) ⊎ ((i ≡ length ch) × (n ≡ co)) → (slice_get ch j ≡ Some co) ⊎ ((j ≡ length ch) × (n ≡ co)) → i ≡ j
          both (inl x) (inl y) = h.once i j co x y
          both (inl x) (inr y) = absurd (absent i (x ∙ ap Some (sym y.1)))
          both (inr x) (inl y) = absurd (absent j (y ∙ ap Some (sym x.1)))
          both (inr x) (inr y) = x.0 ∙ sym y.0

-- a new coroutine stands apart
pub chain_beside : (main : Option ℕ) (st : List Standing) (ch : List ℕ) → ChainOk main st ch → ChainOk main (st ++ apart ∷ []) ch
chain_beside main st ch h = record {
  first = h.first;
  last_runs = λ i co e q. get_push_old st (apart ∷ []) co runs (h.last_runs i co e q);
  before = λ i co e q. get_push_old st (apart ∷ []) co resumed_another (h.before i co e q);
  running_in = λ co x. ⊎_elim (λ (y : slice_get st co ≡ Some runs). h.running_in co y) (λ y. let c : apart ≡ runs = y.1 in absurd (cc)) (push_cases st apart runs co x);
  normal_in = λ co x. ⊎_elim (λ (y : slice_get st co ≡ Some resumed_another). h.normal_in co y) (λ y. let c : apart ≡ resumed_another = y.1 in absurd (cc)) (push_cases st apart resumed_another co x);
  once = h.once;
  bound = h.bound;
}

-- one less: the last one stands apart now
module _ (main : Option ℕ) (st : List Standing) (ch : List ℕ) (co : ℕ) (h : ChainOk main st (ch ++ co ∷ [])) where
  whole : length (ch ++ co ∷ []) ≡ length ch + 1
  whole = length-append ch (co ∷ [])

  pub ran : slice_get st co ≡ Some runs
  ran = h.last_runs (length ch) co (get_push_new ch co) (let m = whole in omega arith)

  gone : (i : ℕ) → slice_get ch i ≡ Some co → ⊥
  gone i e = let w = get_within ch i co e in let q = h.once i (length ch) co (get_push_old ch (co ∷ []) i co e) (get_push_new ch co) in omega arith

  was_before : (i x : ℕ) → slice_get ch i ≡ Some x → slice_get st x ≡ Some resumed_another
  was_before i x e = h.before i x (get_push_old ch (co ∷ []) i x e) (let w = get_within ch i x e in let m = whole in omega arith)

  -- who else runs
  no_other : (x : ℕ) → (x ≡ co → ⊥) → slice_get st x ≡ Some runs → ⊥
  no_other x p e =
      let y = h.running_in x e in
      ⊎_elim (λ (q : slice_get ch y.0 ≡ Some x). let c : Some runs ≡ Some resumed_another = sym e ∙ was_before y.0 x q in absurd (cc)) (λ q. absurd (p (sym q.1))) (push_cases ch co x y.0 y.1)

  within_front : (x : ℕ) → (x ≡ co → ⊥) → slice_get st x ≡ Some resumed_another → (i : ℕ) × (slice_get ch i ≡ Some x)
  within_front x p e =
      let y = h.normal_in x e in
      ⊎_elim (λ (q : slice_get ch y.0 ≡ Some x). (y.0, q)) (λ q. absurd (p (sym q.1))) (push_cases ch co x y.0 y.1)

  not_co : slice_get (slice_set st co apart) co ≡ Some apart
  not_co = get_set_same st co runs apart ran

  -- there is none left
  pub chain_empty : ch ≡ [] → ChainOk main (slice_set st co apart) []
  chain_empty e = chain_none main (slice_set st co apart)
      (λ x q. ⊎_elim
      (λ (p : x ≡ co). let c : Some apart ≡ Some runs = sym (ap (slice_get (slice_set st co apart)) p ∙ not_co) ∙ q in cc)
      (λ p. no_other x p (sym (get_set_other st co x apart (λ e. p (sym e))) ∙ q)) (cases_eq x co))
      (λ x q. ⊎_elim
      (λ (p : x ≡ co). let c : Some apart ≡ Some resumed_another = sym (ap (slice_get (slice_set st co apart)) p ∙ not_co) ∙ q in cc)
      (λ p. let y = within_front x p (sym (get_set_other st co x apart (λ e. p (sym e))) ∙ q) in let z : slice_get [] y.0 ≡ Some x = ap (λ l. slice_get l y.0) (sym e) ∙ y.1 in cc) (cases_eq x co))

  -- the one before it runs again
  module _ (r : ℕ) (l : last ch ≡ Some r) where
    abbrev back : List Standing
    back = slice_set (slice_set st co apart) r runs

    r_not_co : r ≡ co → ⊥
    r_not_co e = gone (length ch - 1) ((last_get ch r l).0 ∙ ap Some e)

    pub r_was : slice_get st r ≡ Some resumed_another
    r_was = was_before (length ch - 1) r (last_get ch r l).0

    back_r : slice_get back r ≡ Some runs
    back_r = get_set_same (slice_set st co apart) r resumed_another runs (get_set_other st co r apart (λ e. r_not_co (sym e)) ∙ r_was)

    back_co : slice_get back co ≡ Some apart
    back_co = get_set_other (slice_set st co apart) r co runs r_not_co ∙ not_co

    back_other : (x : ℕ) → (x ≡ co → ⊥) → (x ≡ r → ⊥) → slice_get back x ≡ slice_get st x
    back_other x p q = get_set_other (slice_set st co apart) r x runs (λ e. q (sym e)) ∙ get_set_other st co x apart (λ e. p (sym e))

    pub chain_back : ChainOk main back ch
    chain_back = record {
      first = λ x e. h.first x (get_push_old ch (co ∷ []) 0 x e);
      last_runs = λ i x e q. (let f : i ≡ length ch - 1 = omega arith in let g : x ≡ r = some_is (sym (ap (slice_get ch) f) ∙ e) (last_get ch r l).0 in subst (λ x. slice_get back x ≡ Some runs) (sym g) back_r);
      before = λ i x e q. back_other x (λ p. gone i (e ∙ ap Some p)) (λ p. let k = h.once i (length ch - 1) x (get_push_old ch (co ∷ []) i x e) (get_push_old ch (co ∷ []) (length ch - 1) x ((last_get ch r l).0 ∙ ap Some (sym p))) in omega arith) ∙ was_before i x e;
      running_in = λ x e. ⊎_elim (λ (p : x ≡ r). (length ch - 1, (last_get ch r l).0 ∙ ap Some (sym p)))
          (λ p. ⊎_elim (λ (q : x ≡ co). absurd (let c : Some apart ≡ Some runs = sym (ap (slice_get back) q ∙ back_co) ∙ e in cc)) (λ q. absurd (no_other x q (sym (back_other x q p) ∙ e))) (cases_eq x co)) (cases_eq x r);
      normal_in = λ x e. ⊎_elim (λ (p : x ≡ r). (length ch - 1, (last_get ch r l).0 ∙ ap Some (sym p)))
          (λ p. ⊎_elim (λ (q : x ≡ co). absurd (let c : Some apart ≡ Some resumed_another = sym (ap (slice_get back) q ∙ back_co) ∙ e in cc)) (λ q. within_front x q (sym (back_other x q p) ∙ e)) (cases_eq x co)) (cases_eq x r);
      once = λ i j x a b. h.once i j x (get_push_old ch (co ∷ []) i x a) (get_push_old ch (co ∷ []) j x b);
      bound = (let a = h.bound in let m = whole in omega arith);
    }
