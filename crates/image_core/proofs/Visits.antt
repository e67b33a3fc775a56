-- The order of first visit is the same up to a renaming, and leaves nothing out.
use Rattle.std.proofs.Common.{ℕ, zero, suc, ◌+◌, ◌<◌, ◌≤◌, ◌≡◌, ⊎_elim, List, [], ◌∷◌, ◌++◌, Option, Some, None, refl, subst, sym, ap, ◌∙◌, length, Bool, true, false, cond, arith}
use Rattle.std.specs.Prelude.{slice_get, option_map}
use Rattle.std.proofs.lemmas.Bool.{cases_eq}
use Rattle.std.specs.List.{AllZip}
use Rattle.machine_alike.specs.Agree.{Each}
use Rattle.image_core.specs.Visit.{met, place, add_new, visit, order, IsMet, AreVisited}
use Rattle.machine_alike.proofs.Pairwise.{zip_get, zip_append, get_push_old, cond_rel}
use Rattle.std.proofs.Common.{append_assoc, get_or}
use Rattle.std.proofs.lemmas.List.{append-nil}
use Rattle.std.proofs.lemmas.Option.{slice_get_within, slice_get-get_or}

-- two worlds whose objects are paired one to one
module _ {A B : Type 0} (same : A → A → Bool) (same' : B → B → Bool) (R : A → B → Type 0) (one : (a b : A) (c d : B) → R a c → R b d → same a b ≡ same' c d) where
  pub met_same : (xs : List A) (ys : List B) (o : A) (q : B) → AllZip R xs ys → R o q → met same xs o ≡ met same' ys q
  met_same [] [] o q h r = refl
  met_same [] (y ∷ ys) o q h r = absurd h
  met_same (x ∷ xs) [] o q h r = absurd h
  met_same (x ∷ xs) (y ∷ ys) o q h r = cond_rel (λ a b. a ≡ b) (same x o) (same' y q) true (met same xs o) true (met same' ys q) (one x o y q h.0 r) refl (met_same xs ys o q h.1 r)

  pub place_same : (xs : List A) (ys : List B) (o : A) (q : B) → AllZip R xs ys → R o q → place same xs o ≡ place same' ys q
  place_same [] [] o q h r = refl
  place_same [] (y ∷ ys) o q h r = absurd h
  place_same (x ∷ xs) [] o q h r = absurd h
  place_same (x ∷ xs) (y ∷ ys) o q h r = cond_rel (λ a b. a ≡ b) (same x o) (same' y q) (Some 0) (option_map suc (place same xs o)) (Some 0) (option_map suc (place same' ys q)) (one x o y q h.0 r) refl (ap (option_map suc) (place_same xs ys o q h.1 r))

  add_new_same : (os : List A) (qs : List B) (xs : List A) (ys : List B) → AllZip R os qs → AllZip R xs ys → AllZip R (add_new same xs os) (add_new same' ys qs)
  add_new_same [] [] xs ys r h = h
  add_new_same [] (q ∷ qs) xs ys r h = absurd r
  add_new_same (o ∷ os) [] xs ys r h = absurd r
  add_new_same (o ∷ os) (q ∷ qs) xs ys r h =
      add_new_same os qs _ _ r.1 (cond_rel (AllZip R) (met same xs o) (met same' ys q) xs (xs ++ o ∷ []) ys (ys ++ q ∷ []) (met_same xs ys o q h r.0) h (zip_append R xs ys (o ∷ []) (q ∷ []) h (r.0, tt)))

  visit_same : (parts : A → List A) (parts' : B → List B) → ((a : A) (b : B) → R a b → AllZip R (parts a) (parts' b)) → (n k : ℕ) (xs : List A) (ys : List B) → AllZip R xs ys → AllZip R (visit same parts n k xs) (visit same' parts' n k ys)
  visit_same parts parts' f zero k xs ys h = h
  visit_same parts parts' f (suc n) k xs ys h = go (slice_get xs k) (slice_get ys k) (zip_get R xs ys k h) (λ a b r. visit_same parts parts' f n (suc k) (add_new same xs (parts a)) (add_new same' ys (parts' b)) (add_new_same (parts a) (parts' b) xs ys (f a b r) h))
    where
      go : (o : Option A) (q : Option B) → Each R o q → ((a : A) (b : B) → R a b → AllZip R (visit same parts n (suc k) (add_new same xs (parts a))) (visit same' parts' n (suc k) (add_new same' ys (parts' b))))
          → AllZip R (elim o [ None ↦ xs | Some o ↦ visit same parts n (suc k) (add_new same xs (parts o)) ]) (elim q [ None ↦ ys | Some o ↦ visit same' parts' n (suc k) (add_new same' ys (parts' o)) ])
      go None None r ih = h
      go None (Some b) r ih = absurd r
      go (Some a) None r ih = absurd r
      go (Some a) (Some b) r ih = ih a b r

  pub order_same : (parts : A → List A) (parts' : B → List B) → ((a : A) (b : B) → R a b → AllZip R (parts a) (parts' b)) → (n : ℕ) (xs : List A) (ys : List B) → AllZip R xs ys → AllZip R (order same parts n xs) (order same' parts' n ys)
  order_same parts parts' f n xs ys h = visit_same parts parts' f n 0 (add_new same [] xs) (add_new same' [] ys) (add_new_same xs ys [] [] h tt)

-- nothing is left out
pub none_past : {A : Type 0} (xs : List A) (k : ℕ) → slice_get xs k ≡ None → length xs ≤ k
none_past [] k h = omega arith
none_past (x ∷ xs) zero h = absurd (cc)
none_past (x ∷ xs) (suc k) h = let a = none_past xs k h in omega arith

module _ {A : Type 0} (same : A → A → Bool) (itself : (a : A) → same a a ≡ true) where
  met_grows : (xs ys : List A) (o : A) → IsMet same xs o → IsMet same (xs ++ ys) o
  met_grows [] ys o h = absurd (cc)
  met_grows (x ∷ xs) ys o h = go (same x o) h (met_grows xs ys o)
    where
      go : (b : Bool) → cond b true (met same xs o) ≡ true → (met same xs o ≡ true → met same (xs ++ ys) o ≡ true) → cond b true (met same (xs ++ ys) o) ≡ true
      go true h ih = refl
      go false h ih = ih h

  met_end : (xs : List A) (o : A) → IsMet same (xs ++ o ∷ []) o
  met_end [] o = rw (itself o) refl
  met_end (x ∷ xs) o = go (same x o) (met_end xs o)
    where
      go : (b : Bool) → met same (xs ++ o ∷ []) o ≡ true → cond b true (met same (xs ++ o ∷ []) o) ≡ true
      go true ih = refl
      go false ih = ih

  -- what was seen is a prefix of what is seen later
  abbrev pub IsPrefix : List A → List A → Type 0
  IsPrefix xs ys = (zs : List A) × (ys ≡ xs ++ zs)

  one_new : (xs : List A) (o : A) → IsPrefix xs (cond (met same xs o) xs (xs ++ o ∷ [])) × IsMet same (cond (met same xs o) xs (xs ++ o ∷ [])) o
  one_new xs o = go (met same xs o) refl
    where
      go : (b : Bool) → met same xs o ≡ b → IsPrefix xs (cond b xs (xs ++ o ∷ [])) × IsMet same (cond b xs (xs ++ o ∷ [])) o
      go true e = (([], sym (simp append-nil)), e)
      go false e = ((o ∷ [], refl), met_end xs o)

  front_trans : (xs ys zs : List A) → IsPrefix xs ys → IsPrefix ys zs → IsPrefix xs zs
  front_trans xs ys zs a b = (a.0 ++ b.0, b.1 ∙ (ap (λ u. u ++ b.0) a.1 ∙ simp append_assoc))

  front_met : (xs ys : List A) (o : A) → IsPrefix xs ys → IsMet same xs o → IsMet same ys o
  front_met xs ys o f h = subst (λ u. IsMet same u o) (sym f.1) (met_grows xs f.0 o h)

  pub front_get : (xs ys : List A) (i : ℕ) (o : A) → IsPrefix xs ys → slice_get xs i ≡ Some o → slice_get ys i ≡ Some o
  front_get xs ys i o f h = subst (λ u. slice_get u i ≡ Some o) (sym f.1) (get_push_old xs f.0 i o h)

  abbrev AllMet : List A → List A → Type 0
  AllMet os xs = (j : ℕ) (q : A) → slice_get os j ≡ Some q → IsMet same xs q

  add_all : (os xs : List A) → IsPrefix xs (add_new same xs os) × AllMet os (add_new same xs os)
  add_all [] xs = (([], sym (simp append-nil)), λ j q h. absurd (cc))
  add_all (o ∷ os) xs =
      let a = one_new xs o in
      let b = add_all os (cond (met same xs o) xs (xs ++ o ∷ [])) in
      (front_trans xs _ _ a.0 b.0, λ j q h. each j q h a b)
    where
      each : (j : ℕ) (q : A) → slice_get (o ∷ os) j ≡ Some q → IsPrefix xs (cond (met same xs o) xs (xs ++ o ∷ [])) × IsMet same (cond (met same xs o) xs (xs ++ o ∷ [])) o
          → IsPrefix (cond (met same xs o) xs (xs ++ o ∷ [])) (add_new same (cond (met same xs o) xs (xs ++ o ∷ [])) os) × AllMet os (add_new same (cond (met same xs o) xs (xs ++ o ∷ [])) os) → IsMet same (add_new same (cond (met same xs o) xs (xs ++ o ∷ [])) os) q
      each zero q h a b = let e : o ≡ q = cc in subst (IsMet same (add_new same (cond (met same xs o) xs (xs ++ o ∷ [])) os)) e (front_met _ _ o b.0 a.1)
      each (suc j) q h a b = b.1 j q h

  -- once no record is left, the parts of each are met
  pub visit_closed : (parts : A → List A) (n k : ℕ) (xs : List A) → AreVisited same parts k xs → slice_get (visit same parts n k xs) (n + k) ≡ None → (i : ℕ) (o q : A) (j : ℕ) → slice_get (visit same parts n k xs) i ≡ Some o → slice_get (parts o) j ≡ Some q → IsMet same (visit same parts n k xs) q
  visit_closed parts zero k xs v e = λ i o q j h g. v i o q j (below xs i k o h (subst (λ m. slice_get xs m ≡ None) zero_k e)) h g
    where
      zero_k : 0 + k ≡ k
      zero_k = omega arith

      below : (xs : List A) (i k : ℕ) (o : A) → slice_get xs i ≡ Some o → slice_get xs k ≡ None → i < k
      below xs i k o h e = let a = slice_get_within xs i o h in let b = none_past xs k e in omega arith
  visit_closed parts (suc n) k xs v e = go (slice_get xs k) refl e
      (λ o f d. visit_closed parts n (suc k) (add_new same xs (parts o)) (next o f) (subst (λ m. slice_get (visit same parts n (suc k) (add_new same xs (parts o))) m ≡ None) shift d))
    where
      shift : suc n + k ≡ n + suc k
      shift = omega arith

      next : (o : A) → slice_get xs k ≡ Some o → AreVisited same parts (suc k) (add_new same xs (parts o))
      next o f i p q j l h g =
          let a = add_all (parts o) xs in
          ⊎_elim
          (λ t. let w = front_get xs (add_new same xs (parts o)) k o a.0 f in
          let w' : slice_get (add_new same xs (parts o)) k ≡ Some p = subst (λ i. slice_get (add_new same xs (parts o)) i ≡ Some p) t h in
          let z : o ≡ p = cc in
          a.1 j q (subst (λ p. slice_get (parts p) j ≡ Some q) (sym z) g))
          (λ t. let m : i < k = omega arith in
          let b = slice_get-get_or xs i p (low i m (slice_get_within xs k o f)) in
          let c = front_get xs (add_new same xs (parts o)) i (get_or xs i p) a.0 b in
          let z : get_or xs i p ≡ p = cc in
          front_met xs (add_new same xs (parts o)) q a.0 (v i p q j m (b ∙ ap Some z) g))
          (cases_eq i k)
        where
          low : (i : ℕ) → i < k → k < length xs → i < length xs
          low i a b = omega arith

      go : (o : Option A) → slice_get xs k ≡ o → slice_get (elim o [ None ↦ xs | Some o ↦ visit same parts n (suc k) (add_new same xs (parts o)) ]) (suc n + k) ≡ None
          → ((o : A) → slice_get xs k ≡ Some o → slice_get (visit same parts n (suc k) (add_new same xs (parts o))) (suc n + k) ≡ None → (i : ℕ) (p q : A) (j : ℕ) → slice_get (visit same parts n (suc k) (add_new same xs (parts o))) i ≡ Some p → slice_get (parts p) j ≡ Some q → IsMet same (visit same parts n (suc k) (add_new same xs (parts o))) q)
          → (i : ℕ) (p q : A) (j : ℕ) → slice_get (elim o [ None ↦ xs | Some o ↦ visit same parts n (suc k) (add_new same xs (parts o)) ]) i ≡ Some p → slice_get (parts p) j ≡ Some q → IsMet same (elim o [ None ↦ xs | Some o ↦ visit same parts n (suc k) (add_new same xs (parts o)) ]) q
      go None f e ih = λ i p q j h g. v i p q j (within i p h) h g
        where
          within : (i : ℕ) (p : A) → slice_get xs i ≡ Some p → i < k
          within i p h = let a = slice_get_within xs i p h in let b = none_past xs k f in omega arith
      go (Some o) f e ih = ih o f e

  -- the order of first visit is closed, and has its roots
  pub order_closed : (parts : A → List A) (n : ℕ) (roots : List A) → slice_get (order same parts n roots) n ≡ None → (i : ℕ) (o q : A) (j : ℕ) → slice_get (order same parts n roots) i ≡ Some o → slice_get (parts o) j ≡ Some q → IsMet same (order same parts n roots) q
  order_closed parts n roots e = visit_closed parts n 0 (add_new same [] roots) (λ i o q j lt h g. absurd (omega (arith, lt))) (subst (λ m. slice_get (order same parts n roots) m ≡ None) plus_zero e)
    where
      plus_zero : n ≡ n + 0
      plus_zero = omega arith

  pub visit_front : (parts : A → List A) (n k : ℕ) (xs : List A) → IsPrefix xs (visit same parts n k xs)
  visit_front parts zero k xs = ([], sym (simp append-nil))
  visit_front parts (suc n) k xs = go (slice_get xs k) (λ o. front_trans xs _ _ (add_all (parts o) xs).0 (visit_front parts n (suc k) (add_new same xs (parts o))))
    where
      go : (q : Option A) → ((o : A) → IsPrefix xs (visit same parts n (suc k) (add_new same xs (parts o)))) → IsPrefix xs (elim q [ None ↦ xs | Some o ↦ visit same parts n (suc k) (add_new same xs (parts o)) ])
      go None f = ([], sym (simp append-nil))
      go (Some o) f = f o

  pub order_roots : (parts : A → List A) (n : ℕ) (roots : List A) (j : ℕ) (q : A) → slice_get roots j ≡ Some q → IsMet same (order same parts n roots) q
  order_roots parts n roots j q h = front_met _ _ q (visit_front parts n 0 (add_new same [] roots)) ((add_all roots []).1 j q h)

  pub add_front : (os xs : List A) → IsPrefix xs (add_new same xs os)
  add_front os xs = (add_all os xs).0
