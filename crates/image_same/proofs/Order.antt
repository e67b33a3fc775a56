-- The numbers by places in an order of first visit are each one that was met, or the next.
use Rattle.std.proofs.Common.{arith, ℕ, zero, suc, ◌+◌, ◌<◌, ◌≤◌, ◌≡◌, List, [], ◌∷◌, ◌++◌, Option, Some, None, refl, subst, sym, ap, ◌∙◌, length, drop, map, Bool, true, false, cond, append_assoc, length-append}
use Rattle.std.specs.Prelude.{slice_get, option_map, unwrap_or, nat_lt, nat_eq}
use Rattle.std.proofs.lemmas.Option.{slice_get_within}
use Rattle.code_core.proofs.PrototypeLemmas.{drop-there}
use Rattle.int_core.specs.Value.{bind}
use Rattle.image_core.specs.Visit.{met, place, add_new, visit, order, IsMet}
use Rattle.image_core.specs.Numbers.{meeting}
use Rattle.image_core.specs.Numbers.{walk, walk_records}
use Rattle.image_core.proofs.Visits.{add_front, visit_front, front_get, none_past}

before_is : (a b : ℕ) → a < b → nat_lt a b ≡ true
before_is a b h = search (arith, h)

not_before : (a b : ℕ) → a ≡ b → nat_lt a b ≡ false
not_before a b h = search (arith, h)

pub same_is : (a b : ℕ) → a ≡ b → nat_eq a b ≡ true
same_is a b h = search (arith, h)

meeting_old : (count met n : ℕ) → n < met → meeting count met n ≡ Some met
meeting_old count met n h = rw (before_is n met h) refl

meeting_next : (count met n : ℕ) → n ≡ met → n < count → meeting count met n ≡ Some (suc met)
meeting_next count met n e h = rw (not_before n met e, same_is n met e, before_is n count h) refl

module _ {A : Type 0} (same : A → A → Bool) (itself : (a : A) → same a a ≡ true) where
  -- the place of what is met in a prefix
  place_front : (xs ys : List A) (o : A) → IsMet same xs o → (n : ℕ) × (place same (xs ++ ys) o ≡ Some n) × (n < length xs)
  place_front [] ys o h = absurd (cc)
  place_front (x ∷ xs) ys o h = go (same x o) h (place_front xs ys o)
    where
      go : (b : Bool) → cond b true (met same xs o) ≡ true → (met same xs o ≡ true → (n : ℕ) × (place same (xs ++ ys) o ≡ Some n) × (n < length xs)) → (n : ℕ) × (cond b (Some 0) (option_map suc (place same (xs ++ ys) o)) ≡ Some n) × (n < suc (length xs))
      go true h ih = (0, refl, omega arith)
      go false h ih = let r = ih h in let l = r.2 in (suc r.0, rw r.1 refl, omega (arith, l))

  -- the place of what comes right after a prefix in which it is not met
  place_next : (xs ys : List A) (o : A) → met same xs o ≡ false → place same ((xs ++ o ∷ []) ++ ys) o ≡ Some (length xs)
  place_next [] ys o h = rw (itself o) refl
  place_next (x ∷ xs) ys o h = go (same x o) h (place_next xs ys o)
    where
      go : (b : Bool) → cond b true (met same xs o) ≡ false → (met same xs o ≡ false → place same ((xs ++ o ∷ []) ++ ys) o ≡ Some (length xs)) → cond b (Some 0) (option_map suc (place same ((xs ++ o ∷ []) ++ ys) o)) ≡ Some (suc (length xs))
      go true h ih = absurd (cc)
      go false h ih = rw (ih h) refl

  abbrev number_in : List A → A → ℕ
  number_in os o = unwrap_or (place same os o) 0

  abbrev IsPrefixOf : List A → List A → Type 0
  IsPrefixOf xs os = (zs : List A) × (os ≡ xs ++ zs)

  walk_parts : (os ps xs : List A) → IsPrefixOf (add_new same xs ps) os → walk (length os) (length xs) (map (number_in os) ps) ≡ Some (length (add_new same xs ps))
  walk_parts os [] xs f = refl
  walk_parts os (o ∷ ps) xs f = go (met same xs o) refl f (λ f. walk_parts os ps xs f) (λ f. walk_parts os ps (xs ++ o ∷ []) f)
    where
      go : (b : Bool) → met same xs o ≡ b → IsPrefixOf (add_new same (cond b xs (xs ++ o ∷ [])) ps) os → (IsPrefixOf (add_new same xs ps) os → walk (length os) (length xs) (map (number_in os) ps) ≡ Some (length (add_new same xs ps)))
          → (IsPrefixOf (add_new same (xs ++ o ∷ []) ps) os → walk (length os) (length (xs ++ o ∷ [])) (map (number_in os) ps) ≡ Some (length (add_new same (xs ++ o ∷ []) ps)))
          → bind (meeting (length os) (length xs) (number_in os o)) (λ m. walk (length os) m (map (number_in os) ps)) ≡ Some (length (add_new same (cond b xs (xs ++ o ∷ [])) ps))
      go true e f old new =
          let g = add_front same itself ps xs in
          let k : os ≡ xs ++ (g.0 ++ f.0) = f.1 ∙ (ap (λ u. u ++ f.0) g.1 ∙ append_assoc xs g.0 f.0) in
          let r = place_front xs (g.0 ++ f.0) o e in
          let n : number_in os o ≡ r.0 = ap (λ u. unwrap_or (place same u o) 0) k ∙ ap (λ u. unwrap_or u 0) r.1 in
          rw (n, meeting_old (length os) (length xs) r.0 r.2) (old f)
      go false e f old new =
          let g = add_front same itself ps (xs ++ o ∷ []) in
          let k : os ≡ (xs ++ o ∷ []) ++ (g.0 ++ f.0) = f.1 ∙ (ap (λ u. u ++ f.0) g.1 ∙ append_assoc (xs ++ o ∷ []) g.0 f.0) in
          let n : number_in os o ≡ length xs = ap (λ u. unwrap_or (place same u o) 0) k ∙ ap (λ u. unwrap_or u 0) (place_next xs (g.0 ++ f.0) o e) in
          let a : length (xs ++ o ∷ []) ≡ length xs + 1 = length-append xs (o ∷ []) in
          let b : length os ≡ length (xs ++ o ∷ []) + length (g.0 ++ f.0) = ap length k ∙ length-append (xs ++ o ∷ []) (g.0 ++ f.0) in
          let within : length xs < length os = omega (arith, a, b) in
          let one : suc (length xs) ≡ length (xs ++ o ∷ []) = omega (arith, a) in
          rw (n, meeting_next (length os) (length xs) (length xs) refl within, one) (new f)

  drop_past : (xs : List A) (k : ℕ) → length xs ≤ k → drop k xs ≡ []
  drop_past [] zero h = refl
  drop_past [] (suc k) h = refl
  drop_past (x ∷ xs) zero h = absurd (omega (arith, h))
  drop_past (x ∷ xs) (suc k) h = drop_past xs k (omega (arith, h))

  module _ (parts : A → List A) where
    walk_from : (n k : ℕ) (xs os : List A) → os ≡ visit same parts n k xs → slice_get os (n + k) ≡ None → walk_records (length os) k (length xs) (map (λ o. map (number_in os) (parts o)) (drop k os)) ≡ Some (length os)
    walk_from zero k xs os e h =
        let e' : os ≡ xs = e in
        let z : 0 + k ≡ k = omega arith in
        let past = none_past os k (subst (λ m. slice_get os m ≡ None) z h) in
        rw (drop_past os k past) (ap (λ u. Some (length u)) (sym e'))
    walk_from (suc n) k xs os e h = go (slice_get xs k) refl e (λ o e. walk_from n (suc k) (add_new same xs (parts o)) os e (subst (λ m. slice_get os m ≡ None) shift h))
      where
        shift : suc n + k ≡ n + suc k
        shift = omega arith

        go : (q : Option A) → slice_get xs k ≡ q → os ≡ elim q [ None ↦ xs | Some o ↦ visit same parts n (suc k) (add_new same xs (parts o)) ]
            → ((o : A) → os ≡ visit same parts n (suc k) (add_new same xs (parts o)) → walk_records (length os) (suc k) (length (add_new same xs (parts o))) (map (λ o. map (number_in os) (parts o)) (drop (suc k) os)) ≡ Some (length os))
            → walk_records (length os) k (length xs) (map (λ o. map (number_in os) (parts o)) (drop k os)) ≡ Some (length os)
        go None f e ih =
            let past = none_past os k (subst (λ u. slice_get u k ≡ None) (sym e) f) in
            rw (drop_past os k past) (ap (λ u. Some (length u)) (sym e))
        go (Some o) f e ih =
            let v = visit_front same itself parts n (suc k) (add_new same xs (parts o)) in
            let front : IsPrefixOf (add_new same xs (parts o)) os = (v.0, e ∙ v.1) in
            let a = add_front same itself (parts o) xs in
            let here : slice_get os k ≡ Some o = front_get same itself (add_new same xs (parts o)) os k o front (front_get same itself xs (add_new same xs (parts o)) k o a f) in
            let s : k + 1 ≡ suc k = omega arith in
            let d : drop k os ≡ o ∷ drop (suc k) os = drop-there os k o here ∙ ap (λ m. o ∷ drop m os) s in
            let w = slice_get_within xs k o f in
            rw (d, before_is k (length xs) w, walk_parts os (parts o) xs front) (ih o e)

    pub walk_order : (n : ℕ) (roots : List A) → slice_get (order same parts n roots) n ≡ None
        → (walk (length (order same parts n roots)) 0 (map (number_in (order same parts n roots)) roots) ≡ Some (length (add_new same [] roots)))
        × (walk_records (length (order same parts n roots)) 0 (length (add_new same [] roots)) (map (λ o. map (number_in (order same parts n roots)) (parts o)) (order same parts n roots)) ≡ Some (length (order same parts n roots)))
    walk_order n roots h =
        let v = visit_front same itself parts n 0 (add_new same [] roots) in
        let z : n ≡ n + 0 = omega arith in
        (walk_parts (order same parts n roots) roots [] (v.0, v.1), walk_from n 0 (add_new same [] roots) (order same parts n roots) refl (subst (λ m. slice_get (order same parts n roots) m ≡ None) z h))
