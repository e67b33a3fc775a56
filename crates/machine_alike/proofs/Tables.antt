-- A table's rows up to a renaming: look-ups, writes and the border.
use Rattle.std.proofs.Common.{ℕ, zero, suc, ◌+◌, ◌≡◌, ⊎_elim, List, [], ◌∷◌, ◌++◌, Option, Some, None, refl, subst, sym, ap, ◌∙◌, length, Bool, true, false, not, cond, filter}
use Rattle.std.specs.Prelude.{nat_eq, nat_lt, ◌&&◌, count_by, pos}
use Rattle.std.proofs.lemmas.Bool.Decides.{eqb_tells}
use Rattle.std.proofs.lemmas.List.Sums.{sum_by-cons}
use Rattle.std.specs.List.{AllZip}
use Rattle.std.specs.Map.{lookup, set_value}
use Rattle.std.specs.Option.{unwrap_or}
use Rattle.int_core.specs.Rows.{is_cleared, is_filled, has_row, get, kept, set, behind, border_from, border}
use Rattle.int_core.specs.Value.{Kind, a_table, a_function, a_coroutine, same_kind, same, is_nil, Value, nil, integer, known, table_values}
use Rattle.int_core.specs.Heap.{filled}
use Rattle.machine_alike.specs.Agree.{Pairs, Each, SameValue, same_known, same_object, SameValues, SameRow, OneToOne}
use Rattle.machine_alike.proofs.Pairwise.{zip_append, zip_length, cond_rel}
use Rattle.int_core.proofs.Equality.{kind_is}

pub nat_eq_same : (f : ℕ → Option ℕ) (i i' j j' : ℕ) → ((a b m : ℕ) → f a ≡ Some m → f b ≡ Some m → a ≡ b) → f i ≡ Some j → f i' ≡ Some j' → nat_eq i i' ≡ nat_eq j j'
nat_eq_same f i i' j j' one h k = ⊎_elim
    (λ s. let e : Some j ≡ Some j' = sym h ∙ ap f s.1 ∙ k in ⊎_elim (λ t. s.0 ∙ sym t.0) (λ t. absurd (t.1 (cc))) (eqb_tells j j'))
    (λ s. ⊎_elim (λ t. absurd (s.1 (one i i' j h (k ∙ ap Some (sym t.1))))) (λ t. s.0 ∙ sym t.0) (eqb_tells j j'))
    (eqb_tells i i')

module _ (p : Pairs) (one : OneToOne p) where
  pub equal_same : (v w v' w' : Value) → SameValue p v v' → SameValue p w w' → same v w ≡ same v' w'
  equal_same v w v' w' (same_known c) (same_known d) = refl
  equal_same v w v' w' (same_known c) (same_object k i j h) = refl
  equal_same v w v' w' (same_object k i j h) (same_known c) = refl
  equal_same v w v' w' (same_object k i j h) (same_object l m n g) = go (same_kind k l) refl
    where
      go : (b : Bool) → same_kind k l ≡ b → b && nat_eq i m ≡ b && nat_eq j n
      go true e = nat_eq_same (p.objects k) i m j n (one.objects k) h (subst (λ x. p.objects x m ≡ Some n) (sym (kind_is k l e)) g)
      go false e = refl

  pub nil_same : (v w : Value) → SameValue p v w → is_nil v ≡ is_nil w
  nil_same v w (same_known c) = refl
  nil_same v w (same_object k i j h) = refl

  abbrev SameRows : List (Value × Value) → List (Value × Value) → Type 0
  SameRows = AllZip (SameRow p)

  found_same : (xs ys : List (Value × Value)) (k l : Value) → SameRows xs ys → SameValue p k l → Each (SameValue p) (lookup (same k) xs) (lookup (same l) ys)
  found_same [] [] k l h s = tt
  found_same [] (y ∷ ys) k l h s = absurd h
  found_same (x ∷ xs) [] k l h s = absurd h
  found_same (x ∷ xs) (y ∷ ys) k l h s = cond_rel (Each (SameValue p)) (same k x.0) (same l y.0) (Some x.1) (lookup (same k) xs) (Some y.1) (lookup (same l) ys) (equal_same k x.0 l y.0 s h.0.0) h.0.1 (found_same xs ys k l h.1 s)

  or_nil : (o o' : Option Value) → Each (SameValue p) o o' → SameValue p (unwrap_or o (known nil)) (unwrap_or o' (known nil))
  or_nil None None h = same_known nil
  or_nil None (Some w) h = absurd h
  or_nil (Some v) None h = absurd h
  or_nil (Some v) (Some w) h = h

  pub get_same : (xs ys : List (Value × Value)) (k l : Value) → SameRows xs ys → SameValue p k l → SameValue p (get table_values xs k) (get table_values ys l)
  get_same xs ys k l h s = or_nil (lookup (same k) xs) (lookup (same l) ys) (found_same xs ys k l h s)

  has_same : (xs ys : List (Value × Value)) (k l : Value) → SameRows xs ys → SameValue p k l → has_row table_values xs k ≡ has_row table_values ys l
  has_same [] [] k l h s = refl
  has_same [] (y ∷ ys) k l h s = absurd h
  has_same (x ∷ xs) [] k l h s = absurd h
  has_same (x ∷ xs) (y ∷ ys) k l h s = rw (equal_same k x.0 l y.0 s h.0.0, has_same xs ys k l h.1 s) refl

  replaced_same : (xs ys : List (Value × Value)) (k l v w : Value) → SameRows xs ys → SameValue p k l → SameValue p v w → SameRows (set_value (same k) xs v) (set_value (same l) ys w)
  replaced_same [] [] k l v w h s t = tt
  replaced_same [] (y ∷ ys) k l v w h s t = absurd h
  replaced_same (x ∷ xs) [] k l v w h s t = absurd h
  replaced_same (x ∷ xs) (y ∷ ys) k l v w h s t = cond_rel SameRows (same k x.0) (same l y.0) ((x.0, v) ∷ xs) (x ∷ set_value (same k) xs v) ((y.0, w) ∷ ys) (y ∷ set_value (same l) ys w) (equal_same k x.0 l y.0 s h.0.0) ((h.0.0, t), h.1) (h.0, replaced_same xs ys k l v w h.1 s t)

  cleared_same : (x y : Value × Value) → SameRow p x y → is_cleared table_values x ≡ is_cleared table_values y
  cleared_same x y h = equal_same x.1 (known nil) y.1 (known nil) h.1 (same_known nil)

  count_same : (f : Value × Value → Bool) → ((x y : Value × Value) → SameRow p x y → f x ≡ f y) → (xs ys : List (Value × Value)) → SameRows xs ys → count_by f xs ≡ count_by f ys
  count_same f g [] [] h = refl
  count_same f g [] (y ∷ ys) h = absurd h
  count_same f g (x ∷ xs) [] h = absurd h
  count_same f g (x ∷ xs) (y ∷ ys) h = sum_by-cons (λ x. cond (f x) 1 0) x xs ∙ rw (g x y h.0, count_same f g xs ys h.1) (sym (sum_by-cons (λ x. cond (f x) 1 0) y ys))

  filter_same : (f : Value × Value → Bool) → ((x y : Value × Value) → SameRow p x y → f x ≡ f y) → (xs ys : List (Value × Value)) → SameRows xs ys → SameRows (filter f xs) (filter f ys)
  filter_same f g [] [] h = tt
  filter_same f g [] (y ∷ ys) h = absurd h
  filter_same f g (x ∷ xs) [] h = absurd h
  filter_same f g (x ∷ xs) (y ∷ ys) h = cond_rel SameRows (f x) (f y) (x ∷ filter f xs) (filter f xs) (y ∷ filter f ys) (filter f ys) (g x y h.0) (h.0, filter_same f g xs ys h.1) (filter_same f g xs ys h.1)

  kept_same : (xs ys : List (Value × Value)) → SameRows xs ys → SameRows (kept table_values xs) (kept table_values ys)
  kept_same xs ys h =
      let filled : (x y : Value × Value) → SameRow p x y → is_filled table_values x ≡ is_filled table_values y = λ x y r. ap not (cleared_same x y r) in
      let m = count_same (is_filled table_values) filled xs ys h in
      let n = count_same (is_cleared table_values) cleared_same xs ys h in
      cond_rel SameRows (nat_lt (count_by (is_filled table_values) xs) (count_by (is_cleared table_values) xs)) (nat_lt (count_by (is_filled table_values) ys) (count_by (is_cleared table_values) ys)) (filter (is_filled table_values) xs) xs (filter (is_filled table_values) ys) ys (rw (m, n) refl) (filter_same (is_filled table_values) filled xs ys h) h

  pub set_same : (xs ys : List (Value × Value)) (k l v w : Value) → SameRows xs ys → SameValue p k l → SameValue p v w → SameRows (set table_values xs k v) (set table_values ys l w)
  set_same xs ys k l v w h s t =
      cond_rel SameRows (has_row table_values xs k) (has_row table_values ys l) (set_value (same k) xs v) _ (set_value (same l) ys w) _ (has_same xs ys k l h s) (replaced_same xs ys k l v w h s t)
      (cond_rel SameRows (same v (known nil)) (same w (known nil)) xs (kept table_values xs ++ (k, v) ∷ []) ys (kept table_values ys ++ (l, w) ∷ []) (equal_same v (known nil) w (known nil) t (same_known nil)) h
      (zip_append (SameRow p) (kept table_values xs) (kept table_values ys) ((k, v) ∷ []) ((l, w) ∷ []) (kept_same xs ys h) ((s, t), tt)))

  behind_same : (xs ys : List (Value × Value)) (n : ℕ) → SameRows xs ys → same (behind table_values xs n) (known nil) ≡ same (behind table_values ys n) (known nil)
  behind_same xs ys n h = equal_same (behind table_values xs n) (known nil) (behind table_values ys n) (known nil) (get_same xs ys (known (integer (pos (n + 1)))) (known (integer (pos (n + 1)))) h (same_known (integer (pos (n + 1))))) (same_known nil)

  border_from_same : (xs ys : List (Value × Value)) (left n : ℕ) → SameRows xs ys → border_from table_values xs left n ≡ border_from table_values ys left n
  border_from_same xs ys zero n h = refl
  border_from_same xs ys (suc left) n h = rw (behind_same xs ys n h, border_from_same xs ys left (n + 1) h) refl

  pub border_same : (xs ys : List (Value × Value)) → SameRows xs ys → border table_values xs ≡ border table_values ys
  border_same xs ys h = border_from_same xs ys (length xs) 0 h ∙ ap (λ n. border_from table_values ys n 0) (zip_length (SameRow p) xs ys h)

  pub filled_same : (last : ℕ) (vs ws : List Value) (xs ys : List (Value × Value)) → SameValues p vs ws → SameRows xs ys → SameRows (filled last vs xs) (filled last ws ys)
  filled_same last [] [] xs ys s h = h
  filled_same last [] (w ∷ ws) xs ys s h = absurd s
  filled_same last (v ∷ vs) [] xs ys s h = absurd s
  filled_same last (v ∷ vs) (w ∷ ws) xs ys s h = filled_same (suc last) vs ws _ _ s.1 (set_same xs ys (known (integer (pos (suc last)))) (known (integer (pos (suc last)))) v w h (same_known (integer (pos (suc last)))) s.0)
