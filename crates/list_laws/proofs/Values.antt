-- Values by their numbers, as registers and locals are read and written.
use Rattle.std.proofs.Common.{ℕ, zero, suc, ◌<◌, ◌≤◌, ◌≡◌, ◌≢◌, List, [], ◌∷◌, ◌++◌, length, Some, None, refl, ap, arith, take, drop}
use Rattle.std.specs.Prelude.{slice_get, slice_set}
use Rattle.int_core.specs.Value.{Value, nth, write}

pub nth_write_same : (s : ℕ) (v : Value) (xs : List Value) → nth (write s v xs) s ≡ v
nth_write_same zero v [] = refl
nth_write_same zero v (x ∷ xs) = refl
nth_write_same (suc s) v [] = nth_write_same s v []
nth_write_same (suc s) v (x ∷ xs) = nth_write_same s v xs

pub nth_write_other : (s : ℕ) (v : Value) (xs : List Value) (r : ℕ) → r ≢ s → nth (write s v xs) r ≡ nth xs r
nth_write_other zero v [] zero n = absurd (n refl)
nth_write_other zero v [] (suc r) n = refl
nth_write_other zero v (x ∷ xs) zero n = absurd (n refl)
nth_write_other zero v (x ∷ xs) (suc r) n = refl
nth_write_other (suc s) v [] zero n = refl
nth_write_other (suc s) v [] (suc r) n = nth_write_other s v [] r (λ e. n (ap suc e))
nth_write_other (suc s) v (x ∷ xs) zero n = refl
nth_write_other (suc s) v (x ∷ xs) (suc r) n = nth_write_other s v xs r (λ e. n (ap suc e))

pub length_write : (s : ℕ) (v : Value) (xs : List Value) → s < length xs → length (write s v xs) ≡ length xs
length_write zero v [] h = absurd (omega arith)
length_write zero v (x ∷ xs) h = refl
length_write (suc s) v [] h = absurd (omega arith)
length_write (suc s) v (x ∷ xs) h = ap suc (length_write s v xs (omega arith))

pub write_more : (s : ℕ) (v : Value) (xs : List Value) → length xs ≤ length (write s v xs)
write_more zero v [] = omega arith
write_more zero v (x ∷ xs) = omega arith
write_more (suc s) v [] = omega arith
write_more (suc s) v (x ∷ xs) = let i = write_more s v xs in omega (arith, i)

pub nth_set_same : (c : ℕ) (v : Value) (xs : List Value) → c < length xs → nth (slice_set xs c v) c ≡ v
nth_set_same c v [] h = absurd (omega arith)
nth_set_same zero v (x ∷ xs) h = refl
nth_set_same (suc c) v (x ∷ xs) h = nth_set_same c v xs (omega arith)

pub nth_set_other : (c : ℕ) (v : Value) (xs : List Value) (d : ℕ) → d ≢ c → nth (slice_set xs c v) d ≡ nth xs d
nth_set_other c v [] d h = refl
nth_set_other zero v (x ∷ xs) zero h = absurd (h refl)
nth_set_other zero v (x ∷ xs) (suc d) h = refl
nth_set_other (suc c) v (x ∷ xs) zero h = refl
nth_set_other (suc c) v (x ∷ xs) (suc d) h = nth_set_other c v xs d (λ e. h (ap suc e))

pub nth_old : (xs ys : List Value) (c : ℕ) → c < length xs → nth (xs ++ ys) c ≡ nth xs c
nth_old [] ys c h = absurd (omega arith)
nth_old (x ∷ xs) ys zero h = refl
nth_old (x ∷ xs) ys (suc c) h = nth_old xs ys c (omega arith)

pub nth_mid : (env vs : List Value) (v : Value) → nth (env ++ v ∷ vs) (length env) ≡ v
nth_mid [] vs v = refl
nth_mid (x ∷ env) vs v = nth_mid env vs v

pub drop_mid : (env vs : List Value) (v : Value) → drop (suc (length env)) (env ++ v ∷ vs) ≡ vs
drop_mid [] vs v = refl
drop_mid (x ∷ env) vs v = drop_mid env vs v

pub nth_get : (xs : List Value) (c : ℕ) (v : Value) → slice_get xs c ≡ Some v → nth xs c ≡ v
nth_get xs c v h = ap (λ o. elim o [ None ↦ Rattle.int_core.specs.Value.known Rattle.int_core.specs.Value.nil | Some w ↦ w ]) h

pub write_own : (s : ℕ) (xs : List Value) → s < length xs → write s (nth xs s) xs ≡ xs
write_own zero [] h = absurd (omega arith)
write_own zero (x ∷ xs) h = refl
write_own (suc s) [] h = absurd (omega arith)
write_own (suc s) (x ∷ xs) h = ap (λ z. x ∷ z) (write_own s xs (omega arith))

pub same_list : (xs ys : List Value) → length xs ≡ length ys → ((r : ℕ) → nth xs r ≡ nth ys r) → xs ≡ ys
same_list [] [] e h = refl
same_list [] (y ∷ ys) e h = absurd (omega (arith, e))
same_list (x ∷ xs) [] e h = absurd (omega (arith, e))
same_list (x ∷ xs) (y ∷ ys) e h =
    let a : x ≡ y = h 0 in
    let b : xs ≡ ys = same_list xs ys (omega (arith, e)) (λ r. h (suc r)) in
    cc

pub nth_take : (n : ℕ) (xs : List Value) (r : ℕ) → r < n → nth (take n xs) r ≡ nth xs r
nth_take zero xs r lt = absurd (omega arith)
nth_take (suc n) [] r lt = refl
nth_take (suc n) (x ∷ xs) zero lt = refl
nth_take (suc n) (x ∷ xs) (suc r) lt = nth_take n xs r (omega arith)

pub length_take : (n : ℕ) (xs : List Value) → n ≤ length xs → length (take n xs) ≡ n
length_take zero xs h = refl
length_take (suc n) [] h = absurd (omega arith)
length_take (suc n) (x ∷ xs) h = ap suc (length_take n xs (omega arith))

pub last_nth : (xs : List Value) (v : Value) → nth (xs ++ v ∷ []) (length xs) ≡ v
last_nth [] v = refl
last_nth (x ∷ xs) v = last_nth xs v

pub drop_front : (xs ys : List Value) → drop (length xs) (xs ++ ys) ≡ ys
drop_front [] ys = refl
drop_front (x ∷ xs) ys = drop_front xs ys
