-- What holds of each item of a list, and items of lists.
use Rattle.std.proofs.Common.{ℕ, zero, suc, ◌-◌, ◌<◌, ◌≡◌, ◌⊎◌, inl, inr, ⊎_elim, List, [], ◌∷◌, ◌++◌, Option, Some, None, refl, subst, ap, length, take, drop, map, arith, Bool, true, false, length-append}
use Rattle.std.specs.Prelude.{slice_get, slice_set, cond, filter}
use Rattle.int_core.specs.Value.{bind, last, without_last}
use Rattle.machine_sound.specs.Sound.{Each}
pub use Rattle.list_laws.proofs.Items.{get_set_same, get_set_other, length_set, get_old as get_push_old, get_new as get_push_new}

-- below the length of the front the item behind does not count
pub get_front : {A : Type 0} (xs ys : List A) (i : ℕ) → i < length xs → slice_get (xs ++ ys) i ≡ slice_get xs i
get_front [] ys i h = absurd (omega arith)
get_front (z ∷ xs) ys zero h = refl
get_front (z ∷ xs) ys (suc i) h = get_front xs ys i (omega arith)

-- an item of a longer list is old or new
pub push_cases : {A : Type 0} (xs : List A) (x y : A) (i : ℕ) → slice_get (xs ++ x ∷ []) i ≡ Some y → (slice_get xs i ≡ Some y) ⊎ ((i ≡ length xs) × (x ≡ y))
push_cases [] x y zero h = inr (refl, cc)
push_cases [] x y (suc i) h = absurd (cc)
push_cases (z ∷ xs) x y zero h = inl h
push_cases (z ∷ xs) x y (suc i) h = ⊎_elim (λ a. inl a) (λ b. inr (ap suc b.0, b.1)) (push_cases xs x y i h)

pub get_within : {A : Type 0} (xs : List A) (i : ℕ) (x : A) → slice_get xs i ≡ Some x → i < length xs
get_within [] i x h = absurd (cc)
get_within (y ∷ xs) zero x h = omega arith
get_within (y ∷ xs) (suc i) x h = let k = get_within xs i x h in omega arith

pub get_there : {A : Type 0} (xs : List A) (i : ℕ) → i < length xs → (x : A) × (slice_get xs i ≡ Some x)
get_there [] n h = absurd (omega arith)
get_there (i ∷ is) zero h = (i, refl)
get_there (i ∷ is) (suc n) h = get_there is n (omega arith)

pub get_take : {A : Type 0} (xs : List A) (n i : ℕ) (x : A) → slice_get (take n xs) i ≡ Some x → (slice_get xs i ≡ Some x) × (i < n)
get_take xs zero i x h = absurd (cc)
get_take [] (suc n) i x h = absurd (cc)
get_take (y ∷ xs) (suc n) zero x h = (h, omega arith)
get_take (y ∷ xs) (suc n) (suc i) x h = let k = get_take xs n i x h in (k.0, omega arith)

pub some_is : {A : Type 0} {a b : A} {o : Option A} → o ≡ Some a → o ≡ Some b → a ≡ b
some_is h k = cc

module _ {A : Type 0} (P : A → Type 0) where
  pub each_none : Each P []
  each_none i x h = absurd (cc)

  pub each_cons : (x : A) (xs : List A) → P x → Each P xs → Each P (x ∷ xs)
  each_cons x xs p h zero y e = subst P (let k : Some x ≡ Some y = e in cc) p
  each_cons x xs p h (suc i) y e = h i y e

  pub each_tail : (x : A) (xs : List A) → Each P (x ∷ xs) → Each P xs
  each_tail x xs h i y e = h (suc i) y e

  pub each_set : (xs : List A) (i : ℕ) (x : A) → Each P xs → P x → Each P (slice_set xs i x)
  each_set [] i x h p = h
  each_set (y ∷ xs) zero x h p = each_cons x xs p (each_tail y xs h)
  each_set (y ∷ xs) (suc i) x h p = each_cons y (slice_set xs i x) (h zero y refl) (each_set xs i x (each_tail y xs h) p)

  pub each_append : (xs ys : List A) → Each P xs → Each P ys → Each P (xs ++ ys)
  each_append [] ys h k = k
  each_append (x ∷ xs) ys h k = each_cons x (xs ++ ys) (h zero x refl) (each_append xs ys (each_tail x xs h) k)

  pub each_one : (x : A) → P x → Each P (x ∷ [])
  each_one x p = each_cons x [] p each_none

  pub each_push : (xs : List A) (x : A) → Each P xs → P x → Each P (xs ++ x ∷ [])
  each_push xs x h p = each_append xs (x ∷ []) h (each_one x p)

  pub each_front : (xs ys : List A) → Each P (xs ++ ys) → Each P xs
  each_front xs ys h i x e = h i x (get_push_old xs ys i x e)

  pub each_last : (xs : List A) (x : A) → Each P (xs ++ x ∷ []) → P x
  each_last xs x h = h (length xs) x (get_push_new xs x)

  pub each_take : (n : ℕ) (xs : List A) → Each P xs → Each P (take n xs)
  each_take n xs h i x e = h i x (get_take xs n i x e).0

  pub each_drop : (n : ℕ) (xs : List A) → Each P xs → Each P (drop n xs)
  each_drop zero xs h = h
  each_drop (suc n) [] h = h
  each_drop (suc n) (x ∷ xs) h = each_drop n xs (each_tail x xs h)

  pub each_filter : (test : A → Bool) (xs : List A) → Each P xs → Each P (filter test xs)
  each_filter test [] h = h
  each_filter test (x ∷ xs) h = pick (test x) (h zero x refl) (each_filter test xs (each_tail x xs h))
    where
      pick : (b : Bool) → P x → Each P (filter test xs) → Each P (cond b (x ∷ filter test xs) (filter test xs))
      pick true p k = each_cons x (filter test xs) p k
      pick false p k = k

pub each_on : {A : Type 0} (P Q : A → Type 0) → ((x : A) → P x → Q x) → (xs : List A) → Each P xs → Each Q xs
each_on P Q f xs h i x e = f x (h i x e)

pub bind_at : {A B : Type 0} (f : A → Option B) (o : Option A) (a : A) → o ≡ Some a → bind o f ≡ f a
bind_at f o a h = ap (λ o. bind o f) h

pub bind_some : {A B : Type 0} (f : A → Option B) (o : Option A) (b : B) → bind o f ≡ Some b → (a : A) × (o ≡ Some a) × (f a ≡ Some b)
bind_some f None b h = absurd (cc)
bind_some f (Some a) b h = (a, refl, h)

pub map_set : {A B : Type 0} (f : A → B) (xs : List A) (i : ℕ) (x y : A) → slice_get xs i ≡ Some x → f y ≡ f x → map f (slice_set xs i y) ≡ map f xs
map_set f [] i x y h e = refl
map_set f (z ∷ xs) zero x y h e = let k : z ≡ x = cc in rw (e, k) refl
map_set f (z ∷ xs) (suc i) x y h e = ap (λ l. f z ∷ l) (map_set f xs i x y h e)

pub get_map : {A B : Type 0} (f : A → B) (xs : List A) (i : ℕ) (x : A) → slice_get xs i ≡ Some x → slice_get (map f xs) i ≡ Some (f x)
get_map f [] i x h = absurd (cc)
get_map f (y ∷ xs) zero x h = let k : y ≡ x = cc in rw k refl
get_map f (y ∷ xs) (suc i) x h = get_map f xs i x h

pub map_get : {A B : Type 0} (f : A → B) (xs : List A) (i : ℕ) (y : B) → slice_get (map f xs) i ≡ Some y → (x : A) × (slice_get xs i ≡ Some x) × (f x ≡ y)
map_get f [] i y h = absurd (cc)
map_get f (x ∷ xs) zero y h = (x, refl, cc)
map_get f (x ∷ xs) (suc i) y h = map_get f xs i y h

-- the last item of a list

pub last_push : {A : Type 0} (xs : List A) (x : A) → last (xs ++ x ∷ []) ≡ Some x
last_push [] x = refl
last_push (y ∷ xs) x = let e : length (xs ++ x ∷ []) ≡ suc (length xs) = (let k = length-append xs (x ∷ []) in omega arith) in rw e (get_push_new xs x)

pub without_push : {A : Type 0} (xs : List A) (x : A) → without_last (xs ++ x ∷ []) ≡ xs
without_push {A = A} xs x = let e : length (xs ++ x ∷ []) - 1 ≡ length xs = (let k = length-append xs (x ∷ []) in omega arith) in rw e (front xs)
  where
    front : (xs : List A) → take (length xs) (xs ++ x ∷ []) ≡ xs
    front [] = refl
    front (y ∷ xs) = ap (λ l. y ∷ l) (front xs)

-- a list with a last item ends with it
pub last_splits : {A : Type 0} (xs : List A) (x : A) → last xs ≡ Some x → xs ≡ without_last xs ++ x ∷ []
last_splits {A = A} [] x h = absurd (cc)
last_splits {A = A} (y ∷ xs) x h = let e : suc (length xs) - 1 ≡ length xs = omega arith in rw e (go y xs h)
  where
    go : (y : A) (xs : List A) → slice_get (y ∷ xs) (length xs) ≡ Some x → y ∷ xs ≡ take (length xs) (y ∷ xs) ++ x ∷ []
    go y [] h = let k : Some y ≡ Some x = h in let e : y ≡ x = cc in ap (λ y. y ∷ []) e
    go y (z ∷ xs) h = ap (λ l. y ∷ l) (go z xs h)

pub each_eight : {A : Type 0} (P : A → Type 0) (a b c d e f g h : A) → P a → P b → P c → P d → P e → P f → P g → P h → Each P (a ∷ b ∷ c ∷ d ∷ e ∷ f ∷ g ∷ h ∷ [])
each_eight P a b c d e f g h p q r s t u v w =
    each_cons P a (b ∷ c ∷ d ∷ e ∷ f ∷ g ∷ h ∷ []) p
    (each_cons P b (c ∷ d ∷ e ∷ f ∷ g ∷ h ∷ []) q
    (each_cons P c (d ∷ e ∷ f ∷ g ∷ h ∷ []) r
    (each_cons P d (e ∷ f ∷ g ∷ h ∷ []) s
    (each_cons P e (f ∷ g ∷ h ∷ []) t
    (each_cons P f (g ∷ h ∷ []) u
    (each_cons P g (h ∷ []) v (each_one P h w)))))))
