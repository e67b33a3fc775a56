-- Two lists or two options, item by item.
use Rattle.std.proofs.Common.{ℕ, zero, suc, ◌-◌, ◌≡◌, ◌≢◌, List, [], ◌∷◌, ◌++◌, Option, Some, None, refl, subst, sym, ap, ◌∙◌, length, take, drop, Bool, true, false, cond, ⊎_elim}
use Rattle.std.specs.Prelude.{slice_get, slice_set, reverse, filter_map, flat_map}
use Rattle.std.specs.List.{AllZip}
use Rattle.std.proofs.lemmas.Bool.{cases_eq}
use mathlib.Core.List.{reverse_aux}
use Rattle.int_core.specs.Value.{bind, last, without_last}
use Rattle.machine_alike.specs.Agree.{Both, Each}
pub use Rattle.list_laws.proofs.Items.{get_set_same, get_set_other, get_old as get_push_old, get_new as get_push_new}

pub each_bind : {A B C D : Type 0} (R : A → B → Type 0) (S : C → D → Type 0) (f : A → Option C) (g : B → Option D) → ((a : A) (b : B) → R a b → Each S (f a) (g b)) → (o : Option A) (o' : Option B) → Each R o o' → Each S (bind o f) (bind o' g)
each_bind R S f g h None None r = tt
each_bind R S f g h None (Some b) r = absurd r
each_bind R S f g h (Some a) None r = absurd r
each_bind R S f g h (Some a) (Some b) r = h a b r

pub both_each : {A B : Type 0} (R : A → B → Type 0) (o : Option A) (o' : Option B) → Both R o o' → Each R o o'
both_each R None o r = absurd r
both_each R (Some a) None r = absurd r
both_each R (Some a) (Some b) r = r

pub each_on : {A B : Type 0} (R S : A → B → Type 0) → ((a : A) (b : B) → R a b → S a b) → (o : Option A) (o' : Option B) → Each R o o' → Each S o o'
each_on R S f None None h = tt
each_on R S f None (Some b) h = absurd h
each_on R S f (Some a) None h = absurd h
each_on R S f (Some a) (Some b) h = f a b h

-- the same option is there on both sides
pub each_same : {A : Type 0} (o : Option A) → Each (λ a b. a ≡ b) o o
each_same None = tt
each_same (Some a) = refl

pub cond_rel : {A B : Type 0} (R : A → B → Type 0) (b c : Bool) (x u : A) (y v : B) → b ≡ c → R x y → R u v → R (cond b x u) (cond c y v)
cond_rel R true true x u y v e r s = r
cond_rel R false false x u y v e r s = s
cond_rel R true false x u y v e r s = absurd (cc)
cond_rel R false true x u y v e r s = absurd (cc)

module _ {A B : Type 0} (R : A → B → Type 0) where
  pub zip_get : (xs : List A) (ys : List B) (i : ℕ) → AllZip R xs ys → Each R (slice_get xs i) (slice_get ys i)
  zip_get [] [] i h = tt
  zip_get [] (y ∷ ys) i h = absurd h
  zip_get (x ∷ xs) [] i h = absurd h
  zip_get (x ∷ xs) (y ∷ ys) zero h = h.0
  zip_get (x ∷ xs) (y ∷ ys) (suc i) h = zip_get xs ys i h.1

  pub zip_length : (xs : List A) (ys : List B) → AllZip R xs ys → length xs ≡ length ys
  zip_length [] [] h = refl
  zip_length [] (y ∷ ys) h = absurd h
  zip_length (x ∷ xs) [] h = absurd h
  zip_length (x ∷ xs) (y ∷ ys) h = ap suc (zip_length xs ys h.1)

  pub zip_set : (xs : List A) (ys : List B) (i : ℕ) (a : A) (b : B) → AllZip R xs ys → R a b → AllZip R (slice_set xs i a) (slice_set ys i b)
  zip_set [] [] i a b h r = tt
  zip_set [] (y ∷ ys) i a b h r = absurd h
  zip_set (x ∷ xs) [] i a b h r = absurd h
  zip_set (x ∷ xs) (y ∷ ys) zero a b h r = (r, h.1)
  zip_set (x ∷ xs) (y ∷ ys) (suc i) a b h r = (h.0, zip_set xs ys i a b h.1 r)

  pub zip_append : (xs : List A) (ys : List B) (us : List A) (vs : List B) → AllZip R xs ys → AllZip R us vs → AllZip R (xs ++ us) (ys ++ vs)
  zip_append [] [] us vs h r = r
  zip_append [] (y ∷ ys) us vs h r = absurd h
  zip_append (x ∷ xs) [] us vs h r = absurd h
  zip_append (x ∷ xs) (y ∷ ys) us vs h r = (h.0, zip_append xs ys us vs h.1 r)

  pub zip_take : (n : ℕ) (xs : List A) (ys : List B) → AllZip R xs ys → AllZip R (take n xs) (take n ys)
  zip_take zero xs ys h = tt
  zip_take (suc n) [] [] h = tt
  zip_take (suc n) [] (y ∷ ys) h = absurd h
  zip_take (suc n) (x ∷ xs) [] h = absurd h
  zip_take (suc n) (x ∷ xs) (y ∷ ys) h = (h.0, zip_take n xs ys h.1)

  pub zip_drop : (n : ℕ) (xs : List A) (ys : List B) → AllZip R xs ys → AllZip R (drop n xs) (drop n ys)
  zip_drop zero xs ys h = h
  zip_drop (suc n) [] [] h = tt
  zip_drop (suc n) [] (y ∷ ys) h = absurd h
  zip_drop (suc n) (x ∷ xs) [] h = absurd h
  zip_drop (suc n) (x ∷ xs) (y ∷ ys) h = zip_drop n xs ys h.1

  pub zip_last : (xs : List A) (ys : List B) → AllZip R xs ys → Each R (last xs) (last ys)
  zip_last [] [] h = tt
  zip_last [] (y ∷ ys) h = absurd h
  zip_last (x ∷ xs) [] h = absurd h
  zip_last (x ∷ xs) (y ∷ ys) h = subst (λ n. Each R (slice_get (x ∷ xs) (length xs)) (slice_get (y ∷ ys) n)) (zip_length xs ys h.1) (zip_get (x ∷ xs) (y ∷ ys) (length xs) h)

  pub zip_without_last : (xs : List A) (ys : List B) → AllZip R xs ys → AllZip R (without_last xs) (without_last ys)
  zip_without_last xs ys h = subst (λ n. AllZip R (take (length xs - 1) xs) (take (n - 1) ys)) (zip_length xs ys h) (zip_take (length xs - 1) xs ys h)

  zip_reversed : (xs : List A) (ys : List B) (us : List A) (vs : List B) → AllZip R xs ys → AllZip R us vs → AllZip R (reverse_aux xs us) (reverse_aux ys vs)
  zip_reversed [] [] us vs h r = r
  zip_reversed [] (y ∷ ys) us vs h r = absurd h
  zip_reversed (x ∷ xs) [] us vs h r = absurd h
  zip_reversed (x ∷ xs) (y ∷ ys) us vs h r = zip_reversed xs ys (x ∷ us) (y ∷ vs) h.1 (h.0, r)

  pub zip_reverse : (xs : List A) (ys : List B) → AllZip R xs ys → AllZip R (reverse xs) (reverse ys)
  zip_reverse xs ys h = zip_reversed xs ys [] [] h tt

pub zip_on : {A B : Type 0} (R S : A → B → Type 0) → ((a : A) (b : B) → R a b → S a b) → (xs : List A) (ys : List B) → AllZip R xs ys → AllZip S xs ys
zip_on R S f [] [] h = tt
zip_on R S f [] (y ∷ ys) h = absurd h
zip_on R S f (x ∷ xs) [] h = absurd h
zip_on R S f (x ∷ xs) (y ∷ ys) h = (f x y h.0, zip_on R S f xs ys h.1)

-- parts of the items, one after another
pub zip_parts : {A B C D : Type 0} (R : A → B → Type 0) (S : C → D → Type 0) (f : A → List C) (g : B → List D) → ((a : A) (b : B) → R a b → AllZip S (f a) (g b)) → (xs : List A) (ys : List B) → AllZip R xs ys → AllZip S (flat_map f xs) (flat_map g ys)
zip_parts R S f g k [] [] h = tt
zip_parts R S f g k [] (y ∷ ys) h = absurd h
zip_parts R S f g k (x ∷ xs) [] h = absurd h
zip_parts R S f g k (x ∷ xs) (y ∷ ys) h = zip_append S (f x) (g y) (flat_map f xs) (flat_map g ys) (k x y h.0) (zip_parts R S f g k xs ys h.1)

-- what is found of the items is the same
pub zip_found : {A B C : Type 0} (R : A → B → Type 0) (f : A → Option C) (g : B → Option C) → ((a : A) (b : B) → R a b → f a ≡ g b) → (xs : List A) (ys : List B) → AllZip R xs ys → filter_map f xs ≡ filter_map g ys
zip_found R f g k [] [] h = refl
zip_found R f g k [] (y ∷ ys) h = absurd h
zip_found R f g k (x ∷ xs) [] h = absurd h
zip_found R f g k (x ∷ xs) (y ∷ ys) h = rw (k x y h.0, zip_found R f g k xs ys h.1) refl

pub both_on : {A B : Type 0} (R S : A → B → Type 0) → ((a : A) (b : B) → R a b → S a b) → (o : Option A) (o' : Option B) → Both R o o' → Both S o o'
both_on R S f None o h = absurd h
both_on R S f (Some a) None h = absurd h
both_on R S f (Some a) (Some b) h = f a b h

pub get_end : {A : Type 0} (xs : List A) → slice_get xs (length xs) ≡ None
get_end [] = refl
get_end (z ∷ xs) = get_end xs

pub both_left : {A B : Type 0} (R : A → B → Type 0) (o : Option A) (o' : Option B) → Both R o o' → (a : A) × (o ≡ Some a)
both_left R None o h = absurd h
both_left R (Some a) None h = absurd h
both_left R (Some a) (Some b) h = (a, refl)

pub both_right : {A B : Type 0} (R : A → B → Type 0) (o : Option A) (o' : Option B) → Both R o o' → (b : B) × (o' ≡ Some b)
both_right R None o h = absurd h
both_right R (Some a) None h = absurd h
both_right R (Some a) (Some b) h = (b, refl)

pub both_from : {A B : Type 0} (R : A → B → Type 0) (o : Option A) (o' : Option B) (a : A) (b : B) → o ≡ Some a → o' ≡ Some b → R a b → Both R o o'
both_from R o o' a b d e h = rw (d, e) h

pub get_set_both : {A B : Type 0} (R S : A → B → Type 0) (xs : List A) (ys : List B) (i j : ℕ) (a : A) (b : B) → Both R (slice_get xs i) (slice_get ys j) → S a b → Both S (slice_get (slice_set xs i a) i) (slice_get (slice_set ys j b) j)
get_set_both R S xs ys i j a b h s =
    let l = both_left R (slice_get xs i) (slice_get ys j) h in
    let r = both_right R (slice_get xs i) (slice_get ys j) h in
    both_from S _ _ a b (get_set_same xs i l.0 a l.1) (get_set_same ys j r.0 b r.1) s

pub both_split : {A B : Type 0} (R : A → B → Type 0) (o : Option A) (o' : Option B) → Both R o o' → (a : A) × (b : B) × (o ≡ Some a) × (o' ≡ Some b) × R a b
both_split R None o h = absurd h
both_split R (Some a) None h = absurd h
both_split R (Some a) (Some b) h = (a, b, refl, refl, h)

-- what is there in lists that grow is still there
pub both_old : {A B : Type 0} (R : A → B → Type 0) (xs us : List A) (ys vs : List B) (i j : ℕ) → ((k : ℕ) (x : A) → slice_get xs k ≡ Some x → slice_get us k ≡ Some x) → ((k : ℕ) (y : B) → slice_get ys k ≡ Some y → slice_get vs k ≡ Some y) → Both R (slice_get xs i) (slice_get ys j) → Both R (slice_get us i) (slice_get vs j)
both_old R xs us ys vs i j f g h =
    let s = both_split R (slice_get xs i) (slice_get ys j) h in
    both_from R _ _ s.0 s.1 (f i s.0 s.2) (g j s.1 s.3) s.4

pub both_push : {A B : Type 0} (R : A → B → Type 0) (xs us : List A) (ys vs : List B) (i j : ℕ) → Both R (slice_get xs i) (slice_get ys j) → Both R (slice_get (xs ++ us) i) (slice_get (ys ++ vs) j)
both_push R xs us ys vs i j h = both_old R xs (xs ++ us) ys (ys ++ vs) i j (get_push_old xs us) (get_push_old ys vs) h

pub bind_some : {A B : Type 0} (o : Option A) (f : A → Option B) (y : B) → bind o f ≡ Some y → (x : A) × (o ≡ Some x) × (f x ≡ Some y)
bind_some None f y h = absurd (cc)
bind_some (Some x) f y h = (x, refl, h)

pub none_of : {A : Type 0} (o : Option A) → ((x : A) → o ≡ Some x → ⊥) → o ≡ None
none_of None h = refl
none_of (Some x) h = absurd (h x refl)

-- one write on each side of two lists whose items are paired
pub both_set : {A : Type 0} (R : A → A → Type 0) (f : ℕ → Option ℕ) (xs ys : List A) → ((a b m : ℕ) → f a ≡ Some m → f b ≡ Some m → a ≡ b) → ((i j : ℕ) → f i ≡ Some j → Both R (slice_get xs i) (slice_get ys j))
    → (n m : ℕ) (a b : A) → f n ≡ Some m → R a b → (i j : ℕ) → f i ≡ Some j → Both R (slice_get (slice_set xs n a) i) (slice_get (slice_set ys m b) j)
both_set R f xs ys one all n m a b at r i j h = ⊎_elim
    (λ e. let g : Some m ≡ Some j = sym at ∙ ap f (sym e) ∙ h in
    let g' : m ≡ j = cc in
    subst (λ i. Both R (slice_get (slice_set xs n a) i) (slice_get (slice_set ys m b) j)) (sym e) (subst (λ j. Both R (slice_get (slice_set xs n a) n) (slice_get (slice_set ys m b) j)) g' (get_set_both R R xs ys n m a b (all n m at) r)))
    (λ ne. let m' : m ≢ j = λ e. ne (one i n j h (at ∙ ap Some e)) in
    let n' : n ≢ i = λ e. ne (sym e) in
    rw (get_set_other xs n i a n', get_set_other ys m j b m') (all i j h))
    (cases_eq i n)
