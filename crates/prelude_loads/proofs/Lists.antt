-- Lists and options of what is paired, and a list of what is there for each number.
use Rattle.std.proofs.Common.{ℕ, zero, suc, ◌≡◌, ◌<◌, List, [], ◌∷◌, Option, Some, None, refl, subst, ap, length, arith}
use Rattle.std.specs.Prelude.{slice_get}
use Rattle.std.specs.List.{AllZip}
use Rattle.machine_alike.specs.Agree.{Both, Each as EachOf}
use Rattle.machine_sound.specs.Sound.{Each, OptionOk}
use Rattle.machine_sound.proofs.Lists.{each_none, each_cons, each_tail}

pub each_so : {A B : Type 0} (R : A → B → Type 0) (P : A → Type 0) (Q : B → Type 0) → ((a : A) (b : B) → R a b → P a → Q b) → (xs : List A) (ys : List B) → AllZip R xs ys → Each P xs → Each Q ys
each_so R P Q f [] [] z h = each_none Q
each_so R P Q f [] (y ∷ ys) z h = absurd z
each_so R P Q f (x ∷ xs) [] z h = absurd z
each_so R P Q f (x ∷ xs) (y ∷ ys) z h = each_cons Q y ys (f x y z.0 (h zero x refl)) (each_so R P Q f xs ys z.1 (each_tail P x xs h))

pub option_so : {A B : Type 0} (R : A → B → Type 0) (P : A → Type 0) (Q : B → Type 0) → ((a : A) (b : B) → R a b → P a → Q b) → (o : Option A) (p : Option B) → EachOf R o p → OptionOk P o → OptionOk Q p
option_so R P Q f None None z h = tt
option_so R P Q f None (Some b) z h = absurd z
option_so R P Q f (Some a) None z h = absurd z
option_so R P Q f (Some a) (Some b) z h = f a b z h

-- what stands at a place on the right has its partner on the left
pub zip_back : {A B : Type 0} (R : A → B → Type 0) (xs : List A) (ys : List B) (i : ℕ) (y : B) → AllZip R xs ys → slice_get ys i ≡ Some y → (x : A) × (slice_get xs i ≡ Some x) × R x y
zip_back R [] [] i y z e = absurd (cc)
zip_back R [] (b ∷ ys) i y z e = absurd z
zip_back R (a ∷ xs) [] i y z e = absurd z
zip_back R (a ∷ xs) (b ∷ ys) zero y z e = let k : b ≡ y = cc in (a, refl, subst (R a) k z.0)
zip_back R (a ∷ xs) (b ∷ ys) (suc i) y z e = zip_back R xs ys i y z.1 e

pub both_at : {A B : Type 0} (R : A → B → Type 0) (o : Option A) (p : Option B) (a : A) → Both R o p → o ≡ Some a → (b : B) × (p ≡ Some b) × R a b
both_at R None p a h e = absurd h
both_at R (Some x) None a h e = absurd h
both_at R (Some x) (Some b) a h e = let k : x ≡ a = cc in (b, refl, subst (λ x. R x b) k h)

pub both_back : {A B : Type 0} (R : A → B → Type 0) (o : Option A) (p : Option B) (b : B) → Both R o p → p ≡ Some b → (a : A) × (o ≡ Some a) × R a b
both_back R None p b h e = absurd h
both_back R (Some x) None b h e = absurd h
both_back R (Some x) (Some y) b h e = let k : y ≡ b = cc in (x, refl, subst (R x) k h)

pub each_at : {A B : Type 0} (R : A → B → Type 0) (o : Option A) (p : Option B) (a : A) → EachOf R o p → o ≡ Some a → (b : B) × (p ≡ Some b) × R a b
each_at R None p a h e = absurd (cc)
each_at R (Some x) None a h e = absurd h
each_at R (Some x) (Some b) a h e = let k : x ≡ a = cc in (b, refl, subst (λ x. R x b) k h)

put_first : {A : Type 0} (P : ℕ → A → Type 0) (x : A) (xs : List A) → P zero x → ((j : ℕ) (a : A) → slice_get xs j ≡ Some a → P (suc j) a) → (j : ℕ) (a : A) → slice_get (x ∷ xs) j ≡ Some a → P j a
put_first P x xs p h zero a e = let k : x ≡ a = cc in subst (P zero) k p
put_first P x xs p h (suc j) a e = h j a e

pub list_by : {A : Type 0} (n : ℕ) (P : ℕ → A → Type 0) → ((j : ℕ) → j < n → (a : A) × P j a) → (xs : List A) × (length xs ≡ n) × ((j : ℕ) (a : A) → slice_get xs j ≡ Some a → P j a)
list_by zero P h = ([], refl, λ j a e. absurd (cc))
list_by (suc n) P h =
    let first = h zero (omega arith) in
    let rest = list_by n (λ j a. P (suc j) a) (λ j l. h (suc j) (omega (arith, l))) in
    (first.0 ∷ rest.0, ap suc rest.1, put_first P first.0 rest.0 first.1 rest.2)
