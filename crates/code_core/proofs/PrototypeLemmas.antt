-- The functions in a list, one after another.
use Rattle.std.proofs.Common.{◌≡◌, ℕ, zero, suc, ◌+◌, Some, List, [], ◌∷◌, drop, refl, arith, length}
use Rattle.std.specs.Prelude.{slice_get}
use Rattle.code_core.specs.Prototype.{Prototype, prototypes, count, inner_instructions}

pub drop-there : {A : Type 0} (xs : List A) (n : ℕ) (x : A) → slice_get xs n ≡ Some x → drop n xs ≡ x ∷ drop (n + 1) xs
drop-there [] n x h = absurd (cc)
drop-there (y ∷ xs) zero x h = let q : y ≡ x = cc in rw q refl
drop-there (y ∷ xs) (suc n) x h = let e : suc n + 1 ≡ suc (n + 1) = omega arith in rw e (drop-there xs n x h)

pub count-drop : (ps : List Prototype) (n : ℕ) (p : Prototype) → slice_get ps n ≡ Some p →
    count (prototypes (drop n ps)) ≡ 1 + count p.inner + count (prototypes (drop (n + 1) ps))
count-drop ps n p h = rw (drop-there ps n p h) refl

pub inner_instructions-drop : (ps : List Prototype) (n : ℕ) (p : Prototype) → slice_get ps n ≡ Some p →
    inner_instructions (prototypes (drop n ps)) ≡ length p.own.code + inner_instructions p.inner + inner_instructions (prototypes (drop (n + 1) ps))
inner_instructions-drop ps n p h = rw (drop-there ps n p h) refl
