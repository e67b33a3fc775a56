-- The test of two parts tells whether they are one.
use Rattle.std.proofs.Common.{ℕ, ◌≡◌, ⊎_elim, refl, sym, ap, ◌∙◌, Bool, true, false}
use Rattle.std.specs.Prelude.{◌&&◌, nat_eq}
use Rattle.std.proofs.lemmas.Bool.Decides.{eqb_tells}
use Rattle.int_core.specs.Value.{Kind, a_table, a_function, a_coroutine, same_kind}
use Rattle.image_core.specs.Records.{Part, an_object, a_cell, same_part}
use Rattle.int_core.proofs.Equality.{number_self, kind_is}

pub part_tells : (a b : Part) → same_part a b ≡ true → a ≡ b
part_tells (an_object k m) (an_object l n) h = go (same_kind k l) refl h
  where
    go : (b : Bool) → same_kind k l ≡ b → b && nat_eq m n ≡ true → an_object k m ≡ an_object l n
    go true e h = ⊎_elim (λ t. let f = kind_is k l e in rw (f, t.1) refl) (λ t. absurd (false_true (sym t.0 ∙ h))) (eqb_tells m n)
      where
        false_true : false ≡ true → ⊥
        false_true e = cc
    go false e h = absurd (cc)
part_tells (an_object k m) (a_cell n) h = absurd (cc)
part_tells (a_cell m) (an_object l n) h = absurd (cc)
part_tells (a_cell m) (a_cell n) h = ⊎_elim (λ t. ap a_cell t.1) (λ t. absurd (false_true (sym t.0 ∙ h))) (eqb_tells m n)
  where
    false_true : false ≡ true → ⊥
    false_true e = cc

pub kind_self : (k : Kind) → same_kind k k ≡ true
kind_self a_table = refl
kind_self a_function = refl
kind_self a_coroutine = refl

pub part_self : (a : Part) → same_part a a ≡ true
part_self (an_object k n) = rw (kind_self k) (number_self n)
part_self (a_cell n) = number_self n
