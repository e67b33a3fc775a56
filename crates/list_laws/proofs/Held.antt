-- The cells that an activation holds.
use Rattle.std.proofs.Common.{ℕ, ◌<◌, ◌≡◌, inl, inr, ⊎_elim, List, [], ◌∷◌, Some, None, refl, sym, ap, subst, ◌∙◌, arith}
use Rattle.std.specs.Prelude.{Bool, true, false, cond, nat_eq, nat_lt}
use Rattle.int_core.specs.Value.{Value}
use Rattle.int_core.specs.Ask.{held_below, brought, cell_held}
use Rattle.list_laws.specs.Held.{Held, Has}
use Rattle.list_laws.proofs.Tests.{lt_is, lt_not, lt_true, eq_true, eq_refl}

pub below_has : (a : ℕ) (h : Held) (r c : ℕ) → Has r c h → r < a → Has r c (held_below a h)
below_has a [] r c k l = k
below_has a (s ∷ h) r c k l = by (nat_lt s.0 a) refl (λ m. below_has a h r c m l)
  where
    by : (b : Bool) → nat_lt s.0 a ≡ b → (Has r c h → Has r c (held_below a h)) → Has r c (cond b (s ∷ held_below a h) (held_below a h))
    by true e ih = ⊎_elim (λ m. inl m) (λ m. inr (ih m)) k
    by false e ih = ⊎_elim (λ m. absurd (let g : true ≡ false = sym (lt_true s.0 a (subst (λ x. x < a) (sym m.0) l)) ∙ e in cc)) ih k

pub below_was : (a : ℕ) (h : Held) (r c : ℕ) → Has r c (held_below a h) → Has r c h × (r < a)
below_was a [] r c k = absurd k
below_was a (s ∷ h) r c k = by (nat_lt s.0 a) refl (below_was a h r c) k
  where
    by : (b : Bool) → nat_lt s.0 a ≡ b → (Has r c (held_below a h) → Has r c h × (r < a)) → Has r c (cond b (s ∷ held_below a h) (held_below a h)) → Has r c (s ∷ h) × (r < a)
    by true e ih m = ⊎_elim (λ n. (inl n, subst (λ x. x < a) n.0 (lt_is s.0 a e))) (λ n. (inr (ih n).0, (ih n).1)) m
    by false e ih m = (inr (ih m).0, (ih m).1)

pub find_has : (h : Held) (r c : ℕ) → cell_held r h ≡ Some c → Has r c h
find_has [] r c e = absurd (cc)
find_has (s ∷ h) r c e = by (nat_eq s.0 r) refl (find_has h r c) e
  where
    by : (b : Bool) → nat_eq s.0 r ≡ b → (cell_held r h ≡ Some c → Has r c h) → cond b (Some s.1) (cell_held r h) ≡ Some c → Has r c (s ∷ h)
    by true d ih f = let g : s.1 ≡ c = cc in inl (eq_true s.0 r d, g)
    by false d ih f = inr (ih f)

pub has_find : (h : Held) (r c : ℕ) → Has r c h → cell_held r h ≡ None → ⊥
has_find [] r c k e = k
has_find (s ∷ h) r c k e = by (nat_eq s.0 r) refl (has_find h r c) e
  where
    by : (b : Bool) → nat_eq s.0 r ≡ b → (Has r c h → cell_held r h ≡ None → ⊥) → cond b (Some s.1) (cell_held r h) ≡ None → ⊥
    by true d ih f = absurd (cc)
    by false d ih f = ⊎_elim (λ m. absurd (let g : true ≡ false = sym (eq_refl r) ∙ ap (λ x. nat_eq x r) (sym m.0) ∙ d in cc)) (λ m. ih m f) k

pub none_below : (held : List (ℕ × ℕ)) → held_below 0 held ≡ []
none_below [] = refl
none_below (h ∷ held) = ap (λ b. cond b (h ∷ held_below 0 held) (held_below 0 held)) (lt_not h.0 0 (λ l. omega arith)) ∙ none_below held

pub brought_none : (held : List (ℕ × ℕ)) (vs xs : List Value) → brought (held_below 0 held) vs xs ≡ xs
brought_none held vs xs = ap (λ h. brought h vs xs) (none_below held)
