-- The last pending register at a register or above, and the others.
use borrow.Author.Tests.{le-leb}
use Rattle.std.proofs.Common.{◌≡◌, ℕ, suc, ◌≤◌, Bool, true, false, cond, List, [], ◌∷◌, ◌++◌, length, Option, Some, None, refl, sym, ap, ◌∙◌}
use Rattle.std.specs.Prelude.{nat_le}
use Rattle.machine_core.specs.Text.{last_pending, without_pending, is_there}

pub last_from : (r : ℕ) (ms : List ℕ) (q : ℕ) → r ≤ q → last_pending r (ms ++ q ∷ []) ≡ Some q
last_from r [] q le = ap (λ b. cond b (Some q) None) (le-leb r q le)
last_from r (m ∷ ms) q le = ap (λ o. elim o as (λ _. Option ℕ) [ Some p ↦ Some p | None ↦ cond (nat_le r m) (Some m) None ]) (last_from r ms q le)

pub without_from : (r : ℕ) (ms : List ℕ) (q : ℕ) → r ≤ q → without_pending r (ms ++ q ∷ []) ≡ ms
without_from r [] q le = ap (λ b. cond b [] (q ∷ [])) (le-leb r q le)
without_from r (m ∷ ms) q le =
    ap (λ o. cond (is_there o) (m ∷ without_pending r (ms ++ q ∷ [])) (cond (nat_le r m) (ms ++ q ∷ []) (m ∷ (ms ++ q ∷ [])))) (last_from r ms q le)
    ∙ ap (λ l. m ∷ l) (without_from r ms q le)

-- where there is one, there is one fewer without it
pub one_fewer : (r : ℕ) (ms : List ℕ) (q : ℕ) → last_pending r ms ≡ Some q → suc (length (without_pending r ms)) ≡ length ms
one_fewer r [] q e = absurd (cc)
one_fewer r (m ∷ ms) q e = by (last_pending r ms) refl (λ p. one_fewer r ms p) where
  here : (b : Bool) → cond b (Some m) None ≡ Some q → suc (length (cond b ms (m ∷ ms))) ≡ suc (length ms)
  here true e = refl
  here false e = absurd (cc)

  by : (o : Option ℕ) → last_pending r ms ≡ o → ((p : ℕ) → last_pending r ms ≡ Some p → suc (length (without_pending r ms)) ≡ length ms)
      → suc (length (cond (is_there (last_pending r ms)) (m ∷ without_pending r ms) (cond (nat_le r m) ms (m ∷ ms)))) ≡ suc (length ms)
  by (Some p) is more = ap (λ o. suc (length (cond (is_there o) (m ∷ without_pending r ms) (cond (nat_le r m) ms (m ∷ ms))))) is ∙ ap suc (more p is)
  by None is more =
      ap (λ o. suc (length (cond (is_there o) (m ∷ without_pending r ms) (cond (nat_le r m) ms (m ∷ ms))))) is
      ∙ here (nat_le r m) (ap (λ o. elim o as (λ _. Option ℕ) [ Some p ↦ Some p | None ↦ cond (nat_le r m) (Some m) None ]) (sym is) ∙ e)
