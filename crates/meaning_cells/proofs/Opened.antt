-- Cells that are opened one after another.
use Rattle.std.proofs.Common.{ℕ, suc, ◌≡◌, List, [], ◌∷◌, ◌++◌, length, Option, Some, None, refl, sym, ap, ◌∙◌, Bool, true, false, cond}
use Rattle.std.specs.Prelude.{map, nat_eq}
use Rattle.int_core.specs.Value.{Value}
use Rattle.int_core.specs.Ask.{stuck, Captured, shared_by, brought, cell_held}
use Rattle.tree_activation.specs.Work.{Control, capture, Work, Activation, at}
use Rattle.tree_activation.specs.Asking.{captures_one}
use Rattle.meaning_cells.specs.Opening.{carried, opening, by_step, AreInScope, HoldsInScope, AreHeld, KeepsCells}
use Rattle.list_laws.proofs.Values.{write_own}
use Rattle.list_laws.proofs.Tests.{eq_refl, eq_true, lt_true}

-- values that come back as they were carried change nothing
bring_own : (held : List (ℕ × ℕ)) (gone : List (ℕ × Value)) (xs : List Value) → HoldsInScope (length xs) held
    → brought held (map carried (shared_by held xs ++ gone)) xs ≡ xs
bring_own [] gone xs k = refl
bring_own (h ∷ held) gone xs k = ap (brought held (map carried (shared_by held xs ++ gone))) (write_own h.0 xs k.0) ∙ bring_own held gone xs k.1

newest : (n cell : ℕ) (held : List (ℕ × ℕ)) → cell_held n ((n, cell) ∷ held) ≡ Some cell
newest n cell held = ap (λ b. cond b (Some cell) (cell_held n held)) (eq_refl n)

-- a local that had no cell gets one, and the others keep theirs
keeps_one : (m cell : ℕ) (held : List (ℕ × ℕ)) → cell_held m held ≡ None → KeepsCells held ((m, cell) ∷ held)
keeps_one m cell held none n c e = by (nat_eq m n) refl
  where
    by : (b : Bool) → nat_eq m n ≡ b → cond b (Some cell) (cell_held n held) ≡ Some c
    by true d = let g : m ≡ n = eq_true m n d in let x : cell_held n held ≡ None = ap (λ z. cell_held z held) (sym g) ∙ none in absurd (let y : None ≡ Some c = sym x ∙ e in cc)
    by false d = e

pub catches_up : (cell line : ℕ) (ns : List ℕ) (next : Control) (a : Activation) (k : List Work)
    → AreInScope (length a.locals) ns → HoldsInScope (length a.locals) a.captured.held
    → (n : ℕ) × (captured : Captured) × (opening n cell (at (capture line ns next) a k) ≡ at next (record a { captured = captured }) k)
    × AreHeld captured.held ns × KeepsCells a.captured.held captured.held
catches_up cell line [] next a k scope holds = (1, a.captured, refl, tt, λ n c e. e)
catches_up cell line (m ∷ ns) next a k scope holds =
    by (cell_held m a.captured.held) refl (λ c b. catches_up c line ns next b k)
  where
    in_scope : (n : ℕ) → opening (suc n) cell (at (capture line (m ∷ ns) next) a k) ≡ by_step (at (capture line (m ∷ ns) next) a k) (opening n) cell (captures_one (cell_held m a.captured.held) line m ns next a k)
    in_scope n =
        ap (λ b. by_step (at (capture line (m ∷ ns) next) a k) (opening n) cell (cond b (captures_one (cell_held m a.captured.held) line m ns next a k) stuck)) (lt_true m (length a.locals) scope.0)

    by : (o : Option ℕ) → cell_held m a.captured.held ≡ o
        → ((c : ℕ) (b : Activation) → AreInScope (length b.locals) ns → HoldsInScope (length b.locals) b.captured.held
        → (n : ℕ) × (captured : Captured) × (opening n c (at (capture line ns next) b k) ≡ at next (record b { captured = captured }) k)
        × AreHeld captured.held ns × KeepsCells b.captured.held captured.held)
        → (n : ℕ) × (captured : Captured) × (opening n cell (at (capture line (m ∷ ns) next) a k) ≡ at next (record a { captured = captured }) k)
        × AreHeld captured.held (m ∷ ns) × KeepsCells a.captured.held captured.held
    by None none ih =
        let held = a.captured.held in
        let b = record a { captured = record { held = (m, cell) ∷ held; gone = [] } } in
        let h = ih (suc cell) b scope.1 (scope.0, holds) in (
          suc h.0,
          h.1,
          in_scope h.0
              ∙ ap (λ o. by_step (at (capture line (m ∷ ns) next) a k) (opening h.0) cell (captures_one o line m ns next a k)) none
              ∙ ap (λ ls. opening h.0 (suc cell) (at (capture line ns next) (record a { locals = ls; captured = record { held = (m, cell) ∷ held; gone = [] } }) k))
              (bring_own held a.captured.gone a.locals holds)
              ∙ h.2,
          ((cell, h.4 m cell (newest m cell held)), h.3),
          λ n c e. h.4 n c (keeps_one m cell held none n c e),
        )
    by (Some x) found ih =
        let h = ih cell a scope.1 holds in (
          suc h.0,
          h.1,
          in_scope h.0 ∙ ap (λ o. by_step (at (capture line (m ∷ ns) next) a k) (opening h.0) cell (captures_one o line m ns next a k)) found ∙ h.2,
          ((x, h.4 m x found), h.3),
          h.4,
        )
