-- Cells that are opened in a stack, one behind the other.
use Rattle.std.proofs.Common.{◌≡◌, ℕ, ◌+◌, ◌<◌, ◌≤◌, ⊎_elim, List, [], true, false, Some, sym, ap, ◌∙◌, subst, arith}
use Rattle.std.specs.Prelude.{nat_eq, slice_get}
use Rattle.std.proofs.lemmas.Bool.Decides.{nat_tests}
use Rattle.table_core.specs.declared.value.CellId.{CellId}
use Rattle.table_core.specs.declared.value.CoroId.{CoroId}
use Rattle.lua_stack.specs.declared.frame.OpenCell.{OpenCell}
use Rattle.lua_stack.specs.Frames.{KeptStack, cell_at, opened_at, top_number}
use Rattle.lua_heap.specs.Cells.{IsOnce}
use Rattle.lua_heap.proofs.Captured.{by_test, added_found, still_found, found_or_new, once_in}
use Rattle.image_made.specs.declared.stack.Opening.{Opening}
use Rattle.image_made.specs.Stacks.{Lists, Opens}
use Rattle.int_core.proofs.Equality.{number_is}

number_same : (m n : ℕ) → m ≡ n → nat_eq m n ≡ true
number_same m n h = grind (arith, nat_tests)

pub no_cells : (own : CoroId) (openings : List Opening) (from : ℕ) → Lists own openings from from []
no_cells own openings from = record {
  order = omega arith;
  each = λ i o least less e. absurd (omega (arith, least, less));
  only = λ frame register cell e. absurd (cc);
  once = tt;
}

module _ (own : CoroId) (openings : List Opening) (old new : KeptStack) (at : ℕ) (o : Opening) (there : slice_get openings at ≡ Some o) (coro : o.coro ≡ own) (frame : o.frame ≡ top_number old) (opens : Opens old new o) where
  some_same : {A : Type 0} (a b : A) → Some a ≡ Some b → a ≡ b
  some_same a b e = cc

  c : OpenCell
  c = opened_at o.cell (top_number old) o.register

  pub one_opened : (first : ℕ) → Lists own openings first at old.open_cells → Lists own openings first (at + 1) new.open_cells
  unfolding c
  one_opened first lists = record {
    order = let o = lists.order in omega (arith, o);
    each = λ i p least less e. by_test (nat_eq i at) (λ t. last i p (number_is i at t) e) (λ f. before i p least less f e);
    only = λ frame register cell e.
        ⊎_elim (λ h. (at, there ∙ ap (λ o. Some o) (is_opening frame register cell h.0 h.1 h.2))) (λ h. lists.only frame register cell h)
        (found_or_new old.open_cells new.open_cells c opens.adds frame register cell e);
    once = subst IsOnce (sym opens.adds.is) (once_in opens.adds.before opens.adds.after c (subst IsOnce opens.adds.was lists.once) (ap (cell_at (top_number old) o.register) (sym opens.adds.was) ∙ opens.free));
  }
    where
      is_opening : (f r : ℕ) (cell : CellId) → top_number old ≡ f → o.register ≡ r → o.cell ≡ cell → o ≡ record { coro = own; frame = f; register = r; cell = cell }
      is_opening f r cell e g h =
          ap (λ co. record { coro = co; frame = o.frame; register = o.register; cell = o.cell }) coro
          ∙ ap (λ n. record { coro = own; frame = n; register = o.register; cell = o.cell }) (frame ∙ e)
          ∙ ap (λ n. record { coro = own; frame = f; register = n; cell = o.cell }) g
          ∙ ap (λ id. record { coro = own; frame = f; register = r; cell = id }) h

      last : (i : ℕ) (p : Opening) → i ≡ at → slice_get openings i ≡ Some p → (p.coro ≡ own) × (cell_at p.frame p.register new.open_cells ≡ Some p.cell)
      last i p e h =
          let same : o ≡ p = some_same o p (sym there ∙ ap (slice_get openings) (sym e) ∙ h) in
          let found : cell_at o.frame o.register new.open_cells ≡ Some o.cell = ap (λ f. cell_at f o.register new.open_cells) frame ∙ added_found old.open_cells new.open_cells c opens.adds in
          subst (λ p. (p.coro ≡ own) × (cell_at p.frame p.register new.open_cells ≡ Some p.cell)) same (coro, found)

      before : (i : ℕ) (p : Opening) → first ≤ i → i < at + 1 → nat_eq i at ≡ false → slice_get openings i ≡ Some p → (p.coro ≡ own) × (cell_at p.frame p.register new.open_cells ≡ Some p.cell)
      before i p least less f e =
          let other : i ≡ at → ⊥ = λ h. let t = number_same i at h in let bad : true ≡ false = sym t ∙ f in cc in
          let was = lists.each i p least (omega (arith, less, other)) e in
          (was.0, still_found old.open_cells new.open_cells c opens.adds opens.free p.frame p.register p.cell was.1)
