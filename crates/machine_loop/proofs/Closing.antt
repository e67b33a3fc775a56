-- CLOSE where no cell is open and nothing is to be closed is a step that only goes on.
use Rattle.std.proofs.Common.{◌≡◌, ℕ, suc, ◌+◌, ◌<◌, ◌≤◌, List, [], ◌∷◌, ◌++◌, length, map, Option, Some, None, refl, ap, sym, subst, ◌∙◌, arith, Bool, true, false}
use Rattle.std.specs.Prelude.{cond, nat_le, slice_get, IfSome}
use Rattle.std.proofs.lemmas.Bool.Decides.{nat_tests}
use Rattle.code_core.specs.Check.{at}
use Rattle.code_core.specs.Instruction.{opcode_of, a_of}
use Rattle.code_core.specs.declared.instruction.Instruction.{Instruction}
use Rattle.code_core.specs.declared.opcode.Opcode.{Opcode}
use Rattle.code_core.specs.declared.opcode.Opcode.TheVariants.{Close}
use Rattle.int_core.specs.Heap.{Heap}
use Rattle.int_core.specs.Value.{Value, boolean, nil, Shape, is_known}
use Rattle.lua_heap.specs.Plain.{cell, heap}
use Rattle.lua_heap.specs.Reading.{value}
use Rattle.lua_heap.specs.declared.world.Cell.{Cell as KeptCell}
use Rattle.lua_heap.specs.declared.world.Cell.TheVariants.{Closed, Open}
use Rattle.machine_core.specs.World.{open_at, for_close, close_from}
use Rattle.machine_core.specs.Text.{close, close_cells, is_there, last_pending, own, read, see_pending, take_pending, Text, trap, value_if, written}
use Rattle.machine_core.specs.InstructionRows.{is_true, next, row_of, text_at, text_by, then}
use Rattle.machine_core.specs.MachineStep.{step, and_then}
use Rattle.machine_core.specs.Moves.{go}
use Rattle.machine_focus.specs.Focus.{Held, local}
use Rattle.machine_focus.proofs.Here.{held_is_step}
use Rattle.machine_sound.proofs.Lists.{map_get}
use Rattle.machine_view.specs.View.{Around, held, IsAt}
use Rattle.machine_view.proofs.Going.{goes_by}
use Rattle.machine_view.proofs.Places.{next_there}
use Rattle.machine_view.proofs.Rows.{Comes, comes}
use Rattle.table_core.specs.declared.value.CoroId.{CoroId}
use Rattle.table_core.specs.declared.value.Value.{Value as Kept}
use Rattle.machine_arms_tables.specs.Frame.{Code, Moment, moment, world_at, IsReadyAt, StepsOn}
use Rattle.machine_arms_tables.proofs.Steps.{at_opcode, last_of}
use Rattle.machine_loop.specs.Running.{ClosesNothing, PassesClose, Running}
use Rattle.lua_heap.proofs.Closed.{close_none}

-- nothing is pending further on either

none_further : (r a : ℕ) (qs : List ℕ) → r ≤ a → last_pending r qs ≡ None → last_pending a qs ≡ None
none_further r a [] l e = refl
none_further r a (q ∷ qs) l e = by (last_pending r qs) refl (nat_le r q) refl e (none_further r a qs l)
  where
    not_at_least : nat_le r q ≡ false → nat_le a q ≡ false
    not_at_least t = search (arith, nat_tests)

    by : (o : Option ℕ) → last_pending r qs ≡ o → (b : Bool) → nat_le r q ≡ b → elim o as (λ _. Option ℕ) [ Some p ↦ Some p | None ↦ cond b (Some q) None ] ≡ None → (last_pending r qs ≡ None → last_pending a qs ≡ None)
        → last_pending a (q ∷ qs) ≡ None
    by (Some p) f b t e further = absurd (cc)
    by None f true t e further = absurd (cc)
    by None f false t e further =
        ap (λ o. elim o as (λ _. Option ℕ) [ Some p ↦ Some p | None ↦ cond (nat_le a q) (Some q) None ]) (further f)
        ∙ ap (λ b. cond b (Some q) None) (not_at_least t)

-- no cell is closed

kept_open : (texts : List (List ℕ)) (c : KeptCell) (co f q : ℕ) → cell texts c ≡ open_at co f q → (k : CoroId) × (c ≡ Open k f q) × (k.0 ≡ co)
kept_open texts (Closed v) co f q e = absurd (cc)
kept_open texts (Open k g p) co f q e =
    let x : k.0 ≡ co = cc in
    let y : g ≡ f = cc in
    let z : p ≡ q = cc in
    (k, ap (λ g. Open k g p) y ∙ ap (λ p. Open k f p) z, x)

module _ (g : Around) (cells : List KeptCell) (register a : ℕ) (none : ClosesNothing g cells register) (l : register ≤ a) where
  pub stays : (regs : List Value) → close_from g.context.coroutine (length g.context.below) a regs (map (cell g.texts) cells) ≡ map (cell g.texts) cells
  stays regs = close_none g.context.coroutine (length g.context.below) a regs (map (cell g.texts) cells) (λ n q e.
      let x = map_get (cell g.texts) cells n (open_at g.context.coroutine (length g.context.below) q) e in
      let k = kept_open g.texts x.0 g.context.coroutine (length g.context.below) q x.2 in
      let m : q < register = none.below n k.0 q (x.1 ∙ ap (λ (c : KeptCell). Some c) k.1) k.2 in
      omega (arith, m, l))

  nothing_pending : last_pending a g.pending ≡ None
  nothing_pending = none_further register a g.pending l none.pending

  module _ (H : Heap) (r : List Kept) (pc fuel : ℕ) where
    sees_none : {k : ℕ → Shape → Text} {env : List Value} {o : Option Held}
        → Comes g.context (k (length env) (is_known (boolean false))) (env ++ []) (held g H (map (cell g.texts) cells) r pc fuel) o
        → Comes g.context (own (see_pending a) k) env (held g H (map (cell g.texts) cells) r pc fuel) o
    sees_none {k = k} {env = env} {o = o} q = comes (
        ap (λ p. local g.context (k (length env) (is_known (boolean (is_there p)))) (env ++ value_if (map (value g.texts) r) p) (held g H (map (cell g.texts) cells) r pc fuel)) nothing_pending
        ∙ q.is)

    closes_cells : {k : ℕ → Shape → Text} {env : List Value} {o : Option Held}
        → Comes g.context (k (length env) (is_known nil)) (env ++ []) (held g H (map (cell g.texts) cells) r pc fuel) o
        → Comes g.context (own (close_cells a) k) env (held g H (map (cell g.texts) cells) r pc fuel) o
    closes_cells {k = k} {env = env} {o = o} q = comes (
        ap (λ cs. local g.context (k (length env) (is_known nil)) (env ++ []) (held g H cs r pc fuel)) (stays (map (value g.texts) r))
        ∙ q.is)

-- what is left of the row once it is seen whether something is to be closed
abbrev after_seen : ℕ → ℕ → Shape → Text
after_seen a v there = cond (is_true there) (close (read v) (written nil) for_close (close_cells a ∷ take_pending a ∷ [])) (then (close_cells a) next)

module _ (g : Running) (k : Code) (m : Moment) (here : IsReadyAt g.around g.string_metatable k m) (w : Instruction) where
  abbrev next_moment : ℕ → Moment
  next_moment to = moment m.tables m.cells m.registers to m.fuel

  abbrev held_now : ℕ → Held
  held_now to = held g.around (heap g.around.texts m.tables g.string_metatable) (map (cell g.around.texts) m.cells) m.registers to m.fuel

  passes : IsAt Close w k.words k.constants m.registers m.pc → (register : ℕ) → ClosesNothing g.around m.cells register → register ≤ a_of w
      → local g.around.context (row_of g.around.context.closure.code m.pc Close w) [] (held_now m.pc) ≡ Some (held_now (m.pc + 1))
  passes h register none l =
      let H = heap g.around.texts m.tables g.string_metatable in
      let cs = map (cell g.around.texts) m.cells in
      let x =
      sees_none g.around m.cells register (a_of w) none l H m.registers m.pc m.fuel {k = after_seen (a_of w)} {env = []}
      (closes_cells g.around m.cells register (a_of w) none l H m.registers m.pc m.fuel {k = λ _ _. next} {env = []}
      (goes_by g.around H cs m.registers m.pc m.fuel (m.pc + 1) 1 here.ready.code (next_there h refl) refl)) in
      x.is

  passed : IsAt Close w k.words k.constants m.registers m.pc → (register to : ℕ) → ClosesNothing g.around m.cells register → register ≤ a_of w → to ≡ m.pc + 1 → StepsOn g.around g.string_metatable k m (next_moment to)
  passed h register to none l e =
      let p = g.around.context.closure.code in
      let at_pc : at p m.pc ≡ Some w = ap (λ ws. slice_get ws m.pc) here.ready.code.code.words_are ∙ h.at_pc in
      let text_is : text_at p m.pc ≡ row_of p m.pc Close w = ap (λ (o : Option Instruction). elim o [ None ↦ trap | Some w ↦ text_by p m.pc w (opcode_of w) ]) at_pc ∙ ap (text_by p m.pc w) h.is_opcode in
      let q =
      held_is_step g.around.primitives g.around.rows g.around.context (held_now m.pc) (held_now to) here.ready.frame
      (ap (λ t. local g.around.context t [] (held_now m.pc)) text_is ∙ passes h register none l ∙ ap (λ to. Some (held_now to)) (sym e)) in
      record {
        ready = record {
          ready = record { code = here.ready.code; frame = q.1 };
          upvalues_are = here.upvalues_are;
          texts_are = here.texts_are;
        };
        opened = refl;
        runs = λ start x. (suc x.0, last_of g.around.rows x.0 go (world_at g.around g.string_metatable start) ∙ ap (λ o. and_then o (step g.around.rows)) x.1 ∙ q.0);
      }

  close_at : {op : Opcode} → op ≡ Close → slice_get k.words m.pc ≡ Some w → Some op ≡ opcode_of w → IsAt Close w k.words k.constants m.registers m.pc
  close_at {op} c e f = subst (λ op. IsAt op w k.words k.constants m.registers m.pc) c (at_opcode g.around g.string_metatable k m here w op e (sym f))

  pub next_is_there : {op : Opcode} → op ≡ Close → slice_get k.words m.pc ≡ Some w → Some op ≡ opcode_of w → m.pc + 1 < length k.words
  next_is_there c e f = next_there (close_at c e f) refl

  pub close_so : {op : Opcode} → op ≡ Close → slice_get k.words m.pc ≡ Some w → Some op ≡ opcode_of w → (known : Option ℕ) → IfSome known (λ register. ClosesNothing g.around m.cells register) → (o : Option ℕ)
      → IfSome o (λ to. PassesClose w m.pc known to) → IfSome o (λ to. StepsOn g.around g.string_metatable k m (next_moment to))
  close_so c e f known none None q = q
  close_so c e f known none (Some to) q =
      passed (close_at c e f) q.register to (subst (λ o. IfSome o (λ register. ClosesNothing g.around m.cells register)) q.known none) q.at_least q.next
