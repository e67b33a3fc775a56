-- The rows that have the environment at hand: it is taken to a register for it, or one of its variables is read.
use Rattle.std.proofs.Common.{ℕ, suc, ◌≡◌, ◌⊎◌, inl, inr, ⊎_elim, List, [], ◌∷◌, ◌++◌, Option, Some, None, refl, subst, sym, ap, ◌∙◌, length, drop, Bool, true, false, cond}
use Rattle.std.specs.Prelude.{pos, slice_get}
use Rattle.std.proofs.lemmas.Bool.{cases_eq}
use Rattle.int_core.specs.Value.{nil, a_table, Value, known, object, Shape, bind, nth, write}
use Rattle.int_core.specs.Operations.{index, Settled, found, ask, fault, cannot_arise, does}
use Rattle.list_laws.proofs.Values.{drop_front, nth_mid, drop_mid}
use Rattle.code_core.specs.declared.proto.Const.{Const}
use Rattle.code_core.specs.Instruction.{a_of, b_of, c_of}
use Rattle.code_core.specs.Prototype.{Prototype}
use Rattle.machine_core.specs.World.{Cell, Wait, for_value, World, Place, place_of, read_cell, put_top, put_frames}
use Rattle.machine_core.specs.Text.{read, args_of, constant, Own, read_register, read_constant, write_register, reads, tells, fits, read_upvalue, Text, own}
use Rattle.machine_core.specs.InstructionRows.{next, to_register, gets}
use Rattle.machine_core.specs.Moves.{on_own, outside, made, own_cell, settled, with_own, do_own, Row, act, Outcome, trapped, run}
use Rattle.machine_core.specs.FrameRows.{at_once, expand}
use Rattle.machine_sound.specs.Sound.{Each}
use Rattle.machine_sound.proofs.Lists.{each_none, each_cons, each_one}
use Rattle.prelude_stays.specs.Guards.{Guard, Row as RowOf, apart, takes, from_upvalue, from_register, from_register_named}
use Rattle.prelude_stays.specs.Kept.{Home, Apart, Keeps}
use Rattle.prelude_stays.proofs.Heaps.{SettledOk, does_ok, variable_ok}
use Rattle.prelude_stays.proofs.Own.{held_write}
use Rattle.prelude_stays.proofs.Worlds.{EndKeeps, TopIs, OnPlace, place_there, place_top, top_ok, heap_keeps}
use Rattle.prelude_stays.proofs.Frames.{own_ok, top_keeps, own_keeps, own_top}
use Rattle.prelude_stays.proofs.Quick.{top_own}
use Rattle.prelude_stays.proofs.Texts.{raises_blind, jump_blind, enter_goes, told_row, text_keeps}

-- a value is apart from the environment, or is it
value_is : (e : ℕ) (v : Value) → Apart e v ⊎ (v ≡ object a_table e)
value_is e (object a_table n) = ⊎_elim (λ q. inr (ap (object a_table) q)) (λ q. inl q) (cases_eq n e)
value_is e _ = inl tt

-- a move that only reads from the activation leaves the frame as it was
abbrev pub Idle : Own → Type 0
Idle (read_register r) = Unit {0}
Idle (read_constant n) = Unit {0}
Idle m = ⊥

idle_same : (m : Own) → Idle m → (W : World) (p : Place) (w : Wait Value) (env : List Value) → with_own W p w (m ∷ []) env ≡ with_own W p w [] []
unfolding with_own put_top put_frames
idle_same (read_register r) i W p w env = refl
idle_same (read_constant n) i W p w env = refl
idle_same _ i W p w env = absurd i

none_same : (W : World) (p : Place) (w : Wait Value) (env : List Value) → with_own W p w [] env ≡ with_own W p w [] []
unfolding with_own put_top put_frames
none_same W p w env = refl

module _ (y : Home) (g : Guard) where
  -- a value that is written to the register for it
  module _ (gs : List Guard) (W : World) (k : Keeps y gs W) (t : TopIs gs g W) where
    guard_of : (p : Place) → OnPlace W p → slice_get gs p.top.function ≡ Some g
    guard_of p o = t p.top.function (place_top W p o)

    taken_keeps : (p : Place) → OnPlace W p → (r : ℕ) (v : Value) → g.registers r ≡ true → Keeps y gs (with_own W p p.top.wait (write_register r (read 0) ∷ []) (v ∷ []))
    unfolding with_own put_top put_frames
    taken_keeps p o r v h =
        let w = own_ok y gs W k p o g (guard_of p o) in
        top_keeps y gs W k p o g (guard_of p o) (record p.top { own = record p.top.own { registers = write r v p.top.own.registers } }) refl
        (record { registers = held_write (Apart y.table) tt (λ r. g.registers r ≡ false) r v p.top.own.registers (λ q. absurd (let z = sym h ∙ q in cc)) w.registers; varargs = w.varargs; pending = w.pending })
        (top_ok y gs W k p o).wait W.cells (λ c z. z) k.cell

    idle_keeps : (m : Own) → Idle m → (p : Place) → OnPlace W p → (env : List Value) → Keeps y gs (with_own W p p.top.wait (m ∷ []) env)
    idle_keeps m i p o env = subst (Keeps y gs) (sym (idle_same m i W p p.top.wait env)) (own_keeps y gs W k p o g (guard_of p o) p.top.wait [] [] (top_ok y gs W k p o).wait tt (each_none (Apart y.table)))

    idle_top : (m : Own) → Idle m → (p : Place) → OnPlace W p → (env : List Value) → TopIs gs g (with_own W p p.top.wait (m ∷ []) env)
    idle_top m i p o env = top_own gs g W (with_own W p p.top.wait (m ∷ []) env) p o (own_top y gs W k p o p.top.wait (m ∷ []) env) t

    -- what follows a move that only reads
    idle_goes : (m : Own) → Idle m → (env : List Value) (r : Shape → Row) → ((p : Place) → OnPlace W p → (told : Shape) → EndKeeps y (run (r told) (env ++ reads m p.function.code env p.top.own) (with_own W p p.top.wait (m ∷ []) env)))
        → EndKeeps y (run (act (on_own m) (λ _ s. r s)) env W)
    idle_goes m i env r f = by (place_of W) refl
      where
        fitting : (p : Place) → OnPlace W p → (b : Bool) → EndKeeps y (elim (cond b (made (with_own W p p.top.wait (m ∷ []) env) (reads m p.function.code env p.top.own) (tells m p.function.code env p.top.own)) None) as (λ _. Outcome) [
          | None ↦ trapped
          | Some d ↦ run (r d.told) (env ++ d.values) d.world
        ])
        fitting p o true = f p o (tells m p.function.code env p.top.own)
        fitting p o false = tt

        by : (o : Option Place) → place_of W ≡ o → EndKeeps y (elim (bind o (do_own m env W)) as (λ _. Outcome) [ None ↦ trapped | Some d ↦ run (r d.told) (env ++ d.values) d.world ])
        by None e = tt
        by (Some p) e = fitting p (place_there W p e) (fits m p.function.code p.top.own)

    -- an upvalue that is read, whatever it holds
    upvalue_goes : (u : ℕ) (r : Row) → ((v : Value) → EndKeeps y (run r (v ∷ []) W)) → EndKeeps y (run (act (outside (read_upvalue u)) (λ _ _. r)) [] W)
    upvalue_goes u r f = by (place_of W)
      where
        cell : (o : Option Value) → EndKeeps y (elim (bind o (λ v. made W (v ∷ []) true)) as (λ _. Outcome) [ None ↦ trapped | Some d ↦ run r ([] ++ d.values) d.world ])
        cell None = tt
        cell (Some v) = f v

        within : (o : Option (ℕ × Cell)) → EndKeeps y (elim (bind o (λ c. bind (read_cell W c.1) (λ v. made W (v ∷ []) true))) as (λ _. Outcome) [ None ↦ trapped | Some d ↦ run r ([] ++ d.values) d.world ])
        within None = tt
        within (Some c) = cell (read_cell W c.1)

        by : (o : Option Place) → EndKeeps y (elim (bind o (λ p. bind (own_cell W p u) (λ c. bind (read_cell W c.1) (λ v. made W (v ∷ []) true)))) as (λ _. Outcome) [ None ↦ trapped | Some d ↦ run r ([] ++ d.values) d.world ])
        by None = tt
        by (Some p) = within (own_cell W p u)

    -- the register takes it
    takes_goes : (r : ℕ) (v : Value) → g.registers r ≡ true → EndKeeps y (run (expand (to_register r (read 0))) (v ∷ []) W)
    takes_goes r v h = by (place_of W) refl
      where
        m : Own
        m = write_register r (read 0)

        fitting : (p : Place) → OnPlace W p → (b : Bool) → EndKeeps y (elim (cond b (made (with_own W p p.top.wait (m ∷ []) (v ∷ [])) (reads m p.function.code (v ∷ []) p.top.own) (tells m p.function.code (v ∷ []) p.top.own)) None) as (λ _. Outcome) [
          | None ↦ trapped
          | Some d ↦ run (expand next) ((v ∷ []) ++ d.values) d.world
        ])
        fitting p o true = jump_blind y (pos 1) gs (v ∷ []) (with_own W p p.top.wait (write_register r (read 0) ∷ []) (v ∷ [])) (taken_keeps p o r v h)
        fitting p o false = tt

        by : (o : Option Place) → place_of W ≡ o → EndKeeps y (elim (bind o (do_own (write_register r (read 0)) (v ∷ []) W)) as (λ _. Outcome) [ None ↦ trapped | Some d ↦ run (expand next) ((v ∷ []) ++ d.values) d.world ])
        by None e = tt
        by (Some p) e = fitting p (place_there W p e) (fits (write_register r (read 0)) p.function.code p.top.own)

    -- what was settled goes to a register, whatever was read before
    got_goes : (r : ℕ) (env : List Value) (p : Place) (s : Settled) → SettledOk y W.heap k.heap s → EndKeeps y (elim (settled W p s) as (λ _. Outcome) [
      | None ↦ trapped
      | Some d ↦ run (told_row at_once (length env) for_value [] (to_register r (read 0)) d.told) (env ++ d.values) d.world
    ])
    got_goes r env p (found H vs) h =
        text_keeps y g at_once (to_register r (read 0)) (tt, λ _ _. tt) gs (drop (length env) (env ++ vs)) (record W { heap = H }) (subst (Each (Apart y.table)) (sym (drop_front env vs)) h.1) (heap_keeps y gs W H k h.0) t
    got_goes r env p (ask f vs) h =
        enter_goes y at_once (read (length env)) (suc (length env)) for_value [] gs (env ++ f ∷ vs) W k
        (λ p o. subst (Keeps y gs) (sym (none_same W p for_value (env ++ f ∷ vs))) (own_keeps y gs W k p o g (guard_of p o) for_value [] [] tt tt (each_none (Apart y.table))))
        (subst (Apart y.table) (sym (nth_mid env vs f)) h.0) (subst (Each (Apart y.table)) (sym (drop_mid env vs f)) h.1)
    got_goes r env p (fault text) h = raises_blind y text gs (env ++ []) W k
    got_goes r env p cannot_arise h = tt

    gets_goes : (r : ℕ) (key : ℕ) (env : List Value) → SettledOk y W.heap k.heap (does index (args_of env (read 0 ∷ read key ∷ [])) W.heap) → EndKeeps y (run (expand (gets (read 0) (read key) [] r)) env W)
    gets_goes r key env h = by (place_of W)
      where
        by : (o : Option Place) → EndKeeps y (elim (bind o (λ p. settled W p (does index (args_of env (read 0 ∷ read key ∷ [])) W.heap))) as (λ _. Outcome) [
          | None ↦ trapped
          | Some d ↦ run (told_row at_once (length env) for_value [] (to_register r (read 0)) d.told) (env ++ d.values) d.world
        ])
        by None = tt
        by (Some p) = got_goes r env p (does index (args_of env (read 0 ∷ read key ∷ [])) W.heap) h

    index_ok : (v key : Value) → Apart y.table key → SettledOk y W.heap k.heap (does index (v ∷ key ∷ []) W.heap)
    index_ok v key a = ⊎_elim
        (λ b. does_ok y W.heap k.heap index (v ∷ key ∷ []) (each_cons (Apart y.table) v (key ∷ []) b (each_one (Apart y.table) key a)))
        (λ q. subst (λ v. SettledOk y W.heap k.heap (does index (v ∷ key ∷ []) W.heap)) (sym q) (variable_ok y W.heap k.heap key)) (value_is y.table v)

  -- a variable of what was read
  variable_goes : (gs : List Guard) (W : World) (k : Keeps y gs W) (t : TopIs gs g W) (r c : ℕ) (v : Value) → EndKeeps y (run (expand (own (read_constant c) (λ key _. gets (read 0) (read key) [] r))) (v ∷ []) W)
  variable_goes gs W k t r c v = idle_goes gs W k t (read_constant c) tt (v ∷ []) (λ _. expand (gets (read 0) (read 1) [] r)) (λ p o told. by p o (slice_get p.function.code.own.constants c))
    where
      by : (p : Place) → OnPlace W p → (x : Option Const)
          → EndKeeps y (run (expand (gets (read 0) (read 1) [] r)) ((v ∷ []) ++ elim x as (λ _. List Value) [ None ↦ [] | Some c ↦ known (constant c) ∷ [] ]) (with_own W p p.top.wait (read_constant c ∷ []) (v ∷ [])))
      by p o None = let V = with_own W p p.top.wait (read_constant c ∷ []) (v ∷ []) in let h = idle_keeps gs W k t (read_constant c) tt p o (v ∷ []) in
          gets_goes gs V h (idle_top gs W k t (read_constant c) tt p o (v ∷ [])) r 1 (v ∷ []) (index_ok gs V h (idle_top gs W k t (read_constant c) tt p o (v ∷ [])) v (known nil) tt)
      by p o (Some x) = let V = with_own W p p.top.wait (read_constant c ∷ []) (v ∷ []) in let h = idle_keeps gs W k t (read_constant c) tt p o (v ∷ []) in
          gets_goes gs V h (idle_top gs W k t (read_constant c) tt p o (v ∷ [])) r 1 (v ∷ known (constant x) ∷ []) (index_ok gs V h (idle_top gs W k t (read_constant c) tt p o (v ∷ [])) v (known (constant x)) tt)

  -- the same by a key that is in a register
  keyed_goes : (gs : List Guard) (W : World) (k : Keeps y gs W) (t : TopIs gs g W) (r c : ℕ) (v : Value) → g.registers c ≡ false → EndKeeps y (run (expand (own (read_register c) (λ key _. gets (read 0) (read key) [] r))) (v ∷ []) W)
  keyed_goes gs W k t r c v h = idle_goes gs W k t (read_register c) tt (v ∷ []) (λ _. expand (gets (read 0) (read 1) [] r)) (λ p o told.
      let V = with_own W p p.top.wait (read_register c ∷ []) (v ∷ []) in
      let i = idle_keeps gs W k t (read_register c) tt p o (v ∷ []) in
      let q = idle_top gs W k t (read_register c) tt p o (v ∷ []) in
      let key = nth p.top.own.registers c in
      gets_goes gs V i q r 1 (v ∷ key ∷ []) (index_ok gs V i q v key ((own_ok y gs W k p o g (guard_of gs W k t p o)).registers c h)))

  -- each row of guarded code
  pub row_keeps : (p : Prototype) (pc : ℕ) (text : Text) → RowOf g p pc text → (gs : List Guard) (W : World) → Keeps y gs W → TopIs gs g W → EndKeeps y (run (expand text) [] W)
  row_keeps p pc text (apart r) gs W k t = text_keeps y g at_once text r gs [] W (each_none (Apart y.table)) k t
  row_keeps p pc text (takes w h e) gs W k t = subst (λ text. EndKeeps y (run (expand text) [] W)) (sym e) (upvalue_goes gs W k t (b_of w) (expand (to_register (a_of w) (read 0))) (λ v. takes_goes gs W k t (a_of w) v h))
  row_keeps p pc text (from_upvalue w e) gs W k t =
      subst (λ text. EndKeeps y (run (expand text) [] W)) (sym e) (upvalue_goes gs W k t (b_of w) (expand (own (read_constant (c_of w)) (λ key _. gets (read 0) (read key) [] (a_of w)))) (λ v. variable_goes gs W k t (a_of w) (c_of w) v))
  row_keeps p pc text (from_register w h e) gs W k t =
      subst (λ text. EndKeeps y (run (expand text) [] W)) (sym e)
      (idle_goes gs W k t (read_register (b_of w)) tt [] (λ _. expand (own (read_register (c_of w)) (λ key _. gets (read 0) (read key) [] (a_of w)))) (λ p o told.
      keyed_goes gs (with_own W p p.top.wait (read_register (b_of w) ∷ []) []) (idle_keeps gs W k t (read_register (b_of w)) tt p o []) (idle_top gs W k t (read_register (b_of w)) tt p o []) (a_of w) (c_of w)
      (nth p.top.own.registers (b_of w)) h))
  row_keeps p pc text (from_register_named w e) gs W k t =
      subst (λ text. EndKeeps y (run (expand text) [] W)) (sym e)
      (idle_goes gs W k t (read_register (b_of w)) tt [] (λ _. expand (own (read_constant (c_of w)) (λ key _. gets (read 0) (read key) [] (a_of w)))) (λ p o told.
      variable_goes gs (with_own W p p.top.wait (read_register (b_of w) ∷ []) []) (idle_keeps gs W k t (read_register (b_of w)) tt p o []) (idle_top gs W k t (read_register (b_of w)) tt p o []) (a_of w) (c_of w)
      (nth p.top.own.registers (b_of w))))
