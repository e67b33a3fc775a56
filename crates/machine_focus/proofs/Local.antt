-- The third reading of a text is the second one, where the frame goes on.
use Rattle.std.proofs.Common.{◌≡◌, ℕ, zero, suc, List, [], ◌∷◌, ◌++◌, length, Option, Some, None, refl, ap, ◌∙◌, drop, Bool, true, false}
use Rattle.std.specs.Prelude.{cond, slice_set}
use Rattle.code_core.specs.Check.{at}
use Rattle.code_core.specs.declared.instruction.Instruction.{Instruction}
use Rattle.int_core.specs.Heap.{Heap, add_table}
use Rattle.int_core.specs.Value.{Value, bind, object, a_table}
use Rattle.int_core.specs.Operations.{Settled, found, ask, fault, cannot_arise, does}
use Rattle.machine_core.specs.World.{Cell, closed, open_at, World, read_cell, write_cell}
use Rattle.machine_core.specs.Text.{read, arg, args_of, reads, tells, fits, read_upvalue, write_upvalue, make_table, pay, Text, go_by, own, quick, operate}
use Rattle.machine_core.specs.InstructionRows.{text_at}
use Rattle.machine_core.specs.FrameRows.{When, at_once, expand_by, prepares, raises, calls_row}
use Rattle.machine_core.specs.Moves.{SettledShape, is_found, is_asked, is_fault, only, on_own, move_pc, outside, settle, Move, Told, Made, made, move, settled, place_from, go, spent, Row, stop, act, Outcome, ends, trapped, run}
use Rattle.machine_core.specs.MachineStep.{from_world, step}
use Rattle.machine_focus.specs.Focus.{Context, Held, world, place, Stands, held_own, with_pc, moved, cell_at, local}
use Rattle.machine_focus.proofs.Places.{own_move, pc_move, quick_move, settle_move, step_is}

-- one move of a row
pub act_is : (m : Move) (k : ℕ → Told m → Row) (env : List Value) (W : World) (o : Option (Made (Told m))) → move m env W ≡ o
    → run (act m k) env W ≡ elim o [ None ↦ trapped | Some d ↦ run (k (length env) d.told) (env ++ d.values) d.world ]
act_is m k env W o e = ap (λ o. elim o as (λ _. Outcome) [ None ↦ trapped | Some d ↦ run (k (length env) d.told) (env ++ d.values) d.world ]) e

-- a move that is made
pub made_is : (m : Move) (k : ℕ → Told m → Row) (env : List Value) (W V : World) (vs : List Value) (t : Told m) → move m env W ≡ made V vs t
    → run (act m k) env W ≡ run (k (length env) t) (env ++ vs) V
made_is m k env W V vs t e = act_is m k env W (made V vs t) e

pub drop_front : {A : Type 0} (xs ys : List A) → drop (length xs) (xs ++ ys) ≡ ys
drop_front [] ys = refl
drop_front (x ∷ xs) ys = drop_front xs ys

pub set_closed : (W : World) (n : ℕ) (v w : Value) → write_cell W n (closed v) w ≡ record W { cells = slice_set W.cells n (closed w) }
unfolding write_cell
set_closed W n v w = refl

pub local_is : (c : Context) (s : Stands c) (when : When) (t : Text) (env : List Value) (h k : Held) → local c t env h ≡ Some k → run (expand_by when t) env (world c h) ≡ ends go (world c k)
local_is c s when (go_by z) env h k e = by (place_from h.own.pc z) refl e
  where
    at_place : (pc : ℕ) (i : Option Instruction) → at c.closure.code pc ≡ i → place_from h.own.pc z ≡ Some pc → elim i [ None ↦ None | Some _ ↦ Some (with_pc h pc) ] ≡ Some k → run (expand_by when (go_by z)) env (world c h) ≡ ends go (world c k)
    at_place pc None q p e = absurd (cc)
    at_place pc (Some w) q p e =
        let same : with_pc h pc ≡ k = cc in
        made_is (move_pc z) (λ _ _. stop go) env (world c h) (world c (with_pc h pc)) [] tt
        (pc_move c s h z env ∙ ap (λ o. bind o (λ pc. bind (at c.closure.code pc) (λ _. made (world c (with_pc h pc)) [] tt))) p ∙ ap (λ o. bind o (λ _. made (world c (with_pc h pc)) [] tt)) q)
        ∙ ap (λ (x : Held). ends go (world c x)) same

    by : (o : Option ℕ) → place_from h.own.pc z ≡ o → moved c h o ≡ Some k → run (expand_by when (go_by z)) env (world c h) ≡ ends go (world c k)
    by None p e = absurd (cc)
    by (Some pc) p e = at_place pc (at c.closure.code pc) refl p e
local_is c s when (own m f) env h k e = by (fits m c.closure.code h.own) refl e (local_is c s when (f (length env) (tells m c.closure.code env h.own)) (env ++ reads m c.closure.code env h.own) (held_own c m env h) k)
  where
    by : (b : Bool) → fits m c.closure.code h.own ≡ b → cond b (local c (f (length env) (tells m c.closure.code env h.own)) (env ++ reads m c.closure.code env h.own) (held_own c m env h)) None ≡ Some k
        → (local c (f (length env) (tells m c.closure.code env h.own)) (env ++ reads m c.closure.code env h.own) (held_own c m env h) ≡ Some k
        → run (expand_by when (f (length env) (tells m c.closure.code env h.own))) (env ++ reads m c.closure.code env h.own) (world c (held_own c m env h)) ≡ ends go (world c k))
        → run (expand_by when (own m f)) env (world c h) ≡ ends go (world c k)
    by false q e again = absurd (cc)
    by true q e again =
        made_is (on_own m) (λ n s. expand_by when (f n s)) env (world c h) (world c (held_own c m env h)) (reads m c.closure.code env h.own) (tells m c.closure.code env h.own)
        (own_move c s h m env ∙ ap (λ b. cond b (made (world c (held_own c m env h)) (reads m c.closure.code env h.own) (tells m c.closure.code env h.own)) None) q)
        ∙ again e
local_is c s when (quick pay f) env h k e = by h.fuel refl e (λ fuel. local_is c s when (f (length env)) (env ++ []) (record h { fuel = fuel }) k)
  where
    by : (n : ℕ) → h.fuel ≡ n → elim n [ zero ↦ None | suc fuel ↦ local c (f (length env)) (env ++ []) (record h { fuel = fuel }) ] ≡ Some k
        → ((fuel : ℕ) → local c (f (length env)) (env ++ []) (record h { fuel = fuel }) ≡ Some k → run (expand_by when (f (length env))) (env ++ []) (world c (record h { fuel = fuel })) ≡ ends go (world c k))
        → run (expand_by when (quick pay f)) env (world c h) ≡ ends go (world c k)
    by zero q e again = absurd (cc)
    by (suc fuel) q e again =
        made_is (outside pay) (λ n paid. cond paid (expand_by when (f n)) (stop spent)) env (world c h) (world c (record h { fuel = fuel })) [] true
        (quick_move c s h pay env ∙ ap (λ n. elim n as (λ _. Option (Made Bool)) [ zero ↦ made (world c h) [] false | suc fuel ↦ made (world c (record h { fuel = fuel })) [] true ]) q)
        ∙ again fuel e
local_is c s when (quick (read_upvalue u) f) env h k e = by (cell_at c h u) refl e (λ v. local_is c s when (f (length env)) (env ++ v ∷ []) h k)
  where
    value_at : (x : ℕ × Cell) → cell_at c h u ≡ Some x → (o : Option Value) → read_cell (world c h) x.1 ≡ o → bind o (λ v. local c (f (length env)) (env ++ v ∷ []) h) ≡ Some k
        → ((v : Value) → local c (f (length env)) (env ++ v ∷ []) h ≡ Some k → run (expand_by when (f (length env))) (env ++ v ∷ []) (world c h) ≡ ends go (world c k))
        → run (expand_by when (quick (read_upvalue u) f)) env (world c h) ≡ ends go (world c k)
    value_at x q None r e again = absurd (cc)
    value_at x q (Some v) r e again =
        made_is (outside (read_upvalue u)) (λ n _. expand_by when (f n)) env (world c h) (world c h) (v ∷ []) true
        (quick_move c s h (read_upvalue u) env ∙ ap (λ o. bind o (λ y. bind (read_cell (world c h) y.1) (λ v. made (world c h) (v ∷ []) true))) q ∙ ap (λ o. bind o (λ v. made (world c h) (v ∷ []) true)) r)
        ∙ again v e

    by : (o : Option (ℕ × Cell)) → cell_at c h u ≡ o → bind o (λ x. bind (read_cell (world c h) x.1) (λ v. local c (f (length env)) (env ++ v ∷ []) h)) ≡ Some k
        → ((v : Value) → local c (f (length env)) (env ++ v ∷ []) h ≡ Some k → run (expand_by when (f (length env))) (env ++ v ∷ []) (world c h) ≡ ends go (world c k))
        → run (expand_by when (quick (read_upvalue u) f)) env (world c h) ≡ ends go (world c k)
    by None q e again = absurd (cc)
    by (Some x) q e again = value_at x q (read_cell (world c h) x.1) refl e again
local_is c s when (quick (write_upvalue u x) f) env h k e = by (cell_at c h u) refl e (λ (y : ℕ × Cell). local_is c s when (f (length env)) (env ++ []) (record h { cells = slice_set h.cells y.0 (closed (arg env x)) }) k)
  where
    by : (o : Option (ℕ × Cell)) → cell_at c h u ≡ o → bind o (λ y. elim y.1 [
      | closed _ ↦ local c (f (length env)) (env ++ []) (record h { cells = slice_set h.cells y.0 (closed (arg env x)) })
      | open_at co g r ↦ None
    ]) ≡ Some k
        → ((y : ℕ × Cell) → local c (f (length env)) (env ++ []) (record h { cells = slice_set h.cells y.0 (closed (arg env x)) }) ≡ Some k
        → run (expand_by when (f (length env))) (env ++ []) (world c (record h { cells = slice_set h.cells y.0 (closed (arg env x)) })) ≡ ends go (world c k))
        → run (expand_by when (quick (write_upvalue u x) f)) env (world c h) ≡ ends go (world c k)
    by None q e again = absurd (cc)
    by (Some (n, open_at co g r)) q e again = absurd (cc)
    by (Some (n, closed v)) q e again =
        made_is (outside (write_upvalue u x)) (λ n _. expand_by when (f n)) env (world c h) (world c (record h { cells = slice_set h.cells n (closed (arg env x)) })) [] true
        (quick_move c s h (write_upvalue u x) env ∙ ap (λ o. bind o (λ y. bind (read_cell (world c h) y.1) (λ _. made (write_cell (world c h) y.0 y.1 (arg env x)) [] true))) q ∙ ap (λ W. made W [] true) (set_closed (world c h) n v (arg env x)))
        ∙ again (n, closed v) e
local_is c s when (quick make_table f) env h k e =
    made_is (outside make_table) (λ n _. expand_by when (f n)) env (world c h) (world c (record h { heap = add_table h.heap })) (object a_table (length h.heap.tables) ∷ []) true (quick_move c s h make_table env)
    ∙ local_is c s when (f (length env)) (env ++ object a_table (length h.heap.tables) ∷ []) (record h { heap = add_table h.heap }) k e
local_is c s when (operate op xs wait [] t) env h k e = by (does op (args_of env xs) h.heap) refl e (λ H vs. local_is c s when t vs (record h { heap = H }) k)
  where
    next_row : ℕ → SettledShape → Row
    next_row n r = elim r [
      | is_found ↦ prepares [] (only n (expand_by when t))
      | is_asked ↦ calls_row when (read n) (suc n) wait []
      | is_fault text ↦ prepares [] (raises text)
    ]

    by : (r : Settled) → does op (args_of env xs) h.heap ≡ r → elim r [ found H vs ↦ local c t vs (record h { heap = H }) | ask g vs ↦ None | fault text ↦ None | cannot_arise ↦ None ] ≡ Some k
        → ((H : Heap) (vs : List Value) → local c t vs (record h { heap = H }) ≡ Some k → run (expand_by when t) vs (world c (record h { heap = H })) ≡ ends go (world c k))
        → run (expand_by when (operate op xs wait [] t)) env (world c h) ≡ ends go (world c k)
    by (ask g vs) q e again = absurd (cc)
    by (fault text) q e again = absurd (cc)
    by cannot_arise q e again = absurd (cc)
    by (found H vs) q e again =
        made_is (settle op xs) next_row env (world c h) (world c (record h { heap = H })) vs is_found
        (settle_move c s h op xs env ∙ ap (λ r. settled (world c h) (place c h) r) q)
        ∙ ap (λ vs. run (expand_by when t) vs (world c (record h { heap = H }))) (drop_front env vs)
        ∙ again H vs e
local_is c s when _ env h k e = absurd (cc)

-- a whole step
pub step_held : (c : Context) (s : Stands c) (h k : Held) (rows : ℕ → Row) → local c (text_at c.closure.code h.own.pc) [] h ≡ Some k → step rows go (world c h) ≡ ends go (world c k)
step_held c s h k rows e = step_is c s h rows ∙ ap (from_world (world c h)) (local_is c s at_once (text_at c.closure.code h.own.pc) [] h k e)
