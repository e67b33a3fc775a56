-- Rows of free moves, and those that pop a frame which is no Lua frame.
use Rattle.std.proofs.Common.{ℕ, ◌≡◌, List, [], ◌∷◌, ◌++◌, Option, Some, None, refl, subst, sym, ap, ◌∙◌, length, Bool, true, false, cond}
use Rattle.int_core.specs.Value.{boolean, Value, bind, last, without_last, error_or_nil}
use Rattle.machine_core.specs.World.{LuaFrame, Frame, lua, pcall, xpcall, handler, closing, World, Stack, stack_of, lua_frame, put_top, pop}
use Rattle.machine_core.specs.Text.{read, written}
use Rattle.machine_core.specs.Moves.{Move, take_moving, give, pop_frame, Made, made, Told, TopShape, lua_top, ClosingShape, one_left, top_shape, top_now, next_closing, Ending, Row, traps, stop, act, Outcome, trapped, move, run}
use Rattle.machine_core.specs.FrameRows.{then, handed, hand_over, closing_by, closing_row, gives_up}
use Rattle.machine_sound.specs.Sound.{Each}
use Rattle.machine_sound.proofs.Lists.{each_none, each_append}
use Rattle.prelude_stays.specs.Guards.{Guard}
use Rattle.prelude_stays.specs.Kept.{Home, Apart, Keeps}
use Rattle.prelude_stays.proofs.Worlds.{MadeKeeps, EndKeeps, top_function, OnStack, stack_there}
use Rattle.prelude_stays.proofs.Frames.{pop_keeps}
use Rattle.prelude_stays.proofs.Moves.{IsFree, free_keeps, next_keeps}

-- whatever was read apart from the environment, the row keeps it so
pub record RowKeeps (y : Home) (r : Row) : Type 0 where
  pub goes : (gs : List Guard) (env : List Value) (W : World) → Each (Apart y.table) env → Keeps y gs W → EndKeeps y (run r env W)

pub made_goes : {A : Type 0} (y : Home) (o : Option (Made A)) (env : List Value) (k : A → Row) → Each (Apart y.table) env → MadeKeeps y o → ((told : A) → RowKeeps y (k told))
    → EndKeeps y (elim o as (λ _. Outcome) [ None ↦ trapped | Some d ↦ run (k d.told) (env ++ d.values) d.world ])
made_goes y None env k v h f = tt
made_goes y (Some d) env k v h f = (f d.told).goes h.0 (env ++ d.values) d.world (each_append (Apart y.table) env d.values v h.2) h.1

pub traps_keep : {y : Home} → RowKeeps y traps
traps_keep = record { goes = λ gs env W v k. tt }

pub stop_keeps : {y : Home} {e : Ending} → RowKeeps y (stop e)
stop_keeps = record { goes = λ gs env W v k. (gs, k) }

pub act_keeps : {y : Home} {m : Move} {k : ℕ → Told m → Row} → IsFree m → ((n : ℕ) (told : Told m) → RowKeeps y (k n told)) → RowKeeps y (act m k)
act_keeps {y = y} {m = m} {k = k} i f = record { goes = λ gs env W v h. made_goes y (move m env W) env (k (length env)) v (free_keeps y gs W h m env i v) (f (length env)) }

pub cond_keeps : {y : Home} (b : Bool) {p q : Row} → RowKeeps y p → RowKeeps y q → RowKeeps y (cond b p q)
cond_keeps true p q = p
cond_keeps false p q = q

pub handed_keeps : {y : Home} (top : TopShape) → RowKeeps y (handed top)
handed_keeps lua_top = stop_keeps
handed_keeps _ = stop_keeps

pub hand_over_keeps : {y : Home} → RowKeeps y hand_over
hand_over_keeps = act_keeps tt (λ n top. handed_keeps top)

pub gives_up_keeps : {y : Home} → RowKeeps y gives_up
gives_up_keeps = act_keeps tt (λ n t. stop_keeps)

-- what is on top

pub no_lua : (W : World) (top : TopShape) → top_now W ≡ Some top → (top ≡ lua_top → ⊥) → top_function W ≡ None
no_lua W top h d = by (stack_of W) h
  where
    shape_of : (o : Option Frame) → top_shape W o ≡ top → bind (bind o lua_frame) (λ (f : LuaFrame). Some f.function) ≡ None
    shape_of None e = refl
    shape_of (Some (lua f)) e = absurd (d (sym e))
    shape_of (Some pcall) e = refl
    shape_of (Some (xpcall v)) e = refl
    shape_of (Some handler) e = refl
    shape_of (Some (closing x xs)) e = refl

    by : (o : Option Stack) → bind o (λ s. Some (top_shape W (last s.frames))) ≡ Some top → bind (bind (bind o (λ s. last s.frames)) lua_frame) (λ f. Some f.function) ≡ None
    by None e = absurd (cc)
    by (Some s) e = shape_of (last s.frames) (let q : Some (top_shape W (last s.frames)) ≡ Some top = e in cc)

pub pop_goes : (y : Home) (r : Row) → RowKeeps y r → (gs : List Guard) (env : List Value) (W : World) → Each (Apart y.table) env → Keeps y gs W → top_function W ≡ None → EndKeeps y (run (then pop_frame r) env W)
pop_goes y r f gs env W v k t = made_goes y (move pop_frame env W) env (λ _. r) v (by (stack_of W) refl) (λ _. f)
  where
    by : (o : Option Stack) → stack_of W ≡ o → MadeKeeps y (bind o (λ s. made {A = Unit {0}} (pop W s) [] tt))
    by None e = tt
    by (Some s) e = (gs, pop_keeps y gs W k s (stack_there W s e) t, each_none (Apart y.table))

-- what moves is taken, and the frame is popped
pub taken_pop : (y : Home) (r : ℕ → Row) → ((n : ℕ) → RowKeeps y (r n)) → (gs : List Guard) (env : List Value) (W : World) → Each (Apart y.table) env → Keeps y gs W → top_function W ≡ None
    → EndKeeps y (run (act take_moving (λ v _. then pop_frame (r v))) env W)
taken_pop y r f gs env W v k t =
    let m = free_keeps y gs W k take_moving env tt v in
    pop_goes y (r (length env)) (f (length env)) m.0 (env ++ W.moving) (record W { moving = [] }) (each_append (Apart y.table) env W.moving v k.moving) m.1 t

-- the closing of a coroutine's variables

one_keeps : {y : Home} (v : ℕ) → RowKeeps y (closing_by one_left v)
one_keeps v = act_keeps tt (λ h t. act_keeps tt (λ n t. stop_keeps))

one_told : (W : World) (s : Stack) (x : Option Value) (v : Value) (left : List Value) (d : Made ClosingShape) → next_closing W s (closing x (v ∷ left)) ≡ Some d → d.told ≡ one_left
one_told W s x v left d e = by (last (v ∷ left)) e
  where
    by : (r : Option Value) → elim r as (λ _. Option (Made ClosingShape)) [
      | None ↦ None
      | Some w ↦ made (put_top W s (closing x (without_last (v ∷ left)))) (w ∷ error_or_nil x ∷ []) one_left
    ] ≡ Some d → d.told ≡ one_left
    by None e = absurd (cc)
    by (Some w) e = sym (ap (λ (o : Option (Made ClosingShape)). elim o as (λ _. ClosingShape) [ None ↦ one_left | Some d ↦ d.told ]) e)

pub closing_keeps : {y : Home} → RowKeeps y closing_row
closing_keeps {y = y} = record { goes = go }
  where
    go : (gs : List Guard) (env : List Value) (W : World) → Each (Apart y.table) env → Keeps y gs W → EndKeeps y (run closing_row env W)
    go gs env W v k = by (stack_of W) refl
      where
        After : Option (Made ClosingShape) → Type 0
        After o = EndKeeps y (elim o as (λ _. Outcome) [ None ↦ trapped | Some d ↦ run (closing_by d.told (length env)) (env ++ d.values) d.world ])

        told : (o : Option (Made ClosingShape)) → MadeKeeps y o → ((d : Made ClosingShape) → o ≡ Some d → d.told ≡ one_left) → After o
        told None h f = tt
        told (Some d) h f = subst (λ t. EndKeeps y (run (closing_by t (length env)) (env ++ d.values) d.world)) (sym (f d refl)) ((one_keeps (length env)).goes h.0 (env ++ d.values) d.world (each_append (Apart y.table) env d.values v h.2) h.1)

        frame : (s : Stack) (f : Frame) → OnStack W s → last s.frames ≡ Some f → top_function W ≡ bind (lua_frame f) (λ l. Some l.function) → After (next_closing W s f)
        frame s (closing None []) o e t = pop_goes y (then (give (written (boolean true) ∷ [])) hand_over) (act_keeps tt (λ n t. hand_over_keeps)) gs (env ++ []) W (each_append (Apart y.table) env [] v (each_none (Apart y.table))) k t
        frame s (closing (Some x) []) o e t =
            let m = next_keeps y gs W k s (closing (Some x) []) o e in
            pop_goes y (then (give (written (boolean false) ∷ read (length env) ∷ [])) hand_over) (act_keeps tt (λ n t. hand_over_keeps)) gs (env ++ x ∷ []) W (each_append (Apart y.table) env (x ∷ []) v m.2) k t
        frame s (closing x (w ∷ left)) o e t = told (next_closing W s (closing x (w ∷ left))) (next_keeps y gs W k s (closing x (w ∷ left)) o e) (one_told W s x w left)
        frame s (lua f) o e t = tt
        frame s pcall o e t = tt
        frame s (xpcall h) o e t = tt
        frame s handler o e t = tt

        within : (s : Stack) → stack_of W ≡ Some s → (o : Option Frame) → last s.frames ≡ o → After (bind o (next_closing W s))
        within s e None q = tt
        within s e (Some f) q =
            frame s f (stack_there W s e) q (ap (λ (o : Option Stack). bind (bind (bind o (λ s. last s.frames)) lua_frame) (λ f. Some f.function)) e ∙ ap (λ o. bind (bind o lua_frame) (λ f. Some f.function)) q)

        by : (o : Option Stack) → stack_of W ≡ o → After (bind o (λ s. bind (last s.frames) (next_closing W s)))
        by None e = tt
        by (Some s) e = within s e (last s.frames) refl
