-- Moves of a Lua frame on top that look outside it, and those that change no frame.
use Rattle.std.proofs.Common.{ℕ, zero, suc, ◌+◌, ◌-◌, ◌≤◌, ◌≡◌, ⊎_elim, List, [], ◌∷◌, ◌++◌, Option, Some, None, refl, subst, sym, ap, ◌∙◌, length, arith, Bool, true, false, cond, drop}
use Rattle.std.specs.Prelude.{slice_get, slice_set, nat_lt}
use Rattle.std.proofs.lemmas.Bool.{cases_eq}
use Rattle.int_core.specs.Value.{Value, bind, last, write}
use Rattle.int_core.specs.Heap.{Heap, filled_table, add_table}
use Rattle.int_core.specs.Operations.{Operation, Settled, found, ask, fault, cannot_arise, does}
use Rattle.code_core.specs.Prototype.{Prototypes, none, more, Prototype, list_of, instruction_count, inner_instructions}
use Rattle.machine_core.specs.World.{Function, Cell, closed, open_at, LuaFrame, Frame, lua, Coroutine, suspended, in_progress, normal, World, write_in_frame, write_in_coroutine, write_cell, read_cell, find_open, Place, place_of, Wait}
use Rattle.machine_core.specs.Text.{Arg, arg, args_of, read_upvalue, write_upvalue, make_table, make_function, fill_table}
use Rattle.machine_core.specs.Moves.{Made, open_register, outside, settle, find_close, is_closable, take_moving, SettledShape, own_cell, captured, opened_cells, settled, move}
use Rattle.machine_sound.proofs.Lists.{get_set_same, get_set_other, each_push}
use Rattle.machine_ends.specs.Measure.{Within, wait_weight, frame_weight, frames_weight, coroutine_weight, world_weight}
use Rattle.machine_ends.specs.Falls.{on_lua}
use Rattle.machine_ends.proofs.Weights.{Runs, cos_set}
use Rattle.machine_ends.proofs.Pending.{Seen}
use Rattle.machine_ends.proofs.Held.{spare, HeldLua, Holds, place_in, RunsIf, at_place}

-- what holds of all that may come

pub through : {A B : Type 0} (P : B → Type 0) (o : Option A) (F : A → Option B) → ((a : A) → o ≡ Some a → (d : B) → F a ≡ Some d → P d) → (d : B) → bind o F ≡ Some d → P d
through P None F f d e = absurd (cc)
through P (Some a) F f d e = f a refl d e

pub here : {B : Type 0} (P : B → Type 0) (x : B) → P x → (d : B) → Some x ≡ Some d → P d
here P x p d e = subst P (let k : Some x ≡ Some d = e in cc) p

pub if_so : {B : Type 0} (P : B → Type 0) (b : Bool) (o : Option B) → (b ≡ true → (d : B) → o ≡ Some d → P d) → (d : B) → cond b o None ≡ Some d → P d
if_so P true o f d e = f refl d e
if_so P false o f d e = absurd (cc)

-- writing into a frame changes what stands in its registers alone

frame_write : (most register : ℕ) (v : Value) (f : Frame) → frame_weight most (write_in_frame register v f) ≡ frame_weight most f
frame_write most register v (lua f) = refl
frame_write most register v _ = refl

frames_write : (most register : ℕ) (v : Value) (fs : List Frame) (i : ℕ) (f : Frame) → slice_get fs i ≡ Some f → frames_weight most (slice_set fs i (write_in_frame register v f)) ≡ frames_weight most fs
frames_write most register v [] i f e = refl
frames_write most register v (g ∷ fs) zero f e = let k : Some g ≡ Some f = e in let q : g ≡ f = cc in let a = ap (frame_weight most) q in let b = frame_write most register v f in omega arith
frames_write most register v (g ∷ fs) (suc i) f e = let k = frames_write most register v fs i f e in omega arith

abbrev written_frames : (i register : ℕ) → Value → List Frame → Option (List Frame)
written_frames i register v fs = bind (slice_get fs i) (λ f. Some (slice_set fs i (write_in_frame register v f)))

-- the frames of a coroutine in which a register is written
abbrev frames_then : (i register : ℕ) → Value → List Frame → List Frame
frames_then i register v fs = elim (written_frames i register v fs) [ None ↦ fs | Some gs ↦ gs ]

frames_then_weight : (most i register : ℕ) (v : Value) (fs : List Frame) → frames_weight most (frames_then i register v fs) ≡ frames_weight most fs
frames_then_weight most i register v fs = from (slice_get fs i) refl
  where
    from : (o : Option Frame) → slice_get fs i ≡ o → frames_weight most (elim (bind o (λ f. Some (slice_set fs i (write_in_frame register v f)))) as (λ _. List Frame) [ None ↦ fs | Some gs ↦ gs ]) ≡ frames_weight most fs
    from None e = refl
    from (Some f) e = frames_write most register v fs i f e

running_then : (i register : ℕ) (v : Value) (fs : List Frame) → write_in_coroutine i register v (in_progress fs) ≡ in_progress (frames_then i register v fs)
running_then i register v fs = from (written_frames i register v fs)
  where
    from : (o : Option (List Frame)) → elim o as (λ _. Coroutine) [ None ↦ in_progress fs | Some gs ↦ in_progress gs ] ≡ in_progress (elim o as (λ _. List Frame) [ None ↦ fs | Some gs ↦ gs ])
    from None = refl
    from (Some gs) = refl

coroutine_write : (most i register : ℕ) (v : Value) (c : Coroutine) → coroutine_weight most (write_in_coroutine i register v c) ≡ coroutine_weight most c
coroutine_write most i register v (in_progress fs) = ap (coroutine_weight most) (running_then i register v fs) ∙ frames_then_weight most i register v fs
coroutine_write most i register v (suspended fs) = from (written_frames i register v fs) ∙ frames_then_weight most i register v fs
  where
    from : (o : Option (List Frame)) → coroutine_weight most (elim o as (λ _. Coroutine) [ None ↦ suspended fs | Some gs ↦ suspended gs ]) ≡ frames_weight most (elim o as (λ _. List Frame) [ None ↦ fs | Some gs ↦ gs ])
    from None = refl
    from (Some gs) = refl
coroutine_write most i register v (normal fs) = from (written_frames i register v fs) ∙ frames_then_weight most i register v fs
  where
    from : (o : Option (List Frame)) → coroutine_weight most (elim o as (λ _. Coroutine) [ None ↦ normal fs | Some gs ↦ normal gs ]) ≡ frames_weight most (elim o as (λ _. List Frame) [ None ↦ fs | Some gs ↦ gs ])
    from None = refl
    from (Some gs) = refl
coroutine_write most i register v _ = refl

-- the frame on top stands where it stood

record SameTop (f : LuaFrame) (fs : List Frame) : Type 0 where
  top : LuaFrame
  is_top : last fs ≡ Some (lua top)
  wait : top.wait ≡ f.wait
  pending : top.own.pending ≡ f.own.pending

last_write : (register : ℕ) (v : Value) (fs : List Frame) (i : ℕ) (f : Frame) (t : LuaFrame) → slice_get fs i ≡ Some f → last fs ≡ Some (lua t) → SameTop t (slice_set fs i (write_in_frame register v f))
last_write register v [] i f t e l = absurd (cc)
last_write register v (g ∷ []) zero f t e l =
    let a : Some g ≡ Some f = e in let b : Some g ≡ Some (lua t) = l in let q : f ≡ lua t = cc in
    subst (λ f. SameTop t (write_in_frame register v f ∷ [])) (sym q) (record { top = record t { own = record t.own { registers = write register v t.own.registers } }; is_top = refl; wait = refl; pending = refl })
last_write register v (g ∷ []) (suc i) f t e l = absurd (cc)
last_write register v (g ∷ h ∷ fs) zero f t e l = record { top = t; is_top = l; wait = refl; pending = refl }
last_write register v (g ∷ h ∷ fs) (suc i) f t e l =
    let k = last_write register v (h ∷ fs) i f t e l in
    record { top = k.top; is_top = longer g (slice_set (h ∷ fs) i (write_in_frame register v f)) (lua k.top) k.is_top; wait = k.wait; pending = k.pending }
  where
    longer : (g : Frame) (fs : List Frame) (x : Frame) → last fs ≡ Some x → last (g ∷ fs) ≡ Some x
    longer g [] x e = absurd (cc)
    longer g (h ∷ fs) x e = e

then_top : (i register : ℕ) (v : Value) (fs : List Frame) (t : LuaFrame) → last fs ≡ Some (lua t) → SameTop t (frames_then i register v fs)
then_top i register v fs t l = from (slice_get fs i) refl
  where
    from : (o : Option Frame) → slice_get fs i ≡ o → SameTop t (elim (bind o (λ f. Some (slice_set fs i (write_in_frame register v f)))) as (λ _. List Frame) [ None ↦ fs | Some gs ↦ gs ])
    from None e = record { top = t; is_top = l; wait = refl; pending = refl }
    from (Some f) e = last_write register v fs i f t e l

-- functions that are made

inner_within : (ps : Prototypes) (n : ℕ) (q : Prototype) → slice_get (list_of ps) n ≡ Some q → instruction_count q ≤ inner_instructions ps
inner_within none n q e = absurd (cc)
inner_within (more own inner rest) zero q e = let k : Some (record { own = own; inner = inner }) ≡ Some q = e in let j : record { own = own; inner = inner } ≡ q = cc in let i = ap instruction_count j in omega arith
inner_within (more own inner rest) (suc n) q e = let k = inner_within rest n q e in omega arith

module _ (most bound : ℕ) (rich : Bool) (c : ℕ) (runs : Bool) where
  -- nothing changed that counts
  same_so : (seen newly : Option ℕ) (W V : World) (h : HeldLua most bound rich c seen runs W) → Within most V → Runs V h.stack → world_weight most V ≡ world_weight most W → Seen newly h.top.own.pending → Holds most bound (on_lua rich c newly runs) V
  same_so seen newly W V h w r e n = record {
    within = w;
    held = record { stack = h.stack; running_is = r; top = h.top; is_top = h.is_top; low = low rich h.low; pending = n; wait = h.wait };
  }
    where
      low : (b : Bool) → world_weight most W + spare most b c ≤ bound + wait_weight h.top.wait → world_weight most V + spare most b c ≤ bound + wait_weight h.top.wait
      low b l = omega arith

  -- a cell that is open was written
  written_so : (seen : Option ℕ) (W : World) (h : HeldLua most bound rich c seen runs W) (co i register : ℕ) (v : Value) (d : Coroutine) → Within most W → slice_get W.coroutines co ≡ Some d
      → Holds most bound (on_lua rich c None runs) (record W { coroutines = slice_set W.coroutines co (write_in_coroutine i register v d) })
  written_so seen W h co i register v d w e = ⊎_elim
      (λ (q : co ≡ h.stack.coroutine).
      let d_is : d ≡ in_progress h.stack.frames = (let a : slice_get W.coroutines co ≡ Some (in_progress h.stack.frames) = ap (slice_get W.coroutines) q ∙ h.running_is.there in same_some d (in_progress h.stack.frames) (sym e ∙ a)) in
      let t = then_top i register v h.stack.frames h.top h.is_top in
      record {
        within = w;
        held = record {
          stack = record { coroutine = h.stack.coroutine; frames = frames_then i register v h.stack.frames };
          running_is = record {
            last_is = h.running_is.last_is;
            there = subst (λ co. slice_get (slice_set W.coroutines co (write_in_coroutine i register v d)) h.stack.coroutine ≡ Some (in_progress (frames_then i register v h.stack.frames))) (sym q)
                (get_set_same W.coroutines h.stack.coroutine (in_progress h.stack.frames) (write_in_coroutine i register v d) h.running_is.there ∙ ap (λ c. Some (write_in_coroutine i register v c)) d_is ∙ ap Some (running_then i register v h.stack.frames));
          };
          top = t.top;
          is_top = t.is_top;
          low = low rich t.top.wait t.wait h.low;
          pending = tt;
          wait = still runs t.top.wait t.wait h.wait;
        };
      })
      (λ q. record {
        within = w;
        held = record {
          stack = h.stack;
          running_is = record { last_is = h.running_is.last_is; there = get_set_other W.coroutines co h.stack.coroutine (write_in_coroutine i register v d) q ∙ h.running_is.there };
          top = h.top;
          is_top = h.is_top;
          low = low rich h.top.wait refl h.low;
          pending = tt;
          wait = h.wait;
        };
      })
      (cases_eq co h.stack.coroutine)
    where
      same_some : (x y : Coroutine) → Some x ≡ Some y → x ≡ y
      same_some x y e = cc

      low : (b : Bool) (x : Wait Value) → x ≡ h.top.wait → world_weight most W + spare most b c ≤ bound + wait_weight h.top.wait
          → world_weight most (record W { coroutines = slice_set W.coroutines co (write_in_coroutine i register v d) }) + spare most b c ≤ bound + wait_weight x
      low b x q l = let k = cos_set most W.coroutines co d (write_in_coroutine i register v d) e in let j = coroutine_write most i register v d in let z = ap wait_weight q in omega arith

      still : (b : Bool) (x : Wait Value) → x ≡ h.top.wait → RunsIf b h.top.wait → RunsIf b x
      still true x q k = q ∙ k
      still false x q k = tt

  written_cell : (seen : Option ℕ) (W : World) (h : HeldLua most bound rich c seen runs W) (n : ℕ) (cell : Cell) (v : Value) → Within most W → Holds most bound (on_lua rich c None runs) (write_cell W n cell v)
  unfolding write_cell
  written_cell seen W h n (closed x) v w = same_so seen None W (record W { cells = slice_set W.cells n (closed v) }) h w (record { last_is = h.running_is.last_is; there = h.running_is.there }) refl tt
  written_cell seen W h n (open_at co i register) v w = from (slice_get W.coroutines co) refl
    where
      from : (o : Option Coroutine) → slice_get W.coroutines co ≡ o
          → Holds most bound (on_lua rich c None runs) (elim o as (λ _. World) [ None ↦ W | Some c ↦ record W { coroutines = slice_set W.coroutines co (write_in_coroutine i register v c) } ])
      from None e = same_so seen None W W h w h.running_is refl tt
      from (Some d) e = written_so seen W h co i register v d w e

  module _ (seen : Option ℕ) (env : List Value) (W : World) (within : Within most W) (h : HeldLua most bound rich c seen runs W) where
    -- a world with the same frames
    abbrev Kept : {T : Type 0} → Made T → Type 0
    Kept d = Holds most bound (on_lua rich c None runs) d.world

    same_frames : (newly : Option ℕ) → Seen newly h.top.own.pending → (H : Heap) (cells : List Cell) (moving : List Value) → Holds most bound (on_lua rich c newly runs) (record W { heap = H; cells = cells; moving = moving })
    same_frames newly n H cells moving = same_so seen newly W (record W { heap = H; cells = cells; moving = moving }) h within (record { last_is = h.running_is.last_is; there = h.running_is.there }) refl n

    at_top : {A : Type 0} (P : A → Type 0) (F : Place → Option A) → ((g : Function) → slice_get W.functions h.top.function ≡ Some g → (d : A) → F (place_in h.stack h.top g) ≡ Some d → P d) → (d : A) → bind (place_of W) F ≡ Some d → P d
    at_top P F f d e =
        let q = at_place W h.stack h.top F d h.running_is h.is_top e in f q.0 q.1 d q.2

    pub open_move : (r : ℕ) (d : Made (Unit {0})) → move (open_register r) env W ≡ Some d → Holds most bound (on_lua rich c None runs) d.world
    open_move r = at_top Kept _ (λ g e. if_so Kept (nat_lt r (length h.top.own.registers)) _ (λ t. here Kept _ (same_frames None tt W.heap (opened_cells (find_open h.stack.coroutine (length h.stack.frames - 1) r W.cells) h.stack.coroutine (length h.stack.frames - 1) r W.cells) W.moving)))

    pub upvalue_move : (u : ℕ) (d : Made Bool) → move (outside (read_upvalue u)) env W ≡ Some d → Holds most bound (on_lua rich c None runs) d.world
    upvalue_move u = at_top Kept _ (λ g e. through Kept (own_cell W (place_in h.stack h.top g) u) _ (λ x i. through Kept (read_cell W x.1) _ (λ v j. here Kept _ (same_frames None tt W.heap W.cells W.moving))))

    pub write_move : (u : ℕ) (x : Arg) (d : Made Bool) → move (outside (write_upvalue u x)) env W ≡ Some d → Holds most bound (on_lua rich c None runs) d.world
    write_move u x = at_top Kept _ (λ g e. through Kept (own_cell W (place_in h.stack h.top g) u) _ (λ y i. through Kept (read_cell W y.1) _ (λ v j. here Kept _ (written_cell seen W h y.0 y.1 (arg env x) within))))

    pub table_move : (d : Made Bool) → move (outside make_table) env W ≡ Some d → Holds most bound (on_lua rich c None runs) d.world
    table_move = at_top Kept _ (λ g e. here Kept _ (same_frames None tt (add_table W.heap) W.cells W.moving))

    pub fill_move : (t : Arg) (end slot : ℕ) (d : Made Bool) → move (outside (fill_table t end slot)) env W ≡ Some d → Holds most bound (on_lua rich c None runs) d.world
    fill_move t end slot = at_top Kept _ (λ g e. through Kept (filled_table W.heap (arg env t) end (drop slot env)) _ (λ H i. here Kept _ (same_frames None tt H W.cells W.moving)))

    pub function_move : (n : ℕ) (d : Made Bool) → move (outside (make_function n)) env W ≡ Some d → Holds most bound (on_lua rich c None runs) d.world
    function_move n = at_top Kept _ (λ g e. through Kept (slice_get (list_of g.code.inner) n) _ (λ q i. through Kept (captured q.own.upvalues h.stack.coroutine (length h.stack.frames - 1) g.cells W.cells) _ (λ cells j.
        here Kept _ (same_so seen None W (record W { functions = W.functions ++ record { code = q; cells = cells } ∷ [] }) h
        (each_push (λ (f : Function). instruction_count f.code ≤ most) W.functions (record { code = q; cells = cells }) within (let a = inner_within g.code.inner n q i in let b = within h.top.function g e in omega arith))
        (record { last_is = h.running_is.last_is; there = h.running_is.there }) refl tt))))

    settled_so : (g : Function) (s : Settled) (d : Made SettledShape) → settled W (place_in h.stack h.top g) s ≡ Some d → Holds most bound (on_lua rich c None runs) d.world
    settled_so g (found H vs) = here Kept _ (same_frames None tt H W.cells W.moving)
    settled_so g (ask f vs) = here Kept _ (same_frames None tt W.heap W.cells W.moving)
    settled_so g (fault text) = here Kept _ (same_frames None tt W.heap W.cells W.moving)
    settled_so g cannot_arise = λ d e. absurd (cc)

    pub settle_move : (op : Operation) (xs : List Arg) (d : Made SettledShape) → move (settle op xs) env W ≡ Some d → Holds most bound (on_lua rich c None runs) d.world
    settle_move op xs = at_top Kept _ (λ g e. settled_so g (does op (args_of env xs) W.heap))

    pub find_move : (v e : Arg) (d : Made (Unit {0})) → move (find_close v e) env W ≡ Some d → Holds most bound (on_lua rich c seen runs) d.world
    find_move v e = here (λ d. Holds most bound (on_lua rich c seen runs) d.world) _ (same_frames seen h.pending W.heap W.cells W.moving)

    pub closable_move : (v : Arg) (d : Made Bool) → move (is_closable v) env W ≡ Some d → Holds most bound (on_lua rich c seen runs) d.world
    closable_move v = here (λ d. Holds most bound (on_lua rich c seen runs) d.world) _ (same_frames seen h.pending W.heap W.cells W.moving)

    pub taken_move : (d : Made (Unit {0})) → move take_moving env W ≡ Some d → Holds most bound (on_lua rich c seen runs) d.world
    taken_move = here (λ d. Holds most bound (on_lua rich c seen runs) d.world) _ (same_frames seen h.pending W.heap W.cells [])
