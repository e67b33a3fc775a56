-- Writing an upvalue: its cell may be open in any frame of any coroutine.
use Rattle.std.proofs.Common.{ℕ, zero, suc, ◌<◌, ◌≡◌, ⊎_elim, List, [], ◌∷◌, ◌++◌, Option, Some, None, refl, subst, sym, ap, ◌∙◌, length, arith, Bool, true, false, length-append}
use Rattle.std.specs.Prelude.{slice_get, slice_set, IsSome}
use Rattle.std.proofs.lemmas.Bool.{cases_eq}
use Rattle.int_core.specs.Value.{Value, bind, write}
use Rattle.machine_core.specs.World.{Cell, closed, open_at, LuaFrame, Frame, lua, Coroutine, fresh, suspended, in_progress, normal, dead, failed, World, frames_of, lua_frame, with_frames, read_cell, write_in_frame, write_in_coroutine, write_cell, find_open}
use Rattle.machine_core.specs.Text.{Arg, arg, write_upvalue}
use Rattle.machine_core.specs.Moves.{outside, made, own_cell, move}
use Rattle.machine_sound.specs.Sound.{Each, Sizes, sizes, Valid, LuaOk, FrameOk, LuaWaits, FrameWaits, FramesOk, CoroutineOk, standing, ChainOk, registers_in, registers_of, CellOk, Solid, Top, RunsOrWaits, TopIs}
use Rattle.machine_sound.specs.Safe.{on_lua, MoveGood}
use Rattle.machine_sound.proofs.Lists.{each_none, each_set, bind_at, get_set_same, get_set_other, length_set, get_within, get_push_new, get_front, map_set, some_is}
use Rattle.machine_sound.proofs.Values.{each_write, length_write, arg_valid}
use Rattle.machine_sound.proofs.Grow.{Grows, lua_waits_on, each_waits_on}
use Rattle.machine_sound.proofs.Frames.{the_place}
use Rattle.machine_sound.proofs.Moves.{made_so}
use Rattle.machine_sound.proofs.Outside.{quick_is, QuickGood}
use Rattle.machine_sound.proofs.Coroutines.{coroutines_solid}
use Rattle.machine_sound.proofs.Cells.{Stands, stands, cell_read, own_cell_there}
use Rattle.machine_sound.proofs.Tops.{same_top}

-- a closed cell

abbrev closed_world : World → ℕ → Value → World
closed_world W m v = record W { cells = slice_set W.cells m (closed v) }

closed_grows : (n : ℕ) (W : World) (m : ℕ) (v : Value) → Grows (sizes n W) (sizes n (closed_world W m v))
closed_grows n W m v = record { primitives = refl; tables = omega arith; some = omega arith; functions = λ i f e. e; cells = (let a = length_set W.cells m (closed v) in omega arith); coroutines = omega arith }

-- what is open now was so
closed_open : (cs : List Cell) (m : ℕ) (v : Value) (i d g r : ℕ) → slice_get (slice_set cs m (closed v)) i ≡ Some (open_at d g r) → slice_get cs i ≡ Some (open_at d g r)
closed_open [] m v i d g r h = h
closed_open (c ∷ cs) zero v zero d g r h = absurd (cc)
closed_open (c ∷ cs) zero v (suc i) d g r h = h
closed_open (c ∷ cs) (suc m) v zero d g r h = h
closed_open (c ∷ cs) (suc m) v (suc i) d g r h = closed_open cs m v i d g r h

closed_solid : (n : ℕ) (W : World) (m : ℕ) (v : Value) → Solid n W → Valid (sizes n W) v → Solid n (closed_world W m v)
closed_solid n W m v s p = coroutines_solid n W s (slice_set W.cells m (closed v)) W.coroutines W.chain (length_set W.cells m (closed v)) refl
    (each_set (CellOk (sizes n W) W.coroutines) W.cells m (closed v) s.cells p)
    (λ i j d h r a b. s.one_each i j d h r (closed_open W.cells m v i d h r a) (closed_open W.cells m v j d h r b))
    s.coroutines s.chain

waits_on' : (z y : Sizes) (g : Grows z y) (b : Bool) (f : LuaFrame) → RunsOrWaits b z f → RunsOrWaits b y f
waits_on' z y g true f k = k
waits_on' z y g false f k = lua_waits_on z y g f k

closed_top : (n : ℕ) (W : World) (m : ℕ) (v : Value) (t : Top) → TopIs n t W → TopIs n (record t { captured = [] }) (closed_world W m v)
closed_top n W m v t h =
    let g = closed_grows n W m v in
    same_top n t W (closed_world W m v) h t.pending t.cells [] h.last h.frames h.there
    (each_waits_on (sizes n W) (sizes n (closed_world W m v)) g h.base h.below) h.pending
    (λ i r e. h.cells i r (closed_open W.cells m v i h.coroutine (length h.base) r e))
    (each_none (λ r. IsSome (find_open h.coroutine (length h.base) r (slice_set W.cells m (closed v))))) (waits_on' (sizes n W) (sizes n (closed_world W m v)) g t.runs h.top h.wait)

-- an open cell

abbrev pub written_frame : LuaFrame → ℕ → Value → LuaFrame
written_frame l r v = record l { own = record l.own { registers = write r v l.own.registers } }

pub lua_is : (f : Frame) (l : LuaFrame) → lua_frame f ≡ Some l → f ≡ lua l
lua_is (lua g) l e = let k : g ≡ l = cc in ap lua k
lua_is _ l e = absurd (cc)

written_size : (l : LuaFrame) (r : ℕ) (v : Value) → r < length l.own.registers → length (write r v l.own.registers) ≡ length l.own.registers
written_size l r v h = let a = length_write r v l.own.registers in omega arith

written_ok : (z : Sizes) (l : LuaFrame) (r : ℕ) (v : Value) → r < length l.own.registers → Valid z v → LuaOk z l → LuaOk z (written_frame l r v)
written_ok z l r v b p h = record {
  function = h.function;
  there = h.there;
  stack = (let a = written_size l r v b in let c = h.stack in omega arith);
  registers = each_write (Valid z) tt r v l.own.registers p h.registers;
  varargs = h.varargs;
  pending = h.pending;
  error = h.error;
}

written_waits : (z : Sizes) (l : LuaFrame) (r : ℕ) (v : Value) → r < length l.own.registers → LuaWaits z l → LuaWaits z (written_frame l r v)
written_waits z l r v b h = record {
  function = h.function;
  there = h.there;
  instruction = h.instruction;
  at_pc = h.at_pc;
  opcode = h.opcode;
  is_opcode = h.is_opcode;
  fits = h.fits;
  size = written_size l r v b ∙ h.size;
  kept = h.kept;
  opened = h.opened;
}

standing_same : (c : Coroutine) (fs gs : List Frame) → frames_of c ≡ Some fs → standing (with_frames c gs) ≡ standing c
standing_same (fresh v) fs gs e = absurd (cc)
standing_same dead fs gs e = absurd (cc)
standing_same (failed v vs) fs gs e = absurd (cc)
standing_same _ fs gs e = refl

frames_same : (c : Coroutine) (fs gs : List Frame) → frames_of c ≡ Some fs → frames_of (with_frames c gs) ≡ Some gs
frames_same (fresh v) fs gs e = absurd (cc)
frames_same dead fs gs e = absurd (cc)
frames_same (failed v vs) fs gs e = absurd (cc)
frames_same _ fs gs e = refl

with_ok : (z : Sizes) (c : Coroutine) (fs gs : List Frame) → frames_of c ≡ Some fs → (FramesOk z fs → FramesOk z gs) → (Each (FrameWaits z) fs → Each (FrameWaits z) gs) → CoroutineOk z c → CoroutineOk z (with_frames c gs)
with_ok z (suspended hs) fs gs e f w h = let k : hs ≡ fs = cc in record { right = f (subst (FramesOk z) k h.right); waits = w (subst (Each (FrameWaits z)) k h.waits) }
with_ok z (in_progress hs) fs gs e f w h = let k : hs ≡ fs = cc in f (subst (FramesOk z) k h)
with_ok z (normal hs) fs gs e f w h = let k : hs ≡ fs = cc in record { right = f (subst (FramesOk z) k h.right); waits = w (subst (Each (FrameWaits z)) k h.waits) }
with_ok z _ fs gs e f w h = absurd (cc)

-- the frames of a stack, one of them with another item
set_top : (base : List Frame) (x y : Frame) → slice_set (base ++ x ∷ []) (length base) y ≡ base ++ y ∷ []
set_top [] x y = refl
set_top (b ∷ base) x y = ap (λ l. b ∷ l) (set_top base x y)

set_below : (base : List Frame) (x y : Frame) (f : ℕ) → f < length base → slice_set (base ++ x ∷ []) f y ≡ slice_set base f y ++ x ∷ []
set_below [] x y f h = absurd (omega arith)
set_below (b ∷ base) x y zero h = refl
set_below (b ∷ base) x y (suc f) h = ap (λ l. b ∷ l) (set_below base x y f (omega arith))

module _ (n : ℕ) (W : World) (co f r : ℕ) (v : Value) (p : Stands W co f r) (s : Solid n W) (ok : Valid (sizes n W) v) where
  abbrev new : List Frame
  new = slice_set p.frames f (lua (written_frame p.top r v))

  abbrev pub written_world : World
  written_world = record W { coroutines = slice_set W.coroutines co (with_frames p.of (slice_set p.frames f (lua (written_frame p.top r v)))) }

  at_frame : slice_get p.frames f ≡ Some (lua p.top)
  at_frame = p.there ∙ ap Some (lua_is p.frame p.top p.is_lua)

  pub write_is : (m : ℕ) → write_cell W m (open_at co f r) v ≡ written_world
  unfolding write_cell
  write_is m =
      let e = lua_is p.frame p.top p.is_lua in
      let a : bind (frames_of p.of) (λ fs. bind (slice_get fs f) (λ g. Some (slice_set fs f (write_in_frame r v g)))) ≡ Some new =
      bind_at _ (frames_of p.of) p.frames p.are ∙ bind_at _ (slice_get p.frames f) (lua p.top) at_frame in
      ap (λ (o : Option Coroutine). elim o as (λ _. World) [ None ↦ W | Some c ↦ record W { coroutines = slice_set W.coroutines co (write_in_coroutine f r v c) } ]) p.is
      ∙ ap (λ (o : Option (List Frame)). record W { coroutines = slice_set W.coroutines co (elim o as (λ _. Coroutine) [ None ↦ p.of | Some fs ↦ with_frames p.of fs ]) }) a

  written_grows : Grows (sizes n W) (sizes n written_world)
  written_grows = record { primitives = refl; tables = omega arith; some = omega arith; functions = λ i f e. e; cells = omega arith; coroutines = (let a = length_set W.coroutines co (with_frames p.of new) in omega arith) }

  frames_ok : (z : Sizes) → Valid z v → FramesOk z p.frames → FramesOk z new
  frames_ok z q h = record {
    each = each_set (FrameOk z) p.frames f (lua (written_frame p.top r v)) h.each (written_ok z p.top r v p.within q (h.each f (lua p.top) at_frame));
    depth = (let a = length_set p.frames f (lua (written_frame p.top r v)) in let b = h.depth in omega arith);
  }

  frames_wait : (z : Sizes) → Each (FrameWaits z) p.frames → Each (FrameWaits z) new
  frames_wait z h = each_set (FrameWaits z) p.frames f (lua (written_frame p.top r v)) h (written_waits z p.top r v p.within (h f (lua p.top) at_frame))

  in_same : (g : ℕ) → registers_in new g ≡ registers_in p.frames g
  in_same g = ⊎_elim
      (λ (q : g ≡ f). subst (λ g. registers_in new g ≡ registers_in p.frames g) (sym q)
      (rw (get_set_same p.frames f (lua p.top) (lua (written_frame p.top r v)) at_frame, at_frame, registers_in) (written_size p.top r v p.within)))
      (λ q. rw (get_set_other p.frames f g (lua (written_frame p.top r v)) (λ e. q (sym e)), registers_in) refl)
      (cases_eq g f)

  registers_same : (d g : ℕ) → registers_of written_world.coroutines d g ≡ registers_of W.coroutines d g
  registers_same d g = ⊎_elim
      (λ (q : d ≡ co). subst (λ d. registers_of written_world.coroutines d g ≡ registers_of W.coroutines d g) (sym q)
      (here (get_set_same W.coroutines co p.of (with_frames p.of new) p.is)))
      (λ q. rw (get_set_other W.coroutines co d (with_frames p.of new) (λ e. q (sym e)), registers_of) refl)
      (cases_eq d co)
    where
      here : slice_get written_world.coroutines co ≡ Some (with_frames p.of new) → registers_of written_world.coroutines co g ≡ registers_of W.coroutines co g
      here e =
          let a : registers_of written_world.coroutines co g ≡ registers_in new g = ap (λ o. elim (bind o frames_of) as (λ _. ℕ) [ None ↦ 0 | Some fs ↦ registers_in fs g ]) e ∙ ap (λ o. elim o as (λ _. ℕ) [ None ↦ 0 | Some fs ↦ registers_in fs g ]) (frames_same p.of p.frames new p.are) in
          let b : registers_of W.coroutines co g ≡ registers_in p.frames g = ap (λ o. elim (bind o frames_of) as (λ _. ℕ) [ None ↦ 0 | Some fs ↦ registers_in fs g ]) p.is ∙ ap (λ o. elim o as (λ _. ℕ) [ None ↦ 0 | Some fs ↦ registers_in fs g ]) p.are in
          a ∙ in_same g ∙ sym b

  pub written_solid : Solid n written_world
  written_solid =
      let z = sizes n W in
      coroutines_solid n W s W.cells written_world.coroutines W.chain refl (length_set W.coroutines co (with_frames p.of new)) cells s.one_each
      (each_set (CoroutineOk z) W.coroutines co (with_frames p.of new) s.coroutines (with_ok z p.of p.frames new p.are (frames_ok z ok) (frames_wait z) (s.coroutines co p.of p.is)))
      (subst (λ st. ChainOk W.main st W.chain) (sym (map_set standing W.coroutines co p.of (with_frames p.of new) p.is (standing_same p.of p.frames new p.are))) s.chain)
    where
      cells : Each (CellOk (sizes n W) written_world.coroutines) W.cells
      cells i (closed w) e = s.cells i (closed w) e
      cells i (open_at d g q) e = subst (λ m. q < m) (sym (registers_same d g)) (s.cells i (open_at d g q) e)

  -- the frame on top is the one that is written in, or another one
  module _ (t : Top) (h : TopIs n t W) where
    abbrev y : Sizes
    y = sizes n written_world

    top_with : (base : List Frame) (top : LuaFrame) → slice_get written_world.coroutines h.coroutine ≡ Some (in_progress (base ++ lua top ∷ [])) → length base ≡ length h.base → Each (FrameWaits y) base
        → top.function ≡ h.top.function → top.own.pc ≡ h.top.own.pc → length top.own.registers ≡ length h.top.own.registers → top.own.opened ≡ h.top.own.opened → top.own.pending ≡ h.top.own.pending → RunsOrWaits t.runs y top
        → TopIs n (record t { captured = [] }) written_world
    top_with base top e l b f c z o q w = record {
      coroutine = h.coroutine;
      base = base;
      top = top;
      function = h.function;
      last = h.last;
      frames = e;
      there = ap (slice_get W.functions) f ∙ h.there;
      below = b;
      code = h.code;
      pc = c ∙ h.pc;
      size = z ∙ h.size;
      opened = o ∙ h.opened;
      pending = subst (λ ps. Each (λ r. r < t.pending) ps) (sym q) h.pending;
      cells = λ i r e. h.cells i r (subst (λ m. slice_get W.cells i ≡ Some (open_at h.coroutine m r)) l e);
      captured = each_none (λ r. IsSome (find_open h.coroutine (length base) r W.cells));
      wait = w;
    }

    below : Each (FrameWaits y) h.base
    below = each_waits_on (sizes n W) y written_grows h.base h.below

    wait : RunsOrWaits t.runs y h.top
    wait = waits_on' (sizes n W) y written_grows t.runs h.top h.wait

    written_wait : (b : Bool) → RunsOrWaits b y h.top → r < length h.top.own.registers → RunsOrWaits b y (written_frame h.top r v)
    written_wait true w l = w
    written_wait false w l = written_waits y h.top r v l w

    pub written_top : TopIs n (record t { captured = [] }) written_world
    written_top = ⊎_elim same apart (cases_eq h.coroutine co)
      where
        apart : (h.coroutine ≡ co → ⊥) → TopIs n (record t { captured = [] }) written_world
        apart q = top_with h.base h.top (get_set_other W.coroutines co h.coroutine (with_frames p.of new) (λ e. q (sym e)) ∙ h.frames) refl below refl refl refl refl refl wait

        same : h.coroutine ≡ co → TopIs n (record t { captured = [] }) written_world
        same q =
            let c : p.of ≡ in_progress (h.base ++ lua h.top ∷ []) = some_is p.is (ap (slice_get W.coroutines) (sym q) ∙ h.frames) in
            let fs : p.frames ≡ h.base ++ lua h.top ∷ [] = some_is p.are (ap frames_of c) in
            let e : slice_get written_world.coroutines h.coroutine ≡ Some (in_progress (slice_set (h.base ++ lua h.top ∷ []) f (lua (written_frame p.top r v)))) =
            ap (slice_get written_world.coroutines) q ∙ get_set_same W.coroutines co p.of (with_frames p.of new) p.is ∙ ap (λ c. Some (with_frames c new)) c ∙ ap (λ l. Some (in_progress (slice_set l f (lua (written_frame p.top r v))))) fs in
            ⊎_elim
            (λ (k : f ≡ length h.base).
            let a : Some (lua h.top) ≡ Some (lua p.top) = sym (get_push_new h.base (lua h.top)) ∙ ap (slice_get (h.base ++ lua h.top ∷ [])) (sym k) ∙ ap (λ l. slice_get l f) (sym fs) ∙ at_frame in
            let b : h.top ≡ p.top = cc in
            let x = written_size p.top r v p.within in
            let l : r < length h.top.own.registers = subst (λ (top : LuaFrame). r < length top.own.registers) (sym b) p.within in
            let e' : slice_get written_world.coroutines h.coroutine ≡ Some (in_progress (h.base ++ lua (written_frame h.top r v) ∷ [])) =
            e ∙ ap (λ m. Some (in_progress (slice_set (h.base ++ lua h.top ∷ []) m (lua (written_frame p.top r v))))) k ∙ ap (λ l. Some (in_progress l)) (set_top h.base (lua h.top) (lua (written_frame p.top r v))) ∙ ap (λ top. Some (in_progress (h.base ++ lua (written_frame top r v) ∷ []))) (sym b) in
            top_with h.base (written_frame h.top r v) e' refl below refl refl (written_size h.top r v l) refl refl (written_wait t.runs wait l))
            (λ k.
            let m : f < length h.base = (let a = get_within p.frames f (lua p.top) at_frame in let b = ap length fs in let c = length-append h.base (lua h.top ∷ []) in omega arith) in
            let g : slice_get h.base f ≡ Some (lua p.top) = sym (get_front h.base (lua h.top ∷ []) f m) ∙ ap (λ l. slice_get l f) (sym fs) ∙ at_frame in
            top_with (slice_set h.base f (lua (written_frame p.top r v))) h.top (e ∙ ap (λ l. Some (in_progress l)) (set_below h.base (lua h.top) (lua (written_frame p.top r v)) f m)) (length_set h.base f (lua (written_frame p.top r v)))
            (each_set (FrameWaits y) h.base f (lua (written_frame p.top r v)) below (written_waits y p.top r v p.within (below f (lua p.top) g))) refl refl refl refl refl wait)
            (cases_eq f (length h.base))

closed_is : (W : World) (m : ℕ) (w v : Value) → write_cell W m (closed w) v ≡ closed_world W m v
unfolding write_cell
closed_is W m w v = refl

pub write_upvalue_move : (n u : ℕ) (x : Arg) → QuickGood n (write_upvalue u x)
write_upvalue_move n u x t env W i r =
    let c = own_cell_there n t W i.phase u i.solid r.0 in
    let v = cell_read n W i.solid c.cell c.right in
    let is = quick_is n (write_upvalue u x) t env W i ∙ bind_at _ (own_cell W (the_place n t W i.phase) u) (c.number, c.cell) c.is ∙ bind_at _ (read_cell W c.cell) v.0 v.1 in
    from c.cell c.number c.right is
  where
    ok : Valid (sizes n W) (arg env x)
    ok = arg_valid (sizes n W) env x i.valid r.1

    from : (cell : Cell) (m : ℕ) → CellOk (sizes n W) W.coroutines cell → move (outside (write_upvalue u x)) env W ≡ made (write_cell W m cell (arg env x)) [] true → MoveGood n (on_lua t) env (outside (write_upvalue u x)) W
    from (closed w) m k e = record {
      event = tt;
      world = closed_world W m (arg env x);
      is = e ∙ ap (λ V. made V [] true) (closed_is W m w (arg env x));
      holds = made_so n (on_lua t) (on_lua (record t { captured = [] })) env [] W (closed_world W m (arg env x)) i (closed_grows n W m (arg env x)) (closed_solid n W m (arg env x) i.solid ok) (closed_top n W m (arg env x) t i.phase) (each_none (Valid (sizes n (closed_world W m (arg env x)))));
    }
    from (open_at co f q) m k e =
        let p = stands W co f q k in
        let V = written_world n W co f q (arg env x) p i.solid ok in
        record {
          event = tt;
          world = V;
          is = e ∙ ap (λ V. made V [] true) (write_is n W co f q (arg env x) p i.solid ok m);
          holds = made_so n (on_lua t) (on_lua (record t { captured = [] })) env [] W V i (written_grows n W co f q (arg env x) p i.solid ok) (written_solid n W co f q (arg env x) p i.solid ok) (written_top n W co f q (arg env x) p i.solid ok t i.phase) (each_none (Valid (sizes n V)));
        }
