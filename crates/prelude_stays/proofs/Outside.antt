-- What is asked outside the activation: upvalues, new tables and functions, and lists that go to tables.
use Rattle.std.proofs.Common.{ℕ, zero, suc, ◌+◌, ◌-◌, ◌≡◌, ◌≢◌, ⊎_elim, List, [], ◌∷◌, ◌++◌, Option, Some, None, refl, subst, sym, ap, ◌∙◌, length, arith, Bool, true, false, cond}
use Rattle.std.specs.Prelude.{slice_get, slice_set, nat_eq, ◌&&◌}
use Rattle.std.proofs.lemmas.Bool.{cases_eq}
use Rattle.std.proofs.lemmas.Bool.Decides.{nat_tests}
use Rattle.int_core.specs.Value.{nil, a_table, Value, known, object, bind, last, nth}
use Rattle.code_core.specs.declared.proto.UpDesc.{UpDesc}
use Rattle.machine_core.specs.World.{Cell, closed, open_at, Frame, lua, Coroutine, suspended, in_progress, normal, World, Stack, frames_of, running_frames, lua_frame, read_cell, write_cell, write_in_frame, write_in_coroutine, is_open_at, find_open_from, find_open}
use Rattle.machine_core.specs.Moves.{Made, captured, opened_cells}
use Rattle.machine_sound.specs.Sound.{Each}
use Rattle.machine_sound.proofs.Lists.{each_set, get_set_same, get_set_other, length_set, get_push_old, some_is}
use Rattle.prelude_stays.specs.Guards.{Guard}
use Rattle.prelude_stays.specs.Kept.{Home, Apart, LuaOk, FrameOk, CoroutineOk, function_at, CellOk, Keeps}
use Rattle.prelude_stays.proofs.Cells.{in_frames, function_of, FramesStay, Carries, set_stays, stay_carries, frame_there}
use Rattle.prelude_stays.proofs.Coroutines.{frames_held}
use Rattle.prelude_stays.proofs.Own.{held_write}
use Rattle.prelude_stays.proofs.Worlds.{TopIs, top_function, changed}

-- what is made for a text, whose frame is still on top

abbrev pub MadeOn : {A : Type 0} → Home → Guard → Option (Made A) → Type 0
MadeOn y g None = Unit {0}
MadeOn y g (Some d) = (gs : List Guard) × Keeps y gs d.world × Each (Apart y.table) d.values × TopIs gs g d.world

pub on_bind : {A B : Type 0} (y : Home) (g : Guard) (o : Option A) (f : A → Option (Made B)) → ((a : A) → o ≡ Some a → MadeOn y g (f a)) → MadeOn y g (bind o f)
on_bind y g None f h = tt
on_bind y g (Some a) f h = h a refl

-- reading

nth_at : (vs : List Value) (r : ℕ) (v : Value) → slice_get vs r ≡ Some v → nth vs r ≡ v
nth_at vs r v e = ap (λ o. elim o as (λ _. Value) [ None ↦ known nil | Some v ↦ v ]) e

frames_there : (cos : List Coroutine) (co n k : ℕ) → function_at cos co n ≡ Some k → (c : Coroutine) × (slice_get cos co ≡ Some c) × (fs : List Frame) × (frames_of c ≡ Some fs) × (in_frames (Some fs) n ≡ Some k)
frames_there cos co n k h = by (slice_get cos co) refl h
  where
    by : (o : Option Coroutine) → slice_get cos co ≡ o → in_frames (bind o frames_of) n ≡ Some k → (c : Coroutine) × (slice_get cos co ≡ Some c) × (fs : List Frame) × (frames_of c ≡ Some fs) × (in_frames (Some fs) n ≡ Some k)
    by None e z = absurd (cc)
    by (Some c) e z = within (frames_of c) refl z
      where
        within : (p : Option (List Frame)) → frames_of c ≡ p → in_frames p n ≡ Some k → (c : Coroutine) × (slice_get cos co ≡ Some c) × (fs : List Frame) × (frames_of c ≡ Some fs) × (in_frames (Some fs) n ≡ Some k)
        within None q z = absurd (cc)
        within (Some fs) q z = (c, e, fs, q, z)

pub read_apart : (y : Home) (gs : List Guard) (W : World) → Keeps y gs W → (c : Cell) (v : Value) → CellOk y.table gs W.coroutines c → read_cell W c ≡ Some v → Apart y.table v
read_apart y gs W k (closed w) v h e = subst (Apart y.table) (some_is {o = Some w} refl e) h
read_apart y gs W k (open_at co n r) v h e =
    let (c, is, fs, are, inside) = frames_there W.coroutines co n h.function h.stands in
    let t = frame_there fs n h.function inside in
    let l : LuaOk y.table gs t.0 = frames_held y.table gs c fs are (k.coroutines co c is) n (lua t.0) t.1 in
    let b : h.guard ≡ l.guard = some_is h.there (ap (slice_get gs) (sym t.2) ∙ l.there) in
    let a : Apart y.table (nth t.0.own.registers r) = l.registers r (ap (λ (g : Guard). g.registers r) (sym b) ∙ h.apart) in
    let x : slice_get t.0.own.registers r ≡ Some v =
    sym (ap (λ o. bind (bind o frames_of) (λ fs. bind (bind (slice_get fs n) lua_frame) (λ f. slice_get f.own.registers r))) is ∙ ap (λ o. bind o (λ fs. bind (bind (slice_get fs n) lua_frame) (λ f. slice_get f.own.registers r))) are
    ∙ ap (λ o. bind (bind o lua_frame) (λ f. slice_get f.own.registers r)) t.1) ∙ e in
    subst (Apart y.table) (nth_at t.0.own.registers r v x) a

-- writing

write_function : (r : ℕ) (v : Value) (f : Frame) → function_of (write_in_frame r v f) ≡ function_of f
write_function r v (lua f) = refl
write_function r v _ = refl

write_ok : (e : ℕ) (gs : List Guard) (r : ℕ) (v : Value) → Apart e v → (f : Frame) → FrameOk e gs f → FrameOk e gs (write_in_frame r v f)
write_ok e gs r v a (lua f) h = record {
  guard = h.guard;
  there = h.there;
  registers = held_write (Apart e) tt (λ r. h.guard.registers r ≡ false) r v f.own.registers (λ _. a) h.registers;
  varargs = h.varargs;
  pending = h.pending;
  wait = h.wait;
}
write_ok e gs r v a _ h = h

-- a frame in place of one of the same function
set_frames : (fs : List Frame) (n : ℕ) (f x : Frame) → slice_get fs n ≡ Some f → function_of x ≡ function_of f → FramesStay (Some fs) (Some (slice_set fs n x))
set_frames fs n f x e s m j h = ⊎_elim
    (λ (q : m ≡ n). ap (λ m. in_frames (Some (slice_set fs n x)) m) q ∙ ap (λ o. bind (bind o lua_frame) (λ f. Some f.function)) (get_set_same fs n f x e) ∙ s
    ∙ sym (ap (λ o. bind (bind o lua_frame) (λ f. Some f.function)) e) ∙ sym (ap (λ m. in_frames (Some fs) m) q) ∙ h)
    (λ q. ap (λ o. bind (bind o lua_frame) (λ f. Some f.function)) (get_set_other fs n m x (λ z. q (sym z))) ∙ h)
    (cases_eq m n)

last_at : (fs : List Frame) → last fs ≡ slice_get fs (length fs - 1)
last_at [] = refl
last_at (f ∷ fs) = let e : suc (length fs) - 1 ≡ length fs = omega arith in rw e refl

last_set : (fs : List Frame) (n : ℕ) (f x : Frame) → slice_get fs n ≡ Some f → function_of x ≡ function_of f → bind (bind (last (slice_set fs n x)) lua_frame) (λ f. Some f.function) ≡ bind (bind (last fs) lua_frame) (λ f. Some f.function)
last_set fs n f x e s =
    ap (λ o. bind (bind o lua_frame) (λ f. Some f.function)) (last_at (slice_set fs n x) ∙ ap (λ m. slice_get (slice_set fs n x) (m - 1)) (length_set fs n x))
    ∙ ⊎_elim
    (λ (q : length fs - 1 ≡ n). ap (λ m. in_frames (Some (slice_set fs n x)) m) q ∙ ap (λ o. bind (bind o lua_frame) (λ f. Some f.function)) (get_set_same fs n f x e) ∙ s
    ∙ sym (ap (λ o. bind (bind o lua_frame) (λ f. Some f.function)) e) ∙ sym (ap (λ m. in_frames (Some fs) m) q))
    (λ q. ap (λ o. bind (bind o lua_frame) (λ f. Some f.function)) (get_set_other fs n (length fs - 1) x (λ z. q (sym z))))
    (cases_eq (length fs - 1) n)
    ∙ sym (ap (λ o. bind (bind o lua_frame) (λ f. Some f.function)) (last_at fs))

-- what a write in a coroutine leaves
pub record Written (e : ℕ) (gs : List Guard) (c d : Coroutine) : Type 0 where
  pub right : CoroutineOk e gs d
  pub stays : FramesStay (frames_of c) (frames_of d)
  pub top : bind (bind (bind (running_frames d) last) lua_frame) (λ f. Some f.function) ≡ bind (bind (bind (running_frames c) last) lua_frame) (λ f. Some f.function)

same_written : (e : ℕ) (gs : List Guard) (c : Coroutine) → CoroutineOk e gs c → Written e gs c c
same_written e gs c h = record { right = h; stays = λ n f z. z; top = refl }

-- frames of which one was written
record FramesWritten (e : ℕ) (gs : List Guard) (fs xs : List Frame) : Type 0 where
  right : Each (FrameOk e gs) xs
  stays : FramesStay (Some fs) (Some xs)
  top : bind (bind (last xs) lua_frame) (λ f. Some f.function) ≡ bind (bind (last fs) lua_frame) (λ f. Some f.function)

module _ (e : ℕ) (gs : List Guard) (n r : ℕ) (v : Value) (a : Apart e v) where
  frames_written : (fs : List Frame) (f : Frame) → Each (FrameOk e gs) fs → slice_get fs n ≡ Some f → FramesWritten e gs fs (slice_set fs n (write_in_frame r v f))
  frames_written fs f h is = record {
    right = each_set (FrameOk e gs) fs n (write_in_frame r v f) h (write_ok e gs r v a f (h n f is));
    stays = set_frames fs n f (write_in_frame r v f) is (write_function r v f);
    top = last_set fs n f (write_in_frame r v f) is (write_function r v f);
  }

  -- a coroutine that `put` makes of its frames
  written_by : (put : List Frame → Coroutine) (fs : List Frame) → Each (FrameOk e gs) fs → Written e gs (put fs) (put fs) → ((xs : List Frame) → FramesWritten e gs fs xs → Written e gs (put fs) (put xs))
      → (o : Option Frame) → slice_get fs n ≡ o → Written e gs (put fs) (elim (bind o (λ f. Some (slice_set fs n (write_in_frame r v f)))) as (λ _. Coroutine) [ None ↦ put fs | Some frames ↦ put frames ])
  written_by put fs h same made None is = same
  written_by put fs h same made (Some f) is = made (slice_set fs n (write_in_frame r v f)) (frames_written fs f h is)

  write_written : (c : Coroutine) → CoroutineOk e gs c → Written e gs c (write_in_coroutine n r v c)
  write_written (suspended fs) h = written_by suspended fs h (same_written e gs (suspended fs) h) (λ xs w. record { right = w.right; stays = w.stays; top = refl }) (slice_get fs n) refl
  write_written (normal fs) h = written_by normal fs h (same_written e gs (normal fs) h) (λ xs w. record { right = w.right; stays = w.stays; top = refl }) (slice_get fs n) refl
  write_written (in_progress fs) h = written_by in_progress fs h (same_written e gs (in_progress fs) h) (λ xs w. record { right = w.right; stays = w.stays; top = w.top }) (slice_get fs n) refl
  write_written c h = same_written e gs c h

abbrev stack_top : Option ℕ → List Coroutine → Option ℕ
stack_top o cos = bind o (λ co. bind (bind (bind (bind (slice_get cos co) running_frames) last) lua_frame) (λ f. Some f.function))

top_is : (W : World) → top_function W ≡ stack_top (last W.chain) W.coroutines
top_is W = by (last W.chain)
  where
    by : (o : Option ℕ) → bind (bind (bind (bind o (λ co. bind (bind (slice_get W.coroutines co) running_frames) (λ frames. Some (record { coroutine = co; frames = frames })))) (λ (s : Stack). last s.frames)) lua_frame) (λ f. Some f.function)
        ≡ stack_top o W.coroutines
    by None = refl
    by (Some co) = within (bind (slice_get W.coroutines co) running_frames)
      where
        within : (o : Option (List Frame)) → bind (bind (bind (bind o (λ frames. Some (record { coroutine = co; frames = frames }))) (λ (s : Stack). last s.frames)) lua_frame) (λ f. Some f.function) ≡ bind (bind (bind o last) lua_frame) (λ f. Some f.function)
        within None = refl
        within (Some fs) = refl

module _ (y : Home) (gs : List Guard) (W : World) (k : Keeps y gs W) where
  -- a cell that does not hold the environment takes another such value
  pub write_keeps : (n : ℕ) (c : Cell) (v : Value) → slice_get W.cells n ≡ Some c → CellOk y.table gs W.coroutines c → Apart y.table v → Keeps y gs (write_cell W n c v) × (top_function (write_cell W n c v) ≡ top_function W)
  unfolding write_cell
  write_keeps n (closed w) v e h a = (changed y gs W (record W { cells = slice_set W.cells n (closed v) }) k refl refl k.heap carries (get_set_other W.cells n y.cell (closed v) other ∙ k.cell) k.coroutines k.moving, refl)
    where
      other : n ≢ y.cell
      other q =
          let z : closed w ≡ closed (object a_table y.table) = some_is e (ap (slice_get W.cells) q ∙ k.cell) in
          let x : w ≡ object a_table y.table = cc in
          subst (Apart y.table) x h refl

      carries : Carries y.table gs W.coroutines W.cells W.coroutines (slice_set W.cells n (closed v))
      carries c x = ⊎_elim
          (λ (q : c ≡ n). record { cell = closed v; there = ap (slice_get (slice_set W.cells n (closed v))) q ∙ get_set_same W.cells n (closed w) (closed v) e; right = a })
          (λ q. record { cell = x.cell; there = get_set_other W.cells n c (closed v) (λ z. q (sym z)) ∙ x.there; right = x.right })
          (cases_eq c n)
  write_keeps n (open_at co m r) v e h a = by (slice_get W.coroutines co) refl
    where
      by : (o : Option Coroutine) → slice_get W.coroutines co ≡ o
          → Keeps y gs (elim o as (λ _. World) [ None ↦ W | Some c ↦ record W { coroutines = slice_set W.coroutines co (write_in_coroutine m r v c) } ])
          × (top_function (elim o as (λ _. World) [ None ↦ W | Some c ↦ record W { coroutines = slice_set W.coroutines co (write_in_coroutine m r v c) } ]) ≡ top_function W)
      by None q = (k, refl)
      by (Some c) q =
          let w = write_written y.table gs m r v a c (k.coroutines co c q) in
          let V = record W { coroutines = slice_set W.coroutines co (write_in_coroutine m r v c) } in (
            changed y gs W V k refl refl k.heap (stay_carries y.table gs W.coroutines V.coroutines W.cells (set_stays W.coroutines co c (write_in_coroutine m r v c) q w.stays)) k.cell
                (each_set (CoroutineOk y.table gs) W.coroutines co (write_in_coroutine m r v c) k.coroutines w.right) k.moving,
            top_is V ∙ top (last W.chain) ∙ sym (top_is W),
          )
        where
          top : (o : Option ℕ) → stack_top o (slice_set W.coroutines co (write_in_coroutine m r v c)) ≡ stack_top o W.coroutines
          top None = refl
          top (Some d) = ⊎_elim
              (λ (z : d ≡ co).
              ap (λ d. bind (bind (bind (bind (slice_get (slice_set W.coroutines co (write_in_coroutine m r v c)) d) running_frames) last) lua_frame) (λ f. Some f.function)) z
              ∙ ap (λ o. bind (bind (bind (bind o running_frames) last) lua_frame) (λ f. Some f.function)) (get_set_same W.coroutines co c (write_in_coroutine m r v c) q)
              ∙ (write_written y.table gs m r v a c (k.coroutines co c q)).top
              ∙ sym (ap (λ o. bind (bind (bind (bind o running_frames) last) lua_frame) (λ f. Some f.function)) q)
              ∙ sym (ap (λ d. bind (bind (bind (bind (slice_get W.coroutines d) running_frames) last) lua_frame) (λ f. Some f.function)) z))
              (λ z. ap (λ o. bind (bind (bind (bind o running_frames) last) lua_frame) (λ f. Some f.function)) (get_set_other W.coroutines co d (write_in_coroutine m r v c) (λ x. z (sym x))))
              (cases_eq d co)

  -- a new cell for a register
  pub open_keeps : (o : Option ℕ) (co n r : ℕ) → Keeps y gs (record W { cells = opened_cells o co n r W.cells })
  open_keeps (Some m) co n r = k
  open_keeps None co n r = changed y gs W (record W { cells = W.cells ++ open_at co n r ∷ [] }) k refl refl k.heap carries (get_push_old W.cells (open_at co n r ∷ []) y.cell (closed (object a_table y.table)) k.cell) k.coroutines k.moving
    where
      carries : Carries y.table gs W.coroutines W.cells W.coroutines (W.cells ++ open_at co n r ∷ [])
      carries c x = record { cell = x.cell; there = get_push_old W.cells (open_at co n r ∷ []) c x.cell x.there; right = x.right }

-- functions that are made

pub find_is : (j co n r : ℕ) (cells : List Cell) (m : ℕ) → find_open_from j co n r cells ≡ Some m → (i : ℕ) × (m ≡ j + i) × (slice_get cells i ≡ Some (open_at co n r))
find_is j co n r [] m h = absurd (cc)
find_is j co n r (c ∷ cells) m h = by (is_open_at co n r c) refl h (find_is (suc j) co n r cells m)
  where
    open_is : (c : Cell) → is_open_at co n r c ≡ true → c ≡ open_at co n r
    open_is (closed v) e = absurd (cc)
    open_is (open_at d p q) e = three (nat_eq co d) (nat_eq n p) (nat_eq r q) refl refl refl e
      where
        three : (a b z : Bool) → nat_eq co d ≡ a → nat_eq n p ≡ b → nat_eq r q ≡ z → (a && (b && z)) ≡ true → open_at d p q ≡ open_at co n r
        three true true true x w u e =
            let s : d ≡ co = grind (arith, nat_tests) in
            let t : p ≡ n = grind (arith, nat_tests) in
            let v : q ≡ r = grind (arith, nat_tests) in
            rw (s, t, v) refl
        three true true false x w u e = absurd (cc)
        three true false z x w u e = absurd (cc)
        three false b z x w u e = absurd (cc)

    by : (b : Bool) → is_open_at co n r c ≡ b → cond b (Some j) (find_open_from (suc j) co n r cells) ≡ Some m → (find_open_from (suc j) co n r cells ≡ Some m → (i : ℕ) × (m ≡ suc j + i) × (slice_get cells i ≡ Some (open_at co n r)))
        → (i : ℕ) × (m ≡ j + i) × (slice_get (c ∷ cells) i ≡ Some (open_at co n r))
    by true e z ih = (0, (let q : j ≡ m = cc in omega arith), ap Some (open_is c e))
    by false e z ih = let i = ih z in (suc i.0, (let q = i.1 in omega arith), i.2)

-- each cell that a new function has is one that is open, or one that the outer function has
pub captured_is : (us : List UpDesc) (co n : ℕ) (outer : List ℕ) (cells : List Cell) (ids : List ℕ) → captured us co n outer cells ≡ Some ids → (i c : ℕ) → slice_get ids i ≡ Some c
    → (u : UpDesc) × (slice_get us i ≡ Some u) × (cond u.in_stack (find_open co n u.index cells) (slice_get outer u.index) ≡ Some c)
captured_is [] co n outer cells ids h i c e = let k : [] ≡ ids = cc in absurd (let z = ap (λ l. slice_get l i) k ∙ e in cc)
captured_is (u ∷ us) co n outer cells ids h i c e =
    by (cond u.in_stack (find_open co n u.index cells) (slice_get outer u.index)) refl (captured us co n outer cells) refl h (captured_is us co n outer cells)
  where
    by : (o : Option ℕ) → cond u.in_stack (find_open co n u.index cells) (slice_get outer u.index) ≡ o → (p : Option (List ℕ)) → captured us co n outer cells ≡ p → bind o (λ c. bind p (λ cs. Some (c ∷ cs))) ≡ Some ids
        → ((ids : List ℕ) → captured us co n outer cells ≡ Some ids → (i c : ℕ) → slice_get ids i ≡ Some c → (u : UpDesc) × (slice_get us i ≡ Some u) × (cond u.in_stack (find_open co n u.index cells) (slice_get outer u.index) ≡ Some c))
        → (v : UpDesc) × (slice_get (u ∷ us) i ≡ Some v) × (cond v.in_stack (find_open co n v.index cells) (slice_get outer v.index) ≡ Some c)
    by None a p b z ih = absurd (cc)
    by (Some d) a None b z ih = absurd (cc)
    by (Some d) a (Some ds) b z ih = at i (let q : d ∷ ds ≡ ids = cc in subst (λ ids. slice_get ids i ≡ Some c) (sym q) e)
      where
        at : (i : ℕ) → slice_get (d ∷ ds) i ≡ Some c → (v : UpDesc) × (slice_get (u ∷ us) i ≡ Some v) × (cond v.in_stack (find_open co n v.index cells) (slice_get outer v.index) ≡ Some c)
        at zero x = (u, refl, a ∙ x)
        at (suc i) x = ih ds b i c x
