-- Steps of the machine leave no value that a script reaches which is the environment.
use Rattle.std.proofs.Common.{ℕ, zero, suc, ◌-◌, ◌≡◌, ◌⊎◌, inl, inr, ⊎_elim, List, [], ◌∷◌, ◌++◌, Option, Some, None, refl, subst, sym, ap, ◌∙◌, length, arith, Bool, true, false, cond, length-append}
use Rattle.std.specs.Prelude.{slice_get, IsTrue}
use Rattle.int_core.specs.Value.{boolean, Value, bind, last, without_last, nth}
use Rattle.code_core.specs.declared.instruction.Instruction.{Instruction}
use Rattle.code_core.specs.declared.opcode.Opcode.{Opcode}
use Rattle.code_core.specs.Instruction.{opcode_of}
use Rattle.code_core.specs.Prototype.{Prototype}
use Rattle.code_core.specs.Check.{at}
use Rattle.machine_core.specs.World.{Function, Wait, running, for_call, for_iterator, for_value, for_truth, dropped, for_concat, for_close, returning, leaving, LuaFrame, Frame, lua, pcall, xpcall, handler, closing, World, Stack, stack_of, lua_frame, Place, put_top, put_frames, in_progress}
use Rattle.machine_core.specs.Text.{read, written, thrown, Own, read_register, read_registers, read_list, mark_pending, Quick, read_upvalue, write_upvalue, Text, own, open_cell, quick, operate, call, close, closable, leave, trap}
use Rattle.machine_core.specs.InstructionRows.{text_at, rest, rest_by, rest_at, arrived, fails, is_true, left_so}
use Rattle.machine_core.specs.Moves.{give, give_with, see_top, made, TopShape, lua_top, pcall_top, xpcall_top, handler_top, closing_top, no_top, top_now, Ending, go, returned, asks, calls_primitive, raised, unwinding, spent, Row, traps, stop, act, Outcome, trapped, ends, run}
use Rattle.machine_core.specs.FrameRows.{then, hand_over, gives_up, by_asking, goes_on_by, handed_to, unwound}
use Rattle.machine_core.specs.MachineStep.{woken, lua_step, frame_step, from_world, step_by, step, and_then, steps}
use Rattle.machine_sound.specs.Sound.{Each, sizes, waits_at, LuaWaits, FrameWaits, RunsOrWaits, Rests, idle, on_top, all_wait, Sound}
use Rattle.machine_sound.specs.Laws.{SoundAfter, StepGood, PrimitivesSafe}
use Rattle.machine_sound.proofs.Steps.{steps_good}
use Rattle.machine_sound.proofs.Lists.{each_none, each_one, each_last, last_push, last_splits, get_set_same, some_is}
use Rattle.machine_sound.proofs.Values.{nth_ok}
use Rattle.prelude_stays.specs.Guards.{Guard, unguarded, OwnReads, AllRead, QuickReads, Reads, Row as RowOf, apart, IsGuarded, free, kept}
use Rattle.prelude_stays.specs.Kept.{Home, Apart, WaitOk, LuaOk, FrameOk, Keeps}
use Rattle.prelude_stays.proofs.Worlds.{EndKeeps, TopIs, OnStack, stack_there, OnPlace, top_at, place_top, top_ok, frames_ok, function_there, moving_keeps}
use Rattle.prelude_stays.proofs.Frames.{own_ok, top_keeps}
use Rattle.prelude_stays.proofs.Rows.{RowKeeps, stop_keeps, act_keeps, hand_over_keeps, gives_up_keeps, no_lua, pop_goes, taken_pop, closing_keeps}
use Rattle.prelude_stays.proofs.Texts.{text_keeps}
use Rattle.prelude_stays.proofs.Instructions.{row_keeps}
use Rattle.prelude_stays.proofs.Primitives.{coroutine_fails_keep, raised_keeps, asked_keeps}

-- where no place may hold it no code reads such a place

own_free : (m : Own) → OwnReads unguarded m
own_free (read_register r) = refl
own_free (read_registers from count) = λ r l. refl
own_free (read_list from) = λ r l. refl
own_free (mark_pending r) = refl
own_free _ = tt

all_free : (ms : List Own) → AllRead unguarded ms
all_free [] = tt
all_free (m ∷ ms) = (own_free m, all_free ms)

quick_free : (q : Quick) → QuickReads unguarded q
quick_free (read_upvalue u) = refl
quick_free (write_upvalue u x) = refl
quick_free _ = tt

pub text_free : (t : Text) → Reads unguarded t
text_free (own m k) = (own_free m, λ n s. text_free (k n s))
text_free (open_cell r t) = text_free t
text_free (quick q k) = (quick_free q, λ n. text_free (k n))
text_free (operate op xs wait prepared t) = (all_free prepared, text_free t)
text_free (call f slot wait prepared) = all_free prepared
text_free (close v e wait prepared) = all_free prepared
text_free (closable v name t) = text_free t
text_free _ = tt

guarded_row : (g : Guard) (p : Prototype) → IsGuarded g p → (pc : ℕ) → RowOf g p pc (text_at p pc)
guarded_row g p (free p') pc = apart (text_free (text_at p pc))
guarded_row g p (kept g' p' rows waits inner code shares) pc = rows pc

rest_is : (wait : Wait Value) (p : Prototype) (pc : ℕ) (w : Instruction) (op : Opcode) → at p pc ≡ Some w → opcode_of w ≡ Some op → rest_at wait p pc ≡ rest wait p pc op w
rest_is wait p pc w op a o = ap (λ o. elim o as (λ _. Text) [ None ↦ trap | Some w ↦ rest_by wait p pc w (opcode_of w) ]) a ∙ ap (rest_by wait p pc w) o

guarded_rest : (g : Guard) (p : Prototype) → IsGuarded g p → (wait : Wait Value) (pc : ℕ) (w : Instruction) (op : Opcode) → at p pc ≡ Some w → opcode_of w ≡ Some op → IsTrue (waits_at wait op w) → Reads g (rest_at wait p pc)
guarded_rest g p (free p') wait pc w op a o f = text_free (rest_at wait p pc)
guarded_rest g p (kept g' p' rows waits inner code shares) wait pc w op a o f = subst (Reads g) (sym (rest_is wait p pc w op a o)) (waits wait pc w op a o f)

-- the frame on top runs, or it fits its wait
top_waits : (n : ℕ) (W : World) (s : Stack) (f : LuaFrame) → Sound n W → OnStack W s → last s.frames ≡ Some (lua f) → (f.wait ≡ running) ⊎ LuaWaits (sizes n W) f
top_waits n W s f h o l = by h.rests
  where
    frames : (co : ℕ) (fs : List Frame) → last W.chain ≡ Some co → slice_get W.coroutines co ≡ Some (in_progress fs) → fs ≡ s.frames
    frames co fs a b =
        let c : co ≡ s.coroutine = some_is a o.chain in
        let d : in_progress fs ≡ in_progress s.frames = some_is b (ap (slice_get W.coroutines) c ∙ o.there) in
        cc

    by : Rests n W → (f.wait ≡ running) ⊎ LuaWaits (sizes n W) f
    by (idle e) = absurd (let a = o.chain in let b = ap last e in let c = sym b ∙ a in cc)
    by (on_top t) = runs t.top.runs t.is_top.wait
      where
        same : t.is_top.top ≡ f
        same =
            let e = frames t.is_top.coroutine (t.is_top.base ++ lua t.is_top.top ∷ []) t.is_top.last t.is_top.frames in
            let a : Some (lua t.is_top.top) ≡ Some (lua f) = sym (last_push t.is_top.base (lua t.is_top.top)) ∙ ap last e ∙ l in
            cc

        runs : (b : Bool) → RunsOrWaits b (sizes n W) t.is_top.top → (f.wait ≡ running) ⊎ LuaWaits (sizes n W) f
        runs true w = inl (ap (λ (f : LuaFrame). f.wait) (sym same) ∙ w)
        runs false w = inr (subst (LuaWaits (sizes n W)) same w)
    by (all_wait t) =
        let e = frames t.coroutine t.frames t.last t.running in
        inr (each_last (FrameWaits (sizes n W)) (without_last s.frames) (lua f) (subst (Each (FrameWaits (sizes n W))) (e ∙ last_splits s.frames (lua f) l) t.waits))

pub fails_reads : (g : Guard) → Reads g fails
fails_reads g = (tt, λ n s. by n (is_true s))
  where
    by : (n : ℕ) (b : Bool) → Reads g (cond b (close (read n) (read 0) (leaving (read 0)) left_so) (leave (thrown (read 0))))
    by n true = (tt, (tt, (tt, tt)))
    by n false = tt

arrived_apart : (e : ℕ) (wait : Wait Value) (vs : List Value) → WaitOk e wait → Each (Apart e) vs → Each (Apart e) (arrived wait vs)
arrived_apart e (leaving x) vs w v = each_one (Apart e) x w
arrived_apart e (for_concat (suc n)) vs w v = each_one (Apart e) (nth vs 0) (nth_ok (Apart e) tt vs 0 v)
arrived_apart e _ vs w v = v

module _ (y : Home) (gs : List Guard) (W : World) (k : Keeps y gs W) (n : ℕ) (sound : Sound n W) where
  -- a Lua frame

  module _ (s : Stack) (f : LuaFrame) (h : Function) (o : OnStack W s) (l : last s.frames ≡ Some (lua f)) (there : slice_get W.functions f.function ≡ Some h) where
    abbrev place : Place
    place = record { stack = s; number = length s.frames - 1; top = f; function = h }

    on : OnPlace W place
    on =
        let e = last_splits s.frames (lua f) l in
        record { stack = o; splits = e; number = (let q = ap length e in let r = length-append (without_last s.frames) (lua f ∷ []) in omega arith); function = there }

    ok : LuaOk y.table gs f
    ok = top_ok y gs W k place on

    guarded : IsGuarded ok.guard h.code
    guarded = let z = function_there y gs W k place on in subst (λ g. IsGuarded g h.code) (some_is z.there ok.there) z.code

    top_is : TopIs gs ok.guard W
    top_is j e = ap (slice_get gs) (some_is e (place_top W place on)) ∙ ok.there

    woken_keeps : Keeps y gs (woken W s f)
    unfolding woken put_top put_frames
    woken_keeps =
        moving_keeps y gs (put_top W s (lua (record f { wait = running }))) []
        (top_keeps y gs W k place on ok.guard ok.there (record f { wait = running }) refl (own_ok y gs W k place on ok.guard ok.there) tt W.cells (λ c z. z) k.cell) (each_none (Apart y.table))

    woken_top : TopIs gs ok.guard (woken W s f)
    unfolding woken put_top put_frames
    woken_top j e =
        let t = top_at (woken W s f) s.coroutine (without_last s.frames) (lua (record f { wait = running })) o.chain (get_set_same W.coroutines s.coroutine (in_progress s.frames) (in_progress (without_last s.frames ++ lua (record f { wait = running }) ∷ [])) o.there) in
        ap (slice_get gs) (some_is e t) ∙ ok.there

    goes_keeps : (wait : Wait Value) → WaitOk y.table wait → f.wait ≡ wait → LuaWaits (sizes n W) f → EndKeeps y (run (goes_on_by (rest_at wait h.code f.own.pc)) (arrived wait W.moving) (woken W s f))
    goes_keeps wait w e z =
        let same : z.function ≡ h = some_is z.there there in
        let at_pc : at h.code f.own.pc ≡ Some z.instruction = ap (λ (h : Function). at h.code f.own.pc) (sym same) ∙ z.at_pc in
        let reads = guarded_rest ok.guard h.code guarded wait f.own.pc z.instruction z.opcode at_pc z.is_opcode (subst (λ w. IsTrue (waits_at w z.opcode z.instruction)) e z.fits) in
        text_keeps y ok.guard by_asking (rest_at wait h.code f.own.pc) reads gs (arrived wait W.moving) (woken W s f) (arrived_apart y.table wait W.moving w k.moving) woken_keeps woken_top

    waiting_keeps : (wait : Wait Value) → WaitOk y.table wait → f.wait ≡ wait → (wait ≡ running → ⊥) → EndKeeps y (run (goes_on_by (rest_at wait h.code f.own.pc)) (arrived wait W.moving) (woken W s f))
    waiting_keeps wait w e d = ⊎_elim (λ q. absurd (d (sym e ∙ q))) (λ z. goes_keeps wait w e z) (top_waits n W s f sound o l)

    lua_keeps : (wait : Wait Value) → WaitOk y.table wait → f.wait ≡ wait → EndKeeps y (lua_step W s f h.code wait)
    lua_keeps running w e = row_keeps y ok.guard h.code f.own.pc (text_at h.code f.own.pc) (guarded_row ok.guard h.code guarded f.own.pc) gs W k top_is
    lua_keeps for_call w e = waiting_keeps for_call w e (λ q. cc)
    lua_keeps for_iterator w e = waiting_keeps for_iterator w e (λ q. cc)
    lua_keeps for_value w e = waiting_keeps for_value w e (λ q. cc)
    lua_keeps for_truth w e = waiting_keeps for_truth w e (λ q. cc)
    lua_keeps dropped w e = waiting_keeps dropped w e (λ q. cc)
    lua_keeps (for_concat m) w e = waiting_keeps (for_concat m) w e (λ q. cc)
    lua_keeps for_close w e = waiting_keeps for_close w e (λ q. cc)
    lua_keeps (returning m) w e = waiting_keeps (returning m) w e (λ q. cc)
    lua_keeps (leaving x) w e = waiting_keeps (leaving x) w e (λ q. cc)

    pub step_of_lua : EndKeeps y (lua_step W s f h.code f.wait)
    step_of_lua = lua_keeps f.wait ok.wait refl

  abbrev OptionKeeps : Option Outcome → Type 0
  OptionKeeps None = Unit {0}
  OptionKeeps (Some o) = EndKeeps y o

  option_bind : {A : Type 0} (o : Option A) (f : A → Option Outcome) → ((a : A) → o ≡ Some a → OptionKeeps (f a)) → OptionKeeps (bind o f)
  option_bind None f h = tt
  option_bind (Some a) f h = h a refl

  frame_keeps : (s : Stack) (f : Frame) → OnStack W s → last s.frames ≡ Some f → OptionKeeps (frame_step W s f)
  frame_keeps s (lua f) o l = option_bind (slice_get W.functions f.function) _ (λ h e. step_of_lua s f h o l e)
  frame_keeps s _ o l = tt

  go_keeps : EndKeeps y (step_by (λ n. traps) go W)
  go_keeps = there (bind (stack_of W) (λ s. bind (last s.frames) (frame_step W s))) (option_bind (stack_of W) _ (λ s e. option_bind (last s.frames) _ (λ f q. frame_keeps s f (stack_there W s e) q)))
    where
      there : (o : Option Outcome) → OptionKeeps o → EndKeeps y (elim o as (λ _. Outcome) [ None ↦ trapped | Some o ↦ o ])
      there None h = tt
      there (Some o) h = h

  -- what is known of the frame on top
  some_top : (g : Guard) × TopIs gs g W
  some_top = by (stack_of W) refl
    where
      frame : (s : Stack) → OnStack W s → (f : Frame) → last s.frames ≡ Some f → (g : Guard) × ((j : ℕ) → bind (lua_frame f) (λ l. Some l.function) ≡ Some j → slice_get gs j ≡ Some g)
      frame s o (lua f) l =
          let z : LuaOk y.table gs f = each_last (FrameOk y.table gs) (without_last s.frames) (lua f) (subst (Each (FrameOk y.table gs)) (last_splits s.frames (lua f) l) (frames_ok y gs W k s o)) in
          (z.guard, λ j e. ap (slice_get gs) (let q : Some f.function ≡ Some j = e in let r : j ≡ f.function = cc in r) ∙ z.there)
      frame s o pcall l = (unguarded, λ j e. absurd (cc))
      frame s o (xpcall v) l = (unguarded, λ j e. absurd (cc))
      frame s o handler l = (unguarded, λ j e. absurd (cc))
      frame s o (closing x xs) l = (unguarded, λ j e. absurd (cc))

      within : (s : Stack) → OnStack W s → (o : Option Frame) → last s.frames ≡ o → (g : Guard) × ((j : ℕ) → bind (bind o lua_frame) (λ (l : LuaFrame). Some l.function) ≡ Some j → slice_get gs j ≡ Some g)
      within s o None l = (unguarded, λ j e. absurd (cc))
      within s o (Some f) l = frame s o f l

      by : (o : Option Stack) → stack_of W ≡ o → (g : Guard) × ((j : ℕ) → bind (bind (bind o (λ s. last s.frames)) lua_frame) (λ (l : LuaFrame). Some l.function) ≡ Some j → slice_get gs j ≡ Some g)
      by None e = (unguarded, λ j z. absurd (cc))
      by (Some s) e = within s (stack_there W s e) (last s.frames) refl

  -- results and errors that reach the frame on top

  handed_goes : (top : TopShape) → top_now W ≡ Some top → EndKeeps y (run (handed_to top) [] W)
  handed_goes pcall_top e = taken_pop y (λ v. then (give_with (written (boolean true) ∷ []) v) hand_over) (λ n. act_keeps tt (λ m t. hand_over_keeps)) gs [] W (each_none (Apart y.table)) k (no_lua W pcall_top e (λ q. cc))
  handed_goes xpcall_top e = taken_pop y (λ v. then (give_with (written (boolean true) ∷ []) v) hand_over) (λ n. act_keeps tt (λ m t. hand_over_keeps)) gs [] W (each_none (Apart y.table)) k (no_lua W xpcall_top e (λ q. cc))
  handed_goes handler_top e = taken_pop y (λ v. then (give (read v ∷ [])) (stop unwinding)) (λ n. act_keeps tt (λ m t. stop_keeps)) gs [] W (each_none (Apart y.table)) k (no_lua W handler_top e (λ q. cc))
  handed_goes closing_top e = (free_row (act_keeps tt (λ n t. closing_keeps))).goes gs [] W (each_none (Apart y.table)) k
    where
      free_row : RowKeeps y (handed_to closing_top) → RowKeeps y (handed_to closing_top)
      free_row h = h
  handed_goes (no_top true) e = (free_row (act_keeps tt (λ n t. stop_keeps))).goes gs [] W (each_none (Apart y.table)) k
    where
      free_row : RowKeeps y (handed_to (no_top true)) → RowKeeps y (handed_to (no_top true))
      free_row h = h
  handed_goes (no_top false) e = (free_row (act_keeps tt (λ n t. act_keeps tt (λ m u. act_keeps tt (λ i v. hand_over_keeps))))).goes gs [] W (each_none (Apart y.table)) k
    where
      free_row : RowKeeps y (handed_to (no_top false)) → RowKeeps y (handed_to (no_top false))
      free_row h = h
  handed_goes lua_top e = (gs, k)

  unwound_goes : (top : TopShape) → top_now W ≡ Some top → EndKeeps y (run (unwound top) [] W)
  unwound_goes lua_top e =
      let g = some_top in
      text_keeps y g.0 by_asking fails (fails_reads g.0) gs ([] ++ W.moving) (record W { moving = [] }) k.moving (moving_keeps y gs W [] k (each_none (Apart y.table))) g.1
  unwound_goes pcall_top e = taken_pop y (λ x. then (give (written (boolean false) ∷ read x ∷ [])) hand_over) (λ n. act_keeps tt (λ m t. hand_over_keeps)) gs [] W (each_none (Apart y.table)) k (no_lua W pcall_top e (λ q. cc))
  unwound_goes xpcall_top e = taken_pop y (λ x. then (give (written (boolean false) ∷ read x ∷ [])) hand_over) (λ n. act_keeps tt (λ m t. hand_over_keeps)) gs [] W (each_none (Apart y.table)) k (no_lua W xpcall_top e (λ q. cc))
  unwound_goes handler_top e = pop_goes y gives_up gives_up_keeps gs [] W (each_none (Apart y.table)) k (no_lua W handler_top e (λ q. cc))
  unwound_goes closing_top e = (free_row (act_keeps tt (λ n t. act_keeps tt (λ m u. closing_keeps)))).goes gs [] W (each_none (Apart y.table)) k
    where
      free_row : RowKeeps y (unwound closing_top) → RowKeeps y (unwound closing_top)
      free_row h = h
  unwound_goes (no_top true) e = (free_row (act_keeps tt (λ n t. act_keeps tt (λ m u. act_keeps tt (λ i v. stop_keeps))))).goes gs [] W (each_none (Apart y.table)) k
    where
      free_row : RowKeeps y (unwound (no_top true)) → RowKeeps y (unwound (no_top true))
      free_row h = h
  unwound_goes (no_top false) e = (free_row coroutine_fails_keep).goes gs [] W (each_none (Apart y.table)) k
    where
      free_row : RowKeeps y (unwound (no_top false)) → RowKeeps y (unwound (no_top false))
      free_row h = h

  seen : (f : TopShape → Row) → ((top : TopShape) → top_now W ≡ Some top → EndKeeps y (run (f top) [] W)) → EndKeeps y (run (act see_top (λ _ top. f top)) [] W)
  seen f h = by (top_now W) refl
    where
      by : (o : Option TopShape) → top_now W ≡ o → EndKeeps y (elim (bind o (λ top. made W [] top)) as (λ _. Outcome) [ None ↦ trapped | Some d ↦ run (f d.told) ([] ++ d.values) d.world ])
      by None e = tt
      by (Some top) e = h top e

  module _ (primitives : ℕ → Row) (rows : (n : ℕ) → RowKeeps y (primitives n)) where
    by_keeps : (e : Ending) → EndKeeps y (step_by primitives e W)
    by_keeps go = go_keeps
    by_keeps returned = seen handed_to handed_goes
    by_keeps asks = asked_keeps.goes gs [] W (each_none (Apart y.table)) k
    by_keeps (calls_primitive n) = (rows n).goes gs [] W (each_none (Apart y.table)) k
    by_keeps raised = raised_keeps.goes gs [] W (each_none (Apart y.table)) k
    by_keeps unwinding = seen unwound unwound_goes
    by_keeps _ = (gs, k)

    from_keeps : (o : Outcome) → EndKeeps y o → EndKeeps y (from_world W o)
    from_keeps trapped h = tt
    from_keeps (ends spent V) h = (gs, k)
    from_keeps (ends (calls_primitive n) V) h = h
    from_keeps _ h = h

    pub step_keeps : (e : Ending) → EndKeeps y (step primitives e W)
    step_keeps e = from_keeps (step_by primitives e W) (by_keeps e)

pub then_keeps : (y : Home) (n : ℕ) (o : Outcome) (f : Ending → World → Outcome) → StepGood n o → EndKeeps y o → ((gs : List Guard) (e : Ending) (V : World) → SoundAfter n e V → Keeps y gs V → EndKeeps y (f e V)) → EndKeeps y (and_then o f)
then_keeps y n trapped f s h k = tt
then_keeps y n (ends e V) f s h k = k h.0 e V s h.1

pub steps_keep : (y : Home) (n : ℕ) (primitives : ℕ → Row) → PrimitivesSafe n primitives → ((n : ℕ) → RowKeeps y (primitives n)) → (count : ℕ) (gs : List Guard) (e : Ending) (W : World) → SoundAfter n e W → Keeps y gs W → EndKeeps y (steps primitives count e W)
steps_keep y n primitives safe rows zero gs e W s k = (gs, k)
steps_keep y n primitives safe rows (suc count) gs e W s k =
    then_keeps y n (step primitives e W) (steps primitives count) (steps_good n primitives safe e W s) (step_keeps y gs W k n s.sound primitives rows e) (λ gs d V a h. steps_keep y n primitives safe rows count gs d V a h)
