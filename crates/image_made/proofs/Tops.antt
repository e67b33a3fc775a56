-- Frames that are put on top of a stack and changed there.
use Rattle.std.proofs.Common.{◌≡◌, ℕ, suc, ◌+◌, ◌<◌, ◌≤◌, List, [], ◌∷◌, ◌++◌, map, take, drop, length, true, Option, Some, None, get_or, refl, sym, ap, ◌∙◌, subst, arith, append-nil, append_assoc, length-append}
use Rattle.std.specs.Prelude.{slice_get}
use Rattle.std.specs.Option.{option_map}
use Rattle.std.proofs.lemmas.Option.{slice_get_within}
use Rattle.std.proofs.Math.Seq.{take-suc}
use Rattle.std.proofs.lemmas.List.{length-map, map-append, take_all}
use Rattle.code_core.specs.Prototype.{Prototype, none, stripped}
use Rattle.int_core.specs.Value.{Value, fitted}
use Rattle.machine_core.specs.Moves.{new_frame}
use Rattle.machine_core.specs.World.{LuaFrame, Frame, lua, xpcall, closing}
use Rattle.image_core.specs.Image.{Item, FrameItem, LuaFrameItem, lua_item, pcall_item, xpcall_item, handler_item, closing_item, Record}
use Rattle.image_core.specs.Loading.{Target, frame_made, lua_frame_made, function_number, value_made}
use Rattle.table_core.specs.declared.value.Value.{Value as Kept}
use Rattle.table_core.specs.declared.value.FuncId.{FuncId}
use Rattle.lua_stack.specs.declared.frame.Shape.{Shape}
use Rattle.lua_stack.specs.declared.frame.Wait.{Wait as KeptWait}
use Rattle.lua_stack.specs.Frames.{KeptStack, KeptFrame, kept_pcall, kept_xpcall, kept_handler, kept_closing, Enters, HasLuaTop, HasRegisters, IsShapeOf, TopBecomes, error_of, frame_of, frames, wait_of, with_pc, with_pending, with_wait}
use Rattle.lua_heap.specs.Reading.{value}
use Rattle.image_made.proofs.Steps.{got}
use Rattle.image_made.specs.declared.making.Maker.{Maker}
use Rattle.image_made.specs.Making.{IsMaker, Makes, MakesAll, MakesError, MakesWait}
use Rattle.image_made.specs.Stacks.{HasFrame, HasRoom, Pushes, Puts, begun, nils}

-- a prototype of a shape
prototype : (params stack : ℕ) → Prototype
prototype params stack = stripped params true stack [] [] [] none

fitted_whole : (vs : List Value) → fitted (length vs) vs ≡ vs
fitted_whole [] = refl
fitted_whole (v ∷ vs) = ap (λ l. v ∷ l) (fitted_whole vs)

taken_front : (vs ws : List Value) → take (length vs) (vs ++ ws) ≡ vs
taken_front [] ws = refl
taken_front (v ∷ vs) ws = ap (λ l. v ∷ l) (taken_front vs ws)

dropped_front : (vs ws : List Value) → drop (length vs) (vs ++ ws) ≡ ws
dropped_front [] ws = refl
dropped_front (v ∷ vs) ws = dropped_front vs ws

-- a frame that begins with so many parameters
pub entered_whole : (old new : KeptStack) (function : FuncId) (shape : Shape) (registers varargs arguments : List Kept) → Enters old new function shape arguments → arguments ≡ registers ++ varargs
    → shape ≡ record { params = length registers; vararg = true; stack = length registers } → Puts old new (begun function registers varargs)
unfolding prototype
entered_whole old new function shape registers varargs arguments enters e s = record {
  frames = λ f z.
      let size = length registers in
      let is : IsShapeOf (prototype size size) shape = record { params = ap (λ (s : Shape). s.params) (sym s); is_vararg = ap (λ (s : Shape). s.vararg) (sym s); size = ap (λ (s : Shape). s.stack) (sym s) } in
      enters.entered f z (prototype size size) is ∙ ap (λ x. frames f old ++ x ∷ []) (same f (map f arguments) (ap (map f) e ∙ map-append f registers varargs));
  cells = enters.cells;
}
  where
    own : (f : Kept → Value) → (n : ℕ) → n ≡ length (map f registers) → new_frame function.0 (prototype n n) (map f registers ++ map f varargs) ≡ lua (begun function registers varargs f)
    own f n k =
        ap (λ n. new_frame function.0 (prototype n n) (map f registers ++ map f varargs)) k
        ∙ ap (λ rs. lua (record (begun function registers varargs f) { own = record (begun function registers varargs f).own { registers = rs; varargs = drop (length (map f registers)) (map f registers ++ map f varargs) } }))
        (ap (fitted (length (map f registers))) (taken_front (map f registers) (map f varargs)) ∙ fitted_whole (map f registers))
        ∙ ap (λ vs. lua (record (begun function registers varargs f) { own = record (begun function registers varargs f).own { varargs = vs } })) (dropped_front (map f registers) (map f varargs))

    same : (f : Kept → Value) (arguments : List Value) → arguments ≡ map f registers ++ map f varargs → new_frame function.0 (prototype (length registers) (length registers)) arguments ≡ lua (begun function registers varargs f)
    same f arguments e = ap (new_frame function.0 (prototype (length registers) (length registers))) e ∙ own f (length registers) (sym (length-map registers f))

module _ (old s : KeptStack) (make : (Kept → Value) → LuaFrame) (put : Puts old s make) where
  pub put_top : HasLuaTop s
  put_top = record { value = nils; below = frames nils old; top = make nils; is = put.frames nils refl }

  pub put_room : (size : ℕ) → size ≤ length (make nils).own.registers → HasFrame s size
  put_room size room = record { below = frames nils old; top = make nils; is = put.frames nils refl; room = room }

  pub put_changed : (new : KeptStack) (change : (Kept → Value) → LuaFrame → LuaFrame) → TopBecomes s new change → Puts old new (λ f. change f (make f))
  put_changed new change becomes = record {
    frames = λ f z. becomes.top f z (frames f old) (make f) (put.frames f z);
    cells = becomes.cells ∙ put.cells;
  }

-- the frame that a record says

abbrev pub waiting_with : (pc : ℕ) (function : FuncId) (kept : KeptWait) (registers extra : List Kept) (marks : List ℕ) → (Kept → Value) → LuaFrame
waiting_with pc function kept registers extra marks f = with_pending marks (with_wait (wait_of f kept) (with_pc pc (begun function registers extra f)))

pub lua_pushed : (maker : Maker) (texts : List (List ℕ)) (item : LuaFrameItem) (old new : KeptStack) (function : FuncId) (v : Kept) (kept : KeptWait) (registers varargs extra : List Kept) (marks : List ℕ) (size : ℕ)
    → item.opened ≡ 0 → extra ≡ varargs → marks ≡ item.pending → Puts old new (λ f. with_pending marks (with_wait (wait_of f kept) (with_pc item.pc (begun function registers extra f))))
    → Makes maker texts item.function v → function.0 ≡ function_number (value texts v) → MakesWait maker texts item.wait kept → MakesAll maker texts item.registers registers
    → MakesAll maker texts item.varargs varargs → size ≡ length item.registers → Pushes maker texts (lua_item item) old new size
lua_pushed maker texts item old new function v kept registers varargs extra marks size closed beyond marked puts is_function number waits are extras count = record {
  frames = λ T rs m. puts.frames (value texts) refl ∙ ap (λ (t : LuaFrame). frames (value texts) old ++ lua t ∷ []) (same T rs m);
  cells = puts.cells;
  room = record {
    room = λ more.
        let registers_are = are.count in
        let kept_all = length-map registers nils in
        record { value = nils; below = frames nils old; top = waiting_with item.pc function kept registers extra marks nils; is = puts.frames nils refl; room = omega (arith, registers_are, kept_all, count) };
  };
  there =
      let all = length-map new.frames (frame_of nils) in
      let more = length-append (frames nils old) (lua (waiting_with item.pc function kept registers extra marks nils) ∷ []) in
      let same_length = ap length (puts.frames nils refl) in
      omega (arith, all, more, same_length);
}
  where
    same : (T : Target) (rs : List Record) → IsMaker T rs maker → waiting_with item.pc function kept registers extra marks (value texts) ≡ lua_frame_made T rs item
    same T rs m =
        ap (λ n. record (waiting_with item.pc function kept registers extra marks (value texts)) { function = n }) (number ∙ ap function_number (is_function.is T rs m))
        ∙ ap (λ w. record (waiting_with item.pc function kept registers extra marks (value texts)) { function = function_number (value_made T rs item.function); wait = w }) (waits.is T rs m)
        ∙ ap (λ vs. record (lua_frame_made T rs item) { own = record (waiting_with item.pc function kept registers extra marks (value texts)).own { registers = vs } }) (are.is T rs m)
        ∙ ap (λ ps. record (lua_frame_made T rs item) { own = record (lua_frame_made T rs item).own { varargs = map (value texts) extra; pending = ps; opened = 0 } }) marked
        ∙ ap (λ vs. record (lua_frame_made T rs item) { own = record (lua_frame_made T rs item).own { varargs = vs; opened = 0 } }) (ap (map (value texts)) beyond ∙ extras.is T rs m)
        ∙ ap (λ n. record (lua_frame_made T rs item) { own = record (lua_frame_made T rs item).own { opened = n } }) (sym closed)

pub plain_pushed : (maker : Maker) (texts : List (List ℕ)) (item : FrameItem) (frame : KeptFrame) (old new : KeptStack) → new.frames ≡ old.frames ++ frame ∷ [] → new.open_cells ≡ old.open_cells
    → ((T : Target) (rs : List Record) → IsMaker T rs maker → frame_of (value texts) frame ≡ frame_made T rs item) → Pushes maker texts item old new 0
plain_pushed maker texts item frame old new e cells is = record {
  frames = λ T rs m. ap (map (frame_of (value texts))) e ∙ map-append (frame_of (value texts)) old.frames (frame ∷ []) ∙ ap (λ x. frames (value texts) old ++ x ∷ []) (is T rs m);
  cells = cells;
  room = record { room = λ more. absurd (omega (arith, more)) };
  there =
      let more = length-append old.frames (frame ∷ []) in
      let same = ap length e in
      omega (arith, more, same);
}

module _ (maker : Maker) (texts : List (List ℕ)) (old new : KeptStack) (cells : new.open_cells ≡ old.open_cells) where
  pub pcall_pushed : new.frames ≡ old.frames ++ kept_pcall ∷ [] → Pushes maker texts pcall_item old new 0
  pcall_pushed e = plain_pushed maker texts pcall_item kept_pcall old new e cells (λ T rs m. refl)

  pub handler_pushed : new.frames ≡ old.frames ++ kept_handler ∷ [] → Pushes maker texts handler_item old new 0
  handler_pushed e = plain_pushed maker texts handler_item kept_handler old new e cells (λ T rs m. refl)

  pub xpcall_pushed : (item : Item) (v : Kept) → Makes maker texts item v → new.frames ≡ old.frames ++ kept_xpcall v ∷ [] → Pushes maker texts (xpcall_item item) old new 0
  xpcall_pushed item v made e = plain_pushed maker texts (xpcall_item item) (kept_xpcall v) old new e cells (λ T rs m. ap xpcall (made.is T rs m))

  error_is : (T : Target) (rs : List Record) (error : Option Item) (o : Option Kept) → option_map (value texts) o ≡ option_map (value_made T rs) error → error_of (value texts) o ≡ option_map (value_made T rs) error
  error_is T rs error None e = e
  error_is T rs error (Some v) e = e

  pub closing_pushed : (error : Option Item) (items : List Item) (o : Option Kept) (left : List Kept) → MakesError maker texts error o → MakesAll maker texts items left
      → new.frames ≡ old.frames ++ kept_closing o left ∷ [] → Pushes maker texts (closing_item error items) old new 0
  closing_pushed error items o left raised made e =
      plain_pushed maker texts (closing_item error items) (kept_closing o left) old new e cells
      (λ T rs m. ap (λ e. closing e (map (value texts) left)) (error_is T rs error o (raised.is T rs m)) ∙ ap (closing (option_map (value_made T rs) error)) (made.is T rs m))

-- registers that are marked

pub frame_registers : (s : KeptStack) (size register : ℕ) → HasFrame s size → register < size → HasRegisters s (register + 1)
frame_registers s size register h less = let room = h.room in record { value = nils; below = h.below; top = h.top; is = h.is; room = omega (arith, room, less) }

pub none_marked : (s : KeptStack) → TopBecomes s s (λ f t. with_pending (t.own.pending ++ []) t)
none_marked s = record {
  top = λ f z below t e. e ∙ ap (λ ps. below ++ lua (with_pending ps t) ∷ []) (sym (append-nil t.own.pending));
  cells = refl;
}

module _ (first old new : KeptStack) (pending : List ℕ) (at mark : ℕ) where
  pub one_marked : slice_get pending at ≡ Some mark → TopBecomes first old (λ f t. with_pending (t.own.pending ++ take at pending) t) → TopBecomes old new (λ f t. with_pending (t.own.pending ++ mark ∷ []) t)
      → TopBecomes first new (λ f t. with_pending (t.own.pending ++ take (at + 1) pending) t)
  one_marked there before marked = record {
    top = λ f z below t e.
        let on : at + 1 ≡ suc at = omega arith in
        marked.top f z below (with_pending (t.own.pending ++ take at pending) t) (before.top f z below t e)
        ∙ ap (λ ps. below ++ lua (with_pending ps t) ∷ [])
        (append_assoc t.own.pending (take at pending) (mark ∷ [])
        ∙ ap (λ ps. t.own.pending ++ ps) (sym (ap (λ n. take n pending) on ∙ take-suc pending at mark (slice_get_within pending at mark there) ∙ ap (λ x. take at pending ++ x ∷ []) (got pending at mark there))));
    cells = marked.cells ∙ before.cells;
  }

pub all_marked : (first new : KeptStack) (pending : List ℕ) (at : ℕ) → length pending ≤ at → TopBecomes first new (λ f t. with_pending (t.own.pending ++ take at pending) t)
    → TopBecomes first new (λ f t. with_pending (t.own.pending ++ pending) t)
all_marked first new pending at ended h = subst (λ ps. TopBecomes first new (λ f t. with_pending (t.own.pending ++ ps) t)) (take_all at pending ended) h

pub still_room : (old new : KeptStack) (size : ℕ) (more : List ℕ) → HasFrame old size → TopBecomes old new (λ f t. with_pending (t.own.pending ++ more) t) → HasFrame new size
still_room old new size more h marked = record {
  below = h.below;
  top = with_pending (h.top.own.pending ++ more) h.top;
  is = marked.top nils refl h.below h.top h.is;
  room = h.room;
}

-- registers of the frame on top

pub one_register : (s : KeptStack) (size register : ℕ) → HasRoom s size → register < size → HasRegisters s (register + 1)
one_register s size register h less =
    let all = h.room (omega (arith, less)) in
    let room = all.room in
    record { value = all.value; below = all.below; top = all.top; is = all.is; room = omega (arith, room, less) }

pub same_room : (old new : KeptStack) (size : ℕ) → new.frames ≡ old.frames → HasRoom old size → HasRoom new size
same_room old new size e h = record {
  room = λ more.
      let all = h.room more in
      record { value = all.value; below = all.below; top = all.top; is = ap (map (frame_of all.value)) e ∙ all.is; room = all.room };
}

-- the frames that were put on top, and one more

module _ (maker : Maker) (texts : List (List ℕ)) {K : Type 0} (view : K → FrameItem) (xs : List K) (i : ℕ) (x : K) where
  pub frames_more : (old new : KeptStack) (size : ℕ) → i < length xs → x ≡ get_or xs i x → Pushes maker texts (view x) old new size
      → ((T : Target) (rs : List Record) → IsMaker T rs maker → frames (value texts) old ≡ map (λ k. frame_made T rs (view k)) (take i xs))
      → (T : Target) (rs : List Record) → IsMaker T rs maker → frames (value texts) new ≡ map (λ k. frame_made T rs (view k)) (take (i + 1) xs)
  frames_more old new size within item pushes before T rs m =
      let on : i + 1 ≡ suc i = omega arith in
      let g : K → Frame = λ k. frame_made T rs (view k) in
      pushes.frames T rs m ∙ ap (λ fs. fs ++ g x ∷ []) (before T rs m)
      ∙ sym (ap (λ n. map g (take n xs)) on ∙ ap (map g) (take-suc xs i x within) ∙ map-append g (take i xs) (get_or xs i x ∷ []) ∙ ap (λ k. map g (take i xs) ++ g k ∷ []) (sym item))
