-- Frames of functions that are called, behind the frame that calls or in its place.
use Rattle.std.proofs.Common.{◌≡◌, ℕ, zero, suc, ◌+◌, ◌-◌, ◌<◌, ◌≤◌, List, [], ◌∷◌, ◌++◌, length, map, take, drop, refl, ap, sym, ◌∙◌, subst, arith, le_refl}
use Rattle.std.specs.Prelude.{nat_lt, Result, Ok, Err, OnErr}
use Rattle.std.proofs.lemmas.List.{length-map}
use Rattle.int_core.specs.Value.{Value, known, nil, nth, range}
use Rattle.machine_core.specs.World.{LuaFrame, Frame, lua, lua_frame}
use Rattle.machine_core.specs.Text.{blanked}
use Rattle.machine_core.specs.Moves.{new_frame}
use Rattle.list_laws.proofs.Items.{some_same}
use Rattle.table_core.specs.declared.value.Value.{Value as Kept}
use Rattle.table_core.specs.declared.value.Value.TheVariants.{Nil}
use Rattle.table_core.specs.declared.value.FuncId.{FuncId}
use Rattle.lua_stack.specs.declared.frame.Callee.{Callee}
use Rattle.lua_stack.specs.declared.frame.Layout.{Layout}
use Rattle.lua_stack.specs.declared.frame.Pause.{Pause}
use Rattle.lua_stack.specs.declared.frame.Shape.{Shape}
use Rattle.lua_stack.specs.declared.frame.Record.{Record}
use Rattle.lua_stack.specs.declared.frame.Wait.{Wait as KeptWait}
use Rattle.lua_stack.specs.declared.frame.Kind.TheVariants.{Lua}
use Rattle.lua_stack.specs.declared.stack.Stack.TheInside.{Inside}
use Rattle.lua_stack.specs.Frames.{KeptLua, KeptStack, kept_lua, HasLuaTop, HasRegisters, NoneFrom, Enters, Calls, CallsBehind, Replaces, frames, frame_of, lua_of, wait_of, with_wait, given_up}
use Rattle.lua_stack.specs.View.{part, blank, put_all, frame_at, lua_at, registers_at, tops, seen, AreOpen, AreStacked, AllUnder, IsStack, IsLaidOut, begun_at, record_behind, waiting_at}
use Rattle.lua_stack.specs.Handing.{IsHandedOver}
use Rattle.lua_stack.proofs.Parts.{drop_put_all, front_less, grown_front, length_blank, length_part, length_put_all, map_take, no_blank, part_kept, part_part, part_put_all, part_put_in, put_tail, take_put_all, take_take}
use Rattle.lua_stack.proofs.Stacked.{below_kept, stacked_longer, stacked_more, under_more, under_next}
use Rattle.lua_stack.proofs.Ends.{front_same, last_same, lua_frames, lua_on_top, map_more, shown, stands}
use Rattle.lua_stack.proofs.Own.{cut_is, length_whole, map_blank, place_in, room_in, whole}
use Rattle.lua_stack.proofs.OpenCells.{all_below_more, below_pushed, none_from, resized_open}
use Rattle.lua_stack.proofs.Pushed.{with_top}
use Rattle.lua_stack.proofs.LaidOut.{begun_frames, begun_stands, map_drop, window_from}

pub on_err : {A E : Type 0} (P : Type 0) (r : Result A E) → P → OnErr r P
on_err P (Ok x) h = tt
on_err P (Err e) h = h

-- the values behind the frame on top

module _ (a : Inside) (i : stands a) (place marks : ℕ) (p : place ≡ a.top.window.base + a.top.window.size) (m : marks ≡ a.top.window.marks + a.top.window.marked) (values : List Kept)
    (same : take place values ≡ take place a.values.items) (longer : length a.values.items ≤ length values) where
  both_with_top : AreStacked (length a.values.items) (length a.pending.items) (a.below.items ++ tops a.top) × AllUnder (record_behind a.top Lua).window (a.below.items ++ tops a.top)
  both_with_top = with_top (length a.values.items) (length a.pending.items) a.below.items a.top.running a.top.window i.stacked i.under i.within Lua a.top.kind i.none i.whole

  pub all_under : AllUnder (window_from place marks) (a.below.items ++ tops a.top)
  all_under = under_more (record_behind a.top Lua).window (window_from place marks) (a.below.items ++ tops a.top) both_with_top.1 (omega (arith, p)) (omega (arith, m))

  pub all_stacked : AreStacked (length values) (length a.pending.items) (a.below.items ++ tops a.top)
  all_stacked =
      stacked_longer (length a.values.items) (length a.pending.items) (length values) (length a.pending.items) (window_from place marks) (a.below.items ++ tops a.top) both_with_top.0 all_under longer
      (let e = i.within.marks_end in omega (arith, m, e))

  pub all_same : map (frame_at values a.pending.items) (a.below.items ++ tops a.top) ≡ map (frame_at a.values.items a.pending.items) (a.below.items ++ tops a.top)
  all_same = below_kept a.values.items values a.pending.items a.pending.items place marks same refl (window_from place marks) (a.below.items ++ tops a.top) all_under (le_refl _) (le_refl _)

  pub longer_stands : IsStack values a.pending.items a.below.items a.top
  longer_stands =
      let w = i.within in
      let e = w.end in
      let h = w.marks_end in
      record {
        stacked = stacked_longer (length a.values.items) (length a.pending.items) (length values) (length a.pending.items) a.top.window a.below.items i.stacked i.under longer (omega (arith, h));
        under = i.under;
        within = record { extra = w.extra; kept = w.kept; end = omega (arith, e, longer); marks_end = h };
        whole = i.whole;
        none = i.none;
      }

  pub longer_seen : (s : KeptStack) → shown a ≡ s → seen values a.pending.items a.below.items a.top a.open_cells.items ≡ s
  longer_seen s v = ap (λ (fs : List _). record { frames = fs; open_cells = a.open_cells.items }) all_same ∙ v

module _ (a : Inside) (i : stands a) (place marks : ℕ) (p : place ≡ a.top.window.base + a.top.window.size) (m : marks ≡ a.top.window.marks + a.top.window.marked) (grown : List Kept)
    (front : take (length a.values.items) grown ≡ a.values.items) (longer : length a.values.items ≤ length grown) where
  pub grown_same : take place grown ≡ take place a.values.items
  grown_same = grown_front a.values.items grown place front (let e = i.within.end in omega (arith, p, e))

  pub grown_stands : IsStack grown a.pending.items a.below.items a.top
  grown_stands = longer_stands a i place marks p m grown grown_same longer

  pub grown_seen : (s : KeptStack) → shown a ≡ s → seen grown a.pending.items a.below.items a.top a.open_cells.items ≡ s
  grown_seen s v = longer_seen a i place marks p m grown grown_same longer s v

  module _ (arguments values laid : List Kept) (below : List Record) (shape : Shape) (function : FuncId) (l : Layout) (top : Record) (w : values ≡ put_all place arguments grown)
      (room : place + length arguments ≤ length grown) (b : below ≡ a.below.items ++ tops a.top) (h : IsLaidOut place (length arguments) shape values laid l) (t : top ≡ begun_at function l shape.stack marks) where
    values_length : length values ≡ length grown
    values_length = ap length w ∙ length_put_all arguments grown place

    values_same : take place values ≡ take place a.values.items
    values_same = ap (take place) w ∙ take_put_all arguments grown place place (le_refl _) ∙ grown_same

    stacked : AreStacked (length values) (length a.pending.items) (a.below.items ++ tops a.top)
    stacked = all_stacked a i place marks p m values values_same (let n = values_length in omega (arith, n, longer))

    under : AllUnder (window_from place marks) (a.below.items ++ tops a.top)
    under = all_under a i place marks p m values values_same (let n = values_length in omega (arith, n, longer))

    marks_fit : marks ≤ length a.pending.items
    marks_fit = let e = i.within.marks_end in omega (arith, m, e)

    pub entered_stands : IsStack laid a.pending.items below top
    entered_stands =
        subst (λ top. IsStack laid a.pending.items below top) (sym t) (subst (λ below. IsStack laid a.pending.items below (begun_at function l shape.stack marks)) (sym b)
        (begun_stands values laid a.pending.items (a.below.items ++ tops a.top) place (length arguments) marks shape function l stacked under marks_fit h))

    pub enters : (s n : KeptStack) → shown a ≡ s → shape.params ≤ shape.stack → n ≡ seen laid a.pending.items below top a.open_cells.items → Enters s n function shape arguments
    enters s n v fits q = record {
      entered = λ f z P k.
          ap (λ (n : KeptStack). frames f n) q
          ∙ ap (λ top. map (frame_of f) (map (frame_at laid a.pending.items) (below ++ tops top))) t
          ∙ ap (λ below. map (frame_of f) (map (frame_at laid a.pending.items) (below ++ begun_at function l shape.stack marks ∷ []))) b
          ∙ begun_frames values laid a.pending.items (a.below.items ++ tops a.top) place (length arguments) marks shape function l stacked under marks_fit h f z P k fits
          ∙ ap (λ fs. map (frame_of f) fs ++ new_frame function.0 P (map f (part place (length arguments) values)) ∷ []) (all_same a i place marks p m values values_same (let n = values_length in omega (arith, n, longer)))
          ∙ ap (λ (s : KeptStack). frames f s ++ new_frame function.0 P (map f (part place (length arguments) values)) ∷ []) v
          ∙ ap (λ vs. frames f s ++ new_frame function.0 P (map f vs) ∷ []) (ap (part place (length arguments)) w ∙ part_put_all arguments grown place room);
      cells = ap (λ (n : KeptStack). n.open_cells) q ∙ ap (λ (s : KeptStack). s.open_cells) v;
    }

-- arguments that stand in the registers

nth_drop : (vs : List Value) (n : ℕ) → n < length vs → (v : Value) × (nth vs n ≡ v) × (drop n vs ≡ v ∷ drop (suc n) vs)
nth_drop [] n l = absurd (omega arith)
nth_drop (v ∷ vs) zero l = (v, refl, refl)
nth_drop (v ∷ vs) (suc n) l = nth_drop vs n (omega arith)

pub range_is : (from count : ℕ) (vs : List Value) → from + count ≤ length vs → range from count vs ≡ part from count vs
range_is from zero vs l = refl
range_is from (suc count) vs l =
    let x = nth_drop vs from (omega arith) in
    ap (λ v. v ∷ range (suc from) count vs) x.1 ∙ ap (λ l. x.0 ∷ l) (range_is (suc from) count vs (omega arith)) ∙ ap (take (suc count)) (sym x.2)

map_part : (f : Kept → Value) (b n : ℕ) (xs : List Kept) → map f (part b n xs) ≡ part b n (map f xs)
map_part f b n xs = map_take f n (drop b xs) ∙ ap (take n) (map_drop f b xs)

abbrev pub old_registers : Inside → List Kept
old_registers a = registers_at a.values.items a.top.window

abbrev pub old_lua : Inside → KeptLua
old_lua a = lua_at a.values.items a.pending.items a.top.running a.top.window

same_lua : (t u : LuaFrame) → lua t ≡ lua u → t ≡ u
same_lua t u e = some_same t u (ap lua_frame e)

-- the frames below, and the Lua frame on top, are those that are there
only_lua : (a : Inside) (s : KeptStack) → shown a ≡ s → stands a → HasLuaTop s → (f : Kept → Value) (fs : List Frame) (u : LuaFrame) → frames f s ≡ fs ++ lua u ∷ []
    → (map (frame_of f) (map (frame_at a.values.items a.pending.items) a.below.items) ≡ fs) × (lua_of f (old_lua a) ≡ u)
only_lua a s v i g f fs u e =
    let is : a.top.kind ≡ Lua = lua_on_top a s v i g in
    let both : map (frame_of f) (map (frame_at a.values.items a.pending.items) a.below.items) ++ lua (lua_of f (old_lua a)) ∷ [] ≡ fs ++ lua u ∷ [] =
    sym (ap (λ (s : KeptStack). frames f s) (sym v) ∙ ap (map (frame_of f)) (lua_frames a.values.items a.pending.items a.below.items a.top is)
    ∙ map_more (frame_of f) (map (frame_at a.values.items a.pending.items) a.below.items) (kept_lua (old_lua a) ∷ [])) ∙ e in
    (front_same _ _ _ _ both, same_lua _ _ (last_same _ _ _ _ both))

pub old_length : (a : Inside) → stands a → (f : Kept → Value) → length (map f (old_registers a)) ≡ a.top.window.kept
old_length a i f = length-map (old_registers a) f ∙ length_whole a.values.items a.top.window i.whole i.within.end

in_values : (a : Inside) → stands a → a.top.window.base + a.top.window.kept ≤ length a.values.items
in_values a i = let k = i.whole in let e = i.within.end in omega (arith, k, e)

pub arguments_are : (a : Inside) → stands a → (grown : List Kept) → take (length a.values.items) grown ≡ a.values.items → (register given from : ℕ) → register + 1 + given ≤ a.top.window.kept → from ≡ a.top.window.base + register + 1
    → (f : Kept → Value) → map f (part from given grown) ≡ range (suc register) given (map f (old_registers a))
arguments_are a i grown front register given from l e f =
    let v = in_values a i in
    let n = old_length a i f in
    let p : from ≡ a.top.window.base + suc register = omega (arith, e) in
    ap (map f) (part_kept from given (from + given) a.values.items grown (le_refl _) (grown_front a.values.items grown (from + given) front (omega (arith, e, l, v)))
    ∙ ap (λ b. part b given a.values.items) p ∙ sym (part_part a.top.window.base (suc register) given a.top.window.kept a.values.items (omega (arith, l)))
    ∙ ap (part (suc register) given) (sym (whole a.values.items a.top.window i.whole)))
    ∙ map_part f (suc register) given (old_registers a) ∙ sym (range_is (suc register) given (map f (old_registers a)) (omega (arith, n, l)))

-- the register of the called function, and its arguments, stand within the values

module _ (a : Inside) (i : stands a) (s : KeptStack) (v : shown a ≡ s) (register given : ℕ) (there : HasRegisters s (register + 1 + given)) where
  pub register_room : (len : ℕ) → len ≡ length a.values.items → a.top.window.base + register ≤ len
  register_room len n = let k = place_in a s (register + 1 + given) v i there in omega (arith, k, n)

  pub next_room : (len from : ℕ) → len ≡ length a.values.items → from ≡ a.top.window.base + register → from + 1 ≤ len
  next_room len from n e = let k = place_in a s (register + 1 + given) v i there in omega (arith, k, n, e)

  pub given_room : (len from : ℕ) → length a.values.items ≤ len → from ≡ a.top.window.base + register → from + 1 + given ≤ len
  given_room len from n e = let k = place_in a s (register + 1 + given) v i there in omega (arith, k, n, e)

-- what the values have to be when the frames are handed over: the caller's arguments and the registers that it keeps stand, and the callee's arguments
pub record IsReady (a : Inside) (first : ℕ) (pause : Pause) (callee : Callee) (values : List Kept) : Type 0 where
  pub within : pause.kept ≤ pause.size
  pub there : pause.size ≤ a.top.window.kept
  pub behind : a.top.window.base + pause.kept ≤ callee.place
  pub longer : length a.values.items ≤ length values
  pub extra : take a.top.window.base values ≡ take a.top.window.base a.values.items
  pub registers : (f : Kept → Value) → f Nil ≡ known nil → map f (part a.top.window.base pause.kept values ++ blank (pause.size - pause.kept)) ≡ blanked (λ j. nat_lt j pause.keeps) 0 pause.size (map f (old_registers a))
  pub arguments : (f : Kept → Value) → map f (part callee.place callee.given values) ≡ range (suc first) callee.given (map f (old_registers a))

module _ (a : Inside) (i : stands a) (first : ℕ) (pause : Pause) (callee : Callee) (values laid : List Kept) (pending : List ℕ) (reserved below : List Record) (top : Record) (y : IsReady a first pause callee values)
    (b : reserved ≡ a.below.items) (h : IsHandedOver pause callee a.top values a.pending.items reserved laid pending below top) where
  abbrev caller : Record
  caller = waiting_at a.top pause.wait pause.kept pause.size h.marked

  abbrev caller_with : (Kept → Value) → List Value → List Kept → List ℕ → Frame
  caller_with f registers varargs marks = lua (record {
    function = a.top.running.function.0;
    wait = wait_of f pause.wait;
    own = record { pc = a.top.running.pc; registers = registers; varargs = map f varargs; pending = marks; opened = 0 };
  })

  waits : below ≡ a.below.items ++ caller ∷ []
  waits = h.waits ∙ ap (λ rs. rs ++ caller ∷ []) b

  abbrev marks_from : ℕ
  marks_from = a.top.window.marks + h.marked

  caller_is : (f : Kept → Value) → f Nil ≡ known nil → frame_of f (frame_at values pending caller) ≡ lua (with_wait (wait_of f pause.wait) (given_up pause.keeps pause.size (lua_of f (old_lua a))))
  caller_is f z =
      let E = part a.top.window.start (a.top.window.base - a.top.window.start) in
      let x = i.within.extra in
      ap (λ l. caller_with f l (E values) (part a.top.window.marks h.marked pending)) (y.registers f z)
      ∙ ap (λ l. caller_with f (blanked (λ j. nat_lt j pause.keeps) 0 pause.size (map f (old_registers a))) l (part a.top.window.marks h.marked pending))
      (part_kept a.top.window.start (a.top.window.base - a.top.window.start) a.top.window.base a.values.items values (omega (arith, x)) y.extra)
      ∙ ap (λ l. caller_with f (blanked (λ j. nat_lt j pause.keeps) 0 pause.size (map f (old_registers a))) (E a.values.items) l) h.marks

  below_same : map (frame_at values pending) a.below.items ≡ map (frame_at a.values.items a.pending.items) a.below.items
  below_same =
      let x = i.within.extra in
      below_kept a.values.items values a.pending.items pending a.top.window.start a.top.window.marks (front_less a.top.window.start a.top.window.base a.values.items values x y.extra) h.front
      a.top.window a.below.items i.under (le_refl _) (le_refl _)

  caller_under : AllUnder caller.window a.below.items
  caller_under = under_more a.top.window caller.window a.below.items i.under (le_refl _) (le_refl _)

  calls_under : AllUnder (window_from callee.place marks_from) (a.below.items ++ caller ∷ [])
  calls_under =
      let x = i.within.extra in
      let p = y.behind in
      under_next (window_from callee.place marks_from) a.below.items caller caller_under (record { extra = x; values = p; marks = le_refl _ }) (omega (arith, x, p)) (omega arith)

  calls_stacked : AreStacked (length values) (length pending) (a.below.items ++ caller ∷ [])
  calls_stacked =
      let w = i.within in
      let x = w.extra in
      let e = w.end in
      let m = w.marks_end in
      let n = i.whole in
      let longer = y.longer in
      let r = y.there in
      let fewer = h.fewer in
      let as_many = h.as_many in
      stacked_more (length values) (length pending) a.below.items caller
      (stacked_longer (length a.values.items) (length a.pending.items) (length values) (length pending) a.top.window a.below.items i.stacked i.under longer (omega (arith, m, as_many)))
      tt (record { extra = x; kept = y.within; end = omega (arith, e, longer, r, n); marks_end = omega (arith, m, as_many, fewer) }) caller_under

  marks_room : marks_from ≤ length pending
  marks_room =
      let m = i.within.marks_end in
      let fewer = h.fewer in
      let as_many = h.as_many in
      omega (arith, m, fewer, as_many)

  calls_stands : IsStack laid pending below top
  calls_stands =
      subst (λ top. IsStack laid pending below top) (sym h.begins) (subst (λ below. IsStack laid pending below (begun_at callee.function h.layout callee.shape.stack marks_from)) (sym waits)
      (begun_stands values laid pending (a.below.items ++ caller ∷ []) callee.place callee.given marks_from callee.shape callee.function h.layout calls_stacked calls_under marks_room h.laid))

  -- the caller's cells stand at registers that it keeps
  calls_open : (s : KeptStack) → shown a ≡ s → HasLuaTop s → AreOpen a.below.items a.top.kind a.top.window a.open_cells.items → NoneFrom s pause.kept → AreOpen below top.kind top.window a.open_cells.items
  calls_open s v g o c =
      let is : a.top.kind ≡ Lua = lua_on_top a s v i g in
      subst (λ below. AreOpen below top.kind top.window a.open_cells.items) (sym waits)
      (below_pushed a.below.items caller.running Lua caller.window top.kind top.window a.open_cells.items
      (resized_open a.below.items a.top.window caller.window a.open_cells.items (subst (λ k. AreOpen a.below.items k a.top.window a.open_cells.items) is o) (none_from a s pause.kept v i c)))

  pub handed_over : (s : KeptStack) → shown a ≡ s → HasLuaTop s → AreOpen a.below.items a.top.kind a.top.window a.open_cells.items → NoneFrom s pause.kept
      → IsStack laid pending below top × AreOpen below top.kind top.window a.open_cells.items
  handed_over s v g o c = (calls_stands, calls_open s v g o c)

  pub calls_behind : (s n : KeptStack) → shown a ≡ s → HasLuaTop s → callee.shape.params ≤ callee.shape.stack → n ≡ seen laid pending below top a.open_cells.items
      → CallsBehind s n first callee.given pause.keeps pause.wait pause.size callee.function callee.shape
  calls_behind s n v g fits q = record {
    called = λ f z P H fs u e.
        let B = map (frame_of f) (map (frame_at a.values.items a.pending.items) a.below.items) in
        let both = only_lua a s v i g f fs u e in
        let W = with_wait (wait_of f pause.wait) (given_up pause.keeps pause.size (lua_of f (old_lua a))) in
        let N = new_frame callee.function.0 P (range (suc first) callee.given (map f (old_registers a))) in
        ap (λ (n : KeptStack). frames f n) q
        ∙ ap (λ top. map (frame_of f) (map (frame_at laid pending) (below ++ tops top))) h.begins
        ∙ ap (λ below. map (frame_of f) (map (frame_at laid pending) (below ++ begun_at callee.function h.layout callee.shape.stack marks_from ∷ []))) waits
        ∙ begun_frames values laid pending (a.below.items ++ caller ∷ []) callee.place callee.given marks_from callee.shape callee.function h.layout calls_stacked calls_under marks_room h.laid f z P H fits
        ∙ ap (λ vs. map (frame_of f) (map (frame_at values pending) (a.below.items ++ caller ∷ [])) ++ new_frame callee.function.0 P vs ∷ []) (y.arguments f)
        ∙ ap (λ fs. fs ++ N ∷ []) (ap (map (frame_of f)) (map_more (frame_at values pending) a.below.items (caller ∷ []) ∙ ap (λ fs. fs ++ frame_at values pending caller ∷ []) below_same)
        ∙ map_more (frame_of f) (map (frame_at a.values.items a.pending.items) a.below.items) (frame_at values pending caller ∷ []) ∙ ap (λ g. B ++ g ∷ []) (caller_is f z))
        ∙ Rattle.std.proofs.Common.append_assoc B (lua W ∷ []) (N ∷ [])
        ∙ ap (λ l. l ++ lua W ∷ N ∷ []) both.0
        ∙ ap (λ (t : LuaFrame). fs ++ lua (with_wait (wait_of f pause.wait) (given_up pause.keeps pause.size t)) ∷ new_frame callee.function.0 P (range (suc first) callee.given t.own.registers) ∷ []) both.1;
    cells = ap (λ (n : KeptStack). n.open_cells) q ∙ ap (λ (s : KeptStack). s.open_cells) v;
  }

  -- where the caller keeps the registers in front of the called function
  pub calls : first ≡ pause.keeps → (s n : KeptStack) → shown a ≡ s → HasLuaTop s → callee.shape.params ≤ callee.shape.stack → n ≡ seen laid pending below top a.open_cells.items
      → Calls s n first callee.given pause.wait pause.size callee.function callee.shape
  calls k s n v g fits q =
      let x : CallsBehind s n first callee.given first pause.wait pause.size callee.function callee.shape =
      subst (λ keeps. CallsBehind s n first callee.given keeps pause.wait pause.size callee.function callee.shape) (sym k) (calls_behind s n v g fits q) in
      record { called = x.called; cells = x.cells }

-- what the caller keeps, where the callee's registers follow

pub kept_registers : (a : Inside) → stands a → (grown : List Kept) → take (length a.values.items) grown ≡ a.values.items → (register stack : ℕ) → register ≤ stack → stack ≤ a.top.window.kept
    → (f : Kept → Value) → f Nil ≡ known nil → map f (part a.top.window.base register grown ++ blank (stack - register)) ≡ blanked (λ j. nat_lt j register) 0 stack (map f (old_registers a))
kept_registers a i grown front register stack w r f z =
    let v = in_values a i in
    let n = old_length a i f in
    map_more f (part a.top.window.base register grown) (blank (stack - register))
    ∙ ap (λ l. l ++ map f (blank (stack - register)))
    (ap (map f) (part_kept a.top.window.base register (a.top.window.base + register) a.values.items grown (le_refl _) (grown_front a.values.items grown (a.top.window.base + register) front (omega (arith, v, w, r)))
    ∙ sym (ap (take register) (whole a.values.items a.top.window i.whole) ∙ take_take (drop a.top.window.base a.values.items) register a.top.window.kept (omega (arith, w, r))))
    ∙ map_take f register (old_registers a))
    ∙ ap (λ l. take register (map f (old_registers a)) ++ l) (map_blank f (stack - register) z)
    ∙ sym (cut_is register stack (map f (old_registers a)) (omega (arith, n, r)) w)

pub grown_extra : (a : Inside) → stands a → (grown : List Kept) → take (length a.values.items) grown ≡ a.values.items → take a.top.window.base grown ≡ take a.top.window.base a.values.items
grown_extra a i grown front = grown_front a.values.items grown a.top.window.base front (let e = i.within.end in omega (arith, e))

pub ready_in_place : (a : Inside) (i : stands a) (s : KeptStack) → shown a ≡ s → (grown : List Kept) → take (length a.values.items) grown ≡ a.values.items → length a.values.items ≤ length grown → (register given stack place : ℕ) → register ≤ stack
    → HasRegisters s (register + 1 + given) → HasRegisters s stack → place ≡ a.top.window.base + register + 1 → (wait : KeptWait) (function : FuncId) (shape : Shape)
    → IsReady a register (record { wait = wait; keeps = register; kept = register; size = stack }) (record { function = function; shape = shape; place = place; given = given }) grown
ready_in_place a i s v grown front longer register given stack place w there size e wait function shape =
    let l = room_in a s (register + 1 + given) v i there in
    let r = room_in a s stack v i size in
    record {
      within = w;
      there = r;
      behind = omega (arith, e);
      longer = longer;
      extra = grown_extra a i grown front;
      registers = kept_registers a i grown front register stack w r;
      arguments = arguments_are a i grown front register given place l e;
    }

-- where the arguments are copied to a place behind the registers that the caller keeps

module _ (a : Inside) (i : stands a) (s : KeptStack) (v : shown a ≡ s) (grown copied : List Kept) (front : take (length a.values.items) grown ≡ a.values.items) (longer : length a.values.items ≤ length grown) (register given keeps stack from place : ℕ)
    (w : keeps ≤ stack) (there : HasRegisters s (register + 1 + given)) (size : HasRegisters s stack) (e : from ≡ a.top.window.base + register) (p : a.top.window.base + keeps ≤ place)
    (room : place + given ≤ length grown) (c : copied ≡ put_all place (part (from + 1) given grown) grown) where
  sent_there : register + 1 + given ≤ a.top.window.kept
  sent_there = room_in a s (register + 1 + given) v i there

  sent_size : stack ≤ a.top.window.kept
  sent_size = room_in a s stack v i size

  sent_count : length (part (from + 1) given grown) ≡ given
  sent_count =
      let n = in_values a i in
      let l = sent_there in
      length_part (from + 1) given grown (omega (arith, e, l, n, longer))

  pub sent_length : length copied ≡ length grown
  sent_length = ap length c ∙ length_put_all (part (from + 1) given grown) grown place

  sent_front : (n : ℕ) → n ≤ place → take n copied ≡ take n grown
  sent_front n l = ap (take n) c ∙ take_put_all (part (from + 1) given grown) grown n place l

  sent_registers : (f : Kept → Value) → f Nil ≡ known nil → map f (part a.top.window.base keeps copied ++ blank (stack - keeps)) ≡ blanked (λ j. nat_lt j keeps) 0 stack (map f (old_registers a))
  sent_registers f z =
      ap (λ l. map f (l ++ blank (stack - keeps))) (part_kept a.top.window.base keeps (a.top.window.base + keeps) grown copied (le_refl _) (sent_front (a.top.window.base + keeps) p))
      ∙ kept_registers a i grown front keeps stack w sent_size f z

  sent_arguments : part place given copied ≡ part (from + 1) given grown
  sent_arguments =
      let n = sent_count in
      ap (part place given) c ∙ ap (λ n. part place n (put_all place (part (from + 1) given grown) grown)) (sym n)
      ∙ part_put_all (part (from + 1) given grown) grown place (omega (arith, n, room))

  pub ready_behind : (wait : KeptWait) (function : FuncId) (shape : Shape)
      → IsReady a register (record { wait = wait; keeps = keeps; kept = keeps; size = stack }) (record { function = function; shape = shape; place = place; given = given }) copied
  ready_behind wait function shape =
      let n = sent_length in
      record {
        within = w;
        there = sent_size;
        behind = p;
        longer = omega (arith, n, longer);
        extra = sent_front a.top.window.base (omega (arith, p)) ∙ grown_extra a i grown front;
        registers = sent_registers;
        arguments = λ f. ap (map f) sent_arguments ∙ arguments_are a i grown front register given (from + 1) sent_there (omega (arith, e)) f;
      }

  -- and the registers that it gives up are cleared, where it keeps them all
  module _ (cleared : List Kept) (within : register ≤ keeps) (all : keeps ≡ stack) (apart : a.top.window.base + a.top.window.kept ≤ place) (q : cleared ≡ put_all from (blank (stack - register)) copied) where
    pub cleared_length : length cleared ≡ length grown
    cleared_length = ap length q ∙ length_put_all (blank (stack - register)) copied from ∙ sent_length

    cleared_registers : (f : Kept → Value) → f Nil ≡ known nil → map f (part a.top.window.base stack cleared ++ blank (stack - stack)) ≡ blanked (λ j. nat_lt j register) 0 stack (map f (old_registers a))
    cleared_registers f z =
        let m = in_values a i in
        let n = sent_length in
        let r = sent_size in
        let b = length_blank (stack - register) in
        let k = length_part a.top.window.base stack copied (omega (arith, m, r, n, longer)) in
        ap (map f) (no_blank stack stack (part a.top.window.base stack cleared) refl ∙ ap (part a.top.window.base stack) q
        ∙ part_put_in (blank (stack - register)) copied a.top.window.base stack register from e (omega (arith, b, within, all))
        ∙ put_tail (blank (stack - register)) (part a.top.window.base stack copied) register (omega (arith, b, k, within, all))
        ∙ ap (λ l. l ++ blank (stack - register)) (take_take (drop a.top.window.base copied) register stack (omega (arith, within, all))
        ∙ part_kept a.top.window.base register (a.top.window.base + register) grown copied (le_refl _) (sent_front (a.top.window.base + register) (omega (arith, p, within)))))
        ∙ kept_registers a i grown front register stack (omega (arith, within, all)) r f z

    pub ready_apart : (wait : KeptWait) (function : FuncId) (shape : Shape)
        → IsReady a register (record { wait = wait; keeps = register; kept = stack; size = stack }) (record { function = function; shape = shape; place = place; given = given }) cleared
    ready_apart wait function shape =
        let n = cleared_length in
        let r = sent_size in
        let b = length_blank (stack - register) in
        record {
          within = le_refl _;
          there = r;
          behind = omega (arith, r, apart);
          longer = omega (arith, n, longer);
          extra = ap (take a.top.window.base) q ∙ take_put_all (blank (stack - register)) copied a.top.window.base from (omega (arith, e)) ∙ sent_front a.top.window.base (omega (arith, p)) ∙ grown_extra a i grown front;
          registers = cleared_registers;
          arguments = λ f.
              ap (map f) (ap (part place given) q ∙ ap (take given) (drop_put_all (blank (stack - register)) copied place from (omega (arith, b, e, within, all, r, apart))) ∙ sent_arguments)
              ∙ arguments_are a i grown front register given (from + 1) sent_there (omega (arith, e)) f;
        }

-- in the place of the frame on top, over the arguments that were moved to where its values begin

module _ (a : Inside) (i : stands a) (grown moved laid : List Kept) (front : take (length a.values.items) grown ≡ a.values.items) (longer : length a.values.items ≤ length grown) (register given from : ℕ) (shape : Shape) (function : FuncId)
    (layout : Layout) (top : Record) (e : from ≡ a.top.window.base + register + 1) (l : register + 1 + given ≤ a.top.window.kept) (room : a.top.window.start + given ≤ length grown)
    (q : moved ≡ put_all a.top.window.start (part from given grown) grown) (h : IsLaidOut a.top.window.start given shape moved laid layout) (t : top ≡ begun_at function layout shape.stack a.top.window.marks) where
  moved_count : length (part from given grown) ≡ given
  moved_count = let v = in_values a i in length_part from given grown (omega (arith, e, l, v, longer))

  moved_length : length moved ≡ length grown
  moved_length = ap length q ∙ length_put_all (part from given grown) grown a.top.window.start

  moved_same : take a.top.window.start moved ≡ take a.top.window.start a.values.items
  moved_same =
      let x = i.within.extra in
      let z = i.within.end in
      ap (take a.top.window.start) q ∙ take_put_all (part from given grown) grown a.top.window.start a.top.window.start (le_refl _) ∙ grown_front a.values.items grown a.top.window.start front (omega (arith, x, z))

  under_moved : AllUnder (window_from a.top.window.start a.top.window.marks) a.below.items
  under_moved = under_more a.top.window (window_from a.top.window.start a.top.window.marks) a.below.items i.under (le_refl _) (le_refl _)

  moved_stacked : AreStacked (length moved) (length a.pending.items) a.below.items
  moved_stacked =
      let n = moved_length in
      let m = i.within.marks_end in
      stacked_longer (length a.values.items) (length a.pending.items) (length moved) (length a.pending.items) a.top.window a.below.items i.stacked i.under (omega (arith, n, longer)) (omega (arith, m))

  marks_there : a.top.window.marks ≤ length a.pending.items
  marks_there = let m = i.within.marks_end in omega (arith, m)

  pub replaced_stands : IsStack laid a.pending.items a.below.items top
  replaced_stands =
      subst (λ top. IsStack laid a.pending.items a.below.items top) (sym t)
      (begun_stands moved laid a.pending.items a.below.items a.top.window.start given a.top.window.marks shape function layout moved_stacked under_moved marks_there h)

  pub replaces : (s n : KeptStack) → shown a ≡ s → HasLuaTop s → shape.params ≤ shape.stack → n ≡ seen laid a.pending.items a.below.items top a.open_cells.items → Replaces s n register given function shape
  replaces s n v g fits k = record {
    replaced = λ f z P H fs u w.
        let B = map (frame_of f) (map (frame_at a.values.items a.pending.items) a.below.items) in
        let both = only_lua a s v i g f fs u w in
        let c = moved_count in
        ap (λ (n : KeptStack). frames f n) k
        ∙ ap (λ top. map (frame_of f) (map (frame_at laid a.pending.items) (a.below.items ++ tops top))) t
        ∙ begun_frames moved laid a.pending.items a.below.items a.top.window.start given a.top.window.marks shape function layout moved_stacked under_moved marks_there h f z P H fits
        ∙ ap (λ l. map (frame_of f) l ++ new_frame function.0 P (map f (part a.top.window.start given moved)) ∷ [])
        (below_kept a.values.items moved a.pending.items a.pending.items a.top.window.start a.top.window.marks moved_same refl a.top.window a.below.items i.under (le_refl _) (le_refl _))
        ∙ ap (λ vs. B ++ new_frame function.0 P (map f vs) ∷ [])
        (ap (part a.top.window.start given) q ∙ ap (λ n. part a.top.window.start n (put_all a.top.window.start (part from given grown) grown)) (sym c)
        ∙ part_put_all (part from given grown) grown a.top.window.start (omega (arith, c, room)))
        ∙ ap (λ vs. B ++ new_frame function.0 P vs ∷ []) (arguments_are a i grown front register given from l e f)
        ∙ ap (λ l. l ++ new_frame function.0 P (range (suc register) given (map f (old_registers a))) ∷ []) both.0
        ∙ ap (λ (t : LuaFrame). fs ++ new_frame function.0 P (range (suc register) given t.own.registers) ∷ []) both.1;
    cells = ap (λ (n : KeptStack). n.open_cells) k ∙ ap (λ (s : KeptStack). s.open_cells) v;
  }

-- its cells are closed
pub replaced_open : (a : Inside) (s : KeptStack) (function : FuncId) (layout : Layout) (stack marks : ℕ) (top : Record) → shown a ≡ s → stands a → HasLuaTop s → AreOpen a.below.items a.top.kind a.top.window a.open_cells.items
    → NoneFrom s 0 → top ≡ begun_at function layout stack marks → AreOpen a.below.items top.kind top.window a.open_cells.items
replaced_open a s function layout stack marks top v i h o c t =
    let is : a.top.kind ≡ Lua = lua_on_top a s v i h in
    let b = begun_at function layout stack marks in
    subst (λ (top : Record). AreOpen a.below.items top.kind top.window a.open_cells.items) (sym t)
    (resized_open a.below.items a.top.window b.window a.open_cells.items (subst (λ k. AreOpen a.below.items k a.top.window a.open_cells.items) is o)
    (all_below_more (length a.below.items) 0 stack a.open_cells.items (omega arith) (none_from a s 0 v i c)))
