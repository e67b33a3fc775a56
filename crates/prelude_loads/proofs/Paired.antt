-- Of two worlds whose objects are paired: where the environment of the prelude is out of reach in the one, it is in the other.
use Rattle.std.proofs.Common.{ℕ, ◌≡◌, ◌≢◌, ◌≤◌, ◌⊎◌, ⊎_elim, List, Option, Some, None, subst, sym, ap, ◌∙◌, length, false}
use Rattle.std.specs.Prelude.{slice_get}
use Rattle.int_core.specs.Value.{nil, a_table, a_function, a_coroutine, Value, known, object, nth, bind}
use Rattle.int_core.specs.Heap.{Table}
use Rattle.machine_core.specs.World.{Function, Cell, closed, Wait, LuaFrame, Frame, lua, Coroutine, World, frames_of, lua_frame, register_at}
use Rattle.machine_alike.specs.Agree.{Pairs, SameNumber, SameCellNumber, Each as EachOf, SameValue, same_object, SameValues, SameRow, SameTable, SameFunction, SameWait, same_leaving, SameLuaFrame, SameFrame, same_lua, same_pcall, same_xpcall, same_handler, same_closing, SameFrames, SameCoroutine, same_fresh, same_suspended, same_in_progress, same_normal, same_dead, same_failed, IsFirst, IsSecond, Loose, kept_closed, kept_apart, SameCell, same_place, same_content, objects_of, SameObjects, roots_of, SameRoots}
use Rattle.machine_alike.proofs.Pairwise.{each_bind, both_each, zip_get, bind_some}
use Rattle.machine_alike.proofs.Same.{nth_same, frames_same, lua_frame_same}
use Rattle.machine_sound.specs.Sound.{Each}
use Rattle.machine_sound.proofs.Lists.{some_is}
use Rattle.prelude_stays.specs.Guards.{Guard, IsGuarded}
use Rattle.prelude_stays.specs.Kept.{Home, Apart, RowOk, MetaOk, TableOk, WaitOk, LuaOk, FrameOk, CoroutineOk, function_at, OpenOk, CellOk, IsApart, FunctionOk, Keeps}
use Rattle.prelude_stays.proofs.Cells.{in_frames}
use Rattle.prelude_stays.proofs.Coroutines.{frames_held}
use Rattle.prelude_loads.proofs.Lists.{each_so, option_so, zip_back, both_at, both_back, each_at}
use Rattle.machine_sound.proofs.Writes.{lua_is}

-- what a register holds of a frame whose function does not hold the environment there
module _ (e : ℕ) (gs : List Guard) (cos : List Coroutine) (ok : Each (CoroutineOk e gs) cos) where
  register_apart : (co frame register : ℕ) (v : Value) → register_at cos co frame register ≡ Some v → OpenOk gs cos co frame register → Apart e v
  register_apart co frame register v at h =
      let a = bind_some (bind (slice_get cos co) frames_of) (λ (frames : List Frame). bind (bind (slice_get frames frame) lua_frame) (λ (f : LuaFrame). slice_get f.own.registers register)) v at in
      let b = bind_some (bind (slice_get a.0 frame) lua_frame) (λ (f : LuaFrame). slice_get f.own.registers register) v a.2 in
      let c = bind_some (slice_get cos co) frames_of a.0 a.1 in
      let d = bind_some (slice_get a.0 frame) lua_frame b.0 b.1 in
      let l : LuaOk e gs b.0 = frames_held e gs c.0 a.0 c.2 (ok co c.0 c.1) frame (lua b.0) (d.1 ∙ ap Some (lua_is d.0 b.0 d.2)) in
      let is : function_at cos co frame ≡ Some b.0.function = ap (λ (o : Option (List Frame)). in_frames o frame) a.1 ∙ ap (λ (o : Option LuaFrame). bind o (λ (f : LuaFrame). Some f.function)) b.1 in
      let same : b.0.function ≡ h.function = some_is is h.stands in
      let guards : h.guard ≡ l.guard = some_is h.there (ap (slice_get gs) (sym same) ∙ l.there) in
      let apart : Apart e (nth b.0.own.registers register) = l.registers register (ap (λ (g : Guard). g.registers register) (sym guards) ∙ h.apart) in
      subst (Apart e) (ap (λ (o : Option Value). elim o as (λ _. Value) [ None ↦ known nil | Some v ↦ v ]) b.2) apart

module _ (p : Pairs) (W X : World) (same : SameObjects p (objects_of W) (objects_of X)) (y : Home) (env : SameNumber p a_table y.table y.table) where
  table_apart : (n m : ℕ) → SameNumber p a_table n m → n ≢ y.table → m ≢ y.table
  table_apart n m s h q = h (same.one_to_one.objects a_table n y.table y.table (subst (λ j. SameNumber p a_table n j) q s) env)

  apart_so : (v w : Value) → SameValue p v w → Apart y.table v → Apart y.table w
  apart_so v w (same_object a_table i j s) h = table_apart i j s h
  apart_so v w _ h = tt

  values_so : (vs ws : List Value) → SameValues p vs ws → Each (Apart y.table) vs → Each (Apart y.table) ws
  values_so = each_so (SameValue p) (Apart y.table) (Apart y.table) apart_so

  meta_so : (m n : Option ℕ) → EachOf (SameNumber p a_table) m n → MetaOk y.table m → MetaOk y.table n
  meta_so = option_so (SameNumber p a_table) (λ n. n ≢ y.table) (λ n. n ≢ y.table) table_apart

  table_so : (t u : Table) → SameTable p t u → TableOk y.table t → TableOk y.table u
  table_so t u s h = record {
    rows = each_so (SameRow p) (RowOk y.table) (RowOk y.table) (λ a b r k. (apart_so a.0 b.0 r.0 k.0, apart_so a.1 b.1 r.1 k.1)) t.rows u.rows s.rows h.rows;
    metatable = meta_so t.metatable u.metatable s.metatable h.metatable;
  }

  wait_so : (a b : Wait Value) → SameWait p a b → WaitOk y.table a → WaitOk y.table b
  wait_so a b (same_leaving v w s) h = apart_so v w s h
  wait_so a b _ h = tt

  -- `gs` are the guards of the functions on the left, and `hs` those on the right
  module _ (gs hs : List Guard) (fits : (i j : ℕ) (g : Guard) → SameNumber p a_function i j → slice_get gs i ≡ Some g → slice_get hs j ≡ Some g) where
    lua_so : (f g : LuaFrame) → SameLuaFrame p f g → LuaOk y.table gs f → LuaOk y.table hs g
    lua_so f g s h = record {
      guard = h.guard;
      there = fits f.function g.function h.guard s.function h.there;
      registers = λ r free. apart_so (nth f.own.registers r) (nth g.own.registers r) (nth_same p f.own.registers g.own.registers r s.own.registers) (h.registers r free);
      varargs = values_so f.own.varargs g.own.varargs s.own.varargs h.varargs;
      pending = subst (Each (λ r. h.guard.registers r ≡ false)) s.own.pending h.pending;
      wait = wait_so f.wait g.wait s.wait h.wait;
    }

    frame_so : (f g : Frame) → SameFrame p f g → FrameOk y.table gs f → FrameOk y.table hs g
    frame_so f g (same_lua a b s) h = lua_so a b s h
    frame_so f g same_pcall h = tt
    frame_so f g (same_xpcall v w s) h = apart_so v w s h
    frame_so f g same_handler h = tt
    frame_so f g (same_closing v w vs ws s r) h = (option_so (SameValue p) (Apart y.table) (Apart y.table) apart_so v w s h.0, values_so vs ws r h.1)

    frames_so : (fs ks : List Frame) → SameFrames p fs ks → Each (FrameOk y.table gs) fs → Each (FrameOk y.table hs) ks
    frames_so = each_so (SameFrame p) (FrameOk y.table gs) (FrameOk y.table hs) frame_so

    coroutine_so : (c d : Coroutine) → SameCoroutine p c d → CoroutineOk y.table gs c → CoroutineOk y.table hs d
    coroutine_so c d (same_fresh v w s) h = apart_so v w s h
    coroutine_so c d (same_suspended fs ks s) h = frames_so fs ks s h
    coroutine_so c d (same_in_progress fs ks s) h = frames_so fs ks s h
    coroutine_so c d (same_normal fs ks s) h = frames_so fs ks s h
    coroutine_so c d same_dead h = tt
    coroutine_so c d (same_failed v w vs ws s r) h = (apart_so v w s h.0, values_so vs ws r h.1)

    -- frames stand at the same places
    function_so : (co other frame : ℕ) → SameNumber p a_coroutine co other → EachOf (SameNumber p a_function) (function_at W.coroutines co frame) (function_at X.coroutines other frame)
    function_so co other frame s =
        let c : Option (List Frame) = bind (slice_get W.coroutines co) frames_of in
        let d : Option (List Frame) = bind (slice_get X.coroutines other) frames_of in
        let a : Option Frame = bind c (λ (fs : List Frame). slice_get fs frame) in
        let b : Option Frame = bind d (λ (fs : List Frame). slice_get fs frame) in
        each_bind (SameLuaFrame p) (SameNumber p a_function) (λ (f : LuaFrame). Some f.function) (λ (f : LuaFrame). Some f.function) (λ f g k. k.function) (bind a lua_frame) (bind b lua_frame)
        (each_bind (SameFrame p) (SameLuaFrame p) lua_frame lua_frame (lua_frame_same p) a b
        (each_bind (SameFrames p) (SameFrame p) (λ (fs : List Frame). slice_get fs frame) (λ (fs : List Frame). slice_get fs frame) (λ fs ks k. zip_get (SameFrame p) fs ks frame k) c d
        (each_bind (SameCoroutine p) (SameFrames p) frames_of frames_of (frames_same p) (slice_get W.coroutines co) (slice_get X.coroutines other)
        (both_each (SameCoroutine p) (slice_get W.coroutines co) (slice_get X.coroutines other) (same.coroutines co other s)))))

    module _ (k : Keeps y gs W) (all : (j : ℕ) (c : Coroutine) → slice_get X.coroutines j ≡ Some c → (i : ℕ) × SameNumber p a_coroutine i j) where
      loose_apart : (c : Cell) (v : Value) → Loose W.coroutines (IsFirst p) c v → CellOk y.table gs W.coroutines c → Apart y.table v
      loose_apart c v (kept_closed w) h = h
      loose_apart c v (kept_apart co frame register w none at) h = register_apart y.table gs W.coroutines k.coroutines co frame register w at h

      -- each coroutine on the right is paired
      loose_ok : (c : Cell) (v : Value) → Loose X.coroutines (IsSecond p) c v → Apart y.table v → CellOk y.table hs X.coroutines c
      loose_ok c v (kept_closed w) h = h
      loose_ok c v (kept_apart co frame register w none at) h =
          let a = bind_some (bind (slice_get X.coroutines co) frames_of) (λ (frames : List Frame). bind (bind (slice_get frames frame) lua_frame) (λ (f : LuaFrame). slice_get f.own.registers register)) w at in
          let b = bind_some (slice_get X.coroutines co) frames_of a.0 a.1 in
          absurd (none (all co b.0 b.1))

      cell_so : (c d : Cell) → SameCell p W.coroutines X.coroutines c d → CellOk y.table gs W.coroutines c → CellOk y.table hs X.coroutines d
      cell_so c d (same_place co other frame register s) h =
          let f = each_at (SameNumber p a_function) (function_at W.coroutines co frame) (function_at X.coroutines other frame) h.function (function_so co other frame s) h.stands in
          record { function = f.0; stands = f.1; guard = h.guard; there = fits h.function f.0 h.guard f.2 h.there; apart = h.apart }
      cell_so c d (same_content a b v w l m s) h = loose_ok b w m (apart_so v w s (loose_apart a v l h))

      is_apart : (c d : ℕ) → SameCellNumber p c d → IsApart y.table gs W.coroutines W.cells c → IsApart y.table hs X.coroutines X.cells d
      is_apart c d s h =
          let b = both_at (SameCell p W.coroutines X.coroutines) (slice_get W.cells c) (slice_get X.cells d) h.cell (same.cells c d s) h.there in
          record { cell = b.0; there = b.1; right = cell_so h.cell b.0 b.2 h.right }

      module _ (cell : SameCellNumber p y.cell y.cell) (past : (i j : ℕ) → SameNumber p a_function i j → y.functions ≤ j → y.functions ≤ i) where
        function_ok : (i j : ℕ) (f g : Function) → SameNumber p a_function i j → SameFunction p f g → FunctionOk y gs W i f → FunctionOk y hs X j g
        function_ok i j f g s r h = record {
          guard = h.guard;
          there = fits i j h.guard s h.there;
          code = subst (IsGuarded h.guard) r.code h.code;
          cells = λ u d e free.
              let c = zip_back (SameCellNumber p) f.cells g.cells u d r.cells e in
              is_apart c.0 d c.2 (h.cells u c.0 c.1 free);
          apart = λ l u d e q.
              let c = zip_back (SameCellNumber p) f.cells g.cells u d r.cells e in
              h.apart (past i j s l) u c.0 c.1 (same.one_to_one.cells c.0 y.cell y.cell (subst (SameCellNumber p c.0) q c.2) cell);
        }

        -- what is not paired on the right is no danger, and the environment is there
        pub paired_keeps : length hs ≡ length X.functions → SameRoots p (roots_of W) (roots_of X) → Each (Apart y.table) X.moving
            → slice_get X.heap.tables y.table ≡ Some y.made → slice_get X.cells y.cell ≡ Some (closed (object a_table y.table))
            → ((j : ℕ) (f : Function) → slice_get X.functions j ≡ Some f → (i : ℕ) × SameNumber p a_function i j)
            → ((j : ℕ) (t : Table) → slice_get X.heap.tables j ≡ Some t → TableOk y.table t ⊎ ((i : ℕ) × SameNumber p a_table i j)) → Keeps y hs X
        paired_keeps count roots moving made there functions tables = record {
          count = count;
          heap = record {
            made = made;
            bare = k.heap.bare;
            tables = λ j t e. ⊎_elim (λ own. own)
                (λ n. let b = both_back (SameTable p) (slice_get W.heap.tables n.0) (slice_get X.heap.tables j) t (same.tables n.0 j n.1) e in table_so b.0 t b.2 (k.heap.tables n.0 b.0 b.1)) (tables j t e);
            strings = meta_so W.heap.string_metatable X.heap.string_metatable roots.string_metatable k.heap.strings;
          };
          functions = λ j g e.
              let n = functions j g e in
              let b = both_back (SameFunction p) (slice_get W.functions n.0) (slice_get X.functions j) g (same.functions n.0 j n.1) e in
              function_ok n.0 j b.0 g n.1 b.2 (k.functions n.0 b.0 b.1);
          cell = there;
          globals = table_apart W.globals X.globals roots.globals k.globals;
          coroutines = λ j d e.
              let n = all j d e in
              let b = both_back (SameCoroutine p) (slice_get W.coroutines n.0) (slice_get X.coroutines j) d (same.coroutines n.0 j n.1) e in
              coroutine_so b.0 d b.2 (k.coroutines n.0 b.0 b.1);
          moving = moving;
        }
