-- Errors of a Lua frame that has made itself ready for a call: their place is that of the frame before it did.
use Rattle.std.proofs.Common.{◌≡◌, ◌+◌, ℕ, List, [], ◌∷◌, ◌++◌, length, Option, Some, None, refl, ap, sym, ◌∙◌, Bool, false, reverse, length-append}
use Rattle.std.specs.Prelude.{filter_map, nat_le, slice_get}
use Rattle.std.specs.List.{cons_option}
use Rattle.std.proofs.lemmas.List.{reverse-append}
use Rattle.code_core.specs.Prototype.{Prototype}
use Rattle.int_core.specs.Limits.{greatest_depth, limited, position}
use Rattle.int_core.specs.Value.{Value, known, string, bind, last, without_last}
use Rattle.machine_core.specs.World.{Cell, Wait, LuaFrame, Frame, lua, World, Stack, Place, place_of, put_top, put_frames}
use Rattle.machine_core.specs.Text.{Arg, read, Own, done}
use Rattle.machine_core.specs.Moves.{cells_done, blamed, frame_place, has_room, line_of, where_text, with_own, raised, run}
use Rattle.machine_core.specs.FrameRows.{raises}
use Rattle.machine_sound.proofs.Lists.{get_front, last_splits}
use Rattle.table_core.specs.declared.value.Value.{Value as Kept}
use Rattle.table_core.specs.declared.value.Value.TheVariants.{Nil, Bool as Boolean, Int, Str, Prim, Table, Func, Coro}
use Rattle.lua_stack.specs.declared.frame.Wait.{Wait as KeptWait}
use Rattle.lua_stack.specs.declared.frame.Wait.TheVariants.{Leaving}
use Rattle.lua_stack.specs.Frames.{wait_of}
use Rattle.lua_heap.specs.declared.world.World.{World as Memory}
use Rattle.lua_heap.specs.Adding.{Begins}
use Rattle.lua_heap.specs.Errors.{AddsTexts, HasText}
use Rattle.lua_heap.specs.Plain.{plain}
use Rattle.lua_heap.specs.Reading.{value, text_of, text_or}
use Rattle.move_laws.specs.Memory.{Runs, Leads, ReadsSame}
use Rattle.move_laws.proofs.Places.{place_is}
use Rattle.move_laws.proofs.Running.{place_put, with_top}
use Rattle.machine_errors.specs.Raising.{IsBlamed}
use Rattle.machine_calls.specs.declared.preparing.Prepared.{Prepared}
use Rattle.machine_calls.specs.declared.preparing.Prepared.TheVariants.{Nothing, Copied, GivenUp, LeftSo, ReturnedSo, Closed}
use Rattle.machine_calls.specs.Preparing.{prepared_of, IsCopy, IsThere, CanPrepare, ReadyFor}
use Rattle.machine_calls.specs.Waiting.{IsHeld, IsHeldWait, RaisesOver, made_ready}

-- values whose strings are there read the same where strings are added

pub value_stays : {old new : List (List ℕ)} (v : Kept) → Begins (List ℕ) old new → HasText old v → value new v ≡ value old v
value_stays Nil b h = refl
value_stays (Boolean x) b h = refl
value_stays (Int n) b h = refl
value_stays {old} (Str id) b h = ap (λ texts. known (string (text_of texts id.0))) b.is ∙ ap (λ o. known (string (text_or id.0 o))) (get_front old b.more id.0 h)
value_stays (Prim n) b h = refl
value_stays (Table id) b h = refl
value_stays (Func id) b h = refl
value_stays (Coro id) b h = refl

wait_stays : {old new : List (List ℕ)} (wait : KeptWait) → Begins (List ℕ) old new → IsHeldWait old wait → wait_of (value new) wait ≡ wait_of (value old) wait
wait_stays (Leaving error) b h = ap Rattle.machine_core.specs.World.leaving (value_stays error b h)
wait_stays _ b h = refl

copy_stays : {old new : List (List ℕ)} (prepared : Prepared) (env : List Value) (x : Arg) → Begins (List ℕ) old new → IsHeld old prepared → IsCopy (value old) env x prepared → IsCopy (value new) env x prepared
copy_stays (Copied register v) env x b h i = i ∙ sym (value_stays v b h)
copy_stays _ env x b h i = tt

-- a frame can be made ready after strings were added

runs_before : {old new : Memory} → AddsTexts old new → {co : Rattle.table_core.specs.declared.value.CoroId.CoroId} {s : Rattle.lua_stack.specs.Frames.KeptStack} → Runs new co s → Runs old co s
runs_before a {co} r = record {
  chain = ap (λ (W : Memory). last W.chain.items) (sym a.rest) ∙ r.chain;
  there = ap (λ (W : Memory). slice_get W.coros.objects co.0) (sym a.rest) ∙ r.there;
}

there_after : {old new : Memory} (at : Place) (prepared : Prepared) → AddsTexts old new → IsThere old at prepared → IsThere new at prepared
there_after at Nothing a h = tt
there_after at (Copied register v) a h = h
there_after at (GivenUp register) a h = (h.0, λ co s r. h.1 co s (runs_before a r))
there_after at LeftSo a h = tt
there_after at (ReturnedSo from count) a h = h
there_after at (Closed register) a h = tt

pub prepared_after : {old new : Memory} (prepared : Prepared) → AddsTexts old new → ReadsSame old new → CanPrepare old prepared → CanPrepare new prepared
prepared_after prepared a r h = record { place = h.place; is = ap place_of (r.is 0) ∙ h.is; checked = h.checked; room = h.room; there = there_after h.place prepared a h.there }

-- where the frame on top is put there anew, at the same place of the same function

abbrev text_in : Option (List ℕ) → List ℕ
text_in o = elim o [ None ↦ [] | Some text ↦ text ]

abbrev place_at : World → (function pc : ℕ) → Option (List ℕ)
place_at W function pc = bind (slice_get W.functions function) (λ g. bind g.code.own.source (λ name. bind (line_of g.code pc) (λ line. Some (position name line))))

same_place : (W : World) (s : Stack) (f g : Frame) → frame_place (put_top W s f) g ≡ frame_place W g
unfolding put_top put_frames
same_place W s f (lua t) = refl
same_place W s f _ = refl

same_places : (W : World) (s : Stack) (f : Frame) (fs : List Frame) → filter_map (frame_place (put_top W s f)) fs ≡ filter_map (frame_place W) fs
same_places W s f [] = refl
same_places W s f (g ∷ fs) = ap (λ o. cons_option o (filter_map (frame_place (put_top W s f)) fs)) (same_place W s f g) ∙ ap (cons_option (frame_place W g)) (same_places W s f fs)

from_top : (W : World) (fs : List Frame) (f : Frame) → filter_map (frame_place W) (reverse (fs ++ f ∷ [])) ≡ cons_option (frame_place W f) (filter_map (frame_place W) (reverse fs))
from_top W fs f = ap (filter_map (frame_place W)) (reverse-append fs (f ∷ []))

where_put : (W : World) (at : Place) (t : LuaFrame) (level : ℕ) → place_of W ≡ Some at → t.function ≡ at.top.function → t.own.pc ≡ at.top.own.pc → where_text (put_top W at.stack (lua t)) level ≡ where_text W level
where_put W at t level e f c =
    let P = put_top W at.stack (lua t) in
    let p = place_is W at e in
    let q = place_is P (with_top at t) (place_put W at t e f) in
    let below = without_last at.stack.frames in
    let places : filter_map (frame_place P) (reverse (below ++ lua t ∷ [])) ≡ filter_map (frame_place W) (reverse at.stack.frames) =
    same_places W at.stack (lua t) (reverse (below ++ lua t ∷ []))
    ∙ from_top W below (lua t)
    ∙ ap (λ n. cons_option (place_at W n t.own.pc) (filter_map (frame_place W) (reverse below))) f
    ∙ ap (λ n. cons_option (place_at W at.top.function n) (filter_map (frame_place W) (reverse below))) c
    ∙ sym (from_top W below (lua at.top))
    ∙ ap (λ fs. filter_map (frame_place W) (reverse fs)) (sym (last_splits at.stack.frames (lua at.top) p.top)) in
    ap (λ o. text_in (bind o (λ (s : Stack). slice_get (filter_map (frame_place P) (reverse s.frames)) level))) q.stack
    ∙ ap (λ ts. text_in (slice_get ts level)) places
    ∙ sym (ap (λ o. text_in (bind o (λ (s : Stack). slice_get (filter_map (frame_place W) (reverse s.frames)) level))) p.stack)

abbrev with_cells : World → List Cell → World
with_cells V cells = record V { cells = cells }

own_is : (V : World) (at : Place) (w : Wait Value) (ms : List Own) (env : List Value)
    → with_own V at w ms env
    ≡ put_top (with_cells V (cells_done ms at.function.code at.stack.coroutine at.number env at.top.own V.cells)) at.stack (lua (record at.top { wait = w; own = done ms at.function.code env at.top.own }))
unfolding with_own
own_is V at w ms env = refl

pc_stays : (x : Arg) (prepared : Prepared) (p : Prototype) (env : List Value) (t : LuaFrame) → (done (prepared_of x prepared) p env t.own).pc ≡ t.own.pc
pc_stays x Nothing p env t = refl
pc_stays x _ p env t = refl

pub blamed_own : (V : World) (at : Place) (w : Wait Value) (x : Arg) (prepared : Prepared) (env : List Value) (text : List ℕ) → place_of V ≡ Some at
    → blamed (with_own V at w (prepared_of x prepared) env) text ≡ blamed V text
blamed_own V at w x prepared env text e =
    let U = with_cells V (cells_done (prepared_of x prepared) at.function.code at.stack.coroutine at.number env at.top.own V.cells) in
    let t = record at.top { wait = w; own = done (prepared_of x prepared) at.function.code env at.top.own } in
    ap (λ W. blamed W text) (own_is V at w (prepared_of x prepared) env)
    ∙ ap (λ place. limited (place ++ text)) (where_put U at t 0 e refl (pc_stays x prepared at.function.code env at.top))

-- how many frames there are stays

abbrev roomy : Option Stack → Bool
roomy o = elim o [ None ↦ false | Some s ↦ nat_le (length s.frames + 1) greatest_depth ]

room_put : (W : World) (at : Place) (t : LuaFrame) → place_of W ≡ Some at → t.function ≡ at.top.function → has_room (put_top W at.stack (lua t)) 1 ≡ has_room W 1
room_put W at t e f =
    let p = place_is W at e in
    let q = place_is (put_top W at.stack (lua t)) (with_top at t) (place_put W at t e f) in
    let below = without_last at.stack.frames in
    let count : length (below ++ lua t ∷ []) ≡ length at.stack.frames =
    length-append below (lua t ∷ []) ∙ sym (length-append below (lua at.top ∷ [])) ∙ ap length (sym (last_splits at.stack.frames (lua at.top) p.top)) in
    ap (roomy) q.stack
    ∙ ap (λ n. nat_le (n + 1) greatest_depth) count
    ∙ sym (ap (roomy) p.stack)

pub room_own : (V : World) (at : Place) (w : Wait Value) (ms : List Own) (env : List Value) → place_of V ≡ Some at → has_room (with_own V at w ms env) 1 ≡ has_room V 1
room_own V at w ms env e =
    let U = with_cells V (cells_done ms at.function.code at.stack.coroutine at.number env at.top.own V.cells) in
    let t = record at.top { wait = w; own = done ms at.function.code env at.top.own } in
    ap (λ W. has_room W 1) (own_is V at w ms env) ∙ room_put U at t e refl

-- the error

module _ (old texted ready new : Memory) (wait : KeptWait) (prepared : Prepared) (text : List ℕ) (items : List Kept) (a : AddsTexts old texted) (r : ReadsSame old texted)
    (held : IsHeldWait old.strings wait) (copied : IsHeld old.strings prepared) (h : ReadyFor texted ready wait prepared) where
  readied : (at : Place) → place_of (plain old 0) ≡ Some at → (env : List Value) (x : Arg) → IsCopy (value old.strings) env x prepared → (fuel : ℕ) → made_ready old fuel at wait prepared env x ≡ plain ready fuel
  readied at e env x i fuel =
      let ms = prepared_of x prepared in
      ap (λ V. with_own V at (wait_of (value old.strings) wait) ms env) (sym (r.is fuel))
      ∙ ap (λ w. with_own (plain texted fuel) at w ms env) (sym (wait_stays wait a.strings held))
      ∙ h.is at (ap place_of (r.is 0) ∙ e) env x (copy_stays prepared env x a.strings copied i) fuel

  pub raises_over : IsBlamed old texted text items → ready.strings ≡ texted.strings → ((text : List ℕ) → IsBlamed ready ready text items → (env : List Value) → Leads (raises text) env ready new raised)
      → RaisesOver old new wait prepared text
  raises_over b s l = record {
    is = λ at e env x i fuel all.
        let blames : IsBlamed ready ready text items = record {
          thrown = b.thrown;
          one = b.one;
          says = λ fuel. ap (λ texts. value texts b.thrown) s ∙ b.says fuel
              ∙ sym (blamed_own (plain old fuel) at (wait_of (value old.strings) wait) x prepared env text e) ∙ ap (λ W. blamed W text) (readied at e env x i fuel);
        } in
        ap (run (raises text) all) (readied at e env x i fuel) ∙ (l text blames all).is fuel;
  }

-- some names for what is copied

abbrev pub copy_env : (Kept → Value) → Prepared → List Value
copy_env f Nothing = []
copy_env f (Copied register v) = f v ∷ []
copy_env f (GivenUp register) = []
copy_env f LeftSo = []
copy_env f (ReturnedSo from count) = []
copy_env f (Closed register) = []

pub some_copy : (f : Kept → Value) (prepared : Prepared) → IsCopy f (copy_env f prepared) (read 0) prepared
some_copy f (Copied register v) = refl
some_copy f _ = tt
