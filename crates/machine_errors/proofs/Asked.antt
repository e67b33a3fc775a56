-- A frame is pushed, once what moves has been taken.
use Rattle.std.proofs.Common.{◌≡◌, ◌++◌, ℕ, List, [], ◌∷◌, Option, Some, None, refl, ap, sym, subst, ◌∙◌, Bool, true, false, append-nil}
use Rattle.std.specs.Prelude.{cond, drop, map}
use Rattle.int_core.specs.Value.{Value}
use Rattle.machine_core.specs.World.{Frame, World, Stack, stack_of, put_frames, push}
use Rattle.machine_core.specs.Text.{Arg, read, args_of}
use Rattle.machine_core.specs.FrameRows.{then}
use Rattle.machine_core.specs.Moves.{Made, made, move, Over, over_pcall, over_xpcall, over_handler, frame_over, push_frame, give_with, has_room, asks, Row, stop, ends, run}
use Rattle.table_core.specs.declared.value.Value.{Value as Kept}
use Rattle.lua_heap.specs.declared.world.World.{World as Memory}
use Rattle.lua_heap.specs.Cells.{CellsAreListed}
use Rattle.lua_heap.specs.Plain.{plain}
use Rattle.lua_heap.specs.Reading.{value}
use Rattle.machine_moves.specs.declared.tops.Over.{Over as KeptOver}
use Rattle.machine_moves.specs.declared.tops.Over.TheVariants.{Pcall, Xpcall, Handler}
use Rattle.machine_moves.specs.Tops.{frame_pushed}
use Rattle.move_laws.specs.Memory.{IsSound, Makes}
use Rattle.move_laws.proofs.Rows.{act_is}
use Rattle.machine_errors.specs.Asking.{taken, AsksOver}
use Rattle.machine_errors.proofs.Leaving.{world_made, with_moving}
use Rattle.machine_errors.proofs.Texts.{order_kept, same_sound}

-- what moves has no part in it

abbrev pushed_on : World → Frame → Option Stack → World
pushed_on W f o = elim o [ None ↦ W | Some s ↦ push W s f ]

pushed_moving : (W : World) (vs : List Value) (f : Frame) (o : Option Stack) → pushed_on (with_moving W vs) f o ≡ with_moving (pushed_on W f o) vs
unfolding push put_frames
pushed_moving W vs f None = refl
pushed_moving W vs f (Some s) = refl

abbrev with_moving_then : List Value → Option (Made Bool) → Option (Made Bool)
with_moving_then vs o = elim o [ None ↦ None | Some d ↦ made (with_moving d.world vs) d.values d.told ]

abbrev pushing : World → Frame → Bool → Option (Made Bool)
pushing W f room = cond room (made (pushed_on W f (stack_of W)) [] true) (made W [] false)

pushing_moving : (W : World) (vs : List Value) (f : Frame) (room : Bool) → pushing (with_moving W vs) f room ≡ with_moving_then vs (pushing W f room)
pushing_moving W vs f true = ap (λ W. made W [] true) (pushed_moving W vs f (stack_of W))
pushing_moving W vs f false = refl

push_moving : (W V : World) (vs : List Value) (what : Over) (env : List Value) (room : Bool) → move (push_frame what) env W ≡ made V [] room
    → move (push_frame what) env (with_moving W vs) ≡ made (with_moving V vs) [] room
push_moving W V vs what env room e = pushing_moving W vs (frame_over what env) (has_room W 1) ∙ ap (with_moving_then vs) e

-- where there was no room, the world is the same

abbrev told_in : Option (Made Bool) → Bool
told_in o = elim o [ None ↦ false | Some d ↦ d.told ]

full_same : (W V : World) (f : Frame) (room : Bool) → pushing W f room ≡ made V [] false → V ≡ W
full_same W V f true e = absurd (by (ap told_in e))
  where
    by : true ≡ false → ⊥
    by e = absurd (cc)
full_same W V f false e = sym (world_made e)

-- what is told of a frame that is pushed
abbrev pub IsPushed : (old new : Memory) → KeptOver → (room : Bool) → Type 0
IsPushed old new over room = (env : List Value) (what : Over) → frame_over what env ≡ frame_pushed (value old.strings) over → Makes old new (push_frame what) env [] room

pub asked_room : (old pushed new : Memory) (over : KeptOver) (asked : List Kept)
    → IsPushed old pushed over true → pushed.strings ≡ old.strings
    → ((env : List Value) (xs : List Arg) (slot : ℕ) → args_of env xs ++ drop slot env ≡ map (value pushed.strings) asked → Makes pushed new (give_with xs slot) env [] tt)
    → AsksOver old new over asked true
asked_room old pushed new over asked p t g = record {
  there = λ e what env xs slot r f same fuel.
      let k : ℕ → Bool → Row = λ _ room. cond room (then (give_with xs slot) (stop asks)) r in
      act_is (push_frame what) k env (taken old fuel) (with_moving (plain pushed fuel) []) [] true (push_moving (plain old fuel) (plain pushed fuel) [] what env true ((p env what f).is fuel))
      ∙ ap (λ env. run (then (give_with xs slot) (stop asks)) env (with_moving (plain pushed fuel) [])) (append-nil env)
      ∙ ap (ends asks) (world_made ((g env xs slot (same ∙ ap (λ texts. map (value texts) asked) (sym t))).is fuel));
  full = λ e. absurd (cc);
  same = λ e. absurd (cc);
}

some_over : (f : Kept → Value) (over : KeptOver) → (what : Over) × (env : List Value) × (frame_over what env ≡ frame_pushed f over)
some_over f Pcall = (over_pcall, [], refl)
some_over f (Xpcall h) = (over_xpcall (read 0), f h ∷ [], refl)
some_over f Handler = (over_handler, [], refl)

pub asked_full : (old new : Memory) (over : KeptOver) (asked : List Kept)
    → IsPushed old new over false → AsksOver old new over asked false
asked_full old new over asked p = record {
  there = λ e. absurd (cc);
  full = λ e what env q r f fuel.
      let k : ℕ → Bool → Row = λ _ room. cond room q r in
      act_is (push_frame what) k env (taken old fuel) (with_moving (plain new fuel) []) [] false (push_moving (plain old fuel) (plain new fuel) [] what env false ((p env what f).is fuel))
      ∙ ap (λ env. run r env (taken new fuel)) (append-nil env);
  same = λ e.
      let o = some_over (value old.strings) over in
      record { is = λ fuel. full_same (plain old fuel) (plain new fuel) (frame_over o.0 o.1) (has_room (plain old fuel) 1) ((p o.1 o.0 o.2).is fuel) };
}

-- a stack without room: the world reads the same, and is as sound as before

pub without_room : {old new : Memory} {over : KeptOver} {asked : List Kept} {room : Bool} → AsksOver old new over asked room → room ≡ false → AsksOver old new over asked false
without_room {old} {new} {over} {asked} a e = subst (AsksOver old new over asked) e a

pub refused_sound : {old new : Memory} {over : KeptOver} {asked : List Kept} {room : Bool} → AsksOver old new over asked room → IsSound old → new ≡ record old { coros = new.coros; moving = new.moving } → (CellsAreListed old → CellsAreListed new)
    → room ≡ false → IsSound new
refused_sound a s rest listed e = same_sound s (a.same e) (order_kept s.order rest (listed s.order.listed))
