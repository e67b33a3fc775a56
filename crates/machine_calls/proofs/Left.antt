-- Functions that are left in memory.
use Rattle.std.proofs.Common.{◌≡◌, ℕ, ◌-◌, ◌<◌, List, [], ◌∷◌, ◌++◌, length, Option, Some, None, refl, ap, sym, ◌∙◌, arith, length-append}
use Rattle.std.proofs.lemmas.List.{length-map}
use Rattle.int_core.specs.Value.{Value, bind, without_last}
use Rattle.machine_core.specs.World.{Frame, lua, in_progress, World, stack_of, Place, place_of, close_from, pop}
use Rattle.machine_core.specs.Text.{Given, given_values}
use Rattle.machine_core.specs.Moves.{Made, made, TopShape, leave_frame, pop_frame, popped, see_top, top_now}
use Rattle.machine_sound.proofs.Lists.{get_map, last_splits}
use Rattle.table_core.specs.declared.value.CoroId.{CoroId}
use Rattle.lua_stack.specs.Frames.{KeptStack, frame_of}
use Rattle.lua_heap.specs.declared.world.Coro.TheVariants.{Running}
use Rattle.lua_heap.specs.declared.world.World.{World as Memory}
use Rattle.lua_heap.specs.Closing.{ClosesAll}
use Rattle.lua_heap.specs.Reading.{value}
use Rattle.lua_heap.specs.Plain.{plain, coroutine}
use Rattle.move_laws.specs.Memory.{Runs, Makes}
use Rattle.machine_calls.specs.Tails.{Drops}
use Rattle.move_laws.proofs.Places.{place_is}
use Rattle.move_laws.proofs.Running.{shown}

abbrev with_closed : World → Place → World
with_closed W at = record W { cells = close_from at.stack.coroutine at.number 0 at.top.own.registers W.cells }

pushed_length : (xs : List Frame) (x : Frame) → length (xs ++ x ∷ []) - 1 ≡ length xs
pushed_length xs x = let e = length-append xs (x ∷ []) in omega (arith, e)

pub closed_is : (old shut : Memory) (co : CoroId) (s : KeptStack) (at : Place) (fuel : ℕ) → Runs old co s → place_of (plain old 0) ≡ Some at
    → ClosesAll co.0 0 (plain old fuel) (plain shut fuel) → plain shut fuel ≡ with_closed (plain old fuel) at
closed_is old shut co s at fuel r e k =
    let V = plain old fuel in
    let h = shown old co s at r e in
    let p = place_is (plain old 0) at e in
    let below = without_last at.stack.frames in
    let there = get_map (coroutine old.strings) old.coros.objects co.0 (Running s) r.there ∙ ap (λ fs. Some (in_progress fs)) h.frames_are in
    let size : length below ≡ at.number = sym (pushed_length below (lua at.top)) ∙ ap (λ fs. length fs - 1) (sym (last_splits at.stack.frames (lua at.top) p.top)) ∙ sym p.number in
    k below at.top there
    ∙ ap (λ n. record V { cells = close_from co.0 n 0 at.top.own.registers V.cells }) size
    ∙ ap (λ n. record V { cells = close_from n at.number 0 at.top.own.registers V.cells }) (sym h.coroutine)

pub still_there : (old shut : Memory) (at : Place) → place_of (plain old 0) ≡ Some at → plain shut 0 ≡ with_closed (plain old 0) at → place_of (plain shut 0) ≡ Some at
still_there old shut at e q = ap place_of q ∙ e

some_frame : (xs : List Frame) (x : Frame) (n : ℕ) → n ≡ length (xs ++ x ∷ []) → 0 < n
some_frame xs x n e = let k = length-append xs (x ∷ []) in omega (arith, e, k)

pub frame_there : (W : Memory) (co : CoroId) (s : KeptStack) (at : Place) → Runs W co s → place_of (plain W 0) ≡ Some at → 0 < length s.frames
frame_there W co s at r e =
    some_frame (without_last at.stack.frames) (lua at.top) (length s.frames) (sym (length-map s.frames (frame_of (value W.strings))) ∙ ap length (shown W co s at r e).frames_are)

pub world_made : {V W : World} → ◌≡◌ {A = Option (Made (Unit {0}))} (made V [] tt) (made W [] tt) → V ≡ W
world_made {V} e = ap (λ (o : Option (Made (Unit {0}))). elim o as (λ _. World) [ Some d ↦ d.world | None ↦ V ]) e

popped_so : (W : World) (at : Place) → pop (with_closed W at) at.stack ≡ popped W at
unfolding popped
popped_so W at = refl

-- the frame is gone
pub drops_so : (old shut gone : Memory) (at : Place) → place_of (plain old 0) ≡ Some at → ((fuel : ℕ) → plain shut fuel ≡ with_closed (plain old fuel) at) → Makes shut gone pop_frame [] [] tt
    → (fuel : ℕ) → popped (plain old fuel) at ≡ plain gone fuel
drops_so old shut gone at e k g fuel =
    let V = plain old fuel in
    let p = place_is (plain old 0) at e in
    let stack : stack_of (plain shut fuel) ≡ Some at.stack = ap stack_of (k fuel) ∙ p.stack in
    sym (popped_so V at) ∙ ap (λ W. pop W at.stack) (sym (k fuel))
    ∙ world_made (sym (ap (λ o. bind {B = Made (Unit {0})} o (λ s. made (pop (plain shut fuel) s) [] tt)) stack) ∙ g.is fuel)

abbrev with_moving : World → List Value → World
with_moving W vs = record W { moving = vs }

abbrev top_told : World → Option (Made TopShape)
top_told W = bind (top_now W) (λ top. made W [] top)

pub left_is : (old gone new : Memory) (at : Place) (env : List Value) (what : Given) (values : List Value) (told : TopShape) → place_of (plain old 0) ≡ Some at → Drops old gone
    → ((fuel : ℕ) → plain new fuel ≡ with_moving (plain gone fuel) values) → given_values env what ≡ values → Makes new new see_top [] [] told
    → Makes old new (leave_frame what) env [] told
left_is old gone new at env what values told e d m q t = record {
  is = λ fuel.
      let V = plain old fuel in
      let end : with_moving (popped V at) (given_values env what) ≡ plain new fuel = ap (with_moving (popped V at)) q ∙ ap (λ W. with_moving W values) (d.is at e fuel) ∙ sym (m fuel) in
      ap (λ (o : Option Place). bind {B = Made TopShape} o (λ p. top_told (with_moving (popped V p) (given_values env what)))) e
      ∙ ap top_told end
      ∙ t.is fuel;
}
