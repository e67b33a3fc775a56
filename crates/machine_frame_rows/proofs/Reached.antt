-- The frame on top that a row reaches.
use Rattle.std.proofs.Common.{◌≡◌, ◌-◌, [], length, Option, Some, None, refl, ap, sym, subst, ◌∙◌}
use Rattle.std.specs.Prelude.{slice_get}
use Rattle.std.specs.Option.{option_map}
use Rattle.int_core.specs.Value.{bind, last}
use Rattle.machine_core.specs.World.{Function, LuaFrame, lua, lua_frame, in_progress, World, Stack, stack_of, Place}
use Rattle.machine_core.specs.Moves.{Made, made, TopShape, top_shape, see_top, Row, act, Ending, Outcome, trapped, run}
use Rattle.machine_sound.proofs.Lists.{bind_at, get_map}
use Rattle.lua_stack.specs.declared.frame.Top.TheVariants.{Lua}
use Rattle.lua_stack.specs.Frames.{frame_of, frames, lua_of}
use Rattle.lua_stack.proofs.Seen.{lua_seen}
use Rattle.lua_heap.specs.declared.world.Coro.TheVariants.{Running}
use Rattle.lua_heap.specs.declared.world.World.{World as Memory}
use Rattle.lua_heap.specs.Plain.{plain, coroutine}
use Rattle.lua_heap.specs.Reading.{value}
use Rattle.move_laws.specs.Memory.{HasFrame, HasStack, IsSafe, IsSound, Leads, Makes}
use Rattle.move_laws.proofs.Rows.{first, safe_after}
use Rattle.move_laws.proofs.Running.{last_there}
use Rattle.machine_moves.specs.Tops.{TopIs}
use Rattle.machine_moves.proofs.OnTop.{kept_as, stack_kept}
use Rattle.lua_stack.proofs.Told.{last_map}

-- a row by what is on top
module _ (k : TopShape → Row) {W : Memory} where
  pub reached : {new : Memory} {seen shape : TopShape} {ending : Ending} → Makes W W see_top [] [] seen → seen ≡ shape → Leads (k shape) [] W new ending → Leads (act see_top (λ _ top. k top)) [] W new ending
  reached {new} {seen} {shape} {ending} m e l = first (λ _ top. k top) m (subst (λ t. Leads (k t) [] W new ending) (sym e) l)

  pub safe_reached : {seen shape : TopShape} → IsSafe (act see_top (λ _ top. k top)) [] W → Makes W W see_top [] [] seen → seen ≡ shape → IsSafe (k shape) [] W
  safe_reached s m e = subst (λ t. IsSafe (k t) [] W) e (safe_after (λ _ top. k top) s m)

  pub reaches_stack : IsSafe (act see_top (λ _ top. k top)) [] W → HasStack W
  reaches_stack s = by (stack_of (plain W 0)) refl
    where
      by : (o : Option Stack) → stack_of (plain W 0) ≡ o → HasStack W
      by (Some stack) e = record { stack = stack; is = e }
      by None e = absurd (s.never 0 (ap (λ o. elim (bind {B = Made TopShape} (bind {B = TopShape} o (λ s. Some (top_shape (plain W 0) (last s.frames)))) (λ top. made (plain W 0) [] top)) as (λ _. Outcome)
          [ None ↦ trapped | Some d ↦ run (k d.told) d.values d.world ]) e))

-- a Lua frame that is seen on top in a sound world

abbrev place_at : Stack → LuaFrame → Function → Place
place_at s top f = record { stack = s; number = length s.frames - 1; top = top; function = f }

abbrev placed_in : World → Stack → LuaFrame → Option Place
placed_in V s top = bind {B = Place} (slice_get V.functions top.function) (λ f. Some (place_at s top f))

pub lua_there : (W : Memory) → IsSound W → TopIs W Lua → HasFrame W
lua_there W h seen =
    let V = plain W 0 in
    let f = value W.strings in
    let s = kept_as W seen.co seen.stack in
    let fs = frames f seen.stack in
    let l = lua_seen (last seen.stack.frames) seen.is in
    let top = lua_of f l.0 in
    let on_top : last fs ≡ Some (lua top) = last_map (frame_of f) seen.stack.frames ∙ ap (option_map (frame_of f)) l.1 in
    let there = get_map (coroutine W.strings) W.coros.objects seen.co.0 (Running seen.stack) seen.runs.there in
    let ok = (h.sound.solid.coroutines seen.co.0 (in_progress fs) there).each (length fs - 1) (lua top) (last_there fs (lua top) on_top) in
    record {
      place = place_at s top ok.function;
      is =
          bind_at (λ s. bind {B = Place} (bind (last s.frames) lua_frame) (placed_in V s)) (stack_of V) s (stack_kept W seen.co seen.stack 0 seen.runs)
          ∙ ap (λ o. bind {B = Place} (bind o lua_frame) (placed_in V s)) on_top
          ∙ bind_at (λ f. Some (place_at s top f)) (slice_get V.functions top.function) ok.function ok.there;
    }
