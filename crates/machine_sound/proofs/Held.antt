-- A Lua frame on top that waits, as all frames do.
use Rattle.std.proofs.Common.{ℕ, ◌<◌, ◌≡◌, [], ◌∷◌, ◌++◌, Option, Some, refl, subst, ap, ◌∙◌, length, false}
use Rattle.std.specs.Prelude.{slice_get, IsSome}
use Rattle.int_core.specs.Value.{last, without_last}
use Rattle.machine_core.specs.World.{Function, LuaFrame, Frame, lua, in_progress, World, find_open}
use Rattle.machine_core.specs.Moves.{lua_top, top_shape}
use Rattle.machine_sound.specs.Sound.{Each, sizes, LuaOk, FrameOk, LuaWaits, FrameWaits, Solid, Top, TopIs, Settled, StackWaits}
use Rattle.machine_sound.specs.Safe.{HasPlace, WaitsUnder}
use Rattle.machine_sound.proofs.Lists.{each_none, each_front, each_last, last_splits, some_is}
use Rattle.machine_sound.proofs.Frames.{registers_top}
use Rattle.machine_sound.proofs.Waits.{registers_here}

-- what is known of it
abbrev pub held_top : (w : Function) → LuaFrame → Top
held_top w f = record { code = w.code; pc = f.own.pc; size = length f.own.registers; opened = f.own.opened; pending = w.code.own.stack; cells = length f.own.registers; captured = []; runs = false }

module _ (n : ℕ) (W : World) (s : Solid n W) (h : StackWaits n W) (f : LuaFrame) (e : last h.frames ≡ Some (lua f)) where
  splits : h.frames ≡ without_last h.frames ++ lua f ∷ []
  splits = last_splits h.frames (lua f) e

  pub frames_wait : Each (FrameWaits (sizes n W)) (without_last h.frames ++ lua f ∷ [])
  frames_wait = subst (Each (FrameWaits (sizes n W))) splits h.waits

  there : slice_get W.coroutines h.coroutine ≡ Some (in_progress (without_last h.frames ++ lua f ∷ []))
  there = h.running ∙ ap (λ fs. Some (in_progress fs)) splits

  abbrev pub held_waits : LuaWaits (sizes n W) f
  held_waits = each_last (FrameWaits (sizes n W)) (without_last h.frames) (lua f) frames_wait

  ok : LuaOk (sizes n W) f
  ok = each_last (FrameOk (sizes n W)) (without_last h.frames) (lua f) (s.coroutines h.coroutine _ there).each

  pub held_is : TopIs n (held_top held_waits.function f) W
  held_is =
      let w = held_waits in
      let q : ok.function ≡ w.function = some_is ok.there w.there in
      record {
        coroutine = h.coroutine;
        base = without_last h.frames;
        top = f;
        function = w.function;
        last = h.last;
        frames = there;
        there = w.there;
        below = each_front (FrameWaits (sizes n W)) (without_last h.frames) (lua f ∷ []) frames_wait;
        code = refl;
        pc = refl;
        size = refl;
        opened = refl;
        pending = subst (λ (g : Function). Each (λ r. r < g.code.own.stack) f.own.pending) q ok.pending;
        cells = λ i r x. subst (λ m. r < m) (registers_here W h.coroutine (without_last h.frames ++ lua f ∷ []) (length (without_last h.frames)) there ∙ registers_top (without_last h.frames) f) (s.cells i _ x);
        captured = each_none (λ r. IsSome (find_open h.coroutine (length (without_last h.frames)) r W.cells));
        wait = w;
      }

  pub held_place : HasPlace (held_top held_waits.function f)
  held_place = let w = held_waits in record { instruction = w.instruction; at_pc = w.at_pc; opcode = w.opcode; is_opcode = w.is_opcode }

-- what is on top is a Lua frame
pub lua_is_top : (W : World) (o : Option Frame) → top_shape W o ≡ lua_top → (f : LuaFrame) × (o ≡ Some (lua f))
lua_is_top W (Some (lua f)) h = (f, refl)
lua_is_top W _ h = absurd (cc)

pub lua_settles : (n : ℕ) (W : World) → Solid n W → WaitsUnder n (Some lua_top) W → Settled n W
lua_settles n W s h =
    let f = lua_is_top W (last h.all.frames) h.top in
    record { top = held_top (held_waits n W s h.all f.0 f.1).function f.0; is_top = held_is n W s h.all f.0 f.1; fits = tt }
