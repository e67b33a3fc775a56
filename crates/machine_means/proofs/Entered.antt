-- A function is entered on top of the coroutine that runs, and runs in both worlds.
use Rattle.std.proofs.Common.{ℕ, ◌<◌, ◌≡◌, List, [], ◌∷◌, ◌++◌, length, Some, refl, sym, ap, subst, ◌∙◌, arith, false, cond}
use Rattle.std.specs.Prelude.{slice_get, slice_set, take, drop}
use Rattle.int_core.specs.Value.{Value, fitted}
use Rattle.int_core.specs.Limits.{greatest_depth}
use Rattle.list_laws.specs.Held.{Held}
use Rattle.list_laws.proofs.Ends.{upward, length_upward}
use Rattle.machine_core.specs.World as machine
use Rattle.machine_core.specs.World.{Frame, lua, in_progress, push, put_frames}
use Rattle.machine_core.specs.Moves.{new_frame}
use Rattle.machine_core.specs.Talk.{talk_start}
use Rattle.lua_meaning.specs.World as talk
use Rattle.lua_meaning.specs.World.{talking, talks}
use Rattle.machine_means.specs.Joined.{TalkWorld, Stacks, CoroutinesPair, Joined}
use Rattle.machine_means.specs.Works.{RunsOver, Works}
use Rattle.machine_means.proofs.Held.{reverse_is}
use Rattle.machine_means.proofs.Switches.{OnlyRuns, co_put, set_same, running_is}
use Rattle.machine_means.proofs.Frames.{cells_hold, holds_nothing, found}

module _ (M : machine.World) (U : TalkWorld) (co : ℕ) (frames : List Frame) (k : Joined false M U) (runs : slice_get M.coroutines co ≡ Some (in_progress frames)) (only : OnlyRuns M.coroutines co)
    (n : ℕ) (f : machine.Function) (there : slice_get M.functions n ≡ Some f) (vs : List Value) (fuel : ℕ) (room : length frames < greatest_depth) (mv : List Value) where
  abbrev pub entered : machine.World
  entered = push (record M { fuel = fuel; moving = mv }) (record { coroutine = co; frames = frames }) (new_frame n f.code vs)

  abbrev pub talks_so : TalkWorld
  talks_so = record U { fuel = fuel; frames = talking n (talk_start f.code vs) ∷ U.frames; now = talks }

  pub works : Works entered talks_so
  unfolding push put_frames
  works =
      let p = found M U co frames false k runs only in
      let run0 : List Frame → List Held → Type 0 = λ fr hs. Stacks false M.functions U.cells fr U.frames hs in
      let r = running_is M.functions U.cells run0 frames p.0 p.1 p.4 in
      let st = r.1 in
      let up : frames ≡ upward st.ms = st.listed ∙ reverse_is st.ms in
      let size : length frames ≡ length st.ms = ap (λ l. length l) up ∙ length_upward st.ms in
      let going : slice_get U.coroutines co ≡ Some talk.running = p.2 ∙ ap Some r.0 in
      let start : machine.Activation = record { pc = 0; registers = fitted f.code.own.stack (take f.code.own.params vs); varargs = cond f.code.own.vararg (drop f.code.own.params vs) []; pending = []; opened = 0 } in
      let fr : machine.LuaFrame = record { function = n; wait = machine.running; own = start } in
      record {
        heap = k.heap;
        globals = k.globals;
        printed = k.printed;
        fuel = refl;
        chain = k.chain;
        functions = k.functions;
        now = refl;
        frame = fr;
        runs = refl;
        function = f;
        there = there;
        a = start;
        captured = record { held = []; gone = [] };
        alike = record { fixed = refl; values = λ r. refl; size = omega arith };
        not_own = λ r c u m e. absurd m;
        below = st.ms;
        talks_below = U.frames;
        top = refl;
        held = slice_set k.held co ([] ∷ p.1);
        cells = cells_hold M.cells U.cells k.held k.cells co p.1 ([] ∷ p.1) p.3 (holds_nothing p.1);
        coroutines =
            subst (λ ds. CoroutinesPair M.functions U.cells (RunsOver M.functions U.cells fr st.ms U.frames []) (slice_set M.coroutines co (in_progress (frames ++ lua fr ∷ []))) ds (slice_set k.held co ([] ∷ p.1)))
            (set_same U.coroutines co talk.running going)
            (co_put M.functions U.cells run0 (RunsOver M.functions U.cells fr st.ms U.frames []) M.coroutines U.coroutines k.held co (in_progress frames) (in_progress (frames ++ lua fr ∷ [])) talk.running talk.running p.1 ([] ∷ p.1)
            (λ j fr e n. n (sym (only j fr e))) runs going p.3
            (record {
              more = p.1;
              is_held = refl;
              listed = ap (λ l. l ++ lua fr ∷ []) up ∙ sym (reverse_is (lua fr ∷ st.ms));
              waits = st.below;
              depth = subst (λ n. n < greatest_depth) size room;
            }) k.coroutines);
      }
