-- Rows from a world in which all frames of the running coroutine wait: what is on top is seen, and popped.
use Rattle.std.proofs.Common.{ℕ, ◌≡◌, List, [], ◌∷◌, ◌++◌, length, Some, None, refl, ap, subst, Bool, true, false}
use Rattle.std.specs.Prelude.{slice_set}
use Rattle.int_core.specs.Value.{Value, bind, last, without_last}
use Rattle.list_laws.proofs.Items.{get_set_same}
use Rattle.machine_core.specs.World as machine
use Rattle.machine_core.specs.World.{Frame, in_progress, Stack, stack_of, pop, put_frames}
use Rattle.machine_core.specs.Moves.{TopShape, top_shape, made, see_top, pop_frame, unwinding, Row, act, stop, Outcome, trapped, run}
use Rattle.machine_core.specs.FrameRows.{then, hand_over}
use Rattle.lua_meaning.specs.World.{now_in, on_frames, gives_back, unwinds}
use Rattle.machine_sound.proofs.Frames.{stack_is}
use Rattle.machine_means.specs.Joined.{TalkWorld, under, Joined}
use Rattle.machine_means.specs.Laws.{GivesBack}
use Rattle.machine_means.specs.Stands.{results_come, error_leaves, ComesTo, AtRest}
use Rattle.machine_means.proofs.Switches.{OnlyRuns}
use Rattle.machine_means.proofs.Running.{only_runs}
use Rattle.machine_means.proofs.Handing.{moved, told_now, gives}
use Rattle.machine_means.proofs.Frames.{OnTop, on_top, popped_off}

pub from_gives : (o : Outcome) (T : TalkWorld) → GivesBack o T → ComesTo o T
from_gives o T g = record { ending = g.ending; world = g.world; is = g.is; stands = results_come g.ending g.world T g.reached g.now g.joined }

module _ (primitives : ℕ) (M : machine.World) (T : TalkWorld) (lax : Bool) (k : AtRest primitives lax M T) where
  abbrev pub co : ℕ
  co = k.waits.coroutine

  abbrev pub frames : List Frame
  frames = k.waits.frames

  abbrev pub stack : Stack
  stack = record { coroutine = co; frames = frames }

  pub stack_now : stack_of M ≡ Some (record { coroutine = k.waits.coroutine; frames = k.waits.frames })
  stack_now = stack_is M co frames k.waits.last k.waits.running

  abbrev pub only : OnlyRuns M.coroutines k.waits.coroutine
  only = only_runs primitives M k.solid k.waits

  abbrev pub Top : Frame → Type 0
  Top m = OnTop M T co frames lax k.joined k.waits.running only m

  pub top : (m : Frame) → last k.waits.frames ≡ Some m → OnTop M T k.waits.coroutine k.waits.frames lax k.joined k.waits.running (only_runs primitives M k.solid k.waits) m
  top m e = on_top M T co frames lax k.joined k.waits.running only m e

  pub see_is : (row : ℕ → TopShape → Row) (env : List Value) → run (act see_top row) env M ≡ run (row (length env) (top_shape M (last k.waits.frames))) (env ++ []) M
  see_is row env =
      ap (λ o. elim (bind (bind o (λ s. Some (top_shape M (last s.frames)))) (λ top. made {A = TopShape} M [] top)) as (λ _. Outcome) [ None ↦ trapped | Some d ↦ run (row (length env) d.told) (env ++ d.values) d.world ]) stack_now

  pub pop_is : (r : Row) (env mv : List Value) → run (then pop_frame r) env (record M { moving = mv }) ≡ run r (env ++ []) (record (pop M (record { coroutine = k.waits.coroutine; frames = k.waits.frames })) { moving = mv })
  unfolding pop put_frames
  pop_is r env mv =
      ap (λ o. elim (bind o (λ s. made {A = Unit {0}} (pop (record M { moving = mv }) s) [] tt)) as (λ _. Outcome) [ None ↦ trapped | Some d ↦ run r (env ++ d.values) d.world ]) stack_now

  pub pop_stack : (mv : List Value) → stack_of (record (pop M (record { coroutine = k.waits.coroutine; frames = k.waits.frames })) { moving = mv }) ≡ Some (record { coroutine = k.waits.coroutine; frames = without_last k.waits.frames })
  unfolding pop put_frames
  pop_stack mv =
      stack_is (record M { coroutines = slice_set M.coroutines co (in_progress (without_last frames)); moving = mv }) co (without_last frames) k.waits.last
      (get_set_same M.coroutines co (in_progress frames) (in_progress (without_last frames)) k.waits.running)

  module _ (m : Frame) (x : OnTop M T k.waits.coroutine k.waits.frames lax k.joined k.waits.running (only_runs primitives M k.solid k.waits) m) (empty : x.h ≡ []) where
    -- results are on their way to the frame under it
    pub popped_gives : under m ≡ false → (mv env : List Value) → ComesTo (run hand_over env (record (pop M (record { coroutine = k.waits.coroutine; frames = k.waits.frames })) { moving = mv })) (now_in (on_frames T x.ts) (gives_back mv))
    popped_gives u mv env =
        let W : machine.World = record (pop M stack) { moving = mv } in
        let U : TalkWorld = now_in (on_frames T x.ts) (gives_back mv) in
        let joined : Joined false (pop M stack) (on_frames T x.ts) = subst (λ b. Joined b (pop M stack) (on_frames T x.ts)) u (popped_off M T co frames lax k.joined k.waits.running only m x empty) in
        from_gives (run hand_over env W) U (gives W U (record { coroutine = co; frames = without_last frames }) env (pop_stack mv) (told_now false W (on_frames T x.ts) (gives_back mv) (moved false (pop M stack) (on_frames T x.ts) mv joined)) refl)

    -- an error leaves it
    pub popped_leaves : under m ≡ true → (e : Value) (env : List Value) → ComesTo (run (stop unwinding) env (record (pop M (record { coroutine = k.waits.coroutine; frames = k.waits.frames })) { moving = e ∷ [] })) (now_in (on_frames T x.ts) (unwinds e))
    popped_leaves u e env =
        let W : machine.World = record (pop M stack) { moving = e ∷ [] } in
        let U : TalkWorld = now_in (on_frames T x.ts) (unwinds e) in
        let joined : Joined true (pop M stack) (on_frames T x.ts) = subst (λ b. Joined b (pop M stack) (on_frames T x.ts)) u (popped_off M T co frames lax k.joined k.waits.running only m x empty) in
        record { ending = unwinding; world = W; is = refl; stands = error_leaves W U e refl refl (told_now true W (on_frames T x.ts) (unwinds e) (moved true (pop M stack) (on_frames T x.ts) (e ∷ []) joined)) }
