-- Steps that hand results or an error to frames that are no Lua functions'.
use Rattle.code_core.specs.Prototype.{Prototype}
use Rattle.std.proofs.Common.{ℕ, ◌≡◌, List, [], ◌∷◌, length, Option, Some, None, refl, sym, ap, subst, ◌∙◌, Bool, true, false}
use Rattle.std.specs.Prelude.{slice_get}
use Rattle.int_core.specs.Value.{Value, last}
use Rattle.machine_core.specs.World as machine
use Rattle.machine_core.specs.World.{Frame}
use Rattle.machine_core.specs.Moves.{TopShape, lua_top, pcall_top, xpcall_top, handler_top, closing_top, no_top, top_shape, Outcome, trapped, ends, see_top, Ending, returned, asks, raised, unwinding, Row, act, run}
use Rattle.machine_core.specs.FrameRows.{hand_over, handed_to, unwound}
use Rattle.machine_core.specs.MachineStep.{step_by}
use Rattle.lua_meaning.specs.Calls as calls
use Rattle.lua_meaning.specs.Step.{Primitives, tick, tick_by}
use Rattle.code_means.specs.Runs.{codes_run}
use Rattle.machine_sound.specs.Sound.{Solid, StackWaits}
use Rattle.machine_means.specs.Joined.{TalkWorld, Joined}
use Rattle.machine_means.specs.Stands.{Stands, results_come, error_raised, error_leaves, ComesTo, IsHanding, NoLuaTop, HandingSteps}
use Rattle.machine_means.proofs.Frames.{own_stack}
use Rattle.machine_means.proofs.AtRest.{stack_now, only, see_is, from_gives}
use Rattle.machine_means.proofs.Handing.{ending_of, hand_over_is}
use Rattle.machine_means.proofs.Giving.{none_reversed, no_frames, ends_joined, fails_joined}
use Rattle.machine_means.proofs.Protected.{results_reach, errors_reach}
use Rattle.machine_means.proofs.Catching.{errors_raised}

pub none_last : {A : Type 0} (xs : List A) → last xs ≡ None → xs ≡ []
none_last [] e = refl
none_last (x ∷ xs) e = absurd (there x xs e)
  where
    there : {A : Type 0} (x : A) (xs : List A) → slice_get (x ∷ xs) (length xs) ≡ None → ⊥
    there x [] e = cc
    there x (y ∷ ys) e = there y ys e

abbrev pub ending_in : Outcome → Option Ending
ending_in trapped = None
ending_in (ends ending W) = Some ending

-- results that are handed over end no row by an error
pub not_raised : (top : TopShape) → Some (ending_of top) ≡ Some raised → ⊥
not_raised lua_top e = cc
not_raised _ e = cc

pub not_unwinding : (top : TopShape) → Some (ending_of top) ≡ Some unwinding → ⊥
not_unwinding lua_top e = cc
not_unwinding _ e = cc

module _ (primitives : ℕ) (M : machine.World) (T : TalkWorld) (solid : Solid primitives M) (waits : StackWaits primitives M) where
  -- a stack without frames is one in the other world
  pub no_talks : (lax : Bool) (k : Joined lax M T) → waits.frames ≡ [] → T.frames ≡ []
  no_talks lax k none =
      let o = own_stack M T waits.coroutine waits.frames lax k waits.running (only primitives M T lax (record { solid = solid; waits = waits; joined = k })) in
      no_frames lax M.functions T.cells o.2.ms T.frames o.0 (none_reversed o.2.ms (sym o.2.listed ∙ none)) o.2.below

  handed_over : (k : Joined false M T) → ending_in (run hand_over [] M) ≡ Some (ending_of (top_shape M (last waits.frames)))
  handed_over k = ap ending_in (hand_over_is M (record { coroutine = waits.coroutine; frames = waits.frames }) [] (stack_now primitives M T false (record { solid = solid; waits = waits; joined = k })))

  pub not_asks : Joined false M T → run hand_over [] M ≡ ends asks M → ⊥
  not_asks k reached = none (top_shape M (last waits.frames)) (sym (handed_over k) ∙ ap ending_in reached)
    where
      none : (top : TopShape) → Some (ending_of top) ≡ Some asks → ⊥
      none lua_top e = cc
      none pcall_top e = cc
      none xpcall_top e = cc
      none handler_top e = cc
      none closing_top e = cc
      none (no_top b) e = cc

module _ (primitives : ℕ) (M : machine.World) (T : TalkWorld) (solid : Solid primitives M) (waits : StackWaits primitives M) (top : NoLuaTop M waits.frames) where
  results : (k : Joined false M T) → ComesTo (run (act see_top (λ _ top. handed_to top)) [] M) (calls.handed codes_run T M.moving T.frames)
  results k = from (last waits.frames) refl
    where
      from : (o : Option Frame) → last waits.frames ≡ o → ComesTo (run (act see_top (λ _ top. handed_to top)) [] M) (calls.handed codes_run T M.moving T.frames)
      from (Some m) at = results_reach primitives M T (record { solid = solid; waits = waits; joined = k }) m at (top.top m at)
      from None at =
          let none = none_last waits.frames at in
          let b = top.resumed none in
          subst (λ o. ComesTo o (calls.handed codes_run T M.moving T.frames)) (sym (see_is primitives M T false (record { solid = solid; waits = waits; joined = k }) (λ _ top. handed_to top) [] ∙ ap (λ o. run (handed_to (top_shape M o)) [] M) at ∙ ap (λ b. run (handed_to (no_top b)) [] M) b))
          (from_gives (run (handed_to (no_top false)) [] M) (calls.handed codes_run T M.moving T.frames) (ends_joined primitives M T (record { solid = solid; waits = waits; resumed = b; joined = k }) none))

  errors : (k : Joined true M T) (e : Value) → M.moving ≡ e ∷ [] → ComesTo (run (act see_top (λ _ top. unwound top)) [] M) (calls.unwound codes_run T e T.frames)
  errors k e moves = from (last waits.frames) refl
    where
      from : (o : Option Frame) → last waits.frames ≡ o → ComesTo (run (act see_top (λ _ top. unwound top)) [] M) (calls.unwound codes_run T e T.frames)
      from (Some m) at = errors_reach primitives M T (record { solid = solid; waits = waits; joined = k }) m at (top.top m at) e moves
      from None at =
          let none = none_last waits.frames at in
          let b = top.resumed none in
          subst (λ o. ComesTo o (calls.unwound codes_run T e T.frames)) (sym (see_is primitives M T true (record { solid = solid; waits = waits; joined = k }) (λ _ top. unwound top) [] ∙ ap (λ o. run (unwound (top_shape M o)) [] M) at ∙ ap (λ b. run (unwound (no_top b)) [] M) b))
          (subst (λ U. ComesTo (run (unwound (no_top false)) [] M) U) (sym (ap (calls.unwound codes_run T e) (no_talks primitives M T solid waits true k none)))
          (from_gives (run (unwound (no_top false)) [] M) (calls.fails_all codes_run T e) (fails_joined primitives M T (record { solid = solid; waits = waits; resumed = b; joined = k }) e moves)))

  module _ (rows : ℕ → Row) (known : Primitives Prototype) where
    handing : (ending : Ending) → IsHanding ending → Stands ending M T → ComesTo (step_by rows ending M) (tick codes_run known T)
    handing returned h (results_come _ _ _ reached now k) = subst (λ U. ComesTo (step_by rows returned M) U) (sym (ap (λ n. tick_by codes_run known n T) now)) (results k)
    handing raised h (error_raised _ _ e moves now k) =
        subst (λ U. ComesTo (step_by rows raised M) U) (sym (ap (λ n. tick_by codes_run known n T) now)) (errors_raised primitives M T (record { solid = solid; waits = waits; joined = k }) e moves)
    handing unwinding h (error_leaves _ _ e moves now k) = subst (λ U. ComesTo (step_by rows unwinding M) U) (sym (ap (λ n. tick_by codes_run known n T) now)) (errors k e moves)
    handing raised h (results_come _ _ _ reached now k) = absurd (not_raised (top_shape M (last waits.frames)) (sym (handed_over primitives M T solid waits k) ∙ ap ending_in reached))
    handing unwinding h (results_come _ _ _ reached now k) = absurd (not_unwinding (top_shape M (last waits.frames)) (sym (handed_over primitives M T solid waits k) ∙ ap ending_in reached))
    handing _ h s = absurd h

pub handing_steps : HandingSteps
handing_steps primitives rows known ending h M T solid waits top s = handing primitives M T solid waits top rows known ending h s
