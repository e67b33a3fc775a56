-- One step of the machine, whatever the last one ended with.
use Rattle.code_core.specs.Prototype.{Prototype}
use Rattle.std.proofs.Common.{ℕ, ◌<◌, ◌≡◌, [], ◌∷◌, ◌++◌, Option, Some, None, refl, sym, ap, subst, ◌∙◌, Bool, true, false}
use Rattle.int_core.specs.Value.{Value, last}
use Rattle.list_laws.proofs.Ends.{last_is}
use Rattle.machine_core.specs.World.{Frame, lua, World}
use Rattle.machine_core.specs.Moves.{runs_main, see_top, TopShape, lua_top, no_top, top_shape, Ending, go, returned, asks, calls_primitive, raised, unwinding, Row, act, ends, run}
use Rattle.machine_core.specs.FrameRows.{hand_over, handed_to, unwound, raised_row}
use Rattle.machine_core.specs.MachineStep.{step_by}
use Rattle.lua_meaning.specs.World.{breaks}
use Rattle.lua_meaning.specs.Calls as calls
use Rattle.lua_meaning.specs.Step.{Primitives, does_primitive, tick, tick_by}
use Rattle.code_means.specs.Runs.{codes_run}
use Rattle.machine_sound.specs.Sound.{Solid, Settled, StackWaits}
use Rattle.machine_means.specs.Joined.{TalkWorld, Joined}
use Rattle.machine_means.specs.Stands.{Stands, results_come, error_raised, error_leaves, primitive_called, code_runs, ComesTo}
use Rattle.machine_means.proofs.Handing.{ending_of, hand_over_is}
use Rattle.machine_means.proofs.AtRest.{stack_now, see_is}
use Rattle.machine_means.proofs.Giving.{ends_joined, fails_joined}
use Rattle.machine_means.proofs.Protected.{results_reach, errors_reach}
use Rattle.machine_means.proofs.Catching.{errors_raised}
use Rattle.machine_means.proofs.Steps.{none_last, no_talks, ending_in, not_raised, not_unwinding}
use Rattle.means_steps.specs.Steps.{Leads, SameLibrary, StepsLead}
use Rattle.means_steps.proofs.Within.{comes_leads, gives_leads, handed_to_free, unwound_free, raised_row_free}
use Rattle.means_steps.proofs.Steps.{running_steps}
use Rattle.means_steps.proofs.Hears.{results_heard, error_heard}
use Rattle.means_steps.proofs.Asking.{LuaIn, asked_leads}
use Rattle.means_steps.proofs.Mains.{main_returns, main_fails}

-- how the frame on top is seen

not_none : (W : World) (m : Frame) → top_shape W (Some m) ≡ no_top true → ⊥
not_none W (lua f) e = cc
not_none W _ e = cc

not_lua : (W : World) (o : Option Frame) → (LuaIn o → ⊥) → top_shape W o ≡ lua_top → ⊥
not_lua W (Some (lua f)) n e = n tt
not_lua W _ n e = cc

-- results that are on their way to the frame on top end a row so

only_go : (top : TopShape) → Some (ending_of top) ≡ Some returned → top ≡ lua_top → ⊥
only_go lua_top e q = cc
only_go _ e q = cc

not_calling : (top : TopShape) (n : ℕ) → Some (ending_of top) ≡ Some (calls_primitive n) → ⊥
not_calling lua_top n e = cc
not_calling _ n e = cc

module _ (primitives : ℕ) (rows : ℕ → Row) (library : Primitives Prototype) (same : SameLibrary primitives rows library) (M : World) (T : TalkWorld) (solid : Solid primitives M) where
  -- a Lua frame is on top
  goes : Settled primitives M → Stands go M T → Leads library M.printed (tick codes_run library T) (step_by rows go M)
  goes s (code_runs _ _ w) = running_steps primitives rows library M T solid s w
  goes s (results_come _ _ _ reached now joined) =
      let t = s.is_top in
      results_heard rows library primitives M T solid t.coroutine (t.base ++ lua t.top ∷ []) t.last t.frames t.top (last_is t.base (lua t.top)) joined now

  module _ (waits : StackWaits primitives M) where
    handed_ending : (ending : Ending) → Joined false M T → run hand_over [] M ≡ ends ending M → Some (ending_of (top_shape M (last waits.frames))) ≡ Some ending
    handed_ending ending joined reached =
        sym (ap ending_in (hand_over_is M (record { coroutine = waits.coroutine; frames = waits.frames }) [] (stack_now primitives M T false (record { solid = solid; waits = waits; joined = joined })))) ∙ ap ending_in reached

    -- the row of what is on top
    seen_at : (lax : Bool) → Joined lax M T → (row : TopShape → Row) (o : Option Frame) → last waits.frames ≡ o → run (act see_top (λ _ top. row top)) [] M ≡ run (row (top_shape M o)) [] M
    seen_at lax joined row o at = see_is primitives M T lax (record { solid = solid; waits = waits; joined = joined }) (λ _ top. row top) [] ∙ ap (λ o. run (row (top_shape M o)) [] M) at

    -- results reach a frame of another kind, or the coroutine's end
    hands_on : (o : Option Frame) → last waits.frames ≡ o → (LuaIn o → ⊥) → (joined : Joined false M T) → Leads library M.printed (calls.handed codes_run T M.moving T.frames) (run (act see_top (λ _ top. handed_to top)) [] M)
    hands_on (Some m) at n joined =
        let seen = seen_at false joined handed_to (Some m) at in
        subst (λ o. Leads library M.printed (calls.handed codes_run T M.moving T.frames) o) (sym seen)
        (comes_leads library M.printed (handed_to (top_shape M (Some m))) [] M (calls.handed codes_run T M.moving T.frames) (handed_to_free (top_shape M (Some m)) (not_none M m))
        (subst (λ o. ComesTo o (calls.handed codes_run T M.moving T.frames)) seen (results_reach primitives M T (record { solid = solid; waits = waits; joined = joined }) m at (λ l. n l))))
    hands_on None at n joined = subst (λ o. Leads library M.printed (calls.handed codes_run T M.moving T.frames) o) (sym (seen_at false joined handed_to None at)) (by (runs_main M) refl)
      where
        by : (b : Bool) → runs_main M ≡ b → Leads library M.printed (calls.handed codes_run T M.moving T.frames) (run (handed_to (no_top b)) [] M)
        by true e = main_returns primitives M T false solid waits joined e library (none_last waits.frames at)
        by false e =
            gives_leads library M.printed (run (handed_to (no_top false)) [] M) (calls.handed codes_run T M.moving T.frames)
            (ends_joined primitives M T (record { solid = solid; waits = waits; resumed = e; joined = joined }) (none_last waits.frames at))

    returns : Stands returned M T → Leads library M.printed (tick codes_run library T) (step_by rows returned M)
    returns (results_come _ _ _ reached now joined) =
        (subst (λ X. Leads library M.printed X (step_by rows returned M)) (sym (ap (λ nw. tick_by codes_run library nw T) now)) (hands_on (last waits.frames) refl (no_lua (last waits.frames) (handed_ending returned joined reached)) joined))
      where
        no_lua : (o : Option Frame) → Some (ending_of (top_shape M o)) ≡ Some returned → LuaIn o → ⊥
        no_lua (Some (lua f)) e i = only_go lua_top e refl
        no_lua _ e i = i

    -- an error was raised
    raises : Stands raised M T → Leads library M.printed (tick codes_run library T) (step_by rows raised M)
    raises (error_raised _ _ e moves now joined) =
        (subst (λ X. Leads library M.printed X (step_by rows raised M)) (sym (ap (λ nw. tick_by codes_run library nw T) now))
        (comes_leads library M.printed raised_row [] M (calls.raised_to codes_run T e T.frames) raised_row_free (errors_raised primitives M T (record { solid = solid; waits = waits; joined = joined }) e moves)))
    raises (results_come _ _ _ reached now joined) = absurd (not_raised (top_shape M (last waits.frames)) (handed_ending raised joined reached))

    -- an error leaves frames
    unwinds_on : (joined : Joined true M T) (e : Value) → M.moving ≡ e ∷ [] → (o : Option Frame) → last waits.frames ≡ o → (LuaIn o → ⊥) → Leads library M.printed (calls.unwound codes_run T e T.frames) (run (act see_top (λ _ top. unwound top)) [] M)
    unwinds_on joined e moves (Some m) at n =
        let seen = seen_at true joined unwound (Some m) at in
        subst (λ o. Leads library M.printed (calls.unwound codes_run T e T.frames) o) (sym seen)
        (comes_leads library M.printed (unwound (top_shape M (Some m))) [] M (calls.unwound codes_run T e T.frames) (unwound_free (top_shape M (Some m)) (not_lua M (Some m) n) (not_none M m))
        (subst (λ o. ComesTo o (calls.unwound codes_run T e T.frames)) seen (errors_reach primitives M T (record { solid = solid; waits = waits; joined = joined }) m at (λ l. n l) e moves)))
    unwinds_on joined e moves None at n = subst (λ o. Leads library M.printed (calls.unwound codes_run T e T.frames) o) (sym (seen_at true joined unwound None at)) (by (runs_main M) refl)
      where
        by : (b : Bool) → runs_main M ≡ b → Leads library M.printed (calls.unwound codes_run T e T.frames) (run (unwound (no_top b)) [] M)
        by true q = main_fails primitives M T true solid waits joined q library (none_last waits.frames at) e moves
        by false q =
            subst (λ X. Leads library M.printed X (run (unwound (no_top false)) [] M)) (sym (ap (calls.unwound codes_run T e) (no_talks primitives M T solid waits true joined (none_last waits.frames at))))
            (gives_leads library M.printed (run (unwound (no_top false)) [] M) (calls.fails_all codes_run T e) (fails_joined primitives M T (record { solid = solid; waits = waits; resumed = q; joined = joined }) e moves))

    leaves : Stands unwinding M T → Leads library M.printed (tick codes_run library T) (step_by rows unwinding M)
    leaves (error_leaves _ _ e moves now joined) = by (last waits.frames) refl
      where
        rest : (o : Option Frame) → last waits.frames ≡ o → (LuaIn o → ⊥) → Leads library M.printed (tick codes_run library T) (step_by rows unwinding M)
        rest o at n =
            (subst (λ X. Leads library M.printed X (step_by rows unwinding M)) (sym (ap (λ nw. tick_by codes_run library nw T) now)) (unwinds_on joined e moves o at n))

        by : (o : Option Frame) → last waits.frames ≡ o → Leads library M.printed (tick codes_run library T) (step_by rows unwinding M)
        by (Some (lua fr)) at = error_heard rows library primitives M T solid waits.coroutine waits.frames waits.last waits.running fr at joined e moves now
        by o at = rest o at (λ z. z)
    leaves (results_come _ _ _ reached now joined) = absurd (not_unwinding (top_shape M (last waits.frames)) (handed_ending unwinding joined reached))

    -- a primitive is called
    calls_one : (n : ℕ) → n < primitives → Stands (calls_primitive n) M T → Leads library M.printed (tick codes_run library T) (step_by rows (calls_primitive n) M)
    calls_one n l (primitive_called _ _ _ now joined) =
        let p = same n l in
        (subst (λ X. Leads library M.printed X (step_by rows (calls_primitive n) M)) (sym (ap (λ nw. tick_by codes_run library nw T) now ∙ ap (λ o. elim o as (λ _. TalkWorld) [ None ↦ breaks T | Some p ↦ does_primitive codes_run library.builds p T M.moving ]) p.1))
        (p.2 library primitives M T (record { solid = solid; waits = waits; joined = joined })))
    calls_one n l (results_come _ _ _ reached now joined) = absurd (not_calling (top_shape M (last waits.frames)) n (handed_ending (calls_primitive n) joined reached))

pub steps_lead : StepsLead
steps_lead primitives rows library same go g M T a s = goes primitives rows library same M T a.sound.solid a.ready s
steps_lead primitives rows library same returned g M T a s = returns primitives rows library same M T a.sound.solid a.ready s
steps_lead primitives rows library same asks g M T a s = asked_leads rows library primitives M T a.sound.solid a.ready s
steps_lead primitives rows library same (calls_primitive n) g M T a s = calls_one primitives rows library same M T a.sound.solid a.ready.all n a.ready.there s
steps_lead primitives rows library same raised g M T a s = raises primitives rows library same M T a.sound.solid a.ready s
steps_lead primitives rows library same unwinding g M T a s = leaves primitives rows library same M T a.sound.solid a.ready s
steps_lead primitives rows library same _ g M T a s = absurd g
