-- Turns and runs keep it so that no value that a script reaches is the environment.
use Rattle.std.proofs.Common.{ℕ, zero, ◌≡◌, ◌≤◌, List, [], ◌∷◌, ◌++◌, Option, Some, None, refl, subst, length, map}
use Rattle.std.specs.Prelude.{slice_get, option_map}
use Rattle.int_core.specs.Value.{greatest_string}
use Rattle.code_core.specs.Prototype.{Prototype}
use Rattle.library_rows.specs.Library.{all_entries}
use Rattle.load_rows.specs.Loading.{Builds}
use Rattle.machine_core.specs.World.{World}
use Rattle.machine_core.specs.Moves.{Made, ResumeShape, Ending, calls_primitive, spent, main_yielded, main_returned, main_failed, Outcome, trapped, ends}
use Rattle.machine_core.specs.PrimitiveRows.{load_row}
use Rattle.machine_core.specs.MachineStep.{steps}
use Rattle.machine_sound.specs.Sound.{Each, idle, Sound}
use Rattle.machine_sound.specs.Laws.{SoundAfter, PrimitivesSafe}
use Rattle.machine_sound.proofs.Lists.{each_none, each_tail, some_is}
use Rattle.machine_runs.specs.Opening.{handed_line}
use Rattle.machine_runs.specs.Runs.{resumed_main, after_waking, wakes, with_budget, turn, Run, turn_text, closes, has_returned, has_failed, has_spent, behind, suspends, at_end, run_from, CodeRun, CodeOnward}
use Rattle.machine_runs.specs.Laws.{MayTurn, YieldsLeaveMainWaiting}
use Rattle.machine_runs.proofs.Waking.{wakes_good, budget_solid, budget_turn}
use Rattle.machine_runs.proofs.Opening.{handed_sound, handed_may_turn}
use Rattle.machine_runs.proofs.MainWaits.{turn_yields}
use Rattle.machine_runs.proofs.Yields.{loads_never_yield}
use Rattle.prelude_stays.specs.Guards.{Guard, unguarded}
use Rattle.prelude_stays.specs.Kept.{Home, Apart, Keeps}
use Rattle.prelude_stays.specs.Laws.{Stays, StaysAtEnd, library, OpeningStays, BegunStays, StepsStay, RunsStay, OnwardStays}
use Rattle.prelude_stays.proofs.Worlds.{MadeKeeps, made_bind, EndKeeps, moving_keeps, changed}
use Rattle.prelude_stays.proofs.Coroutines.{starts_keeps}
use Rattle.prelude_stays.proofs.Primitives.{numbered_keeps, load_keeps, after_resume_keeps}
use Rattle.prelude_stays.proofs.Steps.{then_keeps, steps_keep}
use Rattle.prelude_stays.proofs.Opening.{guard_of, opening_keeps, begun_keeps, handed_keeps}
use Rattle.functions_stay.proofs.Runs.{map_some, none_some}

pub opening_stays : OpeningStays
opening_stays prelude g = (map guard_of prelude, opening_keeps prelude g)

pub begun_stays : BegunStays
begun_stays h W main k = (k.0 ++ unguarded ∷ [], begun_keeps h k.0 W k.1 main)

module _ (builds : Builds Prototype) (y : Home) (safe : PrimitivesSafe (length all_entries) (library builds)) where
  pub steps_stay : (count : ℕ) (e : Ending) (W : World) → SoundAfter (length all_entries) e W → Stays y W → EndKeeps y (steps (library builds) count e W)
  steps_stay count e W s k = steps_keep y (length all_entries) (library builds) safe (λ n. numbered_keeps (load_row builds) (load_keeps builds) n) count k.0 e W s k.1

  main_keeps : (gs : List Guard) (W : World) → Keeps y gs W → MadeKeeps y (resumed_main W)
  main_keeps gs W k =
      made_bind y W.main _ (λ co e. made_bind y (slice_get W.coroutines co) _ (λ c q.
      starts_keeps y gs (record W { moving = [] }) co c W.moving (moving_keeps y gs W [] k (each_none (Apart y.table))) (λ _. q) (k.coroutines co c q) k.moving))

  waking_keeps : (d : Option (Made ResumeShape)) → MadeKeeps y d → EndKeeps y (after_waking d)
  waking_keeps None h = tt
  waking_keeps (Some d) h = (after_resume_keeps d.told).goes h.0 [] d.world (each_none (Apart y.table)) h.1

  wakes_keeps : (gs : List Guard) (W : World) → Keeps y gs W → EndKeeps y (wakes W)
  unfolding wakes
  wakes_keeps gs W k = waking_keeps (resumed_main W) (main_keeps gs W k)

  budget_keeps : (gs : List Guard) (W : World) (budget : ℕ) → Keeps y gs W → Keeps y gs (with_budget W budget)
  budget_keeps gs W budget k = changed y gs W (with_budget W budget) k refl refl k.heap (λ c h. h) k.cell k.coroutines k.moving

  turn_keeps : (count : ℕ) (W : World) (budget : ℕ) → Sound (length all_entries) W → MayTurn W → Stays y W → EndKeeps y (turn (library builds) count W budget)
  turn_keeps count W budget s t k =
      then_keeps y (length all_entries) (wakes (with_budget W budget)) (steps (library builds) count)
      (wakes_good (length all_entries) (with_budget W budget) (record { solid = budget_solid (length all_entries) W budget s.solid; rests = idle t.idle }) (budget_turn W budget t))
      (wakes_keeps k.0 (with_budget W budget) (budget_keeps k.0 W budget k.1)) (λ gs e V a h. steps_stay count e V a (gs, h))

  end_stays : (o : Outcome) (goes : World → Option Run) (r : Run) → EndKeeps y o → at_end o goes ≡ Some r → ((V : World) (x : Run) → o ≡ ends main_yielded V → goes V ≡ Some x → Stays y V → Stays y x.last) → Stays y r.last
  end_stays (ends main_yielded V) goes r h e f =
      let m = map_some (behind (turn_text main_yielded V)) (goes V) r e in
      subst (λ (r : Run). Stays y r.last) m.2 (f V m.0 refl m.1 h)
  end_stays (ends main_returned V) goes r h e f = subst (λ (r : Run). Stays y r.last) (some_is {o = Some (closes main_returned has_returned V)} refl e) h
  end_stays (ends main_failed V) goes r h e f = subst (λ (r : Run). Stays y r.last) (some_is {o = Some (closes main_failed has_failed V)} refl e) h
  end_stays (ends spent V) goes r h e f = subst (λ (r : Run). Stays y r.last) (some_is {o = Some (closes spent has_spent V)} refl e) h
  end_stays (ends (calls_primitive n) V) goes r h e f = absurd (none_some r e)
  end_stays _ goes r h e f = absurd (none_some r e)

  suspended_stays : (V : World) (x : Run) → suspends V ≡ Some x → Stays y V → Stays y x.last
  suspended_stays V x e h = subst (λ (r : Run). Stays y r.last) (some_is {o = suspends V} refl e) h

  module _ (yields : YieldsLeaveMainWaiting) where
    from_run : (count : ℕ) (input : List (List ℕ)) (W : World) (budget : ℕ) (r : Run) → Sound (length all_entries) W → MayTurn W → Each (λ line. length line ≤ greatest_string) input → Stays y W
        → run_from (library builds) count W input budget ≡ Some r → Stays y r.last
    from_run count [] W budget r s t l k e = end_stays (turn (library builds) count W budget) suspends r (turn_keeps count W budget s t k) e (λ V x q z h. suspended_stays V x z h)
    from_run count (line ∷ more) W budget r s t l k e =
        end_stays (turn (library builds) count W budget) (λ V. run_from (library builds) count (handed_line V line) more budget) r (turn_keeps count W budget s t k) e (λ V x q z h.
        let a = yields (load_row builds) (loads_never_yield builds) (length all_entries) safe count W budget V s t q in
        from_run count more (handed_line V line) budget x (handed_sound (length all_entries) V line a.0 a.1.idle (l zero line refl)) (handed_may_turn V line a.1) (each_tail (λ line. length line ≤ greatest_string) line more l)
        (h.0, handed_keeps y h.0 V line h.1) z)

    pub run_stays : (W : World) (input : List (List ℕ)) (budget : ℕ) (r : Run) → Sound (length all_entries) W → MayTurn W → Each (λ line. length line ≤ greatest_string) input → Stays y W → CodeRun (library builds) W input budget r → Stays y r.last
    run_stays W input budget r s t l k c = from_run c.count input W budget r s t l k c.gives

    pub onward_stays : (W : World) (input : List (List ℕ)) (budget : ℕ) (r : Run) → Sound (length all_entries) W → MayTurn W → Each (λ line. length line ≤ greatest_string) input → Stays y W → CodeOnward (library builds) W input budget r → Stays y r.last
    onward_stays W [] budget r s t l k c = suspended_stays W r c.gives k
    onward_stays W (line ∷ more) budget r s t l k c =
        from_run c.count more (handed_line W line) budget r (handed_sound (length all_entries) W line s t.idle (l zero line refl)) (handed_may_turn W line t) (each_tail (λ line. length line ≤ greatest_string) line more l)
        (k.0, handed_keeps y k.0 W line k.1) c.gives

end_of : (y : Home) (o : Outcome) → EndKeeps y o → StaysAtEnd y o
end_of y trapped h = tt
end_of y (ends e V) h = h

pub steps_stay_so : StepsStay
steps_stay_so builds y safe count e W s k = end_of y (steps (library builds) count e W) (steps_stay builds y safe count e W s k)

pub runs_stay : RunsStay
runs_stay builds y safe W input budget r s t l k c = run_stays builds y safe turn_yields W input budget r s t l k c

pub onward_stays_so : OnwardStays
onward_stays_so builds y safe W input budget r s t l k c = onward_stays builds y safe turn_yields W input budget r s t l k c
