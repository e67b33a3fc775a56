-- Turns end: by the fuel, and on one unit by the size of the world; a world that calls a primitive by the coroutines that have not begun.
use Rattle.std.proofs.Common.{◌≡◌, ℕ, zero, suc, ◌+◌, ◌*◌, ◌<◌, ◌≤◌, Bool, true, false, List, [], ◌∷◌, ◌++◌, Option, Some, refl, ap, ◌∙◌, arith}
use Rattle.std.specs.Prelude.{option_map}
use Rattle.tree_core.specs.Tree.{Body}
use Rattle.tree_activation.specs.Work.{Celling, State}
use Rattle.tree_activation.specs.Activation.{start}
use Rattle.lua_meaning.specs.World.{running, yielded, returned, failed_with, spent, broken, Now, ends}
use Rattle.lua_meaning.specs.Step.{has_ended, tick, ticks}
use Rattle.lua_meaning.specs.Meaning.{Script, Meaning, IsMeaning, behind, report, at_end, suspends, begun, handed_line, run_from}
use Rattle.load_rows.specs.Loading.{Builds}
use Rattle.library_rows.specs.Library.{Entry}
use Rattle.lua_meaning.specs.Opening.{primitives}
use Rattle.lua_meaning.specs.TreeMeaning.{trees, tree_opening}
use Rattle.lua_meaning.proofs.Runs.{ended_within, given_within}
use Rattle.meaning_ends.proofs.Measure.{measure}
use Rattle.meaning_ends.specs.Turns.{History, began, went_on, was_handed, world_after, Ends}
use Rattle.meaning_ends.proofs.Sizes.{cost, is_call, Fits, CanEnd, over, fresh_count}
use Rattle.meaning_ends.proofs.Moves.{Run, Goes, has_end, spends, gets_less, tick_goes, After, has_end_too, spends_too, settles, begins_one, call_after}

module _ (celling : Celling) (builds : Builds Body) where
  later : (W : Run) → Ends celling builds (tick (trees celling) (primitives builds) W) → Ends celling builds W
  later W e = (suc e.0, by (has_ended W.now) refl) where
    by : (t : Bool) → has_ended W.now ≡ t → has_ended (elim t as (λ _. Run) [ true ↦ W | false ↦ ticks (trees celling) (primitives builds) e.0 (tick (trees celling) (primitives builds) W) ]).now ≡ true
    by true is = is
    by false is = e.1

  abbrev Below : ℕ → Type 0
  Below b = (V : Run) → V.fuel < b → CanEnd V → Ends celling builds V

  -- worlds that call no primitive, with at most this fuel and of a size below n
  abbrev Smaller : (b n : ℕ) → Type 0
  Smaller b n = (V : Run) (m : ℕ) → V.fuel ≤ b → is_call V.now ≡ false → Fits V.chain V.frames V.coroutines m → m + cost V.now < n → Ends celling builds V

  goes_to_end : (b n : ℕ) → Below b → Smaller b n → (U : Run) → Goes b n U → Ends celling builds U
  goes_to_end b n below again U (has_end e can) = (0, e)
  goes_to_end b n below again U (spends h can) = below U h can
  goes_to_end b n below again U (gets_less h apart m p less) = again U m h apart p less

  still_small : (b n : ℕ) → Below b → Smaller b n
  still_small b zero below V m h apart p less = absurd (omega (arith, less))
  still_small b (suc n) below V m h apart p less =
      later V (goes_to_end b n below (still_small b n below) (tick (trees celling) (primitives builds) V) (tick_goes celling builds b n m V.now V refl h p (omega (arith, less)) apart))

  -- worlds with at most this fuel, and fewer than c coroutines that have not begun
  abbrev Fewer : (b c : ℕ) → Type 0
  Fewer b c = (V : Run) → V.fuel ≤ b → CanEnd V → fresh_count V.coroutines < c → Ends celling builds V

  settled_ends : (b : ℕ) → Below b → (V : Run) → V.fuel ≤ b → is_call V.now ≡ false → CanEnd V → Ends celling builds V
  settled_ends b below V h apart can = still_small b (suc (can.0 + cost V.now)) below V can.0 h apart can.1 (omega arith)

  after_to_end : (b c : ℕ) → Below b → Fewer b c → (d : ℕ) → d ≤ c → (U : Run) → After b d U → Ends celling builds U
  after_to_end b c below again d le U (has_end_too e can) = (0, e)
  after_to_end b c below again d le U (spends_too h can) = below U h can
  after_to_end b c below again d le U (settles h apart can) = settled_ends b below U h apart can
  after_to_end b c below again d le U (begins_one h can fewer) = again U h can (omega (arith, fewer, le))

  either_ends : (V : Run) (t : Bool) → is_call V.now ≡ t → (is_call V.now ≡ true → Ends celling builds V) → (is_call V.now ≡ false → Ends celling builds V) → Ends celling builds V
  either_ends V true e first second = first e
  either_ends V false e first second = second e

  still_fewer : (b c : ℕ) → Below b → Fewer b c
  still_fewer b zero below V h can few = absurd (omega (arith, few))
  still_fewer b (suc c) below V h can few =
      either_ends V (is_call V.now) refl
      (λ called. later V (after_to_end b c below (still_fewer b c below) (fresh_count V.coroutines) (omega (arith, few)) (tick (trees celling) (primitives builds) V)
      (call_after celling builds b can.0 V.now V h can.1 called)))
      (λ apart. settled_ends b below V h apart can)

  below_ends : (b : ℕ) → Below b
  below_ends zero V h can = absurd (omega (arith, h))
  below_ends (suc b) V h can = still_fewer b (suc (fresh_count V.coroutines)) (below_ends b) V (omega (arith, h)) can (omega arith)

  can_end : (V : Run) → CanEnd V → Ends celling builds V
  can_end V can = below_ends (suc V.fuel) V (omega arith) can

  -- worlds that a run comes to

  goes_on_so : (b n : ℕ) (V : Run) → Goes b n V → CanEnd V
  goes_on_so b n V (has_end e can) = can
  goes_on_so b n V (spends h can) = can
  goes_on_so b n V (gets_less h apart m p less) = (m, p)

  after_so : (b c : ℕ) (V : Run) → After b c V → CanEnd V
  after_so b c V (has_end_too e can) = can
  after_so b c V (spends_too h can) = can
  after_so b c V (settles h apart can) = can
  after_so b c V (begins_one h can fewer) = can

  by_call : (V U : Run) (t : Bool) → is_call V.now ≡ t → (is_call V.now ≡ true → CanEnd U) → (is_call V.now ≡ false → CanEnd U) → CanEnd U
  by_call V U true e first second = first e
  by_call V U false e first second = second e

  tick_can : (V : Run) → CanEnd V → CanEnd (tick (trees celling) (primitives builds) V)
  tick_can V can =
      by_call V (tick (trees celling) (primitives builds) V) (is_call V.now) refl
      (λ called. after_so V.fuel (fresh_count V.coroutines) _ (call_after celling builds V.fuel can.0 V.now V (omega arith) can.1 called))
      (λ apart. goes_on_so V.fuel (can.0 + cost V.now) _ (tick_goes celling builds V.fuel (can.0 + cost V.now) can.0 V.now V refl (omega arith) can.1 (omega arith) apart))

  begun_can : (prelude : List (Entry Body)) (script : Script Body) (budget : ℕ) → CanEnd (begun (trees celling) (primitives builds) (tree_opening prelude) script budget)
  begun_can prelude script budget =
      let size = 4 * measure (start celling script.main []) + 2 in (
        size + 1,
        over (0 ∷ []) _ [] (running ∷ []) size 1 (omega arith)
            (record { chained = omega arith; top = 0; others = 0; frames_fit = tt; others_fit = (0, 0, tt, tt, omega arith); within = omega arith }),
      )

  after_can : (h : History) → CanEnd (world_after celling builds h)
  after_can (began prelude script budget) = begun_can prelude script budget
  after_can (went_on h) = tick_can (world_after celling builds h) (after_can h)
  after_can (was_handed h line budget) = after_can h

  ticks_can : (n : ℕ) (V : Run) → CanEnd V → CanEnd (ticks (trees celling) (primitives builds) n V)
  ticks_can zero V can = can
  ticks_can (suc n) V can = by (has_ended V.now) (ticks_can n (tick (trees celling) (primitives builds) V) (tick_can V can)) where
    by : (t : Bool) → CanEnd (ticks (trees celling) (primitives builds) n (tick (trees celling) (primitives builds) V))
        → CanEnd (elim t as (λ _. Run) [ true ↦ V | false ↦ ticks (trees celling) (primitives builds) n (tick (trees celling) (primitives builds) V) ])
    by true more = can
    by false more = more

  -- meanings

  abbrev Gives : Run → List (List ℕ) → ℕ → Type 0
  Gives W input budget = (m : Meaning Body State) × (n : ℕ) × (run_from (trees celling) (primitives builds) n W input budget ≡ Some m)

  at_end_gives : (now : Now) (V : Run) (goes : Run → Option (Meaning Body State)) (m : Meaning Body State) → has_ended now ≡ true → goes V ≡ Some m
      → (x : Meaning Body State) × (at_end now V goes ≡ Some x)
  at_end_gives (ends (yielded vs)) V goes m e given = (_, ap (option_map (behind (V.printed ++ report (yielded vs)))) given)
  at_end_gives (ends (returned vs)) V goes m e given = (_, refl)
  at_end_gives (ends (failed_with error)) V goes m e given = (_, refl)
  at_end_gives (ends spent) V goes m e given = (_, refl)
  at_end_gives (ends broken) V goes m e given = (_, refl)
  at_end_gives _ V goes m e given = absurd (cc)

  turn_gives : (n z : ℕ) (W : Run) (goes : Run → Option (Meaning Body State)) (m : Meaning Body State) → has_ended (ticks (trees celling) (primitives builds) n W).now ≡ true → n ≤ z
      → goes (ticks (trees celling) (primitives builds) n W) ≡ Some m
      → (x : Meaning Body State) × (at_end (ticks (trees celling) (primitives builds) z W).now (ticks (trees celling) (primitives builds) z W) goes ≡ Some x)
  turn_gives n z W goes m e le given =
      let V = ticks (trees celling) (primitives builds) n W in
      let same = ended_within (trees celling) (primitives builds) n z W e le in
      let there = at_end_gives V.now V goes m e given in
      (there.0, ap (λ (U : Run). at_end U.now U goes) same ∙ there.1)

  run_gives : (W : Run) (input : List (List ℕ)) (budget : ℕ) → CanEnd W → Gives W input budget
  run_gives W [] budget can =
      let e = can_end W can in
      let there = turn_gives e.0 e.0 W suspends _ e.1 (omega arith) refl in
      (there.0, e.0, there.1)
  run_gives W (line ∷ more) budget can =
      let e = can_end W can in
      let V = ticks (trees celling) (primitives builds) e.0 W in
      let next = run_gives (handed_line (trees celling) (primitives builds) V line budget) more budget (ticks_can e.0 W can) in
      let z = e.0 + next.1 in
      let there = turn_gives e.0 z W (λ U. run_from (trees celling) (primitives builds) z (handed_line (trees celling) (primitives builds) U line budget) more budget) next.0 e.1 (omega arith)
      (given_within (trees celling) (primitives builds) next.1 z (handed_line (trees celling) (primitives builds) V line budget) more budget next.0 next.2 (omega arith)) in
      (there.0, z, there.1)

pub turn_ends : (celling : Celling) (builds : Builds Body) (h : History) → Ends celling builds (world_after celling builds h)
turn_ends celling builds h = can_end celling builds (world_after celling builds h) (after_can celling builds h)

pub has_meaning : (celling : Celling) (builds : Builds Body) (prelude : List (Entry Body)) (script : Script Body) (input : List (List ℕ)) (budget : ℕ)
    → (m : Meaning Body State) × IsMeaning (trees celling) (primitives builds) (tree_opening prelude) script input budget m
has_meaning celling builds prelude script input budget =
    let there = run_gives celling builds (begun (trees celling) (primitives builds) (tree_opening prelude) script budget) input budget (begun_can celling builds prelude script budget) in
    (there.0, record { steps = there.1; gives = there.2 })
