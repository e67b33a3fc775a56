-- Steps that end in no end of the turn bring that end no further away.
use Rattle.std.proofs.Common.{ℕ, zero, suc, ◌+◌, ◌<◌, ◌≤◌, ◌≡◌, ◌⊎◌, ⊎_elim, refl, ap, sym, ◌∙◌, subst, Bool, true, false, Option, Some, None, arith}
use Rattle.std.specs.Prelude.{cond, length, IfNone, IfSome}
use Rattle.tree_core.specs.Tree.{Body}
use Rattle.library_rows.specs.Library.{all_entries}
use Rattle.load_rows.specs.Loading.{Builds}
use Rattle.machine_core.specs.World.{World}
use Rattle.machine_core.specs.Moves.{Ending, go, spent, main_yielded, main_returned, main_failed, Row, Outcome, trapped, ends}
use Rattle.machine_core.specs.MachineStep.{step, steps, and_then}
use Rattle.machine_core.specs.PrimitiveRows.{row_numbered}
use Rattle.machine_ends.specs.Measure.{Within, measure}
use Rattle.machine_ends.specs.Laws.{FallsWithin, StepsFall}
use Rattle.machine_runs.specs.Runs.{is_end}
use Rattle.lua_heap.specs.declared.world.World.{World as Memory}
use Rattle.lua_heap.specs.Plain.{plain}
use Rattle.machine_focus.specs.Focus.{Reaches as PlainReaches}
use Rattle.machine_moves.specs.Ending.{ending_of}
use Rattle.machine_moves.specs.declared.ending.Ending.{Ending as Kept}
use Rattle.machine_moves.specs.declared.ending.Ending.TheVariants.{Go}
use Rattle.loaded_code.specs.Laws.{library}
use Rattle.source_builds.specs.Builds.{BuildsSources}
use Rattle.source_builds.specs.Readings.{AsRead}
use Rattle.source_builds.proofs.Knowing.{read_all}
use Rattle.machine_library_calls.specs.Calls.{Comes}
use Rattle.step_laws.specs.Steps.{Does, IsReady}
use Rattle.frame_calls.proofs.Chained.{steps_then}
use Rattle.machine_step.specs.Step.{Goes}
use Rattle.lua_driver.specs.Turns.{GoesFurther, Reaches}
use Rattle.lua_driver.proofs.Reaching.{distance, comes_nearer, differ, reached_more, reached_none}

-- some steps and some more

reached_further : {rows : ℕ → Row} {from at to : Ending} {old mid new : Memory} {fuel left less : ℕ} → Reaches rows from old fuel mid left at → Reaches rows at mid left new less to → Reaches rows from old fuel new less to
reached_further {rows} {from} {at} {to} {old} {mid} {new} {fuel} {left} {less} r s = record {
  count = r.count + s.count;
  is = steps_then rows r.count s.count from (plain old fuel) ∙ ap (λ o. and_then o (steps rows s.count)) r.is ∙ s.is;
}

-- what ends a turn stays

end_stays : (rows : ℕ → Row) (e : Ending) (W : World) → is_end e ≡ true → step rows e W ≡ ends e W
end_stays rows spent W h = refl
end_stays rows main_yielded W h = refl
end_stays rows main_returned W h = refl
end_stays rows main_failed W h = refl
end_stays rows _ W h = absurd (cc)

pub ends_stay : (rows : ℕ → Row) (n : ℕ) (e : Ending) (W : World) → is_end e ≡ true → steps rows n e W ≡ ends e W
ends_stay rows zero e W h = refl
ends_stay rows (suc n) e W h = ap (λ o. and_then o (steps rows n)) (end_stays rows e W h) ∙ ends_stay rows n e W h

-- the measure of what a run comes to

abbrev measure_in : (most : ℕ) → ℕ → Outcome → ℕ
measure_in most n trapped = n
measure_in most n (ends e W) = measure most e W

abbrev world_in : World → Outcome → World
world_in W trapped = W
world_in W (ends e V) = V

abbrev ends_in : Outcome → Bool
ends_in trapped = false
ends_in (ends e W) = is_end e

module _ (falls : StepsFall) (build : Row) (most : ℕ) (within : FallsWithin most build) where
  abbrev NoFurther : (n : ℕ) → (d : Ending) → (V : World) → Type 0
  NoFurther n d V = Within most V × (measure most d V ≤ n)

  same_there : (e d : Ending) (W V : World) → ends e W ≡ ends d V → Within most W → NoFurther (measure most e W) d V
  same_there e d W V p w =
      let k : measure most e W ≡ measure most d V = ap (measure_in most 0) p in
      (subst (Within most) (ap (world_in W) p) w, omega (arith, k))

  no_further : (n : ℕ) (e d : Ending) (W V : World) → steps (row_numbered build) n e W ≡ ends d V → is_end d ≡ false → Within most W → NoFurther (measure most e W) d V
  no_further zero e d W V p f w = same_there e d W V p w
  no_further (suc n) e d W V p f w = by (step (row_numbered build) e W) refl p (λ at U. no_further n at d U V)
    where
      by : (o : Outcome) → step (row_numbered build) e W ≡ o → and_then o (steps (row_numbered build) n) ≡ ends d V
          → ((at : Ending) (U : World) → steps (row_numbered build) n at U ≡ ends d V → is_end d ≡ false → Within most U → NoFurther (measure most at U) d V) → NoFurther (measure most e W) d V
      by trapped q p h = absurd (cc)
      by (ends at U) q p h = ⊎_elim
          (λ (x : is_end at ≡ true). absurd (differ (is_end at) x (ap ends_in (sym (ends_stay (row_numbered build) n at U x) ∙ p) ∙ f)))
          (λ (x : Within most U × measure most at U < measure most e W). let k = h at U p f x.0 in (k.0, let l = x.1 in let m = k.1 in omega (arith, l, m)))
          (falls build most within e at W U w q)

-- the step after an ending, at once or after what a Lua frame does by itself

pub ready_to_go : {W : Memory} {ending : Kept} → ending ≡ Go → IsReady (length all_entries) (ending_of ending) W → IsReady (length all_entries) go W
ready_to_go {W} e r = subst (λ e. IsReady (length all_entries) (ending_of e) W) e r

pub at_once : {rows : ℕ → Row} {from to : Ending} {old new : Memory} {fuel left : ℕ} → IsReady (length all_entries) from old → Does rows from old fuel new left to → GoesFurther rows from old fuel new left to
at_once {from = from} {old = old} {fuel = fuel} r d = record { mid = old; rest = fuel; at = from; goes_on = λ h. h; reaches = reached_none; ready = r; does = d }

-- a step, whatever is built of the sources that were read
pub read_once : {old new : Memory} {to : Ending} {fuel left : ℕ} → IsReady (length all_entries) go old → Goes old fuel new left to → AsRead (λ builds. GoesFurther (library builds) go old fuel new left to)
read_once r g = read_all (λ builds are. at_once r (g.is (library builds)))

-- a step after what changed nothing
pub at_once_again : {rows : ℕ → Row} {to : Ending} {old again new : Memory} {fuel rest left : ℕ} → IsReady (length all_entries) go old → again ≡ old → rest ≡ fuel → Does rows go again rest new left to → GoesFurther rows go old fuel new left to
at_once_again {rows} {to} {old} {again} {new} {fuel} {rest} {left} r e f d =
    at_once r (subst (λ n. Does rows go old n new left to) f (subst (λ W. Does rows go W rest new left to) e d))

pub further_so : {rows : ℕ → Row} {to : Ending} {old new : Memory} {fuel left : ℕ} → Comes rows old fuel new left to → GoesFurther rows go old fuel new left to
further_so c = record { mid = c.mid; rest = c.rest; at = c.at; goes_on = λ h. c.goes_on; reaches = record { count = c.count; is = c.is }; ready = c.ready; does = c.does }

-- what a function of the libraries did at once, and that all is as before where it is none
pub done_here : {old new : Memory} {fuel left : ℕ} {done : Option Kept} {ending : Kept} → done ≡ Some ending
    → IfSome done (λ ending. (builds : Builds Body) → BuildsSources builds → Comes (library builds) old fuel new left (ending_of ending))
    → AsRead (λ builds. GoesFurther (library builds) go old fuel new left (ending_of ending))
done_here {old} {new} {fuel} {left} {done} {ending} e h =
    let comes : (builds : Builds Body) → BuildsSources builds → Comes (library builds) old fuel new left (ending_of ending) =
    subst (λ o. IfSome o (λ ending. (builds : Builds Body) → BuildsSources builds → Comes (library builds) old fuel new left (ending_of ending))) e h in
    read_all (λ builds are. further_so (comes builds are))

pub nothing_done : {old new : Memory} {fuel left : ℕ} {done : Option Kept} → done ≡ None → IfNone done ((new ≡ old) × (left ≡ fuel)) → (new ≡ old) × (left ≡ fuel)
nothing_done {old} {new} {fuel} {left} e h = subst (λ o. IfNone o ((new ≡ old) × (left ≡ fuel))) e h

pub went_further : {rows : ℕ → Row} {ending : Kept} {to : Ending} {old mid new : Memory} {fuel rest left : ℕ} → ending ≡ Go → PlainReaches rows (plain old fuel) (plain mid rest) → GoesFurther rows go mid rest new left to
    → GoesFurther rows (ending_of ending) old fuel new left to
went_further {rows = rows} {to = to} {old} {mid} {new} {fuel} {rest} {left} e x g = subst (λ e. GoesFurther rows (ending_of e) old fuel new left to) (sym e) (record {
  mid = g.mid;
  rest = g.rest;
  at = g.at;
  goes_on = g.goes_on;
  reaches = reached_further (record { count = x.0; is = x.1 }) g.reaches;
  ready = g.ready;
  does = g.does;
})

pub reached_so : {rows : ℕ → Row} {from at to : Ending} {old mid new : Memory} {fuel left less : ℕ} → Reaches rows from old fuel mid left at → GoesFurther rows at mid left new less to → Reaches rows from old fuel new less to
reached_so {rows} r g = reached_more rows (reached_further r g.reaches) g.does

-- it comes nearer to the end of the turn
pub comes_nearer_so : StepsFall → (build : Row) (most : ℕ) → FallsWithin most build → (e d : Ending) (old new : Memory) (fuel less : ℕ) → is_end e ≡ false → Within most (plain old fuel) → GoesFurther (row_numbered build) e old fuel new less d
    → (is_end d ≡ false → Within most (plain new less)) × (distance most d (plain new less) < distance most e (plain old fuel))
comes_nearer_so falls build most within e d old new fuel less f w g =
    let mid = g.mid in
    let left = g.rest in
    let at = g.at in
    let h : is_end at ≡ false = g.goes_on f in
    let k = no_further falls build most within g.reaches.count e at (plain old fuel) (plain mid left) g.reaches.is h w in
    let n = comes_nearer falls build most within at d mid new left less h k.0 g.does in
    let at_mid : distance most at (plain mid left) ≡ suc (measure most at (plain mid left)) = ap (λ b. cond b 0 (suc (measure most at (plain mid left)))) h in
    let at_old : distance most e (plain old fuel) ≡ suc (measure most e (plain old fuel)) = ap (λ b. cond b 0 (suc (measure most e (plain old fuel)))) f in
    (n.0, let l = n.1 in let m = k.1 in omega (arith, l, m, at_mid, at_old))
