use Rattle.std.proofs.Common.{◌≡◌, ℕ, [], Option, Some, None, ap, sym, subst, ◌∙◌, w64, to_z, of_z, rules}
use Rattle.std.specs.Prelude.{ℤ, pos, codes}
use Rattle.machine_core.specs.InstructionRows.{prepares, starts, with_loop}
use Rattle.machine_core.specs.FrameRows.{expand}
use Rattle.machine_core.specs.Moves.{run}
use Rattle.lua_heap.specs.declared.world.World.{World as Memory}
use Rattle.lua_heap.specs.Plain.{plain}
use Rattle.move_laws.specs.Memory.{IsSafe}
use Rattle.machine_rows.proofs.Going.{safe_as}
use Rattle.machine_loops.specs.Loops.{ReadsLoop}
use Rattle.machine_loops.proofs.Rounds.{no_step, raised_as}
use Rattle.machine_loops.proofs.numeric.start_loop.Goals as goal

same_start : (base by : ℕ) (from limit step : ℤ) → to_z w64 (of_z w64 from) ≡ from → to_z w64 (of_z w64 limit) ≡ limit → to_z w64 (of_z w64 step) ≡ step
    → starts base by (to_z w64 (of_z w64 from)) (to_z w64 (of_z w64 limit)) (to_z w64 (of_z w64 step)) ≡ starts base by from limit step
same_start base by from limit step a b d =
    ap (λ n. starts base by n (to_z w64 (of_z w64 limit)) (to_z w64 (of_z w64 step))) a ∙ ap (λ n. starts base by from n (to_z w64 (of_z w64 step))) b ∙ ap (starts base by from limit) d

-- what is left of the row where the limit was found, and the step, and the first value
module _ {W : Memory} {first second third : Option ℤ} (base by : ℕ) (x : ReadsLoop W base first second third) (limit : ℤ) (e : second ≡ Some limit) where
  with_limit : (fuel : ℕ) → run (expand (with_loop base (prepares base by))) [] (plain W fuel) ≡ run (expand (prepares base by first (Some limit) third)) x.values (plain W fuel)
  with_limit fuel = x.goes (prepares base by) fuel ∙ ap (λ o. run (expand (prepares base by first o third)) x.values (plain W fuel)) e

  with_step : (step : ℤ) → third ≡ Some step → (fuel : ℕ)
      → run (expand (with_loop base (prepares base by))) [] (plain W fuel) ≡ run (expand (prepares base by first (Some limit) (Some step))) x.values (plain W fuel)
  with_step step f fuel = with_limit fuel ∙ ap (λ o. run (expand (prepares base by first (Some limit) o)) x.values (plain W fuel)) f

  with_first : (step from : ℤ) → third ≡ Some step → first ≡ Some from → (fuel : ℕ)
      → run (expand (with_loop base (prepares base by))) [] (plain W fuel) ≡ run (expand (starts base by from limit step)) x.values (plain W fuel)
  with_first step from f g fuel = with_step step f fuel ∙ ap (λ o. run (expand (prepares base by o (Some limit) (Some step))) x.values (plain W fuel)) g

pub loop_values-values-requires-clause-safe : goal.loop_values-values-requires-clause-safe
loop_values-values-requires-clause-safe c = record { more = prepares c.args.base c.args.by; safe = c.requires.safe c.requires.at.place.function.code }

pub returns-in_default-clause-leads : goal.returns-in_default-clause-leads
returns-in_default-clause-leads c =
    let x = c.loop_values-values.ensures in
    let v = c.loop_values-values.result in
    let e : v.second ≡ None = search rules in
    raised_as c.args.world.now c.raise.new.world (λ p. expand (with_loop c.args.base (prepares c.args.base c.args.by))) (codes "'for' limit must be a number")
    (λ p. (x.values, λ fuel. x.goes (prepares c.args.base c.args.by) fuel ∙ ap (λ o. run (expand (prepares c.args.base c.args.by v.first o v.third)) x.values (plain c.args.world.now fuel)) e)) c.raise.result c.raise.ensures.leads

pub returns-in_default-third-clause-leads : goal.returns-in_default-third-clause-leads
returns-in_default-third-clause-leads c =
    let x = c.loop_values-values.ensures in
    let e : c.loop_values-values.result.second ≡ Some c.in-Some.limit = search rules in
    let f : c.loop_values-values.result.third ≡ None = search rules in
    raised_as c.args.world.now c.raise-in_default-third.new.world (λ p. expand (with_loop c.args.base (prepares c.args.base c.args.by))) (codes "'for' step must be a number")
    (λ p. (x.values, λ fuel. with_limit c.args.base c.args.by x c.in-Some.limit e fuel ∙ ap (λ o. run (expand (prepares c.args.base c.args.by c.loop_values-values.result.first (Some c.in-Some.limit) o)) x.values (plain c.args.world.now fuel)) f))
    c.raise-in_default-third.result c.raise-in_default-third.ensures.leads

pub returns-in_default-first-clause-leads : goal.returns-in_default-first-clause-leads
returns-in_default-first-clause-leads c =
    let x = c.loop_values-values.ensures in
    let e : c.loop_values-values.result.second ≡ Some c.in-Some.limit = search rules in
    let f : c.loop_values-values.result.third ≡ Some c.in-Some-third.step = search rules in
    let g : c.loop_values-values.result.first ≡ None = search rules in
    raised_as c.args.world.now c.raise-in_default-first.new.world (λ p. expand (with_loop c.args.base (prepares c.args.base c.args.by))) (codes "'for' initial value must be a number")
    (λ p. (x.values, λ fuel. with_step c.args.base c.args.by x c.in-Some.limit e c.in-Some-third.step f fuel ∙ ap (λ o. run (expand (prepares c.args.base c.args.by o (Some c.in-Some.limit) (Some c.in-Some-third.step))) x.values (plain c.args.world.now fuel)) g))
    c.raise-in_default-first.result c.raise-in_default-first.ensures.leads

pub returns-then-step-eq0-clause-leads : goal.returns-then-step-eq0-clause-leads
returns-then-step-eq0-clause-leads c =
    let x = c.loop_values-values.ensures in
    let e : c.loop_values-values.result.second ≡ Some c.in-Some.limit = search rules in
    let f : c.loop_values-values.result.third ≡ Some c.in-Some-third.step = search rules in
    let g : c.loop_values-values.result.first ≡ Some c.in-Some-first.from = search rules in
    let z : c.in-Some-third.step ≡ pos 0 = search rules in
    raised_as c.args.world.now c.raise-then-step-eq0.new.world (λ p. expand (with_loop c.args.base (prepares c.args.base c.args.by))) (codes "'for' step is zero")
    (λ p. (
      x.values,
      λ fuel.
          with_first c.args.base c.args.by x c.in-Some.limit e c.in-Some-third.step c.in-Some-first.from f g fuel
          ∙ ap (λ t. run (expand t) x.values (plain c.args.world.now fuel)) (no_step c.args.base c.args.by c.in-Some-first.from c.in-Some.limit c.in-Some-third.step z),
    )) c.raise-then-step-eq0.result c.raise-then-step-eq0.ensures.leads

pub begin-requires-clause-safe : goal.begin-requires-clause-safe
begin-requires-clause-safe c =
    let x = c.loop_values-values.ensures in
    let same = same_start c.args.base c.args.by c.in-Some-first.from c.in-Some.limit c.in-Some-third.step (search rules) (search rules) (search rules) in
    record {
      env = x.values;
      safe = subst (λ t. IsSafe (expand t) x.values c.args.world.now) (sym same) (safe_as {q = expand (starts c.args.base c.args.by c.in-Some-first.from c.in-Some.limit c.in-Some-third.step)} {more = x.values} (c.requires.safe c.requires.at.place.function.code) (with_first c.args.base c.args.by x c.in-Some.limit (search rules) c.in-Some-third.step c.in-Some-first.from (search rules) (search rules)));
    }

pub returns-clause-leads : goal.returns-clause-leads
returns-clause-leads c = λ p.
    let x = c.loop_values-values.ensures in
    let same = same_start c.args.base c.args.by c.in-Some-first.from c.in-Some.limit c.in-Some-third.step (search rules) (search rules) (search rules) in
    record {
      is = λ fuel.
          with_first c.args.base c.args.by x c.in-Some.limit (search rules) c.in-Some-third.step c.in-Some-first.from (search rules) (search rules) fuel
          ∙ ap (λ t. run (expand t) x.values (plain c.args.world.now fuel)) (sym same)
          ∙ (c.begin.ensures.leads x.values).is fuel;
    }
