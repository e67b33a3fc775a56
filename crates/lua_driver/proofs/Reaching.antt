-- Steps one after another up to the end of a turn.
use Rattle.std.proofs.Common.{ℕ, zero, suc, ◌+◌, ◌^◌, ◌≤◌, ◌<◌, ◌≡◌, ◌⊎◌, ⊎_elim, refl, ap, sym, ◌∙◌, Bool, true, false, arith}
use Rattle.std.specs.Prelude.{cond}
use Rattle.code_core.specs.Prototype.{instruction_count}
use Rattle.machine_core.specs.World.{Function, World}
use Rattle.machine_core.specs.Moves.{Ending, Row, Outcome, trapped, ends}
use Rattle.machine_core.specs.MachineStep.{step, steps, and_then}
use Rattle.machine_core.specs.PrimitiveRows.{row_numbered}
use Rattle.machine_sound.proofs.Lists.{each_on}
use Rattle.machine_ends.specs.Measure.{Within, measure}
use Rattle.machine_ends.specs.Laws.{FallsWithin, FallsFrom, StepsFall}
use Rattle.machine_ends.proofs.Ends.{longest}
use Rattle.machine_runs.specs.Runs.{is_end}
use Rattle.lua_heap.specs.declared.world.World.{World as Memory}
use Rattle.lua_heap.specs.Plain.{plain}
use Rattle.step_laws.specs.Steps.{Does}
use Rattle.lua_driver.specs.Turns.{Reaches}

-- one step more

ended_there : (o : Outcome) → and_then o ends ≡ o
ended_there trapped = refl
ended_there (ends e W) = refl

module _ (rows : ℕ → Row) where
  one_more : (n : ℕ) (o : Outcome) → ((e : Ending) (W : World) → steps rows (suc n) e W ≡ and_then (steps rows n e W) (step rows)) → and_then o (steps rows (suc n)) ≡ and_then (and_then o (steps rows n)) (step rows)
  one_more n trapped h = refl
  one_more n (ends e W) h = h e W

  steps_more : (n : ℕ) (e : Ending) (W : World) → steps rows (suc n) e W ≡ and_then (steps rows n e W) (step rows)
  steps_more zero e W = ended_there (step rows e W)
  steps_more (suc n) e W = one_more n (step rows e W) (steps_more n)

  pub reached_more : {from at to : Ending} {old mid new : Memory} {fuel left less : ℕ} → Reaches rows from old fuel mid left at → Does rows at mid left new less to → Reaches rows from old fuel new less to
  reached_more {from} {at} {to} {old} {mid} {new} {fuel} {left} {less} r d = record {
    count = suc r.count;
    is = steps_more r.count from (plain old fuel) ∙ ap (λ o. and_then o (step rows)) r.is ∙ d.is;
  }

pub reached_none : {rows : ℕ → Row} {from : Ending} {W : Memory} {fuel : ℕ} → Reaches rows from W fuel W fuel from
reached_none = record { count = 0; is = refl }

-- how far the end of the turn is

-- checked code has fewer instructions
abbrev least : ℕ
least = 2 ^ 64

abbrev pub most_in : Memory → ℕ
most_in W = least + (longest (plain W 0)).0

wider : (a b k : ℕ) → k ≤ b → k ≤ a + b
wider a b k l = omega (arith, l)

at_least : (a b : ℕ) → a ≤ a + b
at_least a b = omega arith

pub most_within : (W : Memory) (fuel : ℕ) → Within (most_in W) (plain W fuel)
most_within W fuel =
    let l = longest (plain W 0) in
    each_on (λ (f : Function). instruction_count f.code ≤ l.0) (λ (f : Function). instruction_count f.code ≤ least + l.0) (λ f k. wider least l.0 (instruction_count f.code) k) (plain W fuel).functions l.1

-- so the row of `build` may count on that number
pub falls_in : (build : Row) → FallsFrom (2 ^ 64) build → (W : Memory) → FallsWithin (most_in W) build
falls_in build f W = f (most_in W) (at_least least (longest (plain W 0)).0)

abbrev pub distance : (most : ℕ) → Ending → World → ℕ
distance most e W = cond (is_end e) 0 (suc (measure most e W))

abbrev Nearer : (most : ℕ) → Ending → World → (bound : ℕ) → Type 0
Nearer most d V bound = (is_end d ≡ false → Within most V) × (distance most d V < suc bound)

pub differ : (b : Bool) → b ≡ true → b ≡ false → ⊥
differ true e f = absurd (cc)
differ false e f = absurd (cc)

nearer : (most bound : ℕ) (d : Ending) (V : World) → (is_end d ≡ true) ⊎ (Within most V × measure most d V < bound) → Nearer most d V bound
nearer most bound d V = ⊎_elim
    (λ (e : is_end d ≡ true). (λ f. absurd (differ (is_end d) e f), at_end e))
    (λ (h : Within most V × measure most d V < bound). (λ f. h.0, on_way h.1 (is_end d)))
  where
    at_end : is_end d ≡ true → distance most d V < suc bound
    at_end e = let k : distance most d V ≡ 0 = ap (λ b. cond b 0 (suc (measure most d V))) e in omega (arith, k)

    on_way : measure most d V < bound → (b : Bool) → cond b 0 (suc (measure most d V)) < suc bound
    on_way l true = omega arith
    on_way l false = omega (arith, l)

-- a step comes nearer
pub comes_nearer : StepsFall → (build : Row) (most : ℕ) → FallsWithin most build → (e d : Ending) (old new : Memory) (fuel left : ℕ) → is_end e ≡ false → Within most (plain old fuel) → Does (row_numbered build) e old fuel new left d
    → (is_end d ≡ false → Within most (plain new left)) × (distance most d (plain new left) < distance most e (plain old fuel))
comes_nearer falls build most within e d old new fuel left f w s =
    let n = nearer most (measure most e (plain old fuel)) d (plain new left) (falls build most within e d (plain old fuel) (plain new left) w s.is) in
    let k : distance most e (plain old fuel) ≡ suc (measure most e (plain old fuel)) = ap (λ b. cond b 0 (suc (measure most e (plain old fuel)))) f in
    (n.0, let l = n.1 in omega (arith, l, k))

pub not_yet : (b : Bool) (e : Ending) → b ≡ is_end e → b ≡ false → is_end e ≡ false
not_yet b e h k = sym h ∙ k
