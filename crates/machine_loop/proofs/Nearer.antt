-- A step of the frame comes nearer to the end of the turn, so the loop over its instructions ends.
use Rattle.std.proofs.Common.{◌≡◌, ℕ, ◌<◌, ◌⊎◌, inl, inr, true}
use Rattle.machine_core.specs.World.{World}
use Rattle.machine_core.specs.Moves.{go, traps}
use Rattle.machine_ends.proofs.Ends.{longest}
use Rattle.machine_ends.specs.Laws.{FallsWithin, StepsFall}
use Rattle.machine_ends.specs.Measure.{Within, measure}
use Rattle.machine_runs.specs.Runs.{is_end}
use Rattle.machine_arms_tables.specs.Frame.{Moment, world_at}
use Rattle.machine_core.specs.PrimitiveRows.{row_numbered}
use Rattle.machine_loop.specs.Running.{IsStep, Running}

-- no function of the world has more instructions
abbrev pub most_of : Running → ℕ
most_of g = (longest g.around.context.base).0

abbrev pub distance : Running → Moment → ℕ
distance g m = measure (most_of g) go (world_at g.around g.string_metatable m)

-- no source is built where the row of that traps
traps_fall : (most : ℕ) → FallsWithin most traps
traps_fall most e W V within is = absurd (cc)

-- a turn that goes on has not ended
smaller : (most : ℕ) (V W : World) → (is_end go ≡ true) ⊎ (Within most V × measure most go V < measure most go W) → measure most go V < measure most go W
smaller most V W (inl e) = absurd (cc)
smaller most V W (inr h) = h.1

pub nearer : StepsFall → (g : Running) (m n : Moment) → IsStep g m n → distance g n < distance g m
nearer falls g m n one =
    let W = world_at g.around g.string_metatable m in
    let V = world_at g.around g.string_metatable n in
    smaller (most_of g) V W (falls traps (most_of g) (traps_fall (most_of g)) go go W V (longest g.around.context.base).1 (one.is (row_numbered traps)))
