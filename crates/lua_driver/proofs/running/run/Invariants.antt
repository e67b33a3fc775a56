use Rattle.std.proofs.Common.{◌≡◌, false, length}
use Rattle.library_rows.specs.Library.{all_entries}
use Rattle.machine_ends.specs.Measure.{Within}
use Rattle.machine_runs.specs.Runs.{is_end}
use Rattle.lua_heap.specs.Plain.{plain}
use Rattle.machine_moves.specs.Ending.{ending_of}
use Rattle.step_laws.specs.Steps.{IsReady}
use Rattle.lua_driver.specs.Turns.{Reaches}
use Rattle.lua_driver.proofs.Reaching.{most_in, distance}
use Rattle.loaded_code.specs.Laws.{library}
use Rattle.source_builds.specs.Readings.{AsRead}
use Rattle.lua_driver.proofs.running.run.Given as goal

abbrev pub invariant-turn : goal.invariant-turn
invariant-turn l = record {
  ready : IsReady (length all_entries) (ending_of l.ending) l.world;
  reached : AsRead (λ builds. Reaches (library builds) (ending_of l.initial.ending) l.initial.world l.initial.budget l.world l.budget (ending_of l.ending));
  within : is_end (ending_of l.ending) ≡ false → Within (most_in l.initial.world) (plain l.world l.budget);
}

abbrev pub decreases-turn : goal.decreases-turn
decreases-turn l = distance (most_in l.initial.world) (ending_of l.ending) (plain l.world l.budget)
