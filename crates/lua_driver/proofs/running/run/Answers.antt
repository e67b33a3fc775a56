use Rattle.std.proofs.Common.{◌≡◌, false, length}
use Rattle.library_rows.specs.Library.{all_entries}
use Rattle.machine_runs.specs.Runs.{is_end}
use Rattle.machine_moves.specs.Ending.{ending_of}
use Rattle.loaded_code.specs.Laws.{load_by, library}
use Rattle.source_builds.proofs.Knowing.{read_all, read_both}
use Rattle.source_builds.proofs.Lookups.{read_some}
use Rattle.lua_driver.proofs.Reaching.{most_in, most_within, falls_in, not_yet, reached_none}
use Rattle.lua_driver.proofs.Ahead.{reached_so, comes_nearer_so}
use Rattle.lua_driver.proofs.running.run.Goals as goal

pub turn-init : goal.turn-init
turn-init c = record {
  ready = c.requires.ready;
  reached = read_all (λ builds are. reached_none);
  within = λ _. most_within c.args.world.now c.args.budget.now;
}

pub turn-smaller : goal.turn-smaller
turn-smaller c =
    let e : is_end (ending_of c.turn.ending) ≡ false = not_yet c.ends_turn.result (ending_of c.turn.ending) c.ends_turn.ensures c.turn-test.true in
    let some = read_some c.in_ok-ending.ensures.goes in
    (comes_nearer_so c.steps_fall.ensures (load_by some.0) (most_in c.args.world.now) (falls_in (load_by some.0) (c.loading_is_safe.ensures.falls some.0 some.1) c.args.world.now) (ending_of c.turn.ending) (ending_of c.in_ok-ending.ending)
    c.turn.world c.go_further.new.world c.turn.budget c.go_further.new.budget e (c.turn.invariant.within e) some.2).1

pub turn-preserved : goal.turn-preserved
turn-preserved c =
    let e : is_end (ending_of c.turn.ending) ≡ false = not_yet c.ends_turn.result (ending_of c.turn.ending) c.ends_turn.ensures c.turn-test.true in
    let some = read_some c.in_ok-ending.ensures.goes in
    let goes = some.2 in
    record {
      ready = c.steps_stay_ready.ensures.steps (length all_entries) (library some.0) (c.loading_is_safe.ensures.safe some.0 some.1) goes.at (ending_of c.in_ok-ending.ending) goes.mid c.go_further.new.world goes.rest c.go_further.new.budget goes.ready goes.does c.in_ok-ending.ensures.order;
      reached = read_both (λ builds are r g. reached_so r g) c.turn.invariant.reached c.in_ok-ending.ensures.goes;
      within = (comes_nearer_so c.steps_fall.ensures (load_by some.0) (most_in c.args.world.now) (falls_in (load_by some.0) (c.loading_is_safe.ensures.falls some.0 some.1) c.args.world.now) (ending_of c.turn.ending) (ending_of c.in_ok-ending.ending)
          c.turn.world c.go_further.new.world c.turn.budget c.go_further.new.budget e (c.turn.invariant.within e) goes).0;
    }
