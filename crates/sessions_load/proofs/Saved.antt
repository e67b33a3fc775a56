-- Runs that wait for a line at their end: what they are saved as is loaded.
use Rattle.std.proofs.Common.{ℕ, List, length}
use Rattle.code_core.specs.Check.{IsChecked}
use Rattle.code_core.specs.Prototype.{Prototype}
use Rattle.library_rows.specs.Library.{Entry, all_entries}
use Rattle.machine_core.specs.World.{World}
use Rattle.machine_core.specs.Moves.{Row}
use Rattle.machine_core.specs.PrimitiveRows.{row_numbered}
use Rattle.machine_runs.specs.Opening.{opening, begun}
use Rattle.machine_runs.proofs.MainWaits.{turn_suspends}
use Rattle.machine_runs.proofs.Opening.{opening_sound, opening_idle, begun_sound, begun_may_turn}
use Rattle.functions_stay.proofs.Runs.{runs_keep, onward_keeps}
use Rattle.image_load.specs.Session.{SessionAgrees}
use Rattle.session_images.specs.Laws.{IsLibrary, SavedCanResume}
use Rattle.session_images.specs.Prelude.{HasFunctions}
use Rattle.session_images.proofs.Prelude.{opening_has_prelude, begun_has_prelude, keeps_functions}
use Rattle.session_images.proofs.Loaded.{session_has_prelude}
use Rattle.images_stand.specs.Sessions.{KnowsLibraries, SessionsAccepted}
use Rattle.lua_saving.specs.Saving.{session_reader, IsSession, HasYielded}
use Rattle.sessions_join.specs.Sessions.{IsSaved}
use Rattle.sessions_join.specs.Laws.{IsFit}
use Rattle.sessions_join.proofs.Waiting.{Waits, Left, run_waits, onward_waits, run_leaves, onward_leaves, onward_runs}
use Rattle.sessions_load.specs.Law.{PreludesAreKnown, IsLoadable, RunIsLoadable, OnwardIsLoadable, LoadedGoesOn}
use Rattle.sessions_load.proofs.Loaded.{loadable}

yields_left : (build : Row) (fit : IsFit build) (budget : ℕ) → Left build fit budget HasYielded
yields_left build fit budget count W V w e =
    let y = turn_suspends build fit.silent (length all_entries) fit.safe count W budget V w.sound w.may e in
    record { main = y.main; is_main = y.is_main; frames = y.frames; yielded = y.there }

pub begins : (build : Row) (fit : IsFit build) (budget : ℕ) (prelude : List (Entry Prototype)) → IsLibrary prelude → (code : Prototype) → IsChecked code → Waits build fit budget (begun (opening prelude) code)
begins build fit budget prelude library code checked = record {
  sound = begun_sound (length all_entries) (opening prelude) code (opening_sound prelude library.ok) (opening_idle prelude) checked;
  may = begun_may_turn (opening prelude) code (opening_idle prelude);
}

pub waits_so : (build : Row) (fit : IsFit build) (budget : ℕ) (prelude : List (Entry Prototype)) (image : List ℕ) (session : World) → IsSession prelude image session → Waits build fit budget session
waits_so build fit budget prelude image session holds = record { sound = holds.sound; may = holds.waits }

module _ (accept : SessionsAccepted) (can : SavedCanResume) (agrees : SessionAgrees) (knows : KnowsLibraries session_reader) (codes : PreludesAreKnown) where
  from_left : (build : Row) (fit : IsFit build) (budget : ℕ) (prelude : List (Entry Prototype)) → IsLibrary prelude → (W : World) → Waits build fit budget W → HasYielded W → HasFunctions prelude W
      → (bytes : List ℕ) → IsSaved prelude W bytes → IsLoadable prelude bytes
  from_left build fit budget prelude library W w yielded known bytes saved = loadable accept can agrees knows prelude (codes prelude) library W w.sound w.may yielded known bytes saved

  pub run_is_loadable : RunIsLoadable
  run_is_loadable build fit prelude library code checked lines budget run short runs suspended bytes saved =
      let W = begun (opening prelude) code in
      let w = begins build fit budget prelude library code checked in
      from_left build fit budget prelude library run.last (run_waits build fit budget W lines run w short runs suspended)
      (run_leaves build fit budget HasYielded (yields_left build fit budget) W lines run w short runs suspended)
      (keeps_functions prelude W run.last (begun_has_prelude prelude (opening prelude) code (opening_has_prelude prelude)).known (runs_keep (row_numbered build) W lines budget run runs)) bytes saved

  pub onward_is_loadable : OnwardIsLoadable
  onward_is_loadable build fit prelude library image session holds waits lines budget run short runs suspended bytes saved =
      let w = waits_so build fit budget prelude image session holds in
      from_left build fit budget prelude library run.last (onward_waits build fit budget session lines run w short runs suspended)
      (onward_leaves build fit budget HasYielded (yields_left build fit budget) session lines run w waits short runs suspended)
      (keeps_functions prelude session run.last (session_has_prelude prelude holds.image session holds.session).known (onward_keeps (row_numbered build) session lines budget run runs)) bytes saved

pub loaded_goes_on : LoadedGoesOn
loaded_goes_on build fit prelude image session holds lines budget short = onward_runs build fit budget session lines (waits_so build fit budget prelude image session holds) short
