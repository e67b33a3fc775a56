-- Sessions that wait for a line keep the prelude, however often they are saved and loaded.
use Rattle.std.proofs.Common.{ℕ, ◌≡◌, ◌≤◌, List, [], length, subst, sym, ap, ◌∙◌}
use Rattle.code_core.specs.Prototype.{Prototype}
use Rattle.library_rows.specs.Library.{Entry}
use Rattle.load_rows.specs.Loading.{Builds}
use Rattle.machine_core.specs.World.{World}
use Rattle.machine_core.specs.PrimitiveRows.{load_row, row_numbered}
use Rattle.machine_runs.specs.Opening.{opening, begun}
use Rattle.functions_stay.proofs.Runs.{runs_keep, onward_keeps}
use Rattle.image_bytes.specs.Format.{read}
use Rattle.image_bytes.specs.Bytes.{image_format}
use Rattle.image_sound.specs.Fitting.{reads}
use Rattle.session_images.specs.Laws.{IsLibrary}
use Rattle.session_images.specs.Prelude.{HasFunctions}
use Rattle.session_images.specs.Saved.{session_image, session_of}
use Rattle.session_images.specs.Stored.{root_count}
use Rattle.session_images.proofs.Prelude.{opening_has_prelude, begun_has_prelude, keeps_functions}
use Rattle.session_images.proofs.Loaded.{session_has_prelude}
use Rattle.prelude_stays.specs.Laws.{home_of, PreludeGuarded, Stays, OpeningStays, BegunStays, RunsStay, OnwardStays}
use Rattle.prelude_stays.proofs.Having.{untouched}
use Rattle.prelude_loads.specs.Law.{LoadedStays}
use Rattle.images_stand.specs.Sessions.{KnowsLibraries, SessionsAccepted}
use Rattle.lua_saving.specs.Saving.{session_reader, session_codes, IsSession}
use Rattle.sessions_join.specs.Sessions.{IsSaved}
use Rattle.sessions_join.specs.Laws.{IsFit}
use Rattle.sessions_join.proofs.Waiting.{Waits, run_waits, onward_waits}
use Rattle.sessions_load.specs.Law.{PreludesAreKnown, KeepsPrelude, RunKeepsPrelude, OnwardKeepsPrelude}
use Rattle.sessions_load.proofs.Saved.{begins, waits_so}

kept : (build : Builds Prototype) (fit : IsFit (load_row build)) (budget : ℕ) (prelude : List (Entry Prototype)) (W : World) → Waits (load_row build) fit budget W → HasFunctions prelude W → Stays (home_of prelude) W → KeepsPrelude prelude W
kept build fit budget prelude W w known stays = record { sound = w.sound; waits = w.may; has = record { known = known; untouched = untouched prelude W stays }; stays = stays }

pub run_keeps_prelude : OpeningStays → BegunStays → RunsStay → RunKeepsPrelude
run_keeps_prelude opens begin law builds fit prelude library guarded code checked lines budget run short runs suspended =
    let W = begun (opening prelude) code in
    let w : Waits (load_row builds) fit budget W = begins (load_row builds) fit budget prelude library code checked in
    let first : Stays (home_of prelude) W = begin (home_of prelude) (opening prelude) code (opens prelude guarded) in
    kept builds fit budget prelude run.last (run_waits (load_row builds) fit budget W lines run w short runs suspended)
    (keeps_functions prelude W run.last (begun_has_prelude prelude (opening prelude) code (opening_has_prelude prelude)).known (runs_keep (row_numbered (load_row builds)) W lines budget run runs))
    (law builds (home_of prelude) fit.safe W lines budget run w.sound w.may short first runs)

module _ (accept : SessionsAccepted) (knows : KnowsLibraries session_reader) (codes : PreludesAreKnown) (loads : LoadedStays) where
  -- the bytes are the image of one session
  loaded_stays : (prelude : List (Entry Prototype)) → IsLibrary prelude → PreludeGuarded prelude → (W : World) → KeepsPrelude prelude W → (bytes : List ℕ) → IsSaved prelude W bytes → (X : World) → IsSession prelude bytes X
      → Stays (home_of prelude) X
  loaded_stays prelude library guarded W k bytes saved X holds =
      let spelled : bytes ≡ (image_format session_reader root_count).spell (session_image W) = saved.written.spells session_reader in
      let m = accept prelude W session_reader (session_codes prelude) library k.sound k.waits k.has.known saved.written.small saved.kept knows (codes prelude) (subst (λ (b : List ℕ). length b ≤ 2147483647) spelled saved.size) in
      let both : read (session_image W) m.0 [] ≡ read holds.image holds.met [] = sym (ap (reads session_reader (session_codes prelude) root_count) spelled ∙ m.1) ∙ holds.accepted in
      let images : session_image W ≡ holds.image = cc in
      loads prelude library guarded W X k.sound k.waits k.has saved.written.small k.stays (ap (session_of prelude) images ∙ holds.session)

  pub onward_keeps_prelude : OnwardStays → OnwardKeepsPrelude
  onward_keeps_prelude law builds fit prelude library guarded W k bytes saved X holds lines budget run short runs suspended =
      let w : Waits (load_row builds) fit budget X = waits_so (load_row builds) fit budget prelude bytes X holds in
      kept builds fit budget prelude run.last (onward_waits (load_row builds) fit budget X lines run w short runs suspended)
      (keeps_functions prelude X run.last (session_has_prelude prelude holds.image X holds.session).known (onward_keeps (row_numbered (load_row builds)) X lines budget run runs))
      (law builds (home_of prelude) fit.safe X lines budget run w.sound w.may short (loaded_stays prelude library guarded W k bytes saved X holds) runs)
