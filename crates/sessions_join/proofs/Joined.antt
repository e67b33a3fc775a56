-- Sessions one after another are one run.
use Rattle.std.proofs.Common.{ℕ, ◌≡◌, ◌≤◌, Bool, true, false, cond, List, [], ◌∷◌, ◌++◌, Option, Some, refl, subst, sym, ◌∙◌, ap, length}
use Rattle.code_core.specs.Prototype.{Prototype}
use Rattle.list_laws.proofs.Items.{append_nil}
use Rattle.library_rows.specs.Library.{Entry, all_entries}
use Rattle.machine_core.specs.World.{World}
use Rattle.machine_core.specs.Moves.{Row}
use Rattle.machine_core.specs.PrimitiveRows.{row_numbered}
use Rattle.machine_alike.proofs.PlainRows.{numbered_none}
use Rattle.machine_sound.specs.Sound.{Each}
use Rattle.machine_sound.proofs.Lists.{each_tail, each_append}
use Rattle.machine_runs.specs.Opening.{opening, begun}
use Rattle.machine_runs.specs.Runs.{Close, is_suspended, Run, behind, CodeRun, CodeOnward}
use Rattle.machine_runs.proofs.Opening.{opening_sound, opening_idle, begun_sound, begun_may_turn}
use Rattle.machine_runs.proofs.Runs.{run_cut, onward_run_cut}
use Rattle.code_core.specs.Check.{IsChecked}
use Rattle.image_core.specs.Image.{PermKey, Image}
use Rattle.image_bytes.specs.Format.{Got, read, refused, of_kind}
use Rattle.image_bytes.specs.Bytes.{Reader, image_format, read_image}
use Rattle.image_bytes.specs.ReadBack.{ImagesReadBack}
use Rattle.image_sound.specs.Fitting.{all_fit, with_fits}
use Rattle.sessions_resume.specs.Laws.{SavedSessionsGoOn}
use Rattle.session_images.specs.Saved.{session_image, session_of, session_name, session_target, prelude_pairs}
use Rattle.session_images.specs.Prelude.{HasFunctions}
use Rattle.session_images.specs.Stored.{root_count, IsLoaded}
use Rattle.session_images.specs.Laws.{IsLibrary, SavedCanResume}
use Rattle.session_images.proofs.Prelude.{opening_has_prelude, begun_has_prelude, keeps_functions}
use Rattle.session_images.proofs.Loaded.{session_has_prelude}
use Rattle.functions_stay.proofs.Runs.{runs_keep, onward_keeps}
use Rattle.images_stand.specs.Sessions.{KnowsLibraries, SessionsStand}
use Rattle.sessions_join.specs.Sessions.{IsSaved, GoOn, last_session, saved_session, Sessions, only_session, first_session}
use Rattle.sessions_join.specs.Laws.{IsFit, AreShort, all_lines, IsOneRun, SessionsAreOneRun}
use Rattle.sessions_join.proofs.Waiting.{Short, all_short, Waits, run_waits, onward_waits, onward_runs, onward_once}

abbrev image_in : Image → Got Image → Image
image_in I (read J met rest) = J
image_in I (refused fault) = I

same_image : (I J : Image) (m n : ℕ) → read I m [] ≡ read J n [] → I ≡ J
same_image I J m n e = ap (image_in I) e

-- what fits is what was read
fits_so : (code_named : PermKey → Option Prototype) (I J : Image) (m n : ℕ) → with_fits code_named (read I m []) ≡ read J n [] → I ≡ J
fits_so code_named I J m n e = by (all_fit code_named I.records) e
  where
    by : (b : Bool) → cond b (read I m []) (refused (of_kind 9)) ≡ read J n [] → I ≡ J
    by true e = same_image I J m n e
    by false e = absurd (cc)

module _
    (read_back : ImagesReadBack) (stand : SessionsStand) (can : SavedCanResume) (goes_on : SavedSessionsGoOn) (build : Row) (fit : IsFit build) (R : Reader) (knows : KnowsLibraries R)
    (code_named : PermKey → Option Prototype) (prelude : List (Entry Prototype)) (library : IsLibrary prelude) (budget : ℕ)
  where
    -- the session of the bytes that a session was saved as
    loaded_is : (W X : World) (bytes : List ℕ) → Waits build fit budget W → HasFunctions prelude W → IsSaved prelude W bytes → IsLoaded R code_named prelude bytes X → session_of prelude (session_image W) ≡ Some X
    loaded_is W X bytes w known s l = subst (λ I. session_of prelude I ≡ Some X) (sym same) l.session
      where
        stands : (met : ℕ) × ((image_format R root_count).after 0 (session_image W) ≡ Some met)
        stands = stand prelude W R w.sound w.may known s.written.small s.kept knows (subst (λ (b : List ℕ). length b ≤ 2147483647) (s.written.spells R) s.size)

        back : read_image R root_count bytes ≡ read (session_image W) stands.0 []
        back = ap (read_image R root_count) (s.written.spells R) ∙ read_back R (session_image W) stands.0 stands.1

        same : session_image W ≡ l.image
        same = fits_so code_named (session_image W) l.image stands.0 l.met (sym (ap (with_fits code_named) back) ∙ l.accepted)

    pub record Onward (W : World) (lines : List (List ℕ)) (printed : List ℕ) (close : Close) : Type 0 where
      pub run : Run
      pub runs : CodeOnward (row_numbered build) W lines budget run
      pub prints : run.printed ≡ printed
      pub closes : run.close ≡ close

    -- what the loaded session does, the saved one would have done
    pub moved : (W X : World) (bytes : List ℕ) (lines : List (List ℕ)) (s : Run) → Waits build fit budget W → HasFunctions prelude W → IsSaved prelude W bytes → IsLoaded R code_named prelude bytes X → Each Short lines
        → CodeOnward (row_numbered build) X lines budget s → Onward W lines s.printed s.close
    moved W X bytes lines s w known saved loaded short c =
        let r = onward_runs build fit budget W lines w short in
        let k = goes_on (row_numbered build) (numbered_none build fit.makes_none) (prelude_pairs (length prelude)) W (opening prelude) X (session_target (opening prelude)) (session_name W)
        (can prelude library W w.sound w.may (record { known = known; untouched = saved.written.untouched }) saved.written.small) (loaded_is W X bytes w known saved loaded) lines budget r.0 r.1 in
        let same : k.0 ≡ s = onward_once build fit budget X lines k.0 s k.1 c in
        record { run = r.0; runs = r.1; prints = k.2.printed ∙ ap (λ (x : Run). x.printed) same; closes = k.2.close ∙ ap (λ (x : Run). x.close) same }

    joined : (bytes : List ℕ) (inputs : List (List (List ℕ))) (text : List ℕ) (close : Close) → GoOn R code_named prelude (row_numbered build) budget bytes inputs text close
        → (W : World) → Waits build fit budget W → HasFunctions prelude W → IsSaved prelude W bytes → AreShort inputs → Onward W (all_lines inputs) text close
    joined bytes inputs text close (last_session image X lines r loaded c) W w known saved short =
        subst (λ ls. Onward W ls r.printed r.close) (sym (append_nil lines)) (moved W X image lines r w known saved loaded (short 0 lines refl) c)
    joined bytes inputs text close (saved_session image X lines r next more after_text end loaded c suspended then_saved rest) W w known saved short =
        let later_short = each_tail (λ (lines : List (List ℕ)). Each Short lines) lines more short in
        let y = joined next more after_text end rest r.last (onward_waits build fit budget X lines r (record { sound = loaded.sound; may = loaded.waits }) (short 0 lines refl) c suspended)
        (keeps_functions prelude X r.last (session_has_prelude prelude loaded.image X loaded.session).known (onward_keeps (row_numbered build) X lines budget r c)) then_saved later_short in
        let m = moved W X image (lines ++ all_lines more) (behind r.printed y.run) w known saved loaded
        (each_append Short lines (all_lines more) (short 0 lines refl) (all_short more later_short))
        (onward_run_cut (row_numbered build) X lines (all_lines more) budget r y.run c suspended y.runs) in
        record { run = m.run; runs = m.runs; prints = m.prints ∙ ap (λ t. r.printed ++ t) y.prints; closes = m.closes ∙ y.closes }

    module _ (code : Prototype) (checked : IsChecked code) where
      abbrev beginning : World
      beginning = begun (opening prelude) code

      begins : Waits build fit budget beginning
      begins = record {
        sound = begun_sound (length all_entries) (opening prelude) code (opening_sound prelude library.ok) (opening_idle prelude) checked;
        may = begun_may_turn (opening prelude) code (opening_idle prelude);
      }

      one_run : (inputs : List (List (List ℕ))) (text : List ℕ) (close : Close) → AreShort inputs → Sessions R code_named prelude (row_numbered build) budget code inputs text close
          → IsOneRun build prelude code (all_lines inputs) budget text close
      one_run inputs text close short (only_session lines r c) =
          record { run = r; runs = subst (λ ls. CodeRun (row_numbered build) beginning ls budget r) (sym (append_nil lines)) c; prints = refl; closes = refl }
      one_run inputs text close short (first_session lines r next more after_text end c suspended saved rest) =
          let later_short = each_tail (λ (lines : List (List ℕ)). Each Short lines) lines more short in
          let y = joined next more after_text end rest r.last (run_waits build fit budget beginning lines r begins (short 0 lines refl) c suspended)
          (keeps_functions prelude beginning r.last (begun_has_prelude prelude (opening prelude) code (opening_has_prelude prelude)).known (runs_keep (row_numbered build) beginning lines budget r c)) saved later_short in
          record {
            run = behind r.printed y.run;
            runs = run_cut (row_numbered build) beginning lines (all_lines more) budget r y.run c suspended y.runs;
            prints = ap (λ t. r.printed ++ t) y.prints;
            closes = y.closes;
          }

pub sessions_are_one_run : ImagesReadBack → SessionsStand → SavedCanResume → SavedSessionsGoOn → SessionsAreOneRun
sessions_are_one_run read_back stand can goes_on build fit R knows code_named prelude library code checked budget inputs text close short s =
    one_run read_back stand can goes_on build fit R knows code_named prelude library budget code checked inputs text close short s
