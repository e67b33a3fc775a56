-- A session that was saved where the script waited for a line goes on as the script does.
use Rattle.std.proofs.Common.{ℕ, ◌≡◌, ◌+◌, List, [], ◌∷◌, Option, length, refl, sym, ap, subst, ◌∙◌, arith}
use Rattle.tree_core.specs.Tree.{Block, Body}
use Rattle.tree_activation.specs.Work.{when_declared, State}
use Rattle.scope_core.specs.Places.{placed}
use Rattle.code_core.specs.Prototype.{Prototype}
use Rattle.code_core.specs.Check.{IsChecked}
use Rattle.code_of.specs.CodeOf.{code_of}
use Rattle.list_laws.proofs.Items.{some_same}
use Rattle.stat_laws.specs.Fits.{is_known}
use Rattle.library_rows.specs.Library.{Entry, all_entries}
use Rattle.library_sound.specs.Laws.{LibraryThatLoadsIsSafe}
use Rattle.load_rows.specs.Loading.{Builds}
use Rattle.lua_meaning.specs.World.{World as TreeWorld}
use Rattle.lua_meaning.specs.Meaning as meaning
use Rattle.lua_meaning.specs.Meaning.{Meaning, Outcome, IsOnward}
use Rattle.lua_meaning.specs.Opening.{primitives}
use Rattle.lua_meaning.specs.TreeMeaning.{trees, tree_opening}
use Rattle.lua_meaning.proofs.Runs.{given_within, meaning_once}
use Rattle.machine_core.specs.World.{World}
use Rattle.machine_runs.specs.Opening.{opening, begun}
use Rattle.machine_runs.specs.Runs.{Close, has_returned, has_failed, has_spent, is_suspended, Run, CodeOnward}
use Rattle.machine_runs.proofs.Opening.{opening_sound, opening_idle, begun_sound, begun_may_turn}
use Rattle.loaded_code.specs.Laws.{library, load_by}
use Rattle.source_builds.specs.Builds.{BuildsSources}
use Rattle.source_laws.proofs.Checked.{source_checked}
use Rattle.runs_alike.specs.Alike.{script}
use Rattle.functions_stay.proofs.Runs.{runs_keep}
use Rattle.image_bytes.specs.ReadBack.{ImagesReadBack}
use Rattle.images_stand.specs.Sessions.{KnowsLibraries, SessionsStand}
use Rattle.session_images.specs.Laws.{IsLibrary, SavedCanResume}
use Rattle.session_images.specs.Prelude.{HasFunctions}
use Rattle.session_images.proofs.Prelude.{opening_has_prelude, begun_has_prelude, keeps_functions}
use Rattle.sessions_resume.specs.Laws.{SavedSessionsGoOn}
use Rattle.lua_saving.specs.Saving.{session_reader, session_codes}
use Rattle.scripts_mean.specs.Scripts.{EndsAs, RunsAs, name_in, MeansSo}
use Rattle.scripts_mean.proofs.Scripts.{WaitsAs, SuspendsAs, goes_on_as, does_so}
use Rattle.sessions_join.specs.Laws.{IsFit}
use Rattle.sessions_join.specs.Sessions.{IsSaved}
use Rattle.sessions_join.proofs.Waiting.{Waits, run_waits}
use Rattle.sessions_join.proofs.Joined.{moved}
use Rattle.sessions_load.specs.Law.{IsLoadable, RunIsLoadable, LoadedGoesOn}
use Rattle.sessions_mean.proofs.Meant.{LoadingStands, loading_fits}
use Rattle.calls_mean.specs.Images.{GoesOnAs, StandsFor}
use Rattle.machine_runs.specs.Laws.{AreShort}
use Rattle.calls_mean.specs.SavedImages.{IsSavedScript, SavedImagesStand}

-- a suspended script means one thing alone
onward_once : (builds : Builds Body) (W : TreeWorld Body State) (lines : List (List ℕ)) (budget : ℕ) (x y : Meaning Body State)
    → IsOnward (trees when_declared) (primitives builds) W lines budget x → IsOnward (trees when_declared) (primitives builds) W lines budget y → x ≡ y
onward_once builds W [] budget x y a b = some_same x y (sym a.gives ∙ b.gives)
onward_once builds W (line ∷ more) budget x y a b =
    let system = trees when_declared in
    let prims = primitives builds in
    let V : TreeWorld Body State = meaning.handed_line system prims W line budget in
    let far : ℕ = a.steps + b.steps in
    some_same x y (sym (given_within system prims a.steps far V more budget x a.gives (omega arith)) ∙ given_within system prims b.steps far V more budget y b.gives (omega arith))

-- a run that waits for a line has a meaning that is suspended
waits_so : (close : Close) (W : World) (x : Outcome Body State) → close ≡ is_suspended → EndsAs close x → SuspendsAs close W x → (T : TreeWorld Body State) × (x ≡ meaning.is_suspended T) × WaitsAs W T
waits_so is_suspended W (meaning.is_suspended T) is ends waits = (T, refl, waits)
waits_so is_suspended W x is ends waits = absurd ends
waits_so has_returned W x is ends waits = absurd (cc)
waits_so has_failed W x is ends waits = absurd (cc)
waits_so has_spent W x is ends waits = absurd (cc)

-- what is proved below
pub record Laws : Type 0 where
  pub read_back : ImagesReadBack
  pub stand : SessionsStand
  pub can : SavedCanResume
  pub goes_on : SavedSessionsGoOn
  pub safe : LibraryThatLoadsIsSafe
  pub loading : LoadingStands
  pub loads : RunIsLoadable
  pub onward : LoadedGoesOn
  pub knows : KnowsLibraries session_reader

module _ (laws : Laws) (builds : Builds Body) (are : BuildsSources builds) (compiled : List (Entry Prototype)) (is_library : IsLibrary compiled) where
  fit : IsFit (load_by builds)
  fit = loading_fits laws.loading builds are

  -- a session that is loaded goes on as the one that was saved would have, and so as the script
  goes_on_so : (W : World) (T : TreeWorld Body State) (waits : (budget : ℕ) → Waits (load_by builds) fit budget W) → WaitsAs W T → HasFunctions compiled W → (bytes : List ℕ) (saved : IsSaved compiled W bytes) (l : IsLoadable compiled bytes)
      → GoesOnAs builds l.session T
  goes_on_so W T waits alike known bytes saved l = record { does = does; means = means }
    where
      does : (lines : List (List ℕ)) (budget : ℕ) → AreShort lines → (run : Run) → CodeOnward (library builds) l.session lines budget run
          → (m : Meaning Body State) × IsOnward (trees when_declared) (primitives builds) T lines budget m × RunsAs run m
      does lines budget short run goes =
          let v = moved laws.read_back laws.stand laws.can laws.goes_on (load_by builds) fit session_reader laws.knows (session_codes compiled) compiled is_library budget W l.session bytes lines run (waits budget) known saved l.holds short goes in
          let g = goes_on_as laws.safe builds are W T (waits budget).sound alike lines budget short v.run v.runs in
          (g.0, g.1, record { printed = sym v.prints ∙ g.2.printed; ends = subst (λ c. EndsAs c g.0.outcome) v.closes g.2.ends })

      means : (lines : List (List ℕ)) (budget : ℕ) → AreShort lines → (m : Meaning Body State) → IsOnward (trees when_declared) (primitives builds) T lines budget m
          → (run : Run) × CodeOnward (library builds) l.session lines budget run × RunsAs run m
      means lines budget short m is =
          let run = laws.onward (load_by builds) fit compiled bytes l.session l.holds lines budget short in
          let d = does lines budget short run.0 run.1 in
          (run.0, run.1, subst (RunsAs run.0) (onward_once builds T lines budget d.0 m d.1 is) d.2)

module _ (laws : Laws) (builds : Builds Body) (are : BuildsSources builds) (source : List ℕ) (tree : Block) (prelude : List (Entry Body)) (compiled : List (Entry Prototype)) (given : Option (List ℕ)) (lines : List (List ℕ)) (budget : ℕ) (bytes : List ℕ)
    (s : IsSavedScript builds source tree prelude compiled given lines budget bytes) where
  abbrev code : Prototype
  code = code_of given (placed tree)

  abbrev start : World
  start = begun (opening compiled) code

  is_library : IsLibrary compiled
  is_library = record { ok = s.begins.libraries.ok; count = s.all_there }

  checked : IsChecked code
  checked = source_checked source s.begins.read.tokens tree s.begins.read.limited s.begins.read.lexed s.begins.read.derived s.begins.read.lawful given s.begins.name

  begins : (budget : ℕ) → Waits (load_by builds) (fit laws builds are compiled is_library) budget start
  begins budget = record {
    sound = begun_sound (length all_entries) (opening compiled) code (opening_sound compiled is_library.ok) (opening_idle compiled) checked;
    may = begun_may_turn (opening compiled) code (opening_idle compiled);
  }

  waits : (further : ℕ) → Waits (load_by builds) (fit laws builds are compiled is_library) further s.run.last
  waits further = let w = run_waits (load_by builds) (fit laws builds are compiled is_library) budget start lines s.run (begins budget) s.begins.lines s.runs s.waits in record { sound = w.sound; may = w.may }

  known : HasFunctions compiled s.run.last
  known = keeps_functions compiled start s.run.last (begun_has_prelude compiled (opening compiled) code (opening_has_prelude compiled)).known (runs_keep (library builds) start lines budget s.run s.runs)

  stands_for : (m : Meaning Body State) → MeansSo builds tree given lines budget prelude m → StandsFor builds compiled bytes m
  stands_for m is =
      let d = does_so laws.safe builds are source tree prelude compiled given lines budget s.begins s.run s.runs in
      let same : d.m ≡ m = meaning_once (trees when_declared) (primitives builds) (tree_opening prelude) (script (placed tree) (name_in given) (is_known given)) lines budget d.m m d.is_meant is in
      let w = waits_so s.run.close s.run.last d.m.outcome s.waits d.alike.ends d.waits in
      let l = laws.loads (load_by builds) (fit laws builds are compiled is_library) compiled is_library code checked lines budget s.run s.begins.lines s.runs s.waits bytes s.saved in
      record {
        script = w.0;
        suspended = ap (λ (x : Meaning Body State). x.outcome) (sym same) ∙ w.1;
        stands = record { session = l.session; holds = l.holds; waits = l.waits; goes_on = goes_on_so laws builds are compiled is_library s.run.last w.0 waits w.2 known bytes s.saved l };
      }

pub saved_images_stand : Laws → SavedImagesStand
saved_images_stand laws builds are source tree prelude compiled given lines budget bytes s m is = stands_for laws builds are source tree prelude compiled given lines budget bytes s m is
