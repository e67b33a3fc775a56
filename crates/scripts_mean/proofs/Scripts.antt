-- From the tree to the machine and back, over the code's meaning.
use Rattle.std.proofs.Common.{ℕ, ◌≡◌, ◌≤◌, List, Option, Some, length, true, refl, sym, subst, ◌∙◌}
use Rattle.load_rows.specs.Loading.{Built, built, refused_at, Builds}
use Rattle.int_core.specs.Value.{greatest_string}
use Rattle.tree_core.specs.Tree.{Block, Body}
use Rattle.tree_activation.specs.Work.{when_declared, State}
use Rattle.scope_core.specs.Places.{placed}
use Rattle.code_core.specs.Prototype.{Prototype}
use Rattle.code_of.specs.CodeOf.{code_of}
use Rattle.stat_laws.specs.Fits.{is_known}
use Rattle.library_rows.specs.Library.{Entry, all_entries}
use Rattle.machine_core.specs.Talk.{State as CodeState}
use Rattle.machine_core.specs.World.{World}
use Rattle.lua_meaning.specs.Meaning as meaning
use Rattle.lua_meaning.specs.World.{World as TreeWorld}
use Rattle.lua_meaning.specs.Meaning.{Meaning, Outcome, Script, IsOnward}
use Rattle.lua_meaning.specs.Opening.{primitives}
use Rattle.lua_meaning.specs.TreeMeaning.{trees, tree_opening}
use Rattle.code_means.specs.Means.{Means}
use Rattle.code_means.specs.Runs.{code_opening, EndAlike, RunAlike}
use Rattle.runs_alike.specs.Alike.{script}
use Rattle.runs_alike.proofs.Openings.{openings_alike}
use Rattle.cells_alike.proofs.Begun.{opening_ready}
use Rattle.runs_alike.proofs.Endings.{WaitAlike}
use Rattle.cells_alike.proofs.Letter.{LetterWaits, code_after, letter_after, letter_goes_on}
use Rattle.source_laws.proofs.Checked.{source_checked}
use Rattle.loaded_code.specs.Laws.{library, load_by}
use Rattle.loaded_code.proofs.Loaded.{code_ok, some_code}
use Rattle.source_laws.proofs.Meaning.{source_means}
use Rattle.library_sound.specs.Laws.{LibraryThatLoadsIsSafe}
use Rattle.machine_sound.specs.Sound.{Each, Sound}
use Rattle.machine_runs.specs.Opening.{opening}
use Rattle.machine_runs.specs.Runs.{Close, has_returned, has_failed, has_spent, is_suspended, Run, CodeOnward}
use Rattle.machine_runs.proofs.Opening.{opening_sound}
use Rattle.means_steps.specs.Steps.{MainWaits, BuildsNamed}
use Rattle.means_steps.proofs.Libraries.{libraries_same}
use Rattle.means_steps.proofs.Loads.{load_leads}
use Rattle.machine_means.specs.Joined.{TalkWorld, Named}
use Rattle.source_builds.specs.Builds.{BuildsSources, code_built, code_builds}
use Rattle.source_runs.proofs.Loading.{loaded_alike}
use Rattle.means_runs.specs.Runs.{EndsAlike, RunsAlike, ScriptWorlds}
use Rattle.means_runs.proofs.Opened.{opens_alike}
use Rattle.means_runs.proofs.Runs as code_runs
use Rattle.scripts_mean.specs.Scripts.{EndsAs, RunsAs, name_in, Does, MeansSo, Begins, ScriptsDo, ScriptsMean}
use Rattle.scripts_mean.proofs.Names.{code_named}

-- endings

ends_as : (close : Close) (W : World) (x : Outcome Prototype CodeState) (y : Outcome Body State) → EndsAlike close W x → EndAlike y x → EndsAs close y
ends_as has_returned W meaning.has_returned meaning.has_returned a b = tt
ends_as has_failed W meaning.has_failed meaning.has_failed a b = tt
ends_as has_spent W meaning.has_spent meaning.has_spent a b = tt
ends_as is_suspended W (meaning.is_suspended T) (meaning.is_suspended V) a b = tt
ends_as has_returned W meaning.has_returned y a b = absurd b
ends_as has_failed W meaning.has_failed y a b = absurd b
ends_as has_spent W meaning.has_spent y a b = absurd b
ends_as is_suspended W (meaning.is_suspended T) y a b = absurd b
ends_as close W x y a b = absurd a

pub runs_as : (r : Run) (x : Meaning Prototype CodeState) (y : Meaning Body State) → RunsAlike r x → RunAlike y x → RunsAs r y
runs_as r x y a b = record { printed = a.printed ∙ sym b.printed; ends = ends_as r.close r.last x.outcome y.outcome a.ends b.outcome }

code_is_named : (builds : Builds Body) → BuildsNamed (code_builds builds)
code_is_named builds name source p e = by (builds name source) e
  where
    by : (b : Built Body) → code_built name b ≡ built p → Named true name p
    by (refused_at line rule) e = absurd (cc)
    by (built body) e = subst (Named true name) (some_code (code_of (Some name) body) p e) (code_named (Some name) body)

-- the world of a meaning that is suspended stands for that of the machine, in which main waits for a line
pub record WaitsAs (W : World) (T : TreeWorld Body State) : Type 0 where
  pub between : TalkWorld
  pub code : MainWaits W between
  pub tree : LetterWaits between T

abbrev pub SuspendsAs : Close → World → Outcome Body State → Type 0
SuspendsAs is_suspended W (meaning.is_suspended T) = WaitsAs W T
SuspendsAs _ W _ = Unit {0}

suspends_as : (close : Close) (W : World) (x : Outcome Prototype CodeState) (y : Outcome Body State) → EndsAlike close W x → WaitAlike LetterWaits x y → SuspendsAs close W y
suspends_as is_suspended W (meaning.is_suspended T) (meaning.is_suspended V) a b = record { between = T; code = a; tree = b }
suspends_as is_suspended W x (meaning.is_suspended V) a b = absurd a
suspends_as close W x y a b = tt

-- what the machine does further on, the tree means, with whatever budget
pub goes_on_as : LibraryThatLoadsIsSafe → (builds : Builds Body) (are : BuildsSources builds) (W : World) (T : TreeWorld Body State) → Sound (length all_entries) W → WaitsAs W T
    → (input : List (List ℕ)) (budget : ℕ) → Each (λ (line : List ℕ). length line ≤ greatest_string) input
    → (r : Run) → CodeOnward (library builds) W input budget r → (m : Meaning Body State) × IsOnward (trees when_declared) (primitives builds) T input budget m × RunsAs r m
goes_on_as safe builds are W T sound waits input budget short r c =
    let code : Builds Prototype = code_builds builds in
    let s = code_runs.onward_run (length all_entries) (library builds) (primitives code) (safe code (code_ok builds are)) (libraries_same code (load_by builds) (load_leads code (code_is_named builds)))
    input budget W waits.between sound waits.code short r c in
    let t = letter_goes_on builds code (loaded_alike builds are) waits.between T waits.tree input budget s.0 s.1 in
    (t.meaning, t.goes, runs_as r s.0 t.meaning s.2 t.alike)

module _ (safe : LibraryThatLoadsIsSafe) (builds : Builds Body) (are : BuildsSources builds) (source : List ℕ) (tree : Block) (prelude : List (Entry Body)) (compiled : List (Entry Prototype)) (given : Option (List ℕ)) (input : List (List ℕ)) (budget : ℕ) (k : Begins source tree prelude compiled given input) where
  abbrev main : Body
  main = placed tree

  abbrev main_code : Prototype
  main_code = code_of given (placed tree)

  abbrev of_code : Script Prototype
  of_code = script main_code (name_in given) (is_known given)

  -- what is loaded

  abbrev code : Builds Prototype
  code = code_builds builds

  pub worlds : ScriptWorlds (length all_entries) (library builds) (primitives code) (opening compiled) (code_opening compiled) of_code input
  worlds = record {
    safe = safe code (code_ok builds are);
    same = libraries_same code (load_by builds) (load_leads code (code_is_named builds));
    sound = opening_sound compiled k.libraries.ok;
    opened = opens_alike compiled k.libraries.bare;
    script_ok = record {
      checked = source_checked source k.read.tokens tree k.read.limited k.read.lexed k.read.derived k.read.lawful given k.name;
      names_globals = refl;
      named = code_named given main;
    };
    lines = k.lines;
  }

  means : Means (is_known given) main_code main
  means = source_means source k.read.tokens tree k.read.limited k.read.lexed k.read.derived k.read.lawful given

  pub record DoesSo (r : Run) : Type 0 where
    pub m : Meaning Body State
    pub is_meant : MeansSo builds tree given input budget prelude m
    pub alike : RunsAs r m
    pub waits : SuspendsAs r.close r.last m.outcome

  pub does_so : (r : Run) → Does builds tree given input budget compiled r → DoesSo r
  does_so r c =
      let s = code_runs.scripts_run (length all_entries) (library builds) (primitives code) (opening compiled) (code_opening compiled) of_code input budget worlds r c in
      let t = letter_after builds code (loaded_alike builds are) (tree_opening prelude) (code_opening compiled) (opening_ready prelude) (openings_alike prelude compiled k.libraries.alike) main main_code (name_in given) (is_known given) means input budget s.0 s.1 in
      record { m = t.ends.meaning; is_meant = t.ends.is_meant; alike = runs_as r s.0 t.ends.meaning s.2 t.ends.alike; waits = suspends_as r.close r.last s.0.outcome t.ends.meaning.outcome s.2.ends t.waits }

  does : (r : Run) → Does builds tree given input budget compiled r → (m : Meaning Body State) × MeansSo builds tree given input budget prelude m × RunsAs r m
  does r c = let d = does_so r c in (d.m, d.is_meant, d.alike)

  meant : (m : Meaning Body State) → MeansSo builds tree given input budget prelude m → (r : Run) × Does builds tree given input budget compiled r × RunsAs r m
  meant m is =
      let t = code_after builds code (loaded_alike builds are) (tree_opening prelude) (code_opening compiled) (opening_ready prelude) (openings_alike prelude compiled k.libraries.alike) main main_code (name_in given) (is_known given) means input budget m is in
      let s = code_runs.scripts_mean (length all_entries) (library builds) (primitives code) (opening compiled) (code_opening compiled) of_code input budget worlds t.meaning t.is_meant in
      (s.0, s.1, runs_as s.0 t.meaning m s.2 t.alike)

pub scripts_do : LibraryThatLoadsIsSafe → ScriptsDo
scripts_do safe builds are source tree prelude compiled given input budget k = does safe builds are source tree prelude compiled given input budget k

pub scripts_mean : LibraryThatLoadsIsSafe → ScriptsMean
scripts_mean safe builds are source tree prelude compiled given input budget k = meant safe builds are source tree prelude compiled given input budget k
