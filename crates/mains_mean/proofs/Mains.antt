-- The laws of runs on code that means a tree, for any main function.
use Rattle.std.proofs.Common.{ℕ, List, Option, length}
use Rattle.tree_core.specs.Tree.{Block, Body}
use Rattle.tree_activation.specs.Work.{State}
use Rattle.scope_core.specs.Places.{placed}
use Rattle.code_core.specs.Prototype.{Prototype}
use Rattle.stat_laws.specs.Fits.{is_known}
use Rattle.library_rows.specs.Library.{Entry, all_entries}
use Rattle.library_sound.specs.Laws.{LibraryThatLoadsIsSafe}
use Rattle.load_rows.specs.Loading.{Builds}
use Rattle.source_builds.specs.Builds.{BuildsSources, code_builds}
use Rattle.source_laws.proofs.Meaning.{source_means}
use Rattle.source_runs.proofs.Loading.{loaded_alike}
use Rattle.loaded_code.specs.Laws.{library}
use Rattle.lua_meaning.specs.Meaning.{Meaning, Script}
use Rattle.lua_meaning.specs.Opening.{primitives}
use Rattle.lua_meaning.specs.TreeMeaning.{tree_opening}
use Rattle.code_means.specs.Runs.{code_opening}
use Rattle.runs_alike.specs.Alike.{script}
use Rattle.runs_alike.proofs.Openings.{openings_alike}
use Rattle.cells_alike.proofs.Begun.{opening_ready}
use Rattle.cells_alike.proofs.Letter.{code_after, letter_after}
use Rattle.machine_runs.specs.Opening.{opening}
use Rattle.machine_runs.specs.Runs.{Run}
use Rattle.means_runs.specs.Runs.{ScriptWorlds}
use Rattle.means_runs.proofs.Runs as code_runs
use Rattle.scripts_mean.specs.Scripts.{Begins, MeansSo, RunsAs, name_in}
use Rattle.scripts_mean.proofs.Scripts.{runs_as, worlds}
use Rattle.mains_mean.specs.Mains.{IsMain, DoesWith, MainsDo, MainsMean, CodeIsMain}

module _ (safe : LibraryThatLoadsIsSafe) (builds : Builds Body) (are : BuildsSources builds) (source : List ℕ) (tree : Block) (prelude : List (Entry Body)) (compiled : List (Entry Prototype)) (given : Option (List ℕ)) (input : List (List ℕ)) (budget : ℕ) (k : Begins source tree prelude compiled given input) (main : Prototype) (is : IsMain tree given main) where
  abbrev code : Builds Prototype
  code = code_builds builds

  abbrev of_main : Script Prototype
  of_main = script main (name_in given) (is_known given)

  main_worlds : ScriptWorlds (length all_entries) (library builds) (primitives code) (opening compiled) (code_opening compiled) of_main input
  main_worlds =
      let of_code = worlds safe builds are source tree prelude compiled given input budget k in
      record {
        safe = of_code.safe;
        same = of_code.same;
        sound = of_code.sound;
        opened = of_code.opened;
        script_ok = record { checked = is.checked; names_globals = is.names_globals; named = is.named };
        lines = k.lines;
      }

  does : (r : Run) → DoesWith builds main compiled input budget r → (m : Meaning Body State) × MeansSo builds tree given input budget prelude m × RunsAs r m
  does r c =
      let s = code_runs.scripts_run (length all_entries) (library builds) (primitives code) (opening compiled) (code_opening compiled) of_main input budget main_worlds r c in
      let t = letter_after builds code (loaded_alike builds are) (tree_opening prelude) (code_opening compiled) (opening_ready prelude) (openings_alike prelude compiled k.libraries.alike) (placed tree) main (name_in given) (is_known given) is.means input budget s.0 s.1 in
      (t.ends.meaning, t.ends.is_meant, runs_as r s.0 t.ends.meaning s.2 t.ends.alike)

  meant : (m : Meaning Body State) → MeansSo builds tree given input budget prelude m → (r : Run) × DoesWith builds main compiled input budget r × RunsAs r m
  meant m is_meant =
      let t = code_after builds code (loaded_alike builds are) (tree_opening prelude) (code_opening compiled) (opening_ready prelude) (openings_alike prelude compiled k.libraries.alike) (placed tree) main (name_in given) (is_known given) is.means input budget m is_meant in
      let s = code_runs.scripts_mean (length all_entries) (library builds) (primitives code) (opening compiled) (code_opening compiled) of_main input budget main_worlds t.meaning t.is_meant in
      (s.0, s.1, runs_as s.0 t.meaning m s.2 t.alike)

pub mains_do : LibraryThatLoadsIsSafe → MainsDo
mains_do safe builds are source tree prelude compiled given input budget k main is = does safe builds are source tree prelude compiled given input budget k main is

pub mains_mean : LibraryThatLoadsIsSafe → MainsMean
mains_mean safe builds are source tree prelude compiled given input budget k main is = meant safe builds are source tree prelude compiled given input budget k main is

-- the code that is defined

pub code_is_main : LibraryThatLoadsIsSafe → CodeIsMain
code_is_main safe builds are source tree prelude compiled given input k =
    let of_code = worlds safe builds are source tree prelude compiled given input 0 k in
    record {
      checked = of_code.script_ok.checked;
      means = source_means source k.read.tokens tree k.read.limited k.read.lexed k.read.derived k.read.lawful given;
      names_globals = of_code.script_ok.names_globals;
      named = of_code.script_ok.named;
    }
