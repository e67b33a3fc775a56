-- No meaning of a source is broken, since the machine does what it means, and a run of the machine never ends so.
use Rattle.std.proofs.Common.{ℕ, List, Option, length, ◌≡◌, refl, subst}
use Rattle.tree_core.specs.Tree.{Block, Body}
use Rattle.tree_activation.specs.Work.{Celling, when_declared, when_captured, State}
use Rattle.code_core.specs.Prototype.{Prototype}
use Rattle.library_rows.specs.Library.{Entry, all_entries}
use Rattle.load_rows.specs.Loading.{Builds}
use Rattle.source_builds.specs.Builds.{BuildsSources, code_builds}
use Rattle.machine_core.specs.Talk.{State as CodeState}
use Rattle.machine_core.specs.World.{World}
use Rattle.lua_meaning.specs.Meaning.{Meaning, Outcome, IsMeaning, is_broken}
use Rattle.lua_meaning.specs.Opening.{primitives}
use Rattle.lua_meaning.specs.TreeMeaning.{trees, tree_opening}
use Rattle.scope_core.specs.Places.{placed}
use Rattle.code_of.specs.CodeOf.{code_of}
use Rattle.stat_laws.specs.Fits.{is_known}
use Rattle.code_means.specs.Runs.{code_opening, EndAlike}
use Rattle.runs_alike.specs.Alike.{script}
use Rattle.cells_alike.proofs.Begun.{opening_ready, first_ends}
use Rattle.loaded_code.specs.Laws.{library}
use Rattle.library_sound.specs.Laws.{LibraryThatLoadsIsSafe}
use Rattle.machine_runs.specs.Opening.{opening}
use Rattle.machine_runs.specs.Runs.{Close, has_returned, has_failed, has_spent, is_suspended}
use Rattle.means_runs.specs.Runs.{EndsAlike}
use Rattle.means_runs.proofs.Runs as code
use Rattle.scripts_mean.specs.Broken.{IsNeverBroken, SourcesAreNeverBroken}
use Rattle.scripts_mean.specs.Scripts.{Begins, EndsAs, name_in}
use Rattle.scripts_mean.proofs.Scripts.{scripts_mean, worlds}

-- no close of the machine's run is such an end

not_so : (close : Close) → EndsAs close is_broken → ⊥
not_so has_returned e = absurd e
not_so has_failed e = absurd e
not_so has_spent e = absurd e
not_so is_suspended e = absurd e

not_alike : (close : Close) (W : World) → EndsAlike close W is_broken → ⊥
not_alike has_returned W e = absurd e
not_alike has_failed W e = absurd e
not_alike has_spent W e = absurd e
not_alike is_suspended W e = absurd e

-- what ends alike is broken as well
broken_too : (y : Outcome Body State) → EndAlike {A = Body} {B = Body} {S = State} {T = State} is_broken y → y ≡ is_broken
broken_too is_broken e = refl
broken_too _ e = absurd e

module _ (safe : LibraryThatLoadsIsSafe) (builds : Builds Body) (are : BuildsSources builds) (source : List ℕ) (tree : Block) (prelude : List (Entry Body)) (compiled : List (Entry Prototype)) (given : Option (List ℕ)) (input : List (List ℕ)) (budget : ℕ) (k : Begins source tree prelude compiled given input) where
  by_letter : (m : Meaning Body State) → IsMeaning (trees when_declared) (primitives builds) (tree_opening prelude) (script (placed tree) (name_in given) (is_known given)) input budget m → m.outcome ≡ is_broken → ⊥
  by_letter m is broken =
      let s = scripts_mean safe builds are source tree prelude compiled given input budget k m is in
      not_so s.0.close (subst (λ x. EndsAs s.0.close x) broken s.2.ends)

  by_capture : (m : Meaning Body State) → IsMeaning (trees when_captured) (primitives builds) (tree_opening prelude) (script (placed tree) (name_in given) (is_known given)) input budget m → m.outcome ≡ is_broken → ⊥
  by_capture m is broken =
      let e = (first_ends builds (tree_opening prelude) (opening_ready prelude) (script (placed tree) (name_in given) (is_known given)) budget input m is).ends in
      by_letter e.meaning e.is_meant (broken_too e.meaning.outcome (subst (λ x. EndAlike x e.meaning.outcome) broken e.alike.outcome))

  of_tree : (celling : Celling) (m : Meaning Body State) → IsMeaning (trees celling) (primitives builds) (tree_opening prelude) (script (placed tree) (name_in given) (is_known given)) input budget m → m.outcome ≡ is_broken → ⊥
  of_tree when_declared m is = by_letter m is
  of_tree when_captured m is = by_capture m is

  never_broken : IsNeverBroken builds tree prelude compiled given input budget
  never_broken = record {
    by_tree = of_tree;
    by_code = λ m is broken.
        let s = code.scripts_mean (length all_entries) (library builds) (primitives (code_builds builds)) (opening compiled) (code_opening compiled) (script (code_of given (placed tree)) (name_in given) (is_known given)) input budget
        (worlds safe builds are source tree prelude compiled given input budget k) m is in
        not_alike s.0.close s.0.last (subst (λ x. EndsAlike s.0.close s.0.last x) broken s.2.ends);
  }

pub sources_never_broken : LibraryThatLoadsIsSafe → SourcesAreNeverBroken
sources_never_broken safe builds are source tree prelude compiled given input budget k = never_broken safe builds are source tree prelude compiled given input budget k
