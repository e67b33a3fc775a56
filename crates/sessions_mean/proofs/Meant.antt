-- The sessions of a script are one run of its code, which does as the script means.
use Rattle.std.proofs.Common.{ℕ, ◌≡◌, List, Option, length, refl, sym, ◌∙◌, ap, subst, arith}
use Rattle.std.specs.Prelude.{◌^◌}
use Rattle.tree_core.specs.Tree.{Block, Body}
use Rattle.tree_activation.specs.Work.{State}
use Rattle.scope_core.specs.Places.{placed}
use Rattle.code_core.specs.Prototype.{Prototype}
use Rattle.code_core.specs.Check.{IsChecked}
use Rattle.code_of.specs.CodeOf.{code_of}
use Rattle.library_rows.specs.Library.{Entry}
use Rattle.lua_meaning.specs.Meaning.{Meaning}
use Rattle.load_rows.specs.Loading.{Builds}
use Rattle.loaded_code.specs.Laws.{library, load_by, LoadingFalls, LoadingIsSafe, LoadingNeverYields}
use Rattle.machine_alike.proofs.PlainRows.{none_rows}
use Rattle.source_builds.specs.Builds.{BuildsSources, code_builds}
use Rattle.machine_runs.specs.Laws.{RunIsOne}
use Rattle.machine_runs.specs.Opening.{opening, begun}
use Rattle.machine_runs.specs.Runs.{Close, Run}
use Rattle.source_laws.proofs.Checked.{source_checked}
use Rattle.scripts_mean.specs.Scripts.{EndsAs, RunsAs, MeansSo, Begins, ScriptsDo, ScriptsMean}
use Rattle.sessions_join.specs.Laws.{IsFit, AreShort, all_lines, IsOneRun, SessionsAreOneRun}
use Rattle.sessions_join.proofs.Waiting.{all_short}
use Rattle.sessions_mean.specs.Law.{AreSessions, IsAsMeant, SessionsMean, SessionsMeanOne}

-- what is known of the row of `load`
pub record LoadingStands : Type 0 where
  pub safe : LoadingIsSafe
  pub falls : LoadingFalls
  pub silent : LoadingNeverYields

pub loading_fits : LoadingStands → (builds : Builds Body) → BuildsSources builds → IsFit (load_by builds)
loading_fits l builds are = record { makes_none = none_rows.of_loads (code_builds builds); least = 2 ^ 64; falls = l.falls builds are; silent = l.silent builds; safe = l.safe builds are }

module _
    (loading : LoadingStands) (joins : SessionsAreOneRun) (builds : Builds Body) (are : BuildsSources builds) (source : List ℕ) (tree : Block) (prelude : List (Entry Body)) (compiled : List (Entry Prototype)) (given : Option (List ℕ)) (budget : ℕ)
    (inputs : List (List (List ℕ))) (printed : List ℕ) (close : Close) (s : AreSessions builds source tree prelude compiled given budget inputs printed close)
  where
    checked : IsChecked (code_of given (placed tree))
    checked = source_checked source s.read.tokens tree s.read.limited s.read.lexed s.read.derived s.read.lawful given s.name

    run : IsOneRun (load_by builds) compiled (code_of given (placed tree)) (all_lines inputs) budget printed close
    run = joins (load_by builds) (loading_fits loading builds are) s.reader s.knows s.code_named compiled (record { ok = s.libraries.ok; count = s.all_there }) (code_of given (placed tree)) checked budget inputs printed close s.lines s.sessions

    begins : Begins source tree prelude compiled given (all_lines inputs)
    begins = record { read = s.read; libraries = s.libraries; name = s.name; lines = all_short inputs s.lines }

    as_meant : (r : Run) (m : Meaning Body State) → run.run ≡ r → RunsAs r m → IsAsMeant m printed close
    as_meant r m same a = record {
      prints = sym a.printed ∙ (ap (λ (x : Run). x.printed) (sym same) ∙ run.prints);
      ends = subst (λ c. EndsAs c m.outcome) (ap (λ (x : Run). x.close) (sym same) ∙ run.closes) a.ends;
    }

    does : ScriptsDo → (m : Meaning Body State) × MeansSo builds tree given (all_lines inputs) budget prelude m × IsAsMeant m printed close
    does law = let k = law builds are source tree prelude compiled given (all_lines inputs) budget begins run.run run.runs in (k.0, k.1, as_meant run.run k.0 refl k.2)

    means : ScriptsMean → RunIsOne → (m : Meaning Body State) → MeansSo builds tree given (all_lines inputs) budget prelude m → IsAsMeant m printed close
    means law one m is =
        let k = law builds are source tree prelude compiled given (all_lines inputs) budget begins m is in
        as_meant k.0 m (one (library builds) (begun (opening compiled) (code_of given (placed tree))) (all_lines inputs) budget run.run k.0 run.runs k.1) k.2

pub sessions_mean : LoadingStands → SessionsAreOneRun → ScriptsDo → SessionsMean
sessions_mean loading joins law builds are source tree prelude compiled given budget inputs printed close s = does loading joins builds are source tree prelude compiled given budget inputs printed close s law

pub sessions_mean_one : LoadingStands → SessionsAreOneRun → ScriptsMean → RunIsOne → SessionsMeanOne
sessions_mean_one loading joins law one builds are source tree prelude compiled given budget inputs printed close s = means loading joins builds are source tree prelude compiled given budget inputs printed close s law one
