-- A run of code leaves the prelude as it was made.
use Rattle.std.proofs.Common.{ℕ, List, sym, subst}
use Rattle.load_rows.specs.Loading.{Builds}
use Rattle.tree_core.specs.Tree.{Body}
use Rattle.code_core.specs.Prototype.{Prototype}
use Rattle.code_core.specs.Check.{IsChecked}
use Rattle.library_rows.specs.PreludeText.{prelude_text}
use Rattle.prelude_code.specs.Prelude.{IsPreludeCode}
use Rattle.prelude_stays.specs.Laws.{RunsHavePrelude, GuardedCode}
use Rattle.source_builds.specs.Builds.{BuildsSources, code_builds}
use Rattle.machine_runs.specs.Laws.{PreludeOk, AreShort}
use Rattle.machine_runs.specs.Runs.{Run, CodeRun}
use Rattle.loaded_code.specs.Laws.{library, LoadingIsSafe}
use Rattle.scripts_mean.specs.Scripts.{PreludeIsAlike}
use Rattle.session_images.specs.Prelude.{HasPrelude}
use Rattle.lua_feed.specs.Running.{started}
use Rattle.program.specs.Sessions.{functions_of}
use Rattle.program.proofs.MeaningLemmas.{read_of}

pub run_keeps : {builds : Builds Body} → BuildsSources builds → RunsHavePrelude → GuardedCode → LoadingIsSafe → PreludeIsAlike → (prelude code : Prototype) (budget : ℕ) → IsPreludeCode prelude → IsChecked code
    → (lines : List (List ℕ)) → AreShort lines → (run : Run) → CodeRun (library builds) (started prelude code) lines budget run → HasPrelude (functions_of prelude) run.last
run_keeps {builds = builds} sources law guarded safe alike prelude code budget own checked lines short run runs =
    let made = own.compiled in
    let ok : PreludeOk (functions_of prelude) = subst (λ p. PreludeOk (functions_of p)) (sym made.code_is) (alike made.tree (read_of prelude_text made.tree made.is_source)).ok in
    law (code_builds builds) (safe builds sources) (functions_of prelude) ok (guarded prelude own.guarded) code checked lines budget run short runs
