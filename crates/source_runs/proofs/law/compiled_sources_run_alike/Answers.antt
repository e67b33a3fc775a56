use Rattle.scope_core.specs.Places.{placed}
use Rattle.code_of.specs.CodeOf.{code_of}
use Rattle.lua_meaning.specs.TreeMeaning.{tree_opening}
use Rattle.code_means.specs.Runs.{code_opening}
use Rattle.stat_laws.specs.Fits.{is_known}
use Rattle.runs_alike.proofs.Openings.{openings_alike}
use Rattle.cells_alike.proofs.Begun.{opening_ready}
use Rattle.cells_alike.proofs.Letter.{code_after, letter_after}
use Rattle.source_laws.proofs.Meaning.{source_means}
use Rattle.source_builds.specs.Builds.{code_builds}
use Rattle.source_runs.proofs.Loading.{loaded_alike}
use Rattle.source_runs.proofs.law.compiled_sources_run_alike.Goals as goal

pub returns : goal.returns
returns c = λ builds are source tokens tree small t d keeps prelude compiled like given name input budget.
    let means = source_means source tokens tree small t d keeps given in
    let W = tree_opening prelude in
    let V = code_opening compiled in
    let worlds = openings_alike prelude compiled like in (
      code_after builds (code_builds builds) (loaded_alike builds are) W V (opening_ready prelude) worlds (placed tree) (code_of given (placed tree)) name (is_known given) means input budget,
      λ m is. (letter_after builds (code_builds builds) (loaded_alike builds are) W V (opening_ready prelude) worlds (placed tree) (code_of given (placed tree)) name (is_known given) means input budget m is).ends,
    )
