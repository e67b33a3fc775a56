use Rattle.std.proofs.lemmas.Result.{IfOk-weaker}
use Rattle.loaded_code.specs.Laws.{library}
use Rattle.source_builds.proofs.Knowing.{read_map}
use Rattle.lua_driver.proofs.Ahead.{went_further, ready_to_go, at_once}
use Rattle.lua_driver.proofs.AnyRows.{none_called_safe, reaches_by_any}
use Rattle.lua_driver.proofs.running.go_further.Goals as goal

pub run_ahead-here-requires : goal.run_ahead-here-requires
run_ahead-here-requires c = (none_called_safe, ready_to_go c.in-Go.is c.requires)

pub returns-in-Go-clause-goes : goal.returns-in-Go-clause-goes
returns-in-Go-clause-goes c =
    IfOk-weaker c.step_on.result _ _
    (λ next g. read_map (λ builds are g. went_further c.in-Go.is (reaches_by_any (library builds) c.run_ahead-here.ensures.reaches) g) g)
    c.step_on.ensures.goes

pub returns-clause-goes : goal.returns-clause-goes
returns-clause-goes c = IfOk-weaker c.step.result _ _ (λ next d. read_map (λ builds are d. at_once c.requires d) d) c.step.ensures.does
