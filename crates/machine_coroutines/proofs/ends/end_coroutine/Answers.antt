use Rattle.std.proofs.Common.{[], ap}
use Rattle.int_core.specs.Value.{bind}
use Rattle.lua_heap.specs.Plain.{plain}
use Rattle.machine_core.specs.Moves.{Made, made, runs_main}
use Rattle.std.specs.Prelude.{Bool}
use Rattle.machine_coroutines.proofs.ends.end_coroutine.Goals as goal

pub returns-clause-makes : goal.returns-clause-makes
returns-clause-makes c = λ env. record {
  is = λ fuel. ap (λ o. bind {B = Made Bool} o (λ V. made V [] (runs_main (plain c.args.world.now fuel)))) (c.end_as.ensures.ends fuel);
}
