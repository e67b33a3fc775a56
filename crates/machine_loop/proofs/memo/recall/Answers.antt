use Rattle.std.proofs.lemmas.Option.{IfSome_then}
use Rattle.machine_loop.specs.Knowing.{by_first, by_second, by_third}
use Rattle.machine_loop.proofs.memo.recall.Goals as goal

pub returns-in-Some : goal.returns-in-Some
returns-in-Some c = by_first c.in-Some.ensures

pub returns-in-Some-value_of : goal.returns-in-Some-value_of
returns-in-Some-value_of c = by_second c.in-Some-value_of.ensures

pub returns : goal.returns
returns c = IfSome_then c.value_of-3.result c.value_of-3.ensures (λ v t. by_third t)
