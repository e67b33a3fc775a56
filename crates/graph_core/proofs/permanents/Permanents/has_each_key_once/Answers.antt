use Rattle.std.proofs.Common.{arith, refl, rules}
use Rattle.graph_core.proofs.Pairs.{keys_once, objects_once}
use Rattle.graph_core.proofs.permanents.Permanents.has_each_key_once.Goals as goal

pub returns-then-has_key_before-clause-objects : goal.returns-then-has_key_before-clause-objects
returns-then-has_key_before-clause-objects c = objects_once c.args.self.now.keys.entries c.len-at-end.ensures.unique

pub returns-clause-keys : goal.returns-clause-keys
returns-clause-keys c = (λ t. keys_once c.args.self.now.keys.entries c.loop-at.at c.loop-at.invariant (search (arith, rules)), λ k. refl)

pub returns-clause-objects : goal.returns-clause-objects
returns-clause-objects c = objects_once c.args.self.now.keys.entries c.len-at-end.ensures.unique
