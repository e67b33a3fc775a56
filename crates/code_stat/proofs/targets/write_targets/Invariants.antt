-- What is left of the targets leads to what all lead to.
use Rattle.std.proofs.Common.{◌≡◌, drop}
use Rattle.tree_core.specs.Tree.{exps}
use Rattle.tree_core.specs.Plain.{plain_exps}
use Rattle.code_stat.proofs.Going.{targets_from}
use Rattle.code_stat.proofs.targets.write_targets.Given as goal

abbrev pub invariant-loop-target : goal.invariant-loop-target
invariant-loop-target l = targets_from l.emitter l.register (exps (plain_exps (drop l.target-index l.target-items))) ≡ targets_from l.fn.emitter l.fn.register (exps (plain_exps l.targets.items))
