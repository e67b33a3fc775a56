-- The labels so far and those that are left come to what all come to.
use Rattle.std.proofs.Common.{◌≡◌, [], drop}
use Rattle.code_of.specs.Jumps.{label_in}
use Rattle.code_stat.specs.Drafts.{landing_if, newest_first}
use Rattle.code_stat.proofs.Leading.{found_from}
use Rattle.code_stat.proofs.jumps.find.Given as goal

abbrev pub invariant-loop-label : goal.invariant-loop-label
invariant-loop-label l = found_from l.name (drop l.label-index l.label-items) (landing_if l.found) ≡ label_in l.name (newest_first l.passed.items [])
