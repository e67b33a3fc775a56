-- Each call is for one function fewer.
use Rattle.scope_core.proofs.functions.Functions.+reach.Given as goal

abbrev pub decreases-reach : goal.decreases-reach
decreases-reach l = l.count
