use Rattle.machine_means.proofs.Protected.{results_reach, errors_reach}
use Rattle.machine_means.proofs.Raising.{texts_raised, protected_calls}
use Rattle.machine_means.proofs.Catching.{errors_raised}
use Rattle.machine_means.proofs.Burying.{coroutines_closed}
use Rattle.machine_means.proofs.law.frames_keep_worlds_joined.Goals as goal

pub returns-clause-results : goal.returns-clause-results
returns-clause-results c = results_reach

pub returns-clause-errors : goal.returns-clause-errors
returns-clause-errors c = errors_reach

pub returns-clause-texts : goal.returns-clause-texts
returns-clause-texts c = texts_raised

pub returns-clause-raised : goal.returns-clause-raised
returns-clause-raised c = errors_raised

pub returns-clause-protected : goal.returns-clause-protected
returns-clause-protected c = protected_calls

pub returns-clause-closed : goal.returns-clause-closed
returns-clause-closed c = coroutines_closed
