-- How coroutines stand, for a script.
use Rattle.machine_core.specs.Moves.{Status, is_suspended, is_running, is_normal, is_dead}
use Rattle.machine_coroutines.specs.declared.standing.Status.{Status as Kept}
use Rattle.machine_coroutines.specs.declared.standing.Status.TheVariants.{Suspended, Running, Normal, Dead}

abbrev pub status_in : Kept → Status
status_in Suspended = is_suspended
status_in Running = is_running
status_in Normal = is_normal
status_in Dead = is_dead
