use Rattle.machine_library_calls.specs.Calls.{begins}
use Rattle.machine_library_calls.proofs.calls.call_library.Given as goal

abbrev pub ghost-call_with_arguments : goal.ghost-call_with_arguments
ghost-call_with_arguments a = begins a.world.now a.budget.now

abbrev pub ghost-give_result : goal.ghost-give_result
ghost-give_result a = begins a.world.now a.budget.now
