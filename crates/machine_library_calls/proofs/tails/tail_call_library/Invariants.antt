use Rattle.machine_library_calls.specs.Calls.{begins}
use Rattle.machine_library_calls.proofs.tails.tail_call_library.Given as goal

abbrev pub ghost-begin_tail_call : goal.ghost-begin_tail_call
ghost-begin_tail_call a = begins a.world.now a.budget.now
