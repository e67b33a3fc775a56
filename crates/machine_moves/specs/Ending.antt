-- How a step of the machine ends, in the machine's words.
use Rattle.machine_core.specs.Moves.{Ending, go, returned, asks, calls_primitive, raised, unwinding, spent, main_yielded, main_returned, main_failed}
use Rattle.machine_moves.specs.declared.ending.Ending.{Ending as Kept}
use Rattle.machine_moves.specs.declared.ending.Ending.TheVariants.{Go, Returned, Asks, CallsPrimitive, Raised, Unwinding, Spent, MainYielded, MainReturned, MainFailed}

abbrev pub ending_of : Kept → Ending
ending_of Go = go
ending_of Returned = returned
ending_of Asks = asks
ending_of (CallsPrimitive n) = calls_primitive n
ending_of Raised = raised
ending_of Unwinding = unwinding
ending_of Spent = spent
ending_of MainYielded = main_yielded
ending_of MainReturned = main_returned
ending_of MainFailed = main_failed
