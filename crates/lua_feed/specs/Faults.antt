-- How the faults of the devices are handed on.
use Rattle.std.specs.Prelude.{Bool, true, false, Result, Ok, Err}
use Rattle.io_edge.specs.declared.lines.LineFault.{LineFault}
use Rattle.io_edge.specs.declared.lines.LineFault.TheVariants.{Failed, Limit as LineLimit, Memory as LineMemory}
use Rattle.lua_feed.specs.declared.fault.FeedFault.{FeedFault}
use Rattle.lua_feed.specs.declared.fault.FeedFault.TheVariants.{Input, Output, Limit, Memory}

abbrev pub fault_of_line : LineFault → FeedFault
fault_of_line Failed = Input
fault_of_line LineLimit = Limit
fault_of_line LineMemory = Memory

-- whether reading failed
abbrev pub is_input_fault : {T : Type 0} → Result T FeedFault → Bool
is_input_fault (Err Input) = true
is_input_fault (Err _) = false
is_input_fault (Ok value) = false

-- whether writing failed
abbrev pub is_output_fault : {T : Type 0} → Result T FeedFault → Bool
is_output_fault (Err Output) = true
is_output_fault (Err _) = false
is_output_fault (Ok value) = false

-- a fault that no reading gives
abbrev pub of_output : FeedFault → Bool
of_output Output = true
of_output Memory = true
of_output _ = false
