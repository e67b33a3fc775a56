-- How the faults of the layers below are handed on, and which status each call has.
use Rattle.std.specs.Prelude.{ℕ, Result, Ok, Err}
use Rattle.io_edge.specs.declared.fault.FileFault.{FileFault}
use Rattle.io_edge.specs.declared.fault.FileFault.TheVariants.{Failed as FileFailed, Absent as FileAbsent, Memory as FileMemory}
use Rattle.chunk_format.specs.declared.fault.ChunkFault.{ChunkFault}
use Rattle.chunk_format.specs.declared.fault.ChunkFault.TheVariants.{Refused as ChunkRefused, Memory as ChunkMemory}
use Rattle.chunk_check.specs.declared.fault.CheckFault.{CheckFault}
use Rattle.chunk_check.specs.declared.fault.CheckFault.TheVariants.{Refused as CheckRefused, Memory as CheckMemory}
use Rattle.compile_text.specs.declared.fault.TextFault.{TextFault}
use Rattle.compile_text.specs.declared.fault.TextFault.TheVariants as text
use Rattle.prelude_code.specs.declared.fault.PreludeFault.{PreludeFault}
use Rattle.prelude_code.specs.declared.fault.PreludeFault.TheVariants as prelude
use Rattle.lua_feed.specs.declared.fault.FeedFault.{FeedFault}
use Rattle.lua_feed.specs.declared.fault.FeedFault.TheVariants as feeding
use Rattle.lua_saving.specs.declared.fault.SaveFault.{SaveFault}
use Rattle.lua_saving.specs.declared.fault.SaveFault.TheVariants as saving
use Rattle.program.specs.declared.fault.Fault.{Fault}
use Rattle.program.specs.declared.fault.Fault.TheVariants as fault
use Rattle.program.specs.Report.{status_of_fault}

abbrev pub fault_of_file : FileFault → Fault
fault_of_file FileFailed = fault.Device
fault_of_file FileAbsent = fault.Absent
fault_of_file FileMemory = fault.Memory

abbrev pub fault_of_prelude : PreludeFault → Fault
fault_of_prelude prelude.Refused = fault.Prelude
fault_of_prelude prelude.Memory = fault.Memory

abbrev pub fault_of_text : TextFault → Fault
fault_of_text (text.Source line) = fault.Refused line
fault_of_text (text.Rule rule line) = fault.Rule rule line
fault_of_text text.Memory = fault.Memory

abbrev pub fault_of_chunk : ChunkFault → Fault
fault_of_chunk (ChunkRefused kind) = fault.NoChunk kind
fault_of_chunk ChunkMemory = fault.Memory

abbrev pub fault_of_check : CheckFault → Fault
fault_of_check (CheckRefused function pc rule) = fault.BrokenRule function pc rule
fault_of_check CheckMemory = fault.Memory

abbrev pub fault_of_feeding : FeedFault → Fault
fault_of_feeding feeding.Input = fault.Device
fault_of_feeding feeding.Output = fault.Device
fault_of_feeding feeding.Limit = fault.InputLimit
fault_of_feeding feeding.Memory = fault.Memory

abbrev pub fault_of_saving : SaveFault → Fault
fault_of_saving saving.TooLarge = fault.TooLarge
fault_of_saving saving.Prelude = fault.Prelude
fault_of_saving saving.Memory = fault.Memory

-- of a call that ends with a status of its own, and of one that does its work or does not

abbrev pub status_of : Result ℕ Fault → ℕ
status_of (Ok status) = status
status_of (Err reason) = status_of_fault reason

abbrev pub done_status : Result (Unit {0}) Fault → ℕ
done_status (Ok done) = 0
done_status (Err reason) = status_of_fault reason
