-- What the functions answer that find the code or the session in a file's bytes, or the chunk of the script in it, and the one that leaves a session.
use Rattle.std.specs.Prelude.{◌≡◌, ◌≢◌, ◌⊎◌, ℕ, Bool, List, Option, Some, None}
use Rattle.std.specs.Bool.{MatchBool}
use Rattle.std.specs.Option.{option_map}
use Rattle.code_core.specs.Prototype.{Prototype}
use Rattle.io_edge.specs.Content.{FileMap, KeepsOtherFiles, with_file}
use Rattle.machine_core.specs.World.{World}
use Rattle.machine_runs.specs.Runs.{Close, is_suspended}
use Rattle.lua_heap.specs.declared.world.World.{World as Memory}
use Rattle.graph_core.specs.Permanents.{key_read}
use Rattle.image_bytes.specs.Format.{Fault as Refusal, of_kind}
use Rattle.image_reading.specs.Faults.{fault as image_fault}
use Rattle.image_reading.specs.declared.fault.ReadFault.{ReadFault}
use Rattle.image_reading.specs.declared.fault.ReadFault.TheVariants as reading
use Rattle.lua_saving.specs.Saving.{IsImage, IsLarge, IsTouched, IsSession, HasYielded}
use Rattle.program.specs.declared.fault.Fault.{Fault}
use Rattle.program.specs.declared.fault.Fault.TheVariants as fault
use Rattle.program.specs.Devices.{Device, RoseIn, IsUntouched}
use Rattle.program.specs.Sessions.{functions_of, status_of_close}
use Rattle.program.specs.Checking.{begins_chunk, IsAccepted, HoldsNoChunk}
use Rattle.program.specs.Compiling.{Compiles, HoldsNoScript}
use Rattle.program.specs.Running.{HoldsCode}
use Rattle.program.specs.Report.{ChunkFits, ScriptFits, IsRefusedFor, status_of_fault}

-- the code of the chunk with which the bytes begin, and there is no other
pub record IsChunkIn (content : List ℕ) (code : Prototype) : Type 0 where
  pub accepted : IsAccepted content code
  pub only : (other : Prototype) → IsAccepted content other → code ≡ other

-- the bytes begin with no chunk that may run, and the fault tells why
pub record IsNoChunkFor (content : List ℕ) (reason : Fault) : Type 0 where
  pub status : status_of_fault reason ≡ 8
  pub holds_none : HoldsNoChunk content
  pub fits : ChunkFits content reason

-- the code in a file, and there is no other
pub record IsCodeIn (name content : List ℕ) (code : Prototype) : Type 0 where
  pub holds : HoldsCode name content code
  pub only : (other : Prototype) → HoldsCode name content other → code ≡ other

-- the content holds no script, and the fault tells why
pub record IsNoScriptFor (content : List ℕ) (reason : Fault) : Type 0 where
  pub status : status_of_fault reason ≡ 5
  pub holds_none : HoldsNoScript content
  pub fits : ScriptFits content reason

abbrev pub IsNoCodeFor : List ℕ → Fault → Type 0
IsNoCodeFor content reason = MatchBool (begins_chunk content) (IsNoChunkFor content reason) (IsNoScriptFor content reason)

-- the bytes are those of the chunk of the script, and no others are
pub record IsChunk (script : List ℕ) (strip : Bool) (content bytes : List ℕ) : Type 0 where
  pub compiles : Compiles script strip content bytes
  pub only : (bytes' : List ℕ) → Compiles script strip content bytes' → bytes' ≡ bytes

-- the bytes are no session's image, and the fault tells why

abbrev pub told_refusal : Fault → Option Refusal
told_refusal (fault.NoImage kind) = Some (of_kind kind)
told_refusal (fault.NoPermanent kind key) = Some (record { kind = kind; key = Some (key_read key) })
told_refusal _ = None

-- a refusal is told, unless there is no memory to keep the key that it names
abbrev pub IsToldOf : Refusal → Fault → Type 0
IsToldOf why reason = (told_refusal reason ≡ Some why) ⊎ (reason ≡ fault.Memory)

abbrev pub IsToldOfReading : ReadFault → Fault → Type 0
IsToldOfReading (reading.Refused why) reason = IsToldOf (image_fault why) reason
IsToldOfReading reading.Memory reason = reason ≡ fault.Memory

pub record IsNoSessionFor (prelude : Prototype) (content : List ℕ) (reason : Fault) : Type 0 where
  pub why : Refusal
  pub told : told_refusal reason ≡ Some why
  pub refused : IsRefusedFor prelude content why
  pub holds_none : (session : World) → IsSession (functions_of prelude) content session → HasYielded session → ⊥

-- what the line of a 7 tells where a session is left: its image is too large, and it waits for a line then
abbrev pub LeavesFor : Close → Fault → Type 0
LeavesFor close fault.InputLimit = ⊥
LeavesFor close fault.TooLarge = close ≡ is_suspended
LeavesFor close _ = Unit {0}

-- what is left of a session in memory that closed
pub data IsLeftBy (W : Memory) (close : Close) (save : Option (List ℕ)) (files : Device FileMap) : (status : ℕ) → Type 0 where
  ended : close ≢ is_suspended → IsUntouched files → IsLeftBy W close save files (status_of_close close)
  unnamed : close ≡ is_suspended → save ≡ None → IsUntouched files → IsLeftBy W close save files 3
  saved : (image bytes : List ℕ) → close ≡ is_suspended → save ≡ Some image → IsImage W bytes → files.faults' ≡ files.faults
      → files.content' ≡ option_map (λ held. with_file held image bytes) files.content → IsLeftBy W close save files 3
  too_large : (image : List ℕ) → close ≡ is_suspended → save ≡ Some image → IsLarge W → IsUntouched files → IsLeftBy W close save files 7
  touched : (image : List ℕ) → close ≡ is_suspended → save ≡ Some image → IsTouched W → IsUntouched files → IsLeftBy W close save files 12
  unput : (image : List ℕ) → close ≡ is_suspended → save ≡ Some image → RoseIn files → KeepsOtherFiles image files.content files.content' → IsLeftBy W close save files 6
  no_memory : (image : List ℕ) → close ≡ is_suspended → save ≡ Some image → IsUntouched files → IsLeftBy W close save files 9
