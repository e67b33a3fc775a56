-- What is proved of frames that call.
use Rattle.std.specs.Prelude.{◌≡◌, ℕ, Bool, Some}
use Rattle.code_core.specs.declared.opcode.Opcode.{Opcode}
use Rattle.code_core.specs.declared.instruction.Instruction.{Instruction}
use Rattle.code_core.specs.Instruction.{opcode_of}
use Rattle.code_core.specs.Check.{at}
use Rattle.machine_core.specs.World.{running, Place, place_of}
use Rattle.instruction_forms.specs.declared.form.Form.TheVariants.{Call}
use Rattle.instruction_forms.specs.Waiting.{form_at}
use Rattle.lua_heap.specs.declared.world.World.{World as Memory}
use Rattle.lua_heap.specs.Plain.{plain}
use Rattle.move_laws.specs.Memory.{IsSound}
use Rattle.machine_call_rows.specs.Rows.{MayKeep}

-- the registers that an instruction keeps for a call are among those of the code of the frame that runs
abbrev pub CallsKeepRegisters : Type 0
CallsKeepRegisters =
    (W : Memory) (place : Place) (op : Opcode) (i : Instruction) (function count keeps : ℕ) (iterates : Bool) → IsSound W → place_of (plain W 0) ≡ Some place → place.top.wait ≡ running
    → at place.function.code place.top.own.pc ≡ Some i → opcode_of i ≡ Some op → form_at op i ≡ Some (Call function count keeps iterates) → MayKeep W keeps
