-- How large the numbers are that forms name: those of an instruction's fields, and of registers those of its code.
use Rattle.std.specs.Prelude.{◌≡◌, ◌≤◌, ◌<◌, ℕ, Some}
use Rattle.code_core.specs.declared.opcode.Opcode.{Opcode}
use Rattle.code_core.specs.declared.instruction.Instruction.{Instruction}
use Rattle.machine_core.specs.Text.{behind}
use Rattle.instruction_forms.specs.declared.form.Form.{Form}
use Rattle.instruction_forms.specs.declared.form.Form.TheVariants.{Operate, Concatenate, Close, Mark, StartLoop, Loop, LoopOver, Call, TailCall, Return, ReturnSome, FillTable, NewFunction, ExtraArguments}
use Rattle.instruction_forms.specs.Waiting.{form_at}
use Rattle.lua_heap.specs.declared.world.World.{World as Memory}
use Rattle.step_laws.specs.Steps.{RunsAt}

-- A, B and C are below 256, and Bx below 2^17
abbrev pub IsSmall : Form → Type 0
IsSmall (Concatenate first count) = (first < 256) × (count < 256)
IsSmall (Close from) = from < 256
IsSmall (Mark register ahead) = (register < 512) × (ahead < 262144)
IsSmall (StartLoop base by) = (base < 256) × (by < 131072)
IsSmall (Loop base by) = (base < 256) × (by < 131072)
IsSmall (LoopOver base by) = (base < 256) × (by < 131072)
IsSmall (Call function count keeps iterates) = (function < 256) × (count < 256) × (keeps < 512)
IsSmall (TailCall function count) = (function < 256) × (count < 256)
IsSmall (Return from count) = (from < 256) × (count < 256)
IsSmall (ReturnSome from count) = (from < 256) × (count < 256)
IsSmall (FillTable table count last far) = (table < 256) × (count < 256) × (last < 256)
IsSmall (NewFunction inner to) = inner < 131072
IsSmall (ExtraArguments to count) = (to < 256) × (count < 256)
IsSmall form = Unit {0}

abbrev pub FormsAreSmall : Type 0
FormsAreSmall = (op : Opcode) (i : Instruction) (form : Form) → form_at op i ≡ Some form → IsSmall form

-- registers that a row may name late, or not at all, are among those of the code
abbrev pub IsWithin : (stack : ℕ) → Form → Type 0
IsWithin stack (Operate operation operands (Some register) after) = register < stack
IsWithin stack (Call function count keeps iterates) = keeps ≤ stack
IsWithin stack (ReturnSome from count) = behind from count ≤ stack
IsWithin stack form = Unit {0}

abbrev pub FormsAreWithin : Type 0
FormsAreWithin = (W : Memory) (k : RunsAt W) (form : Form) → form_at k.opcode k.instruction ≡ Some form → IsWithin k.place.function.code.own.stack form
