-- Instructions at which the Lua frame on top runs, by their forms.
use Rattle.std.specs.Prelude.{◌≡◌, Some, true}
use Rattle.code_core.specs.declared.opcode.Opcode.{Opcode}
use Rattle.code_core.specs.Instruction.{opcode_of}
use Rattle.instruction_forms.specs.declared.form.Form.{Form}
use Rattle.instruction_forms.specs.Waiting.{form_at}
use Rattle.step_laws.specs.Steps.{HasForm}
use Rattle.running_frame.specs.declared.place.Here.{Here}

-- a frame runs at an instruction of this form
pub record RunsHere (here : Here) (form : Form) : Type 0 where
  pub runs : here.runs ≡ true
  pub opcode : Opcode
  pub is_opcode : opcode_of here.word ≡ Some opcode
  pub is_form : form_at opcode here.word ≡ Some form
  pub has : HasForm opcode here.word form
