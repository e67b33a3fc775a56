-- The form of the instruction at which a frame runs.
use Rattle.std.proofs.Common.{◌≡◌, Some, true, ap, sym, subst, ◌∙◌}
use Rattle.code_core.specs.declared.opcode.Opcode.{Opcode}
use Rattle.code_core.specs.Instruction.{opcode_of}
use Rattle.instruction_forms.specs.declared.form.Form.{Form}
use Rattle.instruction_forms.specs.Waiting.{form_at}
use Rattle.lua_heap.specs.declared.world.World.{World as Memory}
use Rattle.move_laws.specs.Memory.{IsSound}
use Rattle.step_laws.specs.Steps.{HasForm}
use Rattle.running_frame.specs.declared.place.Here.{Here}
use Rattle.running_frame.specs.Here.{IsHere}
use Rattle.machine_step.specs.Places.{RunsForm}
use Rattle.machine_step.proofs.Steps.{runs_form, runs_word}
use Rattle.lua_driver.specs.Here.{RunsHere}

-- the form that is told is that of the instruction
pub runs_so : {here : Here} {form : Form} (op : Opcode) (known : Form) → here.runs ≡ true → opcode_of here.word ≡ Some op → form_at op here.word ≡ Some known → HasForm op here.word known → known ≡ form → RunsHere here form
runs_so {here} {form} op known r o f h same = record {
  runs = r;
  opcode = op;
  is_opcode = o;
  is_form = f ∙ ap (λ (form : Form). Some form) same;
  has = subst (λ (form : Form). HasForm op here.word form) same h;
}

pub form_here : {W : Memory} {here : Here} {form : Form} → IsSound W → IsHere W here → RunsHere here form → RunsForm W here.pc form
form_here {form = form} s h k = runs_form k.opcode form (runs_word s h.word h.wait k.runs) k.is_opcode (sym k.is_form) k.has
