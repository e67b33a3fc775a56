use Rattle.std.proofs.Common.{sym, ◌∙◌}
use Rattle.machine_step.proofs.Steps.{runs_form, some_form}
use Rattle.machine_step.proofs.stepping.run_word.Goals as goal

pub unreachable-requires-in_default-form_of : goal.unreachable-requires-in_default-form_of
unreachable-requires-in_default-form_of c = some_form c.requires.sound c.in-Some.op c.requires.runs (sym c.opcode.ensures ∙ c.in-Some.is) c.in_default-form_of.ensures.none

pub run_instruction-requires : goal.run_instruction-requires
run_instruction-requires c =
    record {
      sound = c.requires.sound;
      runs = runs_form c.in-Some.op c.in-Some-form_of.form c.requires.runs (sym c.opcode.ensures ∙ c.in-Some.is) (sym c.in-Some-form_of.is ∙ c.form_of.ensures.is) c.in-Some-form_of.ensures.form;
    }
