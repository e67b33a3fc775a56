use Rattle.std.proofs.Common.{refl, ap, sym, ◌∙◌}
use Rattle.machine_core.specs.Text.{read}
use Rattle.machine_core.specs.InstructionRows.{to_register}
use Rattle.machine_step.proofs.Awake.{comes_before, comes_here}
use Rattle.machine_step.proofs.going_on.after_operation.Goals as goal

pub returns-then-is_handled : goal.returns-then-is_handled
returns-then-is_handled c = record { is = λ f. comes_before c.args.word (sym c.is_handled.ensures ∙ c.if-is_handled.true); told = λ f vs. refl }

pub returns : goal.returns
returns c =
    record {
      is = λ f op o p n. comes_here c.args.word (sym c.is_handled.ensures ∙ c.if-is_handled.false) op o p n ∙ ap (λ a. to_register a (read 0)) (sym (c.from.ensures ∙ c.a.ensures));
      told = λ f vs. refl;
    }
