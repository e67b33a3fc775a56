use Rattle.std.proofs.lemmas.Result.{IfOk-weaker}
use Rattle.machine_step.proofs.ByForm.{begins, safe, does}
use Rattle.machine_step.proofs.instructions.close_from.Goals as goal

pub close_variables-requires : goal.close_variables-requires
close_variables-requires c = record { stands = begins c.requires.runs c.requires.sound; safe = safe c.requires.runs c.requires.sound }

pub returns-clause-does : goal.returns-clause-does
returns-clause-does c =
    let r = c.requires.runs in
    IfOk-weaker c.close_variables.result _ _ (λ ending s. does r s) c.close_variables.ensures.steps
