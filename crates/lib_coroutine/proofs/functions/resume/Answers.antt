use Rattle.std.proofs.Common.{rules, refl, sym, ◌∙◌}
use Rattle.std.specs.Prelude.{codes}
use Rattle.std.proofs.lemmas.Result.{on_err_weaker}
use Rattle.machine_core.specs.MachineStep.{resumes}
use Rattle.lib_coroutine.proofs.Resumes.{same_reads}
use Rattle.lib_coroutine.proofs.functions.resume.Goals as goal
use Rattle.lib_coroutine.proofs.Rows.{called_on, first_refused}

pub resume_coroutine-requires : goal.resume_coroutine-requires
resume_coroutine-requires c = called_on c.args.world.now c.first_of-first.result c.deref.result.now c.in-Some.co c.requires.sound c.requires.running (c.first_of-first.ensures c.args.world.now.strings) (search rules) (sym c.coroutine_of.ensures ∙ c.in-Some.is)

pub returns-in-None-clause-leads : goal.returns-in-None-clause-leads
returns-in-None-clause-leads c =
    first_refused c.args.world.now _ c.refuse.result resumes (codes "resume") (λ p. refl) refl refl c.first_of-first.result c.deref.result.now (c.first_of-first.ensures c.args.world.now.strings) (search rules) (sym c.coroutine_of.ensures ∙ c.in-None.is) c.refuse.ensures.leads

pub returns-in-None-clause-err : goal.returns-in-None-clause-err
returns-in-None-clause-err c = on_err_weaker c.refuse.result same_reads c.refuse.ensures.err
