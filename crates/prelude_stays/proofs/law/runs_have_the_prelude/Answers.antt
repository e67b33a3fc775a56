use Rattle.prelude_stays.proofs.Having.{runs_have_prelude, guarded_code}
use Rattle.prelude_stays.proofs.law.runs_have_the_prelude.Goals as goal

pub returns-clause-runs : goal.returns-clause-runs
returns-clause-runs c = runs_have_prelude c.functions_stay.ensures.runs c.worlds_have_the_prelude.ensures.opening c.worlds_have_the_prelude.ensures.begun c.worlds_have_the_prelude.ensures.kept

pub returns-clause-code : goal.returns-clause-code
returns-clause-code c = guarded_code
