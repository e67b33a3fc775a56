use Rattle.means_steps.proofs.Loads.{load_leads}
use Rattle.means_steps.proofs.Libraries.{libraries_same, primitives_joined}
use Rattle.means_steps.proofs.law.primitives_keep_worlds_joined.Goals as goal

pub returns-clause-each : goal.returns-clause-each
returns-clause-each c = primitives_joined

pub returns-clause-numbered : goal.returns-clause-numbered
returns-clause-numbered c = libraries_same

pub returns-clause-loads : goal.returns-clause-loads
returns-clause-loads c = load_leads
