use Rattle.machine_means.proofs.Giving.{yields_joined, ends_joined, fails_joined}
use Rattle.machine_means.proofs.Resumed.{resumes_joined}
use Rattle.machine_means.proofs.law.switches_keep_worlds_joined.Goals as goal

pub returns-clause-yields : goal.returns-clause-yields
returns-clause-yields c = yields_joined

pub returns-clause-ends : goal.returns-clause-ends
returns-clause-ends c = ends_joined

pub returns-clause-fails : goal.returns-clause-fails
returns-clause-fails c = fails_joined

pub returns-clause-resumes : goal.returns-clause-resumes
returns-clause-resumes c = resumes_joined
