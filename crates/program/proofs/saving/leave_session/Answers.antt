use Rattle.std.proofs.Common.{refl}
use Rattle.program.specs.Outcomes.{ended}
use Rattle.program.proofs.saving.leave_session.Goals as goal

pub returns-in-Returned-clause-left : goal.returns-in-Returned-clause-left
returns-in-Returned-clause-left g c = rw c.in-Returned.is (ended (λ e. absurd (cc)) (record { no_fault = refl; unwritten = refl }))

pub returns-in-Failed-clause-left : goal.returns-in-Failed-clause-left
returns-in-Failed-clause-left g c = rw c.in-Failed.is (ended (λ e. absurd (cc)) (record { no_fault = refl; unwritten = refl }))

pub returns-in-Spent-clause-left : goal.returns-in-Spent-clause-left
returns-in-Spent-clause-left g c = rw c.in-Spent.is (ended (λ e. absurd (cc)) (record { no_fault = refl; unwritten = refl }))
