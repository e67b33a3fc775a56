use Rattle.std.specs.Prelude.{refl}
use Rattle.machine_alike.proofs.law.turns_begin_and_end.Goals as goal

pub returns-clause-begin : goal.returns-clause-begin
returns-clause-begin c = λ p W X vs ws fuel a s. record { objects = a.objects; roots = a.roots; moving = s; printed = refl; fuel = refl }

pub returns-clause-end : goal.returns-clause-end
returns-clause-end c = λ p W X a. record { objects = a.objects; roots = a.roots; moving = λ h. a.moving }
