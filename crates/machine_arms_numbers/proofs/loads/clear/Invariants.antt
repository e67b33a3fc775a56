use Rattle.std.proofs.Common.{◌≡◌}
use Rattle.machine_arms_numbers.specs.Numbers.{cleared}
use Rattle.machine_arms_numbers.proofs.loads.clear.Given as goal

abbrev pub invariant-loop-n : goal.invariant-loop-n
invariant-loop-n l = l.registers ≡ cleared l.from l.n l.initial.registers
