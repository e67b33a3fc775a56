use Rattle.std.proofs.Common.{◌≡◌, drop}
use Rattle.machine_returns.specs.Names.{name_in}
use Rattle.machine_returns.proofs.names.name_in.Given as goal

abbrev pub invariant-loop-local : goal.invariant-loop-local
invariant-loop-local l = name_in l.pc l.left (drop l.local-index l.locals) ≡ name_in l.pc l.fn.register l.locals
