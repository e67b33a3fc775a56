use Rattle.std.proofs.Common.{◌≡◌, drop}
use Rattle.code_core.specs.Check.{given_line}
use Rattle.code_core.proofs.line.given_line.Given as goal

abbrev pub invariant-loop-line : goal.invariant-loop-line
invariant-loop-line l = given_line (drop l.line-index l.lines) l.pc ≡ given_line l.lines l.pc
