use Rattle.std.proofs.Common.{◌≤◌, length}
use Rattle.lua_lex.specs.Inner.{NoneFrom}
use Rattle.lua_lex.proofs.scan.mark.Given as goal

abbrev pub invariant-loop-len : goal.invariant-loop-len
invariant-loop-len l = record {
  in_range : l.len ≤ length l.text;
  none_longer : NoneFrom l.text l.len;
}

abbrev pub decreases-loop-len : goal.decreases-loop-len
decreases-loop-len l = l.len
