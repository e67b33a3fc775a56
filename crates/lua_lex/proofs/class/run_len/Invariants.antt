use Rattle.std.proofs.Common.{length, drop, ◌-◌, ◌≡◌, ◌≤◌, ◌+◌}
use Rattle.std.specs.List.{prefix_len}
use Rattle.lua_lex.specs.Inner.{is_in}
use Rattle.lua_lex.proofs.class.run_len.Given as goal

abbrev pub invariant-loop-len : goal.invariant-loop-len
invariant-loop-len l = record {
  in_range : l.len ≤ length l.text;
  whole : l.len + prefix_len (is_in l.class) (drop l.len l.text) ≡ prefix_len (is_in l.class) l.text;
}

abbrev pub decreases-loop-len : goal.decreases-loop-len
decreases-loop-len l = length l.text - l.len
