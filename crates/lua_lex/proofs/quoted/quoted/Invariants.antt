use Rattle.std.proofs.Common.{◌≤◌, ◌-◌, length, get_or, drop}
use Rattle.lua_lex.proofs.StringLemmas.{IsPart}
use Rattle.lua_lex.proofs.quoted.quoted.Given as goal

abbrev pub invariant-loop-content : goal.invariant-loop-content
invariant-loop-content l = record {
  moved : 1 ≤ l.at;
  in_range : l.at ≤ length l.text;
  part : IsPart (get_or l.text 0 0) (drop 1 l.text) l.content.items (drop l.at l.text);
}

abbrev pub decreases-loop-content : goal.decreases-loop-content
decreases-loop-content l = length l.text - l.at
