use Rattle.std.proofs.Common.{length, get_or, drop, ◌-◌, ◌≡◌, ◌≤◌, ◌<◌, ◌+◌, true}
use Rattle.lua_lex.specs.Classes.{is_line_end, line_ends}
use Rattle.lua_lex.proofs.line.found_line_ends.Given as goal

abbrev pub invariant-loop-at : goal.invariant-loop-at
invariant-loop-at l = record {
  in_range : l.at ≤ length l.text;
  count : l.count ≤ l.at;
  at_end : l.at < length l.text → is_line_end (get_or l.text l.at 0) ≡ true;
  whole : l.count + line_ends (drop l.at l.text) ≡ line_ends l.text;
}

abbrev pub decreases-loop-at : goal.decreases-loop-at
decreases-loop-at l = length l.text - l.at
