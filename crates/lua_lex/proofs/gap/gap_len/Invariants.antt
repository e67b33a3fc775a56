use Rattle.std.proofs.Common.{◌-◌, ◌≤◌, List, ℕ, length, drop}
use Rattle.lua_lex.specs.Lexical.{Gap}
use Rattle.lua_lex.proofs.gap.gap_len.Given as goal

abbrev pub invariant-loop-piece : goal.invariant-loop-piece
invariant-loop-piece l = record {
  in_range : l.len ≤ length l.text;
  leads : (rest : List ℕ) → Gap (drop l.len l.text) rest → Gap l.text rest;
}

abbrev pub decreases-loop-piece : goal.decreases-loop-piece
decreases-loop-piece l = length l.text - l.len
