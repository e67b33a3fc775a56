use Rattle.std.proofs.Common.{◌+◌, ◌≤◌, length}
use Rattle.lua_lex.proofs.SourceLemmas.{IsFront}
use Rattle.lua_lex.proofs.source.tokens.Given as goal

abbrev pub invariant-loop-text : goal.invariant-loop-text
invariant-loop-text l = record {
  front : IsFront l.source l.items.items l.line l.text;
  bound : l.line + length l.text ≤ 1 + length l.source;
  count : length l.items.items + length l.text ≤ length l.source;
  short : length l.source ≤ 1048576;
}

abbrev pub decreases-loop-text : goal.decreases-loop-text
decreases-loop-text l = length l.text
