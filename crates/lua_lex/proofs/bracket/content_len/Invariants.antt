use Rattle.std.proofs.Common.{◌≡◌, ◌<◌, ◌≤◌, ◌-◌, ℕ, length, drop, true}
use Rattle.lua_lex.specs.Inner.{closes}
use Rattle.lua_lex.proofs.bracket.content_len.Given as goal

abbrev pub invariant-loop-next : goal.invariant-loop-next
invariant-loop-next l = record {
  in_range : l.at ≤ length l.text;
  before : (place : ℕ) → place < l.at → closes l.level (drop place l.text) ≡ true → ⊥;
}

abbrev pub decreases-loop-next : goal.decreases-loop-next
decreases-loop-next l = length l.text - l.at
