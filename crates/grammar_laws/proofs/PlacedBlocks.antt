-- Setting places keeps that each block weighs at most its tokens.
use Rattle.std.proofs.Common.{List, [], ◌∷◌, arith}
use Rattle.tree_core.specs.Tree.{Block, Falls, Returns}
use Rattle.scope_core.specs.Scopes.{Frame, behind_stats}
use Rattle.scope_core.specs.Places.{placed_block, main_upvalues, placed}
use Rattle.grammar_laws.specs.Counted.{block_is_counted, all_counted, BlockIsCounted, BodyIsCounted}
use Rattle.grammar_laws.proofs.PlacedParts.{Stays, block_stays}
use Rattle.grammar_laws.proofs.PlacedSizes.{exps_weighs, stats_weighs}

one_stays : (p q : Type 0) (fs : List Frame) (b : Block) → block_is_counted b p → (p → q) → block_is_counted (placed_block fs b) q
one_stays p q fs (Falls ss tokens line) h k = (omega (arith, h.0, stats_weighs fs ss), k h.1)
one_stays p q fs (Returns ss es tokens line) h k = (omega (arith, h.0, stats_weighs fs ss, exps_weighs (behind_stats fs ss) es), k h.1)

blocks_stay : Stays all_counted
blocks_stay = record {
  exp = λ p q fs e h k. k h;
  name = λ p q x h k. k h;
  stat = λ p q fs s h k. k h;
  loop = λ p q fs b h k. k h;
  block = one_stays;
  body = λ q fs params vararg inner ups line h k. k h;
}

pub placed_counted : (block : Block) → BlockIsCounted block → BodyIsCounted (placed block)
placed_counted block h = block_stays all_counted blocks_stay (record { variables = []; upvalues = main_upvalues } ∷ []) block h
