-- Lists that keep the limits are short enough for the fields of instructions.
use Rattle.std.proofs.Common.{ℕ, ◌+◌, ◌<◌, ◌≤◌, ◌^◌, arith}
use Rattle.tree_core.specs.Tree.{Exps, Assign}
use Rattle.code_of.specs.Expressions.{count}
use Rattle.scope_core.specs.Held.{held_behind, held_stat}
use Rattle.code_bounds.proofs.Holding.{same_count, count_held}

-- of `return`
pub list_width : (es : Exps) (t : ℕ) → t + held_behind 0 es ≤ 250 → count es + 1 < 2 ^ 8
list_width es t few = let counted = count_held es 0 in omega (arith, few, counted)

-- of an assignment
pub targets_width : (line : ℕ) (targets es : Exps) (t : ℕ) → t + held_stat (Assign line targets es) ≤ 250 → count targets + 1 < 2 ^ 8
targets_width line targets es t few = let same = same_count targets in omega (arith, few, same)
