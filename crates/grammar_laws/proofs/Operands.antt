-- What the operands of each level are: the chain of a level, or a unary expression.
use Rattle.token_cursor.specs.declared.level.Level.{Level}
use Rattle.token_cursor.specs.declared.level.Level.TheVariants.{Or, And, Comparison, BitOr, BitXor, BitAnd, Shift, Concat, Sum, Product}
use Rattle.lua_parse.specs.Moves.{Part, chain, unary}
use Rattle.lua_parse.specs.Grammar.{operand, right_operand}

pub operand_has : (P : Part → Type 0) → ((level : Level) → P (chain level)) → P unary → (level : Level) → P (operand level)
operand_has P chains ends Or = chains And
operand_has P chains ends And = chains Comparison
operand_has P chains ends Comparison = chains BitOr
operand_has P chains ends BitOr = chains BitXor
operand_has P chains ends BitXor = chains BitAnd
operand_has P chains ends BitAnd = chains Shift
operand_has P chains ends Shift = chains Concat
operand_has P chains ends Concat = chains Sum
operand_has P chains ends Sum = chains Product
operand_has P chains ends Product = ends

pub right_has : (P : Part → Type 0) → ((level : Level) → P (chain level)) → P unary → (level : Level) → P (right_operand level)
right_has P chains ends Concat = chains Concat
right_has P chains ends level = operand_has P chains ends level
