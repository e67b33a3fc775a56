-- Second operands that may be constants: a numeral in the instruction is none.
use Rattle.std.proofs.Common.{◌≡◌, ℕ, true, false, List, Option, Some, None, refl, sym, ap}
use Rattle.std.specs.Prelude.{is_some}
use Rattle.tree_core.specs.declared.operator.BinOp.{BinOp}
use Rattle.tree_core.specs.Tree.{Exp}
use Rattle.code_core.specs.declared.proto.Const.{Const}
use Rattle.code_of.specs.Constants.{with_any}
use Rattle.code_of.specs.ConstantOperands.{constant_by, unless_numeral, constant_of}
use Rattle.code_of.specs.Operands.{operand_numeral}
use Rattle.code_of.specs.Operations.{short_of, constant_in}

with_numeral : (o : Option ℕ) (q : Option Const) → is_some o ≡ true → unless_numeral o q ≡ None
with_numeral (Some n) q e = refl
with_numeral None q e = absurd (cc)

without_numeral : (o : Option ℕ) (q : Option Const) → is_some o ≡ false → unless_numeral o q ≡ q
without_numeral None q e = refl
without_numeral (Some n) q e = absurd (cc)

pub numeral_adds : (op : BinOp) (d : Exp) (cs : List Const) → is_some (operand_numeral op d) ≡ true → with_any (constant_of op d) cs ≡ cs
numeral_adds op d cs e = ap (λ o. with_any o cs) (with_numeral (operand_numeral op d) (constant_by op d) e)

pub none_adds : (op : BinOp) (d : Exp) (cs : List Const) → is_some (operand_numeral op d) ≡ false → with_any (constant_by op d) cs ≡ with_any (constant_of op d) cs
none_adds op d cs e = ap (λ o. with_any o cs) (sym (without_numeral (operand_numeral op d) (constant_by op d) e))

pub numeral_none : (op : BinOp) (d : Exp) (cs : List Const) → is_some (operand_numeral op d) ≡ true → constant_in cs op d ≡ None
numeral_none op d cs e = ap (short_of cs) (with_numeral (operand_numeral op d) (constant_by op d) e)

pub no_numeral : (op : BinOp) (d : Exp) (cs : List Const) → is_some (operand_numeral op d) ≡ false → constant_in cs op d ≡ short_of cs (constant_by op d)
no_numeral op d cs e = ap (short_of cs) (without_numeral (operand_numeral op d) (constant_by op d) e)
