-- Which constants may be the second operand of an operator's instruction (lopcodes.h of Lua 5.4): an integer of the operators of arithmetic that have such an instruction, and
-- an integer, a string, nil, false or true of `==` and `~=`. One of these may be the value of a store too.
use Rattle.std.specs.Prelude.{ℕ, Option, Some, None}
use Rattle.tree_core.specs.declared.operator.BinOp.{BinOp}
use Rattle.tree_core.specs.declared.operator.BinOp.TheVariants.{Add as Plus, Sub as Minus, Mul as Times, Mod as Modulo, Idiv, Band, Bor, Bxor, Eq as Equal, Ne}
use Rattle.tree_core.specs.declared.name.Place.{Place}
use Rattle.tree_core.specs.declared.name.Place.TheVariants.{GlobalIn, GlobalOf}
use Rattle.tree_core.specs.Tree.{Exp, Nil, True, False, Int, Str, Var, Index, Exps, EndExps, MoreExps}
use Rattle.code_core.specs.declared.proto.Const.{Const}
use Rattle.code_core.specs.declared.proto.Const.TheVariants.{Nil as NilConst, False as FalseConst, True as TrueConst, Int as IntConst, Str as StrConst}
use Rattle.code_of.specs.Operands.{operand_numeral}

abbrev pub integer_constant : Exp → Option Const
integer_constant (Int line z) = Some (IntConst z)
integer_constant _ = None

abbrev pub any_constant : Exp → Option Const
any_constant (Nil line) = Some NilConst
any_constant (True line) = Some TrueConst
any_constant (False line) = Some FalseConst
any_constant (Int line z) = Some (IntConst z)
any_constant (Str line bytes) = Some (StrConst bytes)
any_constant _ = None

abbrev pub constant_by : BinOp → Exp → Option Const
constant_by Plus d = integer_constant d
constant_by Minus d = integer_constant d
constant_by Times d = integer_constant d
constant_by Modulo d = integer_constant d
constant_by Idiv d = integer_constant d
constant_by Band d = integer_constant d
constant_by Bor d = integer_constant d
constant_by Bxor d = integer_constant d
constant_by Equal d = any_constant d
constant_by Ne d = any_constant d
constant_by _ d = None

-- a numeral that stands in the instruction itself is no constant
abbrev pub unless_numeral : (numeral : Option ℕ) → Option Const → Option Const
unless_numeral (Some n) constant = None
unless_numeral None constant = constant

-- it is so by the form of the tree alone
abbrev pub constant_of : BinOp → Exp → Option Const
constant_of op d = unless_numeral (operand_numeral op d) (constant_by op d)

-- The value of a statement that stores one value in one field or in one global name

abbrev pub global_constant : Place → Exp → Option Const
global_constant (GlobalIn n) e = any_constant e
global_constant (GlobalOf u) e = any_constant e
global_constant _ e = None

abbrev pub target_constant : Exp → Exp → Option Const
target_constant (Var line name) e = global_constant name.place e
target_constant (Index line object key) e = any_constant e
target_constant _ e = None

abbrev pub stored_constant : (targets es : Exps) → Option Const
stored_constant (MoreExps x EndExps) (MoreExps e EndExps) = target_constant x e
stored_constant _ _ = None
