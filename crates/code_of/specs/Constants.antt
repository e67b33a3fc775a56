-- The constants of a function, each once, in the order in which its code first names them: its strings, its greater integers, the second operands that may be constants of
-- an operator's instruction, and the values that may be constants of a store.
use Rattle.std.specs.Prelude.{◌≡◌, ℕ, suc, ◌+◌, ◌-◌, ◌<◌, ◌^◌, Option, Some, None, slice_get, ℤ, pos, negsuc, Bool, true, false, cond, List, [], ◌∷◌, nat_le, nat_lt, bytes_eq}
use Rattle.int_core.specs.Value.{same_integer}
use Rattle.tree_core.specs.declared.name.Place.{Place}
use Rattle.tree_core.specs.declared.name.Place.TheVariants.{GlobalIn, GlobalOf}
use Rattle.tree_core.specs.Tree.{Block, Falls, Returns, Stats, EndStats, MoreStats, Stat, Empty, Local, LocalFunction, Assign, CallStat, Do, While, Repeat, If, IfElse, NumFor, NumForStep, GenFor, Label, Goto, Break, Arms, EndArms, MoreArms, Exp, Nil, True, False, Int, Str, Vararg, Function, Var, Index, Call, Method, Unary, Binary, And, Or, Paren, Table, Exps, EndExps, MoreExps, Fields, EndFields, MoreFields, Field, Item, Keyed}
use Rattle.code_core.specs.declared.opcode.Opcode.TheVariants.{LoadI, LoadK, LoadKx, ExtraArg}
use Rattle.code_core.specs.declared.proto.Const.{Const}
use Rattle.code_core.specs.declared.proto.Const.TheVariants.{Nil as NilConst, False as FalseConst, True as TrueConst, Int as IntConst, Str as StrConst}
use Rattle.code_core.specs.Instruction.{op_ax}
use Rattle.code_of.specs.Coded.{Coded, with_abx}
use Rattle.code_of.specs.ConstantOperands.{any_constant, constant_of, stored_constant}

abbrev pub same_constant : Const → Const → Bool
same_constant (IntConst m) (IntConst n) = same_integer m n
same_constant (StrConst s) (StrConst t) = bytes_eq s t
same_constant NilConst NilConst = true
same_constant FalseConst FalseConst = true
same_constant TrueConst TrueConst = true
same_constant _ _ = false

-- the number of a constant; behind the last one where it is not there
abbrev pub number_in : List Const → Const → ℕ
number_in [] x = 0
number_in (c ∷ cs) x = cond (same_constant c x) 0 (suc (number_in cs x))

abbrev pub with_constant : Const → List Const → List Const
with_constant x [] = x ∷ []
with_constant x (c ∷ cs) = cond (same_constant c x) (c ∷ cs) (c ∷ with_constant x cs)

-- a constant, where there is one
abbrev pub with_any : Option Const → List Const → List Const
with_any None cs = cs
with_any (Some x) cs = with_constant x cs

-- LOADI holds the integers from -65535 to 65536, with 65535 added
abbrev pub is_small : ℤ → Bool
is_small (pos n) = nat_le n 65536
is_small (negsuc n) = nat_lt n 65535

abbrev pub small_field : ℤ → ℕ
small_field (pos n) = n + 65535
small_field (negsuc n) = 65534 - n

-- the constant goes to register t; LOADK holds numbers of 17 bits
abbrev pub loads_numbered : (number t line : ℕ) → List Coded
loads_numbered number t line =
    cond (nat_lt number 131072) (with_abx LoadK t number line ∷ []) (with_abx LoadKx t 0 line ∷ (op_ax ExtraArg number, line) ∷ [])

abbrev pub loads : List Const → Const → (t line : ℕ) → List Coded
loads constants x t line = loads_numbered (number_in constants x) t line

abbrev pub loads_integer : List Const → ℤ → (t line : ℕ) → List Coded
loads_integer constants n t line = cond (is_small n) (with_abx LoadI t (small_field n) line ∷ []) (loads constants (IntConst n) t line)

-- the constants of a tree, behind those that are there already

abbrev pub of_name : Place → List ℕ → List Const → List Const
of_name (GlobalIn n) text cs = with_constant (StrConst text) cs
of_name (GlobalOf u) text cs = with_constant (StrConst text) cs
of_name _ text cs = cs

abbrev mutual
  pub of_exp : Exp → List Const → List Const
  of_exp (Nil line) cs = cs
  of_exp (True line) cs = cs
  of_exp (False line) cs = cs
  of_exp (Int line n) cs = cond (is_small n) cs (with_constant (IntConst n) cs)
  of_exp (Str line bytes) cs = with_constant (StrConst bytes) cs
  of_exp (Vararg line) cs = cs
  of_exp (Function line body) cs = cs
  of_exp (Var line name) cs = of_name name.place name.text cs
  of_exp (Index line object key) cs = of_exp key (of_exp object cs)
  of_exp (Call line f es) cs = of_exps es (of_exp f cs)
  of_exp (Method line object name es) cs = of_exps es (with_constant (StrConst name.text) (of_exp object cs))
  of_exp (Unary line op e) cs = of_exp e cs
  of_exp (Binary line op e d) cs = of_exp d (with_any (constant_of op d) (of_exp e cs))
  of_exp (And line e d) cs = of_exp d (of_exp e cs)
  of_exp (Or line e d) cs = of_exp d (of_exp e cs)
  of_exp (Paren line e) cs = of_exp e cs
  of_exp (Table line fs) cs = of_fields fs cs

  pub of_exps : Exps → List Const → List Const
  of_exps EndExps cs = cs
  of_exps (MoreExps e es) cs = of_exps es (of_exp e cs)

  pub of_fields : Fields → List Const → List Const
  of_fields EndFields cs = cs
  of_fields (MoreFields f fs) cs = of_fields fs (of_field f cs)

  pub of_field : Field → List Const → List Const
  of_field (Item e) cs = of_exp e cs
  of_field (Keyed line e d) cs = of_exp d (with_any (any_constant d) (of_exp e cs))

abbrev mutual
  pub of_stat : Stat → List Const → List Const
  of_stat (Empty line) cs = cs
  of_stat (Local line names es) cs = of_exps es cs
  of_stat (LocalFunction line name body) cs = cs
  of_stat (Assign line targets es) cs = of_exps es (with_any (stored_constant targets es) (of_exps targets cs))
  of_stat (CallStat line e) cs = of_exp e cs
  of_stat (Do line block) cs = of_block block cs
  of_stat (While line e block) cs = of_block block (of_exp e cs)
  of_stat (Repeat line block e) cs = of_exp e (of_block block cs)
  of_stat (If line arms) cs = of_arms arms cs
  of_stat (IfElse line arms block) cs = of_block block (of_arms arms cs)
  of_stat (NumFor line name from limit block) cs = of_block block (of_exp limit (of_exp from cs))
  of_stat (NumForStep line name from limit step block) cs = of_block block (of_exp step (of_exp limit (of_exp from cs)))
  of_stat (GenFor line names es block) cs = of_block block (of_exps es cs)
  of_stat (Label line name) cs = cs
  of_stat (Goto line name) cs = cs
  of_stat (Break line) cs = cs

  pub of_arms : Arms → List Const → List Const
  of_arms EndArms cs = cs
  of_arms (MoreArms e block arms) cs = of_arms arms (of_block block (of_exp e cs))

  pub of_stats : Stats → List Const → List Const
  of_stats EndStats cs = cs
  of_stats (MoreStats s ss) cs = of_stats ss (of_stat s cs)

  pub of_block : Block → List Const → List Const
  of_block (Falls ss tokens line) cs = of_stats ss cs
  of_block (Returns ss es tokens line) cs = of_exps es (of_stats ss cs)

-- a constant has its number in the table
pub record Found (cs : List Const) (x : Const) : Type 0 where
  pub near : number_in cs x < 2 ^ 25
  pub there : slice_get cs (number_in cs x) ≡ Some x

-- a great integer is among the constants
abbrev pub IsLoaded : List Const → ℤ → Type 0
IsLoaded cs z = is_small z ≡ false → Found cs (IntConst z)
