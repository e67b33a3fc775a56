-- Targets of an assignment. The table of a target and its key wait for the values and for other stores, so that a local is copied at its turn. The key is the number of a string, a
-- numeral in the instruction, or made in the register above the table. A local or a constant that alone is assigned to a global name goes there by one instruction.
use Rattle.std.specs.Prelude.{ℕ, Bool, true, false, List, Option, Some, None}
use Rattle.tree_core.specs.declared.name.Place.{Place}
use Rattle.tree_core.specs.declared.name.Place.TheVariants.{GlobalIn, GlobalOf}
use Rattle.tree_core.specs.Tree.{Exp, Var, Exps, EndExps, MoreExps}
use Rattle.code_core.specs.declared.opcode.Opcode.TheVariants.{SetTabUp, SetField}
use Rattle.code_core.specs.declared.proto.Const.{Const}
use Rattle.code_core.specs.declared.proto.Const.TheVariants.{Str as StrConst}
use Rattle.code_core.specs.Instruction.{abc}
use Rattle.code_of.specs.Coded.{Coded}
use Rattle.code_of.specs.Constants.{number_in}
use Rattle.code_of.specs.Operands.{numeral_of}
use Rattle.code_of.specs.StoredValues.{stored_value}
use Rattle.code_of.specs.Stores.{FieldKey, StoredValue, constant_value, local_value, made_value, short_number, name_in, field_key_by}

abbrev pub waiting_key : List Const → Exp → FieldKey
waiting_key constants key = field_key_by (name_in constants key) (numeral_of key (Some 255)) None

-- a global name is a field of its environment, whose key is a string
abbrev pub text_number : List Const → (text : List ℕ) → Option ℕ
text_number constants text = short_number (number_in constants (StrConst text))

abbrev pub text_key : List Const → (text : List ℕ) → FieldKey
text_key constants text = field_key_by (text_number constants text) None None

-- the value in register v, or the constant of that number, goes to a global name by one instruction

abbrev pub global_store : Place → (number : ℕ) → (constant : Bool) → (v line : ℕ) → Option Coded
global_store (GlobalIn n) number constant v line = Some (abc SetField n number v constant, line)
global_store (GlobalOf u) number constant v line = Some (abc SetTabUp u number v constant, line)
global_store _ number constant v line = None

abbrev pub local_store_by : (number : Option ℕ) → StoredValue → Place → (line : ℕ) → Option Coded
local_store_by (Some number) (constant_value v) place line = global_store place number true v line
local_store_by (Some number) (local_value v) place line = global_store place number false v line
local_store_by (Some number) made_value place line = None
local_store_by None value place line = None

abbrev pub local_store : List Const → Exp → Exp → Option Coded
local_store constants (Var line name) e = local_store_by (text_number constants name.text) (stored_value constants e) name.place line
local_store constants _ e = None

abbrev pub single_store : List Const → (targets es : Exps) → Option Coded
single_store constants (MoreExps x EndExps) (MoreExps e EndExps) = local_store constants x e
single_store constants _ _ = None
