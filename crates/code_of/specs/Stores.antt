-- Where a value is stored in a field, by a statement with one target or in a constructor: the object, the key and the value stand where they are, if nothing that may assign a
-- local is evaluated between their turn and the store, and else in the registers t, t + 1 and t + 2. A constant value is named by the store, whose field k says so.
use Rattle.std.specs.Prelude.{ℕ, ◌+◌, max, Bool, true, false, cond, nat_lt, List, [], ◌∷◌, ◌++◌, Option, Some, None}
use Rattle.tree_core.specs.declared.name.Place.{Place}
use Rattle.tree_core.specs.declared.name.Place.TheVariants.{Upvalue, Local as LocalPlace}
use Rattle.tree_core.specs.declared.operator.UnOp.TheVariants.{Not as Negation}
use Rattle.tree_core.specs.Tree.{Exp, Str, Function, Var, Index, Unary, Paren, Exps, EndExps, MoreExps}
use Rattle.code_core.specs.declared.opcode.Opcode.TheVariants.{SetTable, SetI, SetField}
use Rattle.code_core.specs.declared.proto.Const.{Const}
use Rattle.code_core.specs.declared.proto.Const.TheVariants.{Str as StrConst}
use Rattle.code_core.specs.Instruction.{abc}
use Rattle.code_of.specs.Coded.{Coded}
use Rattle.code_of.specs.Constants.{number_in}
use Rattle.code_of.specs.Operands.{is_literal, local_of, numeral_of, seat, unless}

-- The key is the number of a string, a numeral in the instruction, a local, or made
pub data FieldKey : Type 0 where
  a_name : (number : ℕ) → FieldKey
  an_index : (n : ℕ) → FieldKey
  a_register : (r : ℕ) → FieldKey
  evaluated : FieldKey

-- the field B holds numbers up to 255
abbrev pub short_number : (number : ℕ) → Option ℕ
short_number number = cond (nat_lt number 256) (Some number) None

abbrev pub name_in : List Const → Exp → Option ℕ
name_in constants (Str line bytes) = short_number (number_in constants (StrConst bytes))
name_in constants _ = None

abbrev pub field_key_by : (name index local : Option ℕ) → FieldKey
field_key_by (Some number) index local = a_name number
field_key_by None (Some n) local = an_index n
field_key_by None None (Some r) = a_register r
field_key_by None None None = evaluated

-- An expression is quiet where no other code can run while it is evaluated, so no local is assigned

abbrev pub is_near : Place → Bool
is_near (LocalPlace r) = true
is_near (Upvalue u) = true
is_near _ = false

abbrev pub is_quiet : Exp → Bool
is_quiet (Function line body) = true
is_quiet (Var line name) = is_near name.place
is_quiet (Unary line Negation e) = is_quiet e
is_quiet (Paren line e) = is_quiet e
is_quiet e = is_literal e

-- a local stays where the value is quiet; any other value may call code that assigns the local
abbrev pub beside_quiet : (quiet : Bool) → (local : Option ℕ) → Option ℕ
beside_quiet false local = None
beside_quiet true local = local

abbrev pub field_key : List Const → (quiet : Bool) → Exp → FieldKey
field_key constants quiet key = field_key_by (name_in constants key) (numeral_of key (Some 255)) (beside_quiet quiet (local_of key))

-- the object stays where it is if the key is not evaluated behind it
abbrev pub before_key : FieldKey → (local : Option ℕ) → Option ℕ
before_key evaluated local = None
before_key _ local = local

abbrev pub object_of : FieldKey → (quiet : Bool) → Exp → Option ℕ
object_of key quiet object = before_key key (beside_quiet quiet (local_of object))

abbrev pub key_code : FieldKey → List Coded → List Coded
key_code evaluated code = code
key_code _ code = []

-- The value is a constant of the store, a local, or made
pub data StoredValue : Type 0 where
  constant_value : (number : ℕ) → StoredValue
  local_value : (r : ℕ) → StoredValue
  made_value : StoredValue

abbrev pub value_by : (constant local : Option ℕ) → StoredValue
value_by (Some number) local = constant_value number
value_by None (Some r) = local_value r
value_by None None = made_value

abbrev pub value_code : StoredValue → List Coded → List Coded
value_code made_value code = code
value_code _ code = []

-- the fields k and C of its store

abbrev pub is_constant : StoredValue → Bool
is_constant (constant_value number) = true
is_constant _ = false

abbrev pub value_seat : StoredValue → (above : ℕ) → ℕ
value_seat (constant_value number) above = number
value_seat (local_value r) above = r
value_seat made_value above = above

-- the object stands in register x, and the value in register v or among the constants
abbrev pub field_store_by : FieldKey → (constant : Bool) → (x t v line : ℕ) → Coded
field_store_by (a_name number) constant x t v line = (abc SetField x number v constant, line)
field_store_by (an_index n) constant x t v line = (abc SetI x n v constant, line)
field_store_by (a_register r) constant x t v line = (abc SetTable x r v constant, line)
field_store_by evaluated constant x t v line = (abc SetTable x (t + 1) v constant, line)

abbrev pub field_store : FieldKey → (x t v line : ℕ) → Coded
field_store key x t v line = field_store_by key false x t v line

-- the code of all three is given
abbrev pub fields_store : FieldKey → (object : Option ℕ) → StoredValue → (first second third : List Coded) → (t line : ℕ) → List Coded
fields_store key object value first second third t line =
    unless object first ++ (key_code key second ++ (value_code value third ++ field_store_by key (is_constant value) (seat object t) t (value_seat value (t + 2)) line ∷ []))

-- a field of a constructor, whose table stands in register t
abbrev pub keyed_store : FieldKey → StoredValue → (second third : List Coded) → (t line : ℕ) → List Coded
keyed_store key value second third t line = key_code key second ++ (value_code value third ++ field_store_by key (is_constant value) t t (value_seat value (t + 2)) line ∷ [])

-- a statement that does so

abbrev pub is_field : Exp → Bool
is_field (Index line object key) = true
is_field _ = false

abbrev pub stores_field : (targets es : Exps) → Bool
stores_field (MoreExps x EndExps) (MoreExps e EndExps) = is_field x
stores_field _ _ = false

-- how many registers are taken from t on
abbrev pub room_unless : Option ℕ → (room : ℕ) → ℕ
room_unless None room = room
room_unless (Some r) room = 0

abbrev pub room_of_key : FieldKey → (room : ℕ) → ℕ
room_of_key evaluated room = 1 + room
room_of_key _ room = 0

abbrev pub room_of_value : StoredValue → (room : ℕ) → ℕ
room_of_value made_value room = room
room_of_value _ room = 0

abbrev pub fields_room : FieldKey → (object : Option ℕ) → StoredValue → (first second third : ℕ) → ℕ
fields_room key object value first second third = max (room_unless object first) (max (room_of_key key second) (room_of_value value (2 + third)))

-- and from t + 1 on, by a field of a constructor

abbrev pub room_above : FieldKey → (room : ℕ) → ℕ
room_above evaluated room = room
room_above _ room = 0

abbrev pub keyed_room : FieldKey → StoredValue → (second third : ℕ) → ℕ
keyed_room key value second third = max (room_above key second) (room_of_value value (1 + third))
