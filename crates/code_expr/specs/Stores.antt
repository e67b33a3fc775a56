-- Where the key of a stored field stands, and what is written of the object, the key and the value.
use Rattle.std.specs.Prelude.{ℕ, ◌+◌, Bool, true, false, cond, List, [], ◌∷◌, ◌++◌, Option, Some, None}
use Rattle.tree_core.specs.Tree.{Exp, Index}
use Rattle.code_core.specs.declared.opcode.Opcode.TheVariants.{SetTable, SetI, SetField}
use Rattle.code_core.specs.Instruction.{abc}
use Rattle.code_core.specs.declared.proto.Const.{Const}
use Rattle.code_of.specs.Coded.{Coded}
use Rattle.code_of.specs.Expressions.{made_by, exp_code}
use Rattle.code_of.specs.Operands.{local_of}
use Rattle.code_of.specs.Stores.{FieldKey, a_name, an_index, a_register, evaluated, StoredValue, constant_value, local_value, made_value, beside_quiet}
use Rattle.code_expr.specs.declared.stores.KeySeat.{KeySeat}
use Rattle.code_expr.specs.declared.stores.KeySeat.TheVariants.{Name, Index as Numeral, Register, Above}
use Rattle.code_expr.specs.declared.stores.Slot.{Slot}
use Rattle.code_expr.specs.declared.stores.ValueSeat.{ValueSeat}
use Rattle.code_expr.specs.declared.stores.ValueSeat.TheVariants.{Constant, Local, Made}

abbrev pub key_seat : FieldKey → KeySeat
key_seat (a_name number) = Name number
key_seat (an_index n) = Numeral n
key_seat (a_register r) = Register r
key_seat evaluated = Above

abbrev pub object_at : KeySeat → (quiet : Bool) → Exp → Option ℕ
object_at Above quiet object = None
object_at _ quiet object = beside_quiet quiet (local_of object)

-- an operand that stays makes no function
abbrev pub made_unless : Option ℕ → ℕ → ℕ
made_unless None n = n
made_unless (Some r) n = 0

-- what is written of a part that is made or stands elsewhere, and how many functions it makes

abbrev pub code_if : (made : Bool) → List Coded → List Coded
code_if made code = cond made code []

abbrev pub made_if : (made : Bool) → ℕ → ℕ
made_if made n = cond made n 0

abbrev pub is_above : KeySeat → Bool
is_above Above = true
is_above _ = false

-- the key stands in register y if it is made, and the value is a constant or stands in register v
abbrev pub seat_store : KeySeat → (x y : ℕ) → (constant : Bool) → (v line : ℕ) → Coded
seat_store (Name number) x y constant v line = (abc SetField x number v constant, line)
seat_store (Numeral n) x y constant v line = (abc SetI x n v constant, line)
seat_store (Register r) x y constant v line = (abc SetTable x r v constant, line)
seat_store Above x y constant v line = (abc SetTable x y v constant, line)

-- where the value stands

abbrev pub value_place : StoredValue → ValueSeat
value_place (constant_value number) = Constant number
value_place (local_value r) = Local r
value_place made_value = Made

abbrev pub is_made : ValueSeat → Bool
is_made Made = true
is_made _ = false

-- the value stands in register z if it is made
abbrev pub place_store : KeySeat → ValueSeat → (x y z line : ℕ) → Coded
place_store stands (Constant number) x y z line = seat_store stands x y true number line
place_store stands (Local r) x y z line = seat_store stands x y false r line
place_store stands Made x y z line = seat_store stands x y false z line

-- a key and a value where they are made, the value in register z, and the store
abbrev pub filled_code : List Const → Slot → Exp → ValueSeat → Exp → (z j : ℕ) → List Coded
filled_code constants slot key seat e z j =
    code_if (is_above slot.key) (exp_code constants key slot.above j 2)
    ++ (code_if (is_made seat) (exp_code constants e z (j + made_if (is_above slot.key) (made_by key)) 2) ++ place_store slot.key seat slot.object slot.above z slot.line ∷ [])

-- how many functions the store in a field makes
abbrev pub made_in_field : (target value : Exp) → ℕ
made_in_field (Index line object key) e = made_by object + made_by key + made_by e
made_in_field _ e = 0
