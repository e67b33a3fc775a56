-- How a field is read. The key is the number of a string in the instruction, or the object and the key stand as the operands of an operator do.
use Rattle.std.specs.Prelude.{ℕ, List, [], ◌∷◌, ◌++◌, Option, Some, None}
use Rattle.tree_core.specs.Tree.{Exp}
use Rattle.code_core.specs.declared.opcode.Opcode.TheVariants.{GetTable, GetI, GetField}
use Rattle.code_of.specs.Coded.{Coded, with_abc}
use Rattle.code_of.specs.Operands.{local_of, key_operand, first_of, seat, unless, operands_code, operands_room}

-- The value goes to register r. An object that is a local stays in its register where the key is in the instruction
abbrev pub read_code : (name : Option ℕ) → (object key : Exp) → (first second : List Coded) → (r t line : ℕ) → List Coded
read_code (Some number) object key first second r t line = unless (local_of object) first ++ with_abc GetField r (seat (local_of object) t) number line ∷ []
read_code None object key first second r t line =
    operands_code (key_operand key) (first_of (key_operand key) object) first second t (λ x y. with_abc GetTable r x y line ∷ []) (λ x n. with_abc GetI r x n line ∷ [])

-- how many registers are taken from t on, and `own` what reads it

abbrev pub object_room : (own : ℕ) → Option ℕ → (first : ℕ) → ℕ
object_room own None first = first
object_room own (Some x) first = own

abbrev pub read_room : (own : ℕ) → (name : Option ℕ) → (object key : Exp) → (first second : ℕ) → ℕ
read_room own (Some number) object key first second = object_room own (local_of object) first
read_room own None object key first second = operands_room own (key_operand key) (first_of (key_operand key) object) first second
