-- How long the code of a field that is read is, and how many registers it takes.
use Rattle.std.proofs.Common.{ℕ, ◌+◌, ◌≤◌, max, List, [], ◌∷◌, ◌++◌, length, Option, Some, None, arith, length-append}
use Rattle.tree_core.specs.Tree.{Exp}
use Rattle.code_core.specs.declared.opcode.Opcode.TheVariants.{GetTable, GetI, GetField}
use Rattle.code_of.specs.Coded.{Coded, with_abc}
use Rattle.code_of.specs.Operands.{local_of, key_operand, first_of, seat, unless}
use Rattle.code_of.specs.FieldReads.{read_code, object_room, read_room}
use Rattle.code_of.proofs.Operands.{operands_short, some_operands, few_operands, operands_less}

pub read_short : (name : Option ℕ) (object key : Exp) (first second : List Coded) (r t line : ℕ) → length (read_code name object key first second r t line) ≤ length first + (length second + 1)
read_short (Some number) object key first second r t line = by (local_of object)
  where
    by : (at : Option ℕ) → length (unless at first ++ with_abc GetField r (seat at t) number line ∷ []) ≤ length first + (length second + 1)
    by None = omega (arith, length-append first (with_abc GetField r t number line ∷ []))
    by (Some x) = omega arith
read_short None object key first second r t line =
    operands_short (key_operand key) (first_of (key_operand key) object) first second t (λ x y. with_abc GetTable r x y line ∷ []) (λ x n. with_abc GetI r x n line ∷ []) 1 (λ x y. omega arith) (λ x n. omega arith)

pub some_read : (name : Option ℕ) (object key : Exp) (first second : ℕ) → 1 ≤ first → 1 ≤ read_room 1 name object key first second
some_read (Some number) object key first second some = by (local_of object)
  where
    by : (at : Option ℕ) → 1 ≤ object_room 1 at first
    by None = some
    by (Some x) = omega arith
some_read None object key first second some = some_operands (key_operand key) (first_of (key_operand key) object) first second some

pub few_read : (own : ℕ) (name : Option ℕ) (object key : Exp) (first second : ℕ) → own ≤ 1 → read_room own name object key first second ≤ max first (1 + second)
few_read own (Some number) object key first second few = by (local_of object)
  where
    by : (at : Option ℕ) → object_room own at first ≤ max first (1 + second)
    by None = omega arith
    by (Some x) = omega (arith, few)
few_read own None object key first second few = few_operands own (key_operand key) (first_of (key_operand key) object) first second few

pub read_less : (name : Option ℕ) (object key : Exp) (first second : ℕ) → read_room 0 name object key first second ≤ read_room 1 name object key first second
read_less (Some number) object key first second = by (local_of object)
  where
    by : (at : Option ℕ) → object_room 0 at first ≤ object_room 1 at first
    by None = omega arith
    by (Some x) = omega arith
read_less None object key first second = operands_less (key_operand key) (first_of (key_operand key) object) first second
