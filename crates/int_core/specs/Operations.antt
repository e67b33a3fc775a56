-- What an operation on values does: it is settled at once, asks for a handler to be called, or is at fault (Lua 5.4 manual, 2.4, 3.4.1 to 3.4.7).
use Rattle.std.specs.Prelude.{ℕ, zero, suc, ◌+◌, ℤ, pos, negsuc, ◌-ℤ◌, int_lt, int_le, Bool, true, false, cond, not, List, [], ◌∷◌, ◌++◌, length, Option, Some, None, nat_eq, nat_lt, nat_le, slice_get, codes, decimal, bit_and, bit_or, bit_xor}
use Rattle.std.specs.Int.{w64, cast_unsigned}
use Rattle.int_core.specs.Arithmetic.{wrapped, add, sub, mul, neg, floor_div, floor_mod, shl, shr}
use Rattle.int_core.specs.Numeral.{integer_of}
use Rattle.int_core.specs.Rows.{border}
use Rattle.int_core.specs.Value.{greatest_string, nil, boolean, integer, string, primitive, a_table, a_function, a_coroutine, Value, known, object, Shape, is_known, is_object, shape, same, is_nil, table_values, bind}
use Rattle.int_core.specs.Heap.{Heap, raw_get, raw_set, metatable_of}

-- what a metatable's fields stand for
pub data Event : Type 0 where
  of_add : Event
  of_sub : Event
  of_mul : Event
  of_mod : Event
  of_idiv : Event
  of_band : Event
  of_bor : Event
  of_bxor : Event
  of_shl : Event
  of_shr : Event
  of_unm : Event
  of_bnot : Event
  of_concat : Event
  of_len : Event
  of_eq : Event
  of_lt : Event
  of_le : Event
  of_index : Event
  of_newindex : Event
  of_call : Event
  of_close : Event

abbrev pub event_name : Event → List ℕ
event_name of_add = codes "__add"
event_name of_sub = codes "__sub"
event_name of_mul = codes "__mul"
event_name of_mod = codes "__mod"
event_name of_idiv = codes "__idiv"
event_name of_band = codes "__band"
event_name of_bor = codes "__bor"
event_name of_bxor = codes "__bxor"
event_name of_shl = codes "__shl"
event_name of_shr = codes "__shr"
event_name of_unm = codes "__unm"
event_name of_bnot = codes "__bnot"
event_name of_concat = codes "__concat"
event_name of_len = codes "__len"
event_name of_eq = codes "__eq"
event_name of_lt = codes "__lt"
event_name of_le = codes "__le"
event_name of_index = codes "__index"
event_name of_newindex = codes "__newindex"
event_name of_call = codes "__call"
event_name of_close = codes "__close"

-- whether an event is one of the bitwise operators
abbrev pub is_bitwise : Event → Bool
is_bitwise of_band = true
is_bitwise of_bor = true
is_bitwise of_bxor = true
is_bitwise of_shl = true
is_bitwise of_shr = true
is_bitwise of_bnot = true
is_bitwise _ = false

-- texts

-- the word that `type` has for a value
abbrev pub type_name : Shape → List ℕ
type_name (is_known nil) = codes "nil"
type_name (is_known (boolean _)) = codes "boolean"
type_name (is_known (integer _)) = codes "number"
type_name (is_known (string _)) = codes "string"
type_name (is_known (primitive _)) = codes "function"
type_name (is_object a_table) = codes "table"
type_name (is_object a_function) = codes "function"
type_name (is_object a_coroutine) = codes "thread"

abbrev pub of_type : List ℕ → Value → List ℕ
of_type attempt v = codes "attempt to " ++ attempt ++ codes " a " ++ type_name (shape v) ++ codes " value"

abbrev pub integer_text : ℤ → List ℕ
integer_text (pos n) = decimal n
integer_text (negsuc n) = codes "-" ++ decimal (n + 1)

-- the text of a string or an integer
abbrev pub text_of : Value → Option (List ℕ)
text_of (known (string s)) = Some s
text_of (known (integer n)) = Some (integer_text n)
text_of _ = None

-- the integer that a value is, or that a string spells
abbrev pub number_in : Value → Option ℤ
number_in (known (integer n)) = Some n
number_in (known (string s)) = integer_of s
number_in _ = None

abbrev pub is_number : Value → Bool
is_number v = elim (number_in v) [ None ↦ false | Some _ ↦ true ]

abbrev pub is_text : Value → Bool
is_text v = elim (text_of v) [ None ↦ false | Some _ ↦ true ]

-- the first of two operands that is at fault
abbrev pub at_fault : (Value → Bool) → Value → Value → Value
at_fault is_fit left right = cond (is_fit left) right left

-- integers

abbrev pub bitwise : (ℕ → ℕ → ℕ) → ℤ → ℤ → ℤ
bitwise op m n = wrapped (pos (op (cast_unsigned w64 m) (cast_unsigned w64 n)))

-- None is a division by zero
abbrev pub computed : Event → ℤ → ℤ → Option ℤ
computed of_add m n = Some (add m n)
computed of_sub m n = Some (sub m n)
computed of_mul m n = Some (mul m n)
computed of_mod m (pos zero) = None
computed of_mod m n = Some (floor_mod m n)
computed of_idiv m (pos zero) = None
computed of_idiv m n = Some (floor_div m n)
computed of_band m n = Some (bitwise bit_and m n)
computed of_bor m n = Some (bitwise bit_or m n)
computed of_bxor m n = Some (bitwise bit_xor m n)
computed of_shl m n = Some (shl m n)
computed of_shr m n = Some (shr m n)
computed of_unm m n = Some (neg m)
computed of_bnot m n = Some (negsuc zero -ℤ m)
computed _ m n = None

abbrev pub by_zero : Event → List ℕ
by_zero of_mod = codes "attempt to perform 'n%%0'"
by_zero _ = codes "attempt to perform 'n//0'"

-- strings are ordered by their bytes

abbrev pub before : List ℕ → List ℕ → Bool
before s [] = false
before [] (_ ∷ _) = true
before (b ∷ s) (c ∷ t) = cond (nat_eq b c) (before s t) (nat_lt b c)

-- handlers

-- the raw field of the operand's metatable, or nil
abbrev pub handler_in : Heap → Event → Value → Value
handler_in H event v = elim (bind (metatable_of H v) (λ m. raw_get H (object a_table m) (known (string (event_name event))))) [
  | None ↦ known nil
  | Some h ↦ h
]

-- the left operand's handler, else the right one's
abbrev pub handler_of : Heap → Event → Value → Value → Option Value
handler_of H event left right =
    cond (not (is_nil (handler_in H event left))) (Some (handler_in H event left))
    (cond (not (is_nil (handler_in H event right))) (Some (handler_in H event right)) None)

-- a function of Lua's or a primitive
abbrev pub is_function : Value → Bool
is_function (object a_function n) = true
is_function (known (primitive n)) = true
is_function _ = false

-- what became of an operation. `cannot_arise` is that of a table that is not there, and of too few or too many operands: no sound world and
-- no activation comes to it
pub data Settled : Type 0 where
  found : Heap → List Value → Settled
  ask : (handler : Value) → (arguments : List Value) → Settled
  fault : List ℕ → Settled
  cannot_arise : Settled

abbrev pub asked : Option Value → List Value → Settled → Settled
asked (Some h) arguments otherwise = ask h arguments
asked None arguments otherwise = otherwise

-- `__index` and `__newindex`

-- how many links of handlers are followed
abbrev pub greatest_chain : ℕ
greatest_chain = 2000

-- a key that the table does not have, or a value that is no table, goes on to the handler
abbrev pub indexed : Heap → Value → Option Value → (Value → Settled) → Settled
indexed H o raw follow =
    cond (elim raw [ None ↦ false | Some v ↦ not (is_nil v) ]) (found H (elim raw [ None ↦ [] | Some v ↦ v ∷ [] ]))
    (cond (not (is_nil (handler_in H of_index o))) (follow (handler_in H of_index o))
    (elim raw [ None ↦ fault (of_type (codes "index") o) | Some v ↦ found H (v ∷ []) ]))

abbrev pub index_of : ℕ → Heap → Value → Value → Settled
index_of zero H o key = indexed H o (raw_get H o key) (λ h. fault (codes "'__index' chain too long; possibly a loop"))
index_of (suc links) H o key = indexed H o (raw_get H o key) (λ h. cond (is_function h) (ask h (o ∷ key ∷ [])) (index_of links H h key))

abbrev pub set_raw : Heap → Value → Value → Value → Settled
set_raw H (object a_table n) (known nil) value = fault (codes "table index is nil")
set_raw H (object a_table n) key value = found (raw_set H n key value) []
set_raw H o key value = fault (of_type (codes "index") o)

abbrev pub stored : Heap → Value → Value → Value → Option Value → (Value → Settled) → Settled
stored H o key value raw follow =
    cond (elim raw [ None ↦ false | Some v ↦ not (is_nil v) ]) (set_raw H o key value)
    (cond (not (is_nil (handler_in H of_newindex o))) (follow (handler_in H of_newindex o)) (set_raw H o key value))

abbrev pub store_of : ℕ → Heap → Value → Value → Value → Settled
store_of zero H o key value = stored H o key value (raw_get H o key) (λ h. fault (codes "'__newindex' chain too long; possibly a loop"))
store_of (suc links) H o key value =
    stored H o key value (raw_get H o key) (λ h. cond (is_function h) (ask h (o ∷ key ∷ value ∷ [])) (store_of links H h key value))

-- `__call`

pub data Callee : Type 0 where
  callee : Value → List Value → Callee
  not_callable : List ℕ → Callee

-- each link puts the value that is called in front of the arguments
abbrev pub callee_of : ℕ → Heap → Value → List Value → Callee
callee_of zero H f arguments =
    cond (is_function f) (callee f arguments)
    (cond (is_nil (handler_in H of_call f)) (not_callable (of_type (codes "call") f)) (not_callable (codes "stack overflow")))
callee_of (suc links) H f arguments =
    cond (is_function f) (callee f arguments)
    (cond (is_nil (handler_in H of_call f)) (not_callable (of_type (codes "call") f)) (callee_of links H (handler_in H of_call f) (f ∷ arguments)))

-- the other operators

abbrev pub wrong_operand : Event → List ℕ
wrong_operand event = cond (is_bitwise event) (codes "perform bitwise operation on") (codes "perform arithmetic on")

abbrev pub arithmetic_on : Event → Heap → Option ℤ → Option ℤ → Value → Value → Settled
arithmetic_on event H (Some m) (Some n) left right = elim (computed event m n) [ None ↦ fault (by_zero event) | Some k ↦ found H (known (integer k) ∷ []) ]
arithmetic_on event H _ _ left right =
    asked (handler_of H event left right) (left ∷ right ∷ []) (fault (of_type (wrong_operand event) (at_fault is_number left right)))

abbrev pub joined : Heap → List ℕ → Settled
joined H text = cond (nat_le (length text) greatest_string) (found H (known (string text) ∷ [])) (fault (codes "resulting string too large"))

abbrev pub concat_on : Heap → Option (List ℕ) → Option (List ℕ) → Value → Value → Settled
concat_on H (Some s) (Some t) left right = joined H (s ++ t)
concat_on H _ _ left right =
    asked (handler_of H of_concat left right) (left ∷ right ∷ []) (fault (of_type (codes "concatenate") (at_fault is_text left right)))

abbrev pub raw_length : Heap → Value → Settled
raw_length H (object a_table n) = elim (slice_get H.tables n) [
  | None ↦ cannot_arise
  | Some t ↦ found H (known (integer (pos (border table_values t.rows))) ∷ [])
]
raw_length H v = fault (of_type (codes "get length of") v)

abbrev pub length_on : Heap → Value → Settled
length_on H (known (string s)) = found H (known (integer (pos (length s))) ∷ [])
length_on H v = asked (handler_of H of_len v v) (v ∷ v ∷ []) (raw_length H v)

abbrev pub truth : Heap → Bool → Settled
truth H b = found H (known (boolean b) ∷ [])

abbrev pub equal_on : Heap → Value → Value → Settled
equal_on H (object a_table m) (object a_table n) =
    cond (nat_eq m n) (truth H true)
    (asked (handler_of H of_eq (object a_table m) (object a_table n)) (object a_table m ∷ object a_table n ∷ []) (truth H false))
equal_on H left right = truth H (same left right)

abbrev pub cannot_compare : Value → Value → List ℕ
cannot_compare left right =
    let l = type_name (shape left) in
    let r = type_name (shape right) in
    cond (same (known (string l)) (known (string r))) (codes "attempt to compare two " ++ l ++ codes " values") (codes "attempt to compare " ++ l ++ codes " with " ++ r)

abbrev pub ordered : Event → (ℤ → ℤ → Bool) → (List ℕ → List ℕ → Bool) → Heap → Value → Value → Settled
ordered event by_number by_bytes H (known (integer m)) (known (integer n)) = truth H (by_number m n)
ordered event by_number by_bytes H (known (string s)) (known (string t)) = truth H (by_bytes s t)
ordered event by_number by_bytes H left right = asked (handler_of H event left right) (left ∷ right ∷ []) (fault (cannot_compare left right))

-- the operations that a row asks for
pub data Operation : Type 0 where
  index : Operation
  store : Operation
  arithmetic : Event → Operation
  concat : Operation
  length' : Operation
  equal : Operation
  less : Operation
  less_equal : Operation

-- how many operands it has
abbrev pub operands : Operation → ℕ
operands store = 3
operands length' = 1
operands _ = 2

abbrev pub does : Operation → List Value → Heap → Settled
does index (o ∷ key ∷ []) H = index_of greatest_chain H o key
does store (o ∷ key ∷ value ∷ []) H = store_of greatest_chain H o key value
does (arithmetic event) (left ∷ right ∷ []) H = arithmetic_on event H (number_in left) (number_in right) left right
does concat (left ∷ right ∷ []) H = concat_on H (text_of left) (text_of right) left right
does length' (v ∷ []) H = length_on H v
does equal (left ∷ right ∷ []) H = equal_on H left right
does less (left ∷ right ∷ []) H = ordered of_lt int_lt before H left right
does less_equal (left ∷ right ∷ []) H = ordered of_le int_le (λ s t. not (before t s)) H left right
does _ _ H = cannot_arise
