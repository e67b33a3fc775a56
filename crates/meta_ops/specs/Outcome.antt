-- What outcomes say, in the words of the definitions.
use Rattle.std.specs.Prelude.{ℕ, Bool, true, false, List, [], ◌∷◌, codes}
use Rattle.int_core.specs.Heap.{Heap}
use Rattle.int_core.specs.Operations.{Settled, found, ask, fault, of_type, cannot_compare}
use Rattle.int_core.specs.Value.{Value}
use Rattle.lua_heap.specs.Reading.{value}
use Rattle.meta_ops.specs.declared.fault.Fault.{Fault as Cause}
use Rattle.meta_ops.specs.declared.fault.Fault.TheVariants.{Index, IndexChain, NewIndexChain, NilKey, Call, CallChain, Arithmetic, Bitwise, DivisionByZero, ModuloByZero, Concatenate, TooLarge, Length, Compare}
use Rattle.meta_ops.specs.declared.outcome.Outcome.{Outcome}
use Rattle.meta_ops.specs.declared.outcome.Outcome.TheVariants.{Found, Done, Ask, Fault}

abbrev pub fault_text : List (List ℕ) → Cause → List ℕ
fault_text texts (Index v) = of_type (codes "index") (value texts v)
fault_text texts IndexChain = codes "'__index' chain too long; possibly a loop"
fault_text texts NewIndexChain = codes "'__newindex' chain too long; possibly a loop"
fault_text texts NilKey = codes "table index is nil"
fault_text texts (Call v) = of_type (codes "call") (value texts v)
fault_text texts CallChain = codes "stack overflow"
fault_text texts (Arithmetic v) = of_type (codes "perform arithmetic on") (value texts v)
fault_text texts (Bitwise v) = of_type (codes "perform bitwise operation on") (value texts v)
fault_text texts DivisionByZero = codes "attempt to perform 'n//0'"
fault_text texts ModuloByZero = codes "attempt to perform 'n%%0'"
fault_text texts (Concatenate v) = of_type (codes "concatenate") (value texts v)
fault_text texts TooLarge = codes "resulting string too large"
fault_text texts (Length v) = of_type (codes "get length of") (value texts v)
fault_text texts (Compare left right) = cannot_compare (value texts left) (value texts right)

-- with the operands behind the first one
abbrev pub settled : List (List ℕ) → Heap → List Value → Outcome → Settled
settled texts H more (Found v) = found H (value texts v ∷ [])
settled texts H more Done = found H []
settled texts H more (Ask handler first) = ask (value texts handler) (value texts first ∷ more)
settled texts H more (Fault cause) = fault (fault_text texts cause)

-- whether a value was stored
abbrev pub is_done : Outcome → Bool
is_done Done = true
is_done _ = false
