-- Operations with operands in memory, in the words of the definitions.
use Rattle.std.specs.Prelude.{ℕ, List, [], ◌∷◌}
use Rattle.int_core.specs.Operations.{Operation as Kind, index, store, arithmetic, concat, length', equal, less, less_equal, text_of}
use Rattle.int_core.specs.Value.{Value}
use Rattle.table_core.specs.Table.{Contents}
use Rattle.lua_heap.specs.Reading.{value}
use Rattle.meta_ops.specs.declared.operation.Operation.{Operation}
use Rattle.meta_ops.specs.declared.operation.Operation.TheVariants.{Index, Store, Arithmetic, Concat, Length, Equal, Less, LessEqual}
use Rattle.meta_ops.specs.Concat.{with_joined}
use Rattle.meta_ops.specs.Events.{event_of}
use Rattle.meta_ops.specs.Heap.{IsIn}

abbrev pub kind_of : Operation → Kind
kind_of (Index object key) = index
kind_of (Store object key v) = store
kind_of (Arithmetic event left right) = arithmetic (event_of event)
kind_of (Concat left right) = concat
kind_of (Length v) = length'
kind_of (Equal left right) = equal
kind_of (Less left right) = less
kind_of (LessEqual left right) = less_equal

abbrev pub operands_of : List (List ℕ) → Operation → List Value
operands_of texts (Index object key) = value texts object ∷ value texts key ∷ []
operands_of texts (Store object key v) = value texts object ∷ value texts key ∷ value texts v ∷ []
operands_of texts (Arithmetic event left right) = value texts left ∷ value texts right ∷ []
operands_of texts (Concat left right) = value texts left ∷ value texts right ∷ []
operands_of texts (Length v) = value texts v ∷ []
operands_of texts (Equal left right) = value texts left ∷ value texts right ∷ []
operands_of texts (Less left right) = value texts left ∷ value texts right ∷ []
operands_of texts (LessEqual left right) = value texts left ∷ value texts right ∷ []

-- a handler's arguments behind the first one
abbrev pub more_of : List (List ℕ) → Operation → List Value
more_of texts (Index object key) = value texts key ∷ []
more_of texts (Store object key v) = value texts key ∷ value texts v ∷ []
more_of texts (Arithmetic event left right) = value texts right ∷ []
more_of texts (Concat left right) = value texts right ∷ []
more_of texts (Length v) = value texts v ∷ []
more_of texts (Equal left right) = value texts right ∷ []
more_of texts (Less left right) = value texts right ∷ []
more_of texts (LessEqual left right) = value texts right ∷ []

-- the operands that are looked into are there
abbrev pub AreIn : List (List ℕ) → List Contents → Operation → Type 0
AreIn texts tables (Arithmetic event left right) = IsIn texts tables left × IsIn texts tables right
AreIn texts tables (Concat left right) = IsIn texts tables left × IsIn texts tables right
AreIn texts tables (Length v) = IsIn texts tables v
AreIn texts tables (Less left right) = IsIn texts tables left × IsIn texts tables right
AreIn texts tables (LessEqual left right) = IsIn texts tables left × IsIn texts tables right
AreIn texts tables _ = Unit {0}

abbrev pub strings_after : List (List ℕ) → Operation → List (List ℕ)
strings_after texts (Concat left right) = with_joined texts (text_of (value texts left)) (text_of (value texts right))
strings_after texts _ = texts
