-- What an operation on values in memory does to a world.
use Rattle.std.specs.Prelude.{◌≡◌, ℕ, Bool, true, false, List, [], ◌∷◌}
use Rattle.int_core.specs.Value.{Value}
use Rattle.machine_core.specs.Text.{Arg, args_of}
use Rattle.machine_core.specs.Moves.{settle, SettledShape, is_found, is_asked, is_fault}
use Rattle.lua_heap.specs.declared.world.World.{World as Memory}
use Rattle.lua_heap.specs.Reading.{value}
use Rattle.meta_ops.specs.declared.operation.Operation.{Operation}
use Rattle.meta_ops.specs.declared.operation.Operation.TheVariants.{Index, Store, Arithmetic, Concat, Length, Equal, Less, LessEqual}
use Rattle.meta_ops.specs.declared.outcome.Outcome.{Outcome}
use Rattle.meta_ops.specs.declared.outcome.Outcome.TheVariants.{Found, Done, Ask, Fault}
use Rattle.meta_ops.specs.Operation.{kind_of, operands_of, more_of}
use Rattle.meta_ops.specs.Outcome.{fault_text}
use Rattle.move_laws.specs.Memory.{Makes}

abbrev pub joins : Operation → Bool
joins (Concat left right) = true
joins (Index o key) = false
joins (Store o key v) = false
joins (Arithmetic event left right) = false
joins (Length v) = false
joins (Equal left right) = false
joins (Less left right) = false
joins (LessEqual left right) = false

-- what is read of an outcome, with the operands behind the first one, and what is told

abbrev pub values_of : List (List ℕ) → List Value → Outcome → List Value
values_of texts more (Found v) = value texts v ∷ []
values_of texts more Done = []
values_of texts more (Ask handler first) = value texts handler ∷ value texts first ∷ more
values_of texts more (Fault cause) = []

abbrev pub told_of : List (List ℕ) → Outcome → SettledShape
told_of texts (Found v) = is_found
told_of texts Done = is_found
told_of texts (Ask handler first) = is_asked
told_of texts (Fault cause) = is_fault (fault_text texts cause)

-- the operation is settled so, with its operands named in whatever way
pub record Settles (old new : Memory) (operation : Operation) (outcome : Outcome) : Type 0 where
  pub makes : (env : List Value) (xs : List Arg) → args_of env xs ≡ operands_of old.strings operation
      → Makes old new (settle (kind_of operation) xs) env (values_of old.strings (more_of old.strings operation) outcome) (told_of old.strings outcome)
