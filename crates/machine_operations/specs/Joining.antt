-- Operands that are joined, from the last one on.
use Rattle.std.specs.Prelude.{◌≡◌, ◌<◌, ◌^◌, ℕ, zero, suc, ◌+◌, List, [], ◌∷◌, ◌++◌, drop, length, map}
use Rattle.int_core.specs.Ask.{values}
use Rattle.int_core.specs.Operations.{concat}
use Rattle.int_core.specs.Value.{Value, Shape, shape, nth}
use Rattle.machine_core.specs.World.{for_concat}
use Rattle.machine_core.specs.Text.{Arg, arg, args_of, read, read_register}
use Rattle.machine_core.specs.InstructionRows.{joins, to_register, told_values}
use Rattle.machine_core.specs.FrameRows.{When, expand_by, calls_row, goes_on_by, raises}
use Rattle.machine_core.specs.Moves.{on_own, settle, Row, run}
use Rattle.machine_sound.specs.Sound.{Each, Sizes, Valid}
use Rattle.table_core.specs.declared.value.Value.{Value as Kept}
use Rattle.table_core.specs.declared.value.Value.TheVariants.{Nil}
use Rattle.lua_heap.specs.declared.world.World.{World as Memory}
use Rattle.lua_heap.specs.Plain.{plain}
use Rattle.lua_heap.specs.Reading.{value}
use Rattle.meta_ops.specs.declared.outcome.Outcome.{Outcome}
use Rattle.meta_ops.specs.declared.outcome.Outcome.TheVariants.{Found, Ask}
use Rattle.meta_ops.specs.Heap.{IsIn}
use Rattle.meta_ops.specs.Outcome.{fault_text}
use Rattle.move_laws.specs.Memory.{HasFrame, IsSafe, IsSound, Makes}
use Rattle.machine_moves.specs.Operations.{values_of, told_of}
use Rattle.machine_operations.specs.declared.joining.Joined.{Joined}
use Rattle.machine_operations.specs.declared.joining.Joined.TheVariants.{Whole, Asks, Fails}

-- two values are joined so, by whatever names. What is found is there, and where a handler is asked for there is no new string
pub record Concats (old new : Memory) (left right : Kept) (outcome : Outcome) : Type 0 where
  pub makes : (env : List Value) (xs : List Arg) → args_of env xs ≡ value old.strings left ∷ value old.strings right ∷ []
      → Makes old new (settle concat xs) env (values_of new.strings (value old.strings right ∷ []) outcome) (told_of new.strings outcome)
  pub there : (v : Kept) → outcome ≡ Found v → IsIn new.strings new.tables.objects v
  pub asked : (handler object : Kept) → outcome ≡ Ask handler object → new.strings ≡ old.strings

-- a register's value is read, and joined in front of a value
pub record JoinsOne (old new : Memory) (register : ℕ) (whole : Kept) (outcome : Outcome) : Type 0 where
  pub operand : Kept
  pub reads : (env : List Value) → Makes old old (on_own (read_register register)) env (value old.strings operand ∷ []) (shape (value old.strings operand))
  pub concats : Concats old new operand whole outcome

-- how the machine names what has been joined so far: as the first value that was read. Where it has read none, that is the next operand itself
abbrev pub Names : Memory → (first left : ℕ) → List Value → Kept → Type 0
Names W first zero env whole = arg env (read 0) ≡ value W.strings whole
Names W first (suc left) env whole =
    (u : Value) (s : Shape) → ((env : List Value) → Makes W W (on_own (read_register (first + left))) env (u ∷ []) s) → nth (env ++ u ∷ []) 0 ≡ value W.strings whole

pub record MayJoin (W : Memory) (first left : ℕ) (whole : Kept) : Type 0 where
  pub when : When
  pub env : List Value
  pub named : Names W first left env whole
  pub safe : IsSafe (expand_by when (joins first left (read 0))) env W

-- so many operands may be joined to the value behind them
pub record CanJoin (W : Memory) (first count : ℕ) (v : Kept) : Type 0 where
  pub sound : IsSound W
  pub frame : HasFrame W
  pub last : IsIn W.strings W.tables.objects v
  pub room : first + count < 2 ^ 64
  pub safe : MayJoin W first count v

-- what is then done
abbrev pub row_of : When → List (List ℕ) → (first slot : ℕ) → Joined → Row
row_of when texts first slot (Whole v) = expand_by when (to_register first (read 0))
row_of when texts first slot (Asks a) = calls_row when (read slot) (suc slot) (for_concat a.below) []
row_of when texts first slot (Fails cause) = raises (fault_text texts cause)

abbrev pub IsNamed : List (List ℕ) → List Value → ℕ → Joined → Type 0
IsNamed texts env slot (Whole v) = arg env (read 0) ≡ value texts v
IsNamed texts env slot (Asks a) = (arg env (read slot) ≡ value texts a.handler) × (drop (suc slot) env ≡ value texts a.left ∷ value texts a.right ∷ [])
IsNamed texts env slot (Fails cause) = Unit {0}

-- the row of these operands comes to that
pub record ComesTo (when : When) (old new : Memory) (first count : ℕ) (env : List Value) (joined : Joined) : Type 0 where
  pub more : List Value
  pub slot : ℕ
  pub named : IsNamed new.strings more slot joined
  pub is : (fuel : ℕ) → run (expand_by when (joins first count (read 0))) env (plain old fuel) ≡ run (row_of when new.strings first slot joined) more (plain new fuel)

pub record Joins (old new : Memory) (first count : ℕ) (last : Kept) (joined : Joined) : Type 0 where
  pub comes : (when : When) (env : List Value) → Names old first count env last → ComesTo when old new first count env joined

-- a whole is a value that is there
abbrev pub IsThere : Memory → Joined → Type 0
IsThere W (Whole v) = IsIn W.strings W.tables.objects v
IsThere W (Asks a) = Unit {0}
IsThere W (Fails cause) = Unit {0}

-- a frame goes on with what came for a concatenation of which so many operands are left: the first value, or nil

abbrev pub rest_row : (first left : ℕ) → Row
rest_row first left = goes_on_by (joins first left (read 0))

abbrev pub told_for : (left : ℕ) → List Value → List Value
told_for left came = told_values (for_concat left) (values came)

abbrev pub first_or_nil : List Kept → Kept
first_or_nil [] = Nil
first_or_nil (v ∷ vs) = v

-- what came is valid, by some numbers of objects with those of the tables that are there
pub record AreValid (W : Memory) (came : List Kept) : Type 0 where
  pub sizes : Sizes
  pub tables : sizes.tables ≡ length W.tables.objects
  pub valid : Each (Valid sizes) (map (value W.strings) came)
