-- What a Lua frame does to itself once a call is paid, for which it then waits.
use Rattle.std.specs.Prelude.{◌≡◌, ◌+◌, ◌<◌, ◌≤◌, ◌&&◌, ◌||◌, ℕ, Some, List, [], ◌∷◌, ◌++◌, length, max, nat_le, nat_lt}
use Rattle.code_core.specs.Check.{IsChecked}
use Rattle.int_core.specs.Value.{Value, known, nil, write}
use Rattle.machine_core.specs.World.{Frame, LuaFrame, lua, Place, place_of}
use Rattle.machine_core.specs.Text.{Arg, arg, Own, write_register, drop_pending, cut_from, close_cells, take_pending, behind, blanked, is_pending, without_pending}
use Rattle.machine_core.specs.InstructionRows.{left_so, returned_so}
use Rattle.machine_core.specs.Moves.{cells_done, with_own}
use Rattle.table_core.specs.declared.value.Value.{Value as Kept}
use Rattle.table_core.specs.declared.value.Value.TheVariants.{Nil}
use Rattle.lua_stack.specs.declared.frame.Wait.{Wait as KeptWait}
use Rattle.lua_stack.specs.Frames.{KeptStack, NoneFrom, frames, wait_of, given_up, with_opened, with_pending, with_registers}
use Rattle.lua_heap.specs.declared.world.World.{World as Memory}
use Rattle.lua_heap.specs.Plain.{plain}
use Rattle.lua_heap.specs.Reading.{value}
use Rattle.machine_moves.specs.Moves.{NoneIsOpenFrom}
use Rattle.machine_calls.specs.declared.preparing.Prepared.{Prepared}
use Rattle.machine_calls.specs.declared.preparing.Prepared.TheVariants.{Nothing, Copied, GivenUp, LeftSo, ReturnedSo, Closed}

-- in the words of rows; the value that is copied is named by x
abbrev pub prepared_of : Arg → Prepared → List Own
prepared_of x Nothing = []
prepared_of x (Copied register v) = write_register register x ∷ []
prepared_of x (GivenUp register) = drop_pending register ∷ cut_from register ∷ []
prepared_of x LeftSo = left_so
prepared_of x (ReturnedSo from count) = returned_so from count
prepared_of x (Closed register) = close_cells register ∷ take_pending register ∷ []

abbrev pub IsCopy : (Kept → Value) → List Value → Arg → Prepared → Type 0
IsCopy f env x Nothing = Unit {0}
IsCopy f env x (Copied register v) = arg env x ≡ f v
IsCopy f env x (GivenUp register) = Unit {0}
IsCopy f env x LeftSo = Unit {0}
IsCopy f env x (ReturnedSo from count) = Unit {0}
IsCopy f env x (Closed register) = Unit {0}

-- what is changed is there, and no cell is open in what is cut
abbrev pub IsThere : Memory → Place → Prepared → Type 0
IsThere W place Nothing = Unit {0}
IsThere W place (Copied register v) = register < length place.top.own.registers
IsThere W place (GivenUp register) = (register ≤ place.function.code.own.stack) × NoneIsOpenFrom W place.function.code.own.stack
IsThere W place LeftSo = Unit {0}
IsThere W place (ReturnedSo from count) = behind from count ≤ length place.top.own.registers
IsThere W place (Closed register) = Unit {0}

pub record CanPrepare (W : Memory) (prepared : Prepared) : Type 0 where
  pub place : Place
  pub is : place_of (plain W 0) ≡ Some place
  pub checked : IsChecked place.function.code
  pub room : place.function.code.own.stack ≤ length place.top.own.registers
  pub there : IsThere W place prepared

-- the frame on top has done this to itself, and waits, whatever the budget is
pub record ReadyFor (old new : Memory) (wait : KeptWait) (prepared : Prepared) : Type 0 where
  pub is : (place : Place) → place_of (plain old 0) ≡ Some place → (env : List Value) (x : Arg) → IsCopy (value old.strings) env x prepared → (fuel : ℕ)
      → with_own (plain old fuel) place (wait_of (value old.strings) wait) (prepared_of x prepared) env ≡ plain new fuel

-- the cells are closed that this closes
pub record ClosesFor (old new : Memory) (prepared : Prepared) : Type 0 where
  pub is : (place : Place) → place_of (plain old 0) ≡ Some place → (env : List Value) (x : Arg) (fuel : ℕ)
      → plain new fuel ≡ record (plain old fuel) { cells = cells_done (prepared_of x prepared) place.function.code place.stack.coroutine place.number env place.top.own (plain old fuel).cells }

abbrev pub NoneIsLeft : (old new : Memory) → Prepared → Type 0
NoneIsLeft old new Nothing = Unit {0}
NoneIsLeft old new (Copied register v) = Unit {0}
NoneIsLeft old new (GivenUp register) = new ≡ old
NoneIsLeft old new LeftSo = NoneIsOpenFrom new 0
NoneIsLeft old new (ReturnedSo from count) = NoneIsOpenFrom new 0
NoneIsLeft old new (Closed register) = Unit {0}

-- on the stack

-- a Lua frame is on top, with at least so many registers, by a reading in which nil is nil
pub record HasTop (s : KeptStack) (count : ℕ) : Type 0 where
  pub value : Kept → Value
  pub nil_is : value Nil ≡ known nil
  pub below : List Frame
  pub top : LuaFrame
  pub is : frames value s ≡ below ++ lua top ∷ []
  pub room : count ≤ length top.own.registers

abbrev pub CanChange : KeptStack → Prepared → (stack : ℕ) → Type 0
CanChange s Nothing stack = HasTop s 0
CanChange s (Copied register v) stack = HasTop s (register + 1)
CanChange s (GivenUp register) stack = HasTop s stack × (register ≤ stack) × NoneFrom s stack
CanChange s LeftSo stack = HasTop s stack × NoneFrom s stack
CanChange s (ReturnedSo from count) stack = HasTop s (max stack (behind from count)) × NoneFrom s (max stack (behind from count))
CanChange s (Closed register) stack = HasTop s 0

abbrev pub taken : ℕ → LuaFrame → LuaFrame
taken register t = with_pending (without_pending register t.own.pending) t

abbrev pub left_as : (stack : ℕ) → LuaFrame → LuaFrame
left_as stack t = with_opened 0 (with_registers (blanked (is_pending (taken 0 t).own.pending) 0 stack t.own.registers) (taken 0 t))

abbrev pub returned_as : (from count stack : ℕ) → LuaFrame → LuaFrame
returned_as from count stack t =
    with_opened 0 (with_registers (blanked (λ i. is_pending (taken 0 t).own.pending i || (nat_le from i && nat_lt i (from + count))) 0 (max stack (behind from count)) t.own.registers) (taken 0 t))

-- what becomes of the frame on top, but for its wait
abbrev pub changed : (Kept → Value) → Prepared → (stack : ℕ) → LuaFrame → LuaFrame
changed f Nothing stack t = t
changed f (Copied register v) stack t = with_registers (write register (f v) t.own.registers) t
changed f (GivenUp register) stack t = given_up register stack t
changed f LeftSo stack t = left_as stack t
changed f (ReturnedSo from count) stack t = returned_as from count stack t
changed f (Closed register) stack t = taken register t
