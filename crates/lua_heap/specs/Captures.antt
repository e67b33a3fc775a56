-- A register of the function on top gets a cell where it has none.
use Rattle.std.specs.Prelude.{◌≡◌, ℕ, ◌+◌, ◌-◌, ◌≤◌, length, Option, Some, None, slice_get}
use Rattle.int_core.specs.Limits.{greatest_depth}
use Rattle.int_core.specs.Value.{last}
use Rattle.machine_core.specs.World.{Stack, World, find_open}
use Rattle.machine_core.specs.Moves.{opened_cells}
use Rattle.table_core.specs.declared.value.CellId.{CellId}
use Rattle.table_core.specs.declared.value.CoroId.{CoroId}
use Rattle.lua_stack.specs.Frames.{KeptStack, Adds, HasRegisters, cell_at, opened_at, top_number}
use Rattle.lua_heap.specs.declared.world.Coro.{Coro}
use Rattle.lua_heap.specs.declared.world.Coro.TheVariants.{Fresh, Suspended, Running, Normal, Dead, Failed}
use Rattle.lua_heap.specs.declared.world.World.{World as Memory}

-- the cell that is open at a register of the function on top
abbrev pub cell_on_top : World → Stack → ℕ → Option ℕ
cell_on_top W s register = find_open s.coroutine (length s.frames - 1) register W.cells

abbrev pub with_open_cell : World → Stack → ℕ → World
with_open_cell W s register = record W { cells = opened_cells (cell_on_top W s register) s.coroutine (length s.frames - 1) register W.cells }

-- the function on top of the running coroutine has a register, and the frames are no more than there may be
pub record HasTopRegister (W : Memory) (register : ℕ) : Type 0 where
  pub number : CoroId
  pub stack : KeptStack
  pub last : last W.chain.items ≡ Some number
  pub there : slice_get W.coros.objects number.0 ≡ Some (Running stack)
  pub room : HasRegisters stack (register + 1)
  pub depth : length stack.frames ≤ greatest_depth

-- the register of the function on top has no cell
abbrev pub CanOpen : Coro → ℕ → Type 0
CanOpen (Running stack) register = HasRegisters stack (register + 1) × (length stack.frames ≤ greatest_depth) × (cell_at (top_number stack) register stack.open_cells ≡ None)
CanOpen (Fresh body) register = ⊥
CanOpen (Suspended stack) register = ⊥
CanOpen (Normal stack) register = ⊥
CanOpen Dead register = ⊥
CanOpen (Failed error pending) register = ⊥

-- and gets one
pub record OpensOnTop (old new : Coro) (frame register : ℕ) (cell : CellId) : Type 0 where
  pub before : KeptStack
  pub after : KeptStack
  pub was : old ≡ Running before
  pub is : new ≡ Running after
  pub number : frame ≡ top_number before
  pub frames : after.frames ≡ before.frames
  pub adds : Adds before.open_cells after.open_cells (opened_at cell frame register)
