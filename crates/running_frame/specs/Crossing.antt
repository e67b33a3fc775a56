-- The stack of the coroutine that runs, apart from the world in memory, while frame after frame of it runs.
use Rattle.std.specs.Prelude.{◌≡◌, ◌⊎◌, ℕ, List, [], Option, Some, None, length, slice_set}
use Rattle.int_core.specs.Value.{last}
use Rattle.machine_core.specs.Moves.{go, Row}
use Rattle.machine_sound.specs.Laws.{PrimitivesSafe}
use Rattle.library_rows.specs.Library.{all_entries}
use Rattle.object_pool.specs.Pool.{Pool}
use Rattle.table_core.specs.Table.{Contents}
use Rattle.table_core.specs.declared.value.CellId.{CellId}
use Rattle.table_core.specs.declared.value.CoroId.{CoroId}
use Rattle.lua_stack.specs.Frames.{KeptStack}
use Rattle.lua_heap.specs.declared.codes.Codes.{Codes}
use Rattle.lua_heap.specs.declared.world.Cell.{Cell}
use Rattle.lua_heap.specs.declared.world.Coro.TheVariants.{Running as CoroRuns}
use Rattle.lua_heap.specs.declared.world.Func.{Func}
use Rattle.lua_heap.specs.declared.world.World.{World as Memory}
use Rattle.move_laws.specs.Memory.{Runs}
use Rattle.step_laws.specs.Steps.{IsReady}
use Rattle.machine_loop.specs.Running.{Running}
use Rattle.frame_calls.specs.declared.stop.Stop.{Stop}
use Rattle.frame_calls.specs.Calling.{AreFunctions, program_of}
use Rattle.frame_calls.specs.Crossing.{CrossesAt}
use Rattle.running_frame.specs.declared.surroundings.Surroundings.{Surroundings}
use Rattle.running_frame.specs.Inheriting.{metatable_number}
use Rattle.running_frame.specs.Storing.{StoresOpen}

-- at the instruction where a frame stops there is a call, a return, a VARARG, or a store to a variable of a frame below, and that is done
abbrev pub LeavesFrame : (co : ℕ) → List CellId → (s u : KeptStack) → List Cell → Stop → (fuel left : ℕ) → Type 0
LeavesFrame co upvalues s u cells stop fuel left = CrossesAt s u stop fuel left ⊎ (StoresOpen co upvalues stop.words.now s u cells stop.pc stop.word × (left ≡ fuel))

-- what frames share is that of the world in which one is held apart, and its code wants so many registers
pub record IsAround (g : Running) (around : Surroundings) (size : ℕ) : Type 0 where
  pub functions : AreFunctions g.around.context.base.functions (program_of around.functions)
  pub wants : size ≡ g.around.context.closure.code.own.stack
  pub own : around.co.0 ≡ g.around.context.coroutine
  pub meta : metatable_number around.string_meta ≡ g.string_metatable

-- rows of the library, and the world in which the stack was found
pub record Ground : Type 0 where
  pub rows : ℕ → Row
  pub world : Memory

-- the coroutine that runs there
abbrev pub one_or_any : Option CoroId → CoroId
one_or_any (Some co) = co
one_or_any None = record { 0 = 0 }

abbrev pub runs_on : Ground → CoroId
runs_on n = one_or_any (last n.world.chain.items)

-- that world with this stack for it, and with these parts
abbrev pub world_with : Ground → KeptStack → List (List ℕ) → Pool Func → Codes → Pool Contents → Pool Cell → Memory
world_with n s texts funcs codes tables cells =
    record n.world { strings = texts; funcs = funcs; codes = codes; tables = tables; cells = cells; coros = record n.world.coros { objects = slice_set n.world.coros.objects (runs_on n).0 (CoroRuns s) } }

abbrev pub world_around : Ground → KeptStack → Surroundings → Pool Contents → Pool Cell → Memory
world_around n s around tables cells = world_with n s around.strings.now around.functions.funcs.now around.functions.codes.now tables cells

-- it is ready for the next step, nothing moves in it, and this is the stack that runs
pub record MayCross (n : Ground) (W : Memory) (s : KeptStack) : Type 0 where
  pub safe : PrimitivesSafe (length all_entries) n.rows
  pub ready : IsReady (length all_entries) go W
  pub still : W.moving.items ≡ []
  pub runs : Runs W (runs_on n) s

-- a world is the one in which the stack is found
pub record Grounds (n : Ground) (W : Memory) : Type 0 where
  pub is : n.world ≡ W
  pub safe : PrimitivesSafe (length all_entries) n.rows
  pub ready : IsReady (length all_entries) go W
  pub still : W.moving.items ≡ []
