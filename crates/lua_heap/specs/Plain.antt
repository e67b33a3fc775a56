-- The world in memory, in the words of the machine's meaning.
use Rattle.std.specs.Prelude.{ℕ, List, Option, map}
use Rattle.std.specs.Option.{option_map}
use Rattle.int_core.specs.Heap.{Table, Heap}
use Rattle.code_core.specs.Prototype.{Prototype}
use Rattle.machine_core.specs.World.{Function, Cell, closed, open_at, Coroutine, fresh, suspended, in_progress, normal, dead, failed, World}
use Rattle.table_core.specs.Table.{Contents}
use Rattle.lua_stack.specs.Frames.{frames}
use Rattle.lua_heap.specs.declared.world.Cell.{Cell as Kept}
use Rattle.lua_heap.specs.declared.world.Cell.TheVariants.{Closed, Open}
use Rattle.lua_heap.specs.declared.world.Coro.{Coro}
use Rattle.lua_heap.specs.declared.world.Coro.TheVariants.{Fresh, Suspended, Running, Normal, Dead, Failed}
use Rattle.lua_heap.specs.declared.world.Func.{Func}
use Rattle.lua_heap.specs.declared.world.World.{World as Memory}
use Rattle.lua_heap.specs.Reading.{text_of, value, row}
use Rattle.lua_heap.specs.Codes.{functions, prototype_at}

abbrev pub table : List (List ℕ) → Contents → Table
table texts t = record { rows = map (row texts) t.rows; metatable = option_map (λ m. m.0) t.metatable }

abbrev pub heap : List (List ℕ) → List Contents → Option ℕ → Heap
heap texts tables string_metatable = record { tables = map (table texts) tables; string_metatable = string_metatable }

abbrev pub function : List Prototype → Func → Function
function codes f = record { code = prototype_at codes f.code.0; cells = map (λ c. c.0) f.cells.items }

abbrev pub cell : List (List ℕ) → Kept → Cell
cell texts (Closed v) = closed (value texts v)
cell texts (Open coro frame register) = open_at coro.0 frame register

abbrev pub coroutine : List (List ℕ) → Coro → Coroutine
coroutine texts (Fresh body) = fresh (value texts body)
coroutine texts (Suspended stack) = suspended (frames (value texts) stack)
coroutine texts (Running stack) = in_progress (frames (value texts) stack)
coroutine texts (Normal stack) = normal (frames (value texts) stack)
coroutine texts Dead = dead
coroutine texts (Failed error pending) = failed (value texts error) (map (value texts) pending.items)

-- the budget that is left is no part of the world in memory
abbrev pub plain : Memory → (fuel : ℕ) → World
plain W fuel = record {
  heap = heap W.strings W.tables.objects (option_map (λ m. m.0) W.string_meta);
  functions = map (function (functions W.codes)) W.funcs.objects;
  cells = map (cell W.strings) W.cells.objects;
  coroutines = map (coroutine W.strings) W.coros.objects;
  globals = W.globals.0;
  prelude_environment = W.prelude.env.0;
  prelude_functions = map (λ f. f.0) W.prelude.funcs.items;
  special_key = text_of W.strings W.spkey.0;
  max_depth = W.maxrec;
  main = option_map (λ co. co.0) W.main;
  chain = map (λ co. co.0) W.chain.items;
  moving = map (value W.strings) W.moving.items;
  printed = W.printed.items;
  fuel = fuel;
}
