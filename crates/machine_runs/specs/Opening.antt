-- The world before a script, and a session that begins in it (Lua 5.4 manual, 2.2 and 6; `luaL_openlibs` and `lua_load` of Lua's sources).
use Rattle.std.specs.Prelude.{ℕ, zero, suc, pos, List, [], ◌∷◌, ◌++◌, length, map, Some, None, codes}
use Rattle.int_core.specs.Value.{nil, string, a_table, a_function, known, object}
use Rattle.code_core.specs.declared.proto.UpDesc.{UpDesc}
use Rattle.code_core.specs.Prototype.{Prototype}
use Rattle.library_rows.specs.Library.{Entry}
use Rattle.machine_core.specs.World.{Function, Cell, closed, fresh, World}
use Rattle.lua_meaning.specs.Libraries.{globals_table, environment_table, library_heap}

-- that many numbers from one on
abbrev pub numbers : (from count : ℕ) → List ℕ
numbers from zero = []
numbers from (suc count) = from ∷ numbers (suc from) count

-- the outer variable of a function of the prelude, where it has one, is the prelude's environment
abbrev pub environment_cell : UpDesc → ℕ
environment_cell u = 0

abbrev pub prelude_function : Entry Prototype → Function
prelude_function e = record { code = e.entry; cells = map environment_cell e.entry.own.upvalues }

-- nothing has run yet, and there is no script
unfoldable pub opening : List (Entry Prototype) → World
opening prelude = record {
  heap = library_heap prelude;
  functions = map prelude_function prelude;
  cells = closed (object a_table environment_table) ∷ [];
  coroutines = [];
  globals = globals_table;
  prelude_environment = environment_table;
  prelude_functions = numbers 0 (length prelude);
  special_key = codes "__persist";
  max_depth = pos 10000;
  main = None;
  chain = [];
  moving = [];
  printed = [];
  fuel = 0;
}

-- the first outer variable of a script's main function is the globals table, and any further ones are nil

abbrev pub nil_cells : ℕ → List Cell
nil_cells zero = []
nil_cells (suc count) = closed (known nil) ∷ nil_cells count

abbrev pub main_cells : (globals count : ℕ) → List Cell
main_cells globals zero = []
main_cells globals (suc count) = closed (object a_table globals) ∷ nil_cells count

abbrev pub main_function : World → Prototype → Function
main_function W main = record { code = main; cells = numbers (length W.cells) (length main.own.upvalues) }

-- a script is given to the main coroutine, which has not run yet
abbrev pub with_main : World → (main : Prototype) → World
with_main W main = record W {
  functions = W.functions ++ main_function W main ∷ [];
  cells = W.cells ++ main_cells W.globals (length main.own.upvalues);
  coroutines = W.coroutines ++ fresh (object a_function (length W.functions)) ∷ [];
  main = Some (length W.coroutines);
  moving = [];
}

unfoldable pub begun : World → (main : Prototype) → World
begun W main = with_main W main

-- a line of input moves, for the main coroutine that waits for it
unfoldable pub handed_line : World → (line : List ℕ) → World
handed_line W line = record W { moving = known (string line) ∷ [] }
