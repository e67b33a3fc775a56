-- A Lua function in memory and its code, as what no instruction of its frame changes.
use Rattle.std.specs.Prelude.{ℕ, List}
use Rattle.lua_heap.specs.declared.codes.Code.{Code as KeptCode}
use Rattle.lua_heap.specs.declared.world.Func.{Func}
use Rattle.machine_arms_tables.specs.Frame.{Code}

abbrev pub code_in : Func → KeptCode → List (List ℕ) → Code
code_in f k texts = record { words = k.words.items; constants = k.constants.items; upvalues = f.cells.items; texts = texts }
