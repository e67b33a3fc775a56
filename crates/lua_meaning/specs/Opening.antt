-- The world before a script: the libraries' tables and primitives by their numbers, and the prelude's functions (Lua 5.4 manual, 2.2 and 6).
use Rattle.std.specs.Prelude.{ℕ, zero, suc, false, List, [], ◌∷◌, map}
use Rattle.int_core.specs.Value.{a_table, object}
use Rattle.load_rows.specs.Loading.{Builds}
use Rattle.library_rows.specs.Library.{Library, Entry, entry, primitive_at}
use Rattle.library_rows.specs.PreludeText.{prelude_functions}
use Rattle.lua_meaning.specs.World.{Function, running, talks, World}
use Rattle.lua_meaning.specs.Step.{Primitives}
use Rattle.lua_meaning.specs.Libraries.{globals_table, environment_table, library_heap}

-- a primitive's number is its place among all; what sources are built to is left open
abbrev pub primitives : {F : Type 0} → Builds F → Primitives F
primitives builds = record { numbered = primitive_at; builds = builds }

-- each outer variable of a function of the prelude is the prelude's environment
abbrev pub environment_cells : (count : ℕ) → List ℕ
environment_cells zero = []
environment_cells (suc count) = 0 ∷ environment_cells count

-- functions by the names and libraries that they have, as far as there are both
abbrev pub entries_of : {F : Type 0} → List (List ℕ × Library) → List F → List (Entry F)
entries_of [] functions = []
entries_of (name ∷ names) [] = []
entries_of (name ∷ names) (f ∷ functions) = entry name.1 name.0 f ∷ entries_of names functions

-- the prelude of these functions, in the order of its text
abbrev pub prelude_of : {F : Type 0} → List F → List (Entry F)
prelude_of functions = entries_of prelude_functions functions

module _ {F : Type 0} (outer : F → ℕ) where
  -- such a function has no lines; `outer` tells how many outer variables one names
  abbrev pub prelude_function : Entry F → Function F
  prelude_function e = record { made_of = e.entry; source = []; has_lines = false; cells = environment_cells (outer e.entry) }

  -- with the prelude's functions in the order of their text
  abbrev pub opening : {S : Type 0} → List (Entry F) → World F S
  opening prelude = record {
    heap = library_heap prelude;
    functions = map prelude_function prelude;
    cells = object a_table environment_table ∷ [];
    coroutines = running ∷ [];
    globals = globals_table;
    printed = [];
    fuel = 0;
    chain = 0 ∷ [];
    frames = [];
    now = talks;
  }
