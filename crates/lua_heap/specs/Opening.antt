-- A world in which nothing has run yet, and marks that a world is brought back to.
use Rattle.std.specs.Prelude.{◌≡◌, ℕ, ◌≤◌, pos, List, [], ◌∷◌, None, codes, length, take}
use Rattle.machine_core.specs.World.{World}
use Rattle.lua_heap.specs.declared.world.Mark.{Mark}
use Rattle.lua_heap.specs.declared.world.World.{World as Memory}
use Rattle.lua_heap.specs.Strings.{interned}
use Rattle.lua_heap.specs.Codes.{functions}

-- the fields of metatables that mean something (Lua 5.4 manual, 2.4), and the one that says how a table is saved
unfoldable pub first_texts : List (List ℕ)
first_texts =
    codes "__add" ∷ codes "__sub" ∷ codes "__mul" ∷ codes "__mod" ∷ codes "__idiv" ∷ codes "__unm"
    ∷ codes "__band" ∷ codes "__bor" ∷ codes "__bxor" ∷ codes "__shl" ∷ codes "__shr" ∷ codes "__bnot"
    ∷ codes "__concat" ∷ codes "__len" ∷ codes "__eq" ∷ codes "__lt" ∷ codes "__le" ∷ codes "__index" ∷ codes "__newindex" ∷ codes "__call"
    ∷ codes "__close" ∷ codes "__tostring" ∷ codes "__name" ∷ codes "__pairs" ∷ codes "__metatable" ∷ codes "__persist" ∷ []

abbrev pub all_interned : List (List ℕ) → List (List ℕ) → List (List ℕ)
all_interned texts [] = texts
all_interned texts (text ∷ more) = all_interned (interned texts text) more

-- tables for globals and for the prelude's own variables, and no other object
abbrev pub opened_world : (fuel : ℕ) → World
opened_world fuel = record {
  heap = record { tables = record { rows = []; metatable = None } ∷ record { rows = []; metatable = None } ∷ []; string_metatable = None };
  functions = [];
  cells = [];
  coroutines = [];
  globals = 0;
  prelude_environment = 1;
  prelude_functions = [];
  special_key = codes "__persist";
  max_depth = pos 10000;
  main = None;
  chain = [];
  moving = [];
  printed = [];
  fuel = fuel;
}

-- how many objects of each kind there are
abbrev pub mark_of : Memory → Mark
mark_of W = record {
  strings = length W.strings;
  codes = length W.codes.trees.items;
  tables = length W.tables.objects;
  funcs = length W.funcs.objects;
  cells = length W.cells.objects;
  coros = length W.coros.objects;
}

-- no number is over what is there
pub record IsMark (W : Memory) (mark : Mark) : Type 0 where
  pub strings : mark.strings ≤ length W.strings
  pub codes : mark.codes ≤ length W.codes.trees.items
  pub tables : mark.tables ≤ length W.tables.objects
  pub funcs : mark.funcs ≤ length W.funcs.objects
  pub cells : mark.cells ≤ length W.cells.objects
  pub coros : mark.coros ≤ length W.coros.objects

-- of each list the first ones are kept
pub record Releases (old new : Memory) (mark : Mark) : Type 0 where
  pub strings : new.strings ≡ take mark.strings old.strings
  pub trees : new.codes.trees.items ≡ take mark.codes old.codes.trees.items
  pub list : new.codes.list.items ≡ take (length (functions new.codes)) old.codes.list.items
  pub tables : new.tables.objects ≡ take mark.tables old.tables.objects
  pub funcs : new.funcs.objects ≡ take mark.funcs old.funcs.objects
  pub cells : new.cells.objects ≡ take mark.cells old.cells.objects
  pub coros : new.coros.objects ≡ take mark.coros old.coros.objects
  pub rest : new ≡ record old { strings = new.strings; codes = new.codes; tables = new.tables; funcs = new.funcs; cells = new.cells; coros = new.coros }
