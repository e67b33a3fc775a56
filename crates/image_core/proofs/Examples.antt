-- Worlds whose images are computed.
use Rattle.std.proofs.Common.{ℕ, ◌≡◌, pos, List, [], ◌∷◌, Option, Some, None, refl, true, false}
use Rattle.int_core.specs.Value.{nil, boolean, integer, string, primitive, a_table, a_function, a_coroutine, Value, known, object}
use Rattle.int_core.specs.Heap.{Table}
use Rattle.code_core.specs.Prototype.{Prototype, none, stripped}
use Rattle.machine_core.specs.World.{closed, open_at, for_call, Frame, lua, pcall, suspended, World}
use Rattle.image_core.specs.Image.{text_key, Perm, plain, numbered, permanent, lua_item, pcall_item, table_record, function_record, closed_record, open_record, suspended_record}
use Rattle.image_core.specs.Records.{an_object, a_cell, named, parts_in_order, image_of}
use Rattle.image_core.specs.Loading.{Target, loaded}

abbrev code : Prototype
code = stripped 0 false 2 [] [] [] none

abbrev table : List (Value × Value) → Option ℕ → Table
table rows m = record { rows = rows; metatable = m }

abbrev lua_at : ℕ → List Value → Frame
lua_at f registers = lua (record { function = f; wait = for_call; own = record { pc = 3; registers = registers; varargs = []; pending = []; opened = 0 } })

-- table 0 is the prelude's environment, 1 the globals, 2 a table that holds itself; function 0 is the body of coroutine 1, function 1 shares
-- its register 1 and a register of coroutine 0, which only that cell names
abbrev world : World
world = record {
  heap = record {
    tables = table [] None ∷ table ((known (string (97 ∷ [])), object a_table 2) ∷ (known (string (98 ∷ [])), known (primitive 7)) ∷ (known (integer (pos 1)), known nil) ∷ []) None ∷ table ((object a_table 2, object a_table 2) ∷ []) (Some 1) ∷ [];
    string_metatable = None;
  };
  functions = record { code = code; cells = [] } ∷ record { code = code; cells = 0 ∷ 1 ∷ [] } ∷ [];
  cells = open_at 1 0 1 ∷ open_at 0 0 0 ∷ [];
  coroutines = suspended (lua_at 0 (known (integer (pos 5)) ∷ []) ∷ []) ∷ suspended (lua_at 0 (object a_function 1 ∷ known (boolean true) ∷ []) ∷ pcall ∷ []) ∷ [];
  globals = 1;
  prelude_environment = 0;
  prelude_functions = [];
  special_key = 112 ∷ [];
  max_depth = pos 9;
  main = Some 1;
  chain = [];
  moving = [];
  printed = [];
  fuel = 0;
}

abbrev roots_of_session : ℕ → ℕ → List Value
roots_of_session main globals = object a_coroutine main ∷ object a_table globals ∷ known nil ∷ known (string (112 ∷ [])) ∷ known (integer (pos 9)) ∷ []

abbrev perms : List Perm
perms = record { object = known (primitive 7); key = text_key (98 ∷ []) } ∷ []

-- the coroutine, the globals, then what the coroutine names, then what the globals name, and so on
order_computed : parts_in_order world (named 0 perms) (roots_of_session 1 1) ≡ an_object a_coroutine 1 ∷ an_object a_table 1 ∷ an_object a_function 0 ∷ an_object a_function 1 ∷ an_object a_table 2 ∷ a_cell 0 ∷ a_cell 1 ∷ []
order_computed = refl

image_computed : image_of world (roots_of_session 1 1) perms ≡ record {
  roots = numbered 0 ∷ numbered 1 ∷ plain nil ∷ plain (string (112 ∷ [])) ∷ plain (integer (pos 9)) ∷ [];
  records =
      suspended_record (lua_item (record { function = numbered 2; pc = 3; wait = for_call; varargs = []; registers = numbered 3 ∷ plain (boolean true) ∷ []; pending = []; opened = 0 }) ∷ pcall_item ∷ [])
      ∷ table_record ((plain (string (97 ∷ [])), numbered 4) ∷ (plain (string (98 ∷ [])), permanent a_function (text_key (98 ∷ []))) ∷ (plain (integer (pos 1)), plain nil) ∷ []) (plain nil)
      ∷ function_record code []
      ∷ function_record code (5 ∷ 6 ∷ [])
      ∷ table_record ((numbered 4, numbered 4) ∷ []) (numbered 1)
      ∷ open_record 0 0 1
      -- the other coroutine is not reached through values: its register counts as a value
      ∷ closed_record (plain (integer (pos 5)))
      ∷ [];
}
image_computed = refl

-- a world that has other numbers for the same objects
abbrev turned : World
turned = record world {
  heap = record {
    tables = table ((object a_table 0, object a_table 0) ∷ []) (Some 2) ∷ table [] None ∷ table ((known (string (97 ∷ [])), object a_table 0) ∷ (known (string (98 ∷ [])), known (primitive 7)) ∷ (known (integer (pos 1)), known nil) ∷ []) None ∷ [];
    string_metatable = None;
  };
  functions = record { code = code; cells = 1 ∷ 0 ∷ [] } ∷ record { code = code; cells = [] } ∷ [];
  cells = closed (known (integer (pos 5))) ∷ open_at 0 0 1 ∷ [];
  coroutines = suspended (lua_at 1 (object a_function 0 ∷ known (boolean true) ∷ []) ∷ pcall ∷ []) ∷ [];
  globals = 2;
  prelude_environment = 1;
  main = Some 0;
}

turned_same : image_of turned (roots_of_session 0 2) perms ≡ image_of world (roots_of_session 1 1) perms
turned_same = refl

abbrev target : Target
target = record { tables = 1; functions = 0; coroutines = 0; cells = 0; named = λ kind key. known (primitive 7); environment = 0 }

abbrev empty : World
empty = record world { heap = record { tables = table [] None ∷ []; string_metatable = None }; functions = []; cells = []; coroutines = []; globals = 0; main = None }

-- what is loaded into a world that has the prelude's environment alone: objects in record order, each kind numbered by itself
loaded_computed : (loaded target (image_of world (roots_of_session 1 1) perms).records empty).cells ≡ open_at 0 0 1 ∷ closed (known (integer (pos 5))) ∷ []
loaded_computed = refl

saved_again : image_of (record (loaded target (image_of world (roots_of_session 1 1) perms).records empty) { main = Some 0; globals = 1 }) (roots_of_session 0 1) perms ≡ image_of world (roots_of_session 1 1) perms
saved_again = refl

-- a table's rows come before its metatable
abbrev layered : World
layered = record world {
  heap = record { tables = table [] None ∷ table ((known (integer (pos 1)), object a_table 3) ∷ []) (Some 2) ∷ table [] None ∷ table [] None ∷ []; string_metatable = None };
}

rows_first : parts_in_order layered (named 0 []) (object a_table 1 ∷ []) ≡ an_object a_table 1 ∷ an_object a_table 3 ∷ an_object a_table 2 ∷ []
rows_first = refl
