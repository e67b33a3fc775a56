-- Which values are equal, and what a table needs of them (Lua 5.4 manual, 2.1 and 3.4.4).
use Rattle.std.specs.Prelude.{Bool, true, false, ◌==◌}
use Rattle.std.specs.Ordering.{int_eq}
use Rattle.int_core.specs.Rows.{Values}
use Rattle.table_core.specs.declared.value.Value.{Value}
use Rattle.table_core.specs.declared.value.Value.TheVariants.{Nil, Bool as Boolean, Int, Str, Prim, Table, Func, Coro}
use mathlib.Core.Bool.{beq}

-- raw equality: objects are equal where they are the same object, and strings have one number for each content
abbrev pub value_eq : Value → Value → Bool
value_eq Nil Nil = true
value_eq (Boolean a) (Boolean b) = beq a b
value_eq (Int a) (Int b) = int_eq a b
value_eq (Str a) (Str b) = a.0 == b.0
value_eq (Prim a) (Prim b) = a == b
value_eq (Table a) (Table b) = a.0 == b.0
value_eq (Func a) (Func b) = a.0 == b.0
value_eq (Coro a) (Coro b) = a.0 == b.0
value_eq _ _ = false

abbrev pub are_tables : Value → Value → Bool
are_tables (Table m) (Table n) = true
are_tables _ _ = false

abbrev pub is_nil : Value → Bool
is_nil v = value_eq v Nil

abbrev pub lua_values : Values Value
lua_values = record { same = value_eq; nil = Nil; integer = Int }
