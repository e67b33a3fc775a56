-- The roots of a session among values that were read, and a coroutine that waits.
use Rattle.std.specs.Prelude.{Bool, true, false, Option, Some, None}
use Rattle.int_core.specs.Value.{bind}
use Rattle.table_core.specs.declared.value.TableId.{TableId}
use Rattle.table_core.specs.declared.value.Value.{Value as Kept}
use Rattle.table_core.specs.declared.value.Value.TheVariants.{Nil, Int, Str, Table, Coro}
use Rattle.lua_heap.specs.declared.world.Coro.{Coro as Coroutine}
use Rattle.lua_heap.specs.declared.world.Coro.TheVariants.{Suspended}
use Rattle.lua_saving.specs.declared.roots.Roots.{Roots}

-- nil is no table
abbrev pub metatable_of : Kept → Option (Option TableId)
metatable_of Nil = Some None
metatable_of (Table id) = Some (Some id)
metatable_of _ = None

-- a coroutine, a table, a string and an integer, beside the metatable
abbrev pub roots_with : Option TableId → (main globals key depth : Kept) → Option Roots
roots_with m (Coro co) (Table g) (Str k) (Int n) = Some (record { main = co; globals = g; string_meta = m; spkey = k; maxrec = n })
roots_with m _ _ _ _ = None

abbrev pub roots_of_five : (main globals metatable key depth : Kept) → Option Roots
roots_of_five main globals metatable key depth = bind (metatable_of metatable) (λ m. roots_with m main globals key depth)

abbrev pub has_yielded : Coroutine → Bool
has_yielded (Suspended stack) = true
has_yielded _ = false
