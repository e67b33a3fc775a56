-- A write to a field of a table in memory, whatever its metatable says.
use Rattle.std.specs.Prelude.{ℕ, cond, List, Option, Some, None, slice_get, slice_set}
use Rattle.int_core.specs.Rows.{set}
use Rattle.table_core.specs.Table.{Contents}
use Rattle.table_core.specs.Value.{is_nil, lua_values}
use Rattle.table_core.specs.declared.value.Value.{Value}
use Rattle.table_core.specs.declared.value.Value.TheVariants.{Nil}
use Rattle.meta_ops.specs.declared.fault.Fault.TheVariants.{NilKey}
use Rattle.meta_ops.specs.declared.outcome.Outcome.{Outcome}
use Rattle.meta_ops.specs.declared.outcome.Outcome.TheVariants.{Done, Fault}

abbrev pub put_by : List Contents → ℕ → Value → Value → Option Contents → List Contents
put_by tables n key v None = tables
put_by tables n key v (Some t) = slice_set tables n (record t { rows = set lua_values t.rows key v })

-- nil is no key
abbrev pub put_in : List Contents → ℕ → Value → Value → List Contents
put_in tables n key v = cond (is_nil key) tables (put_by tables n key v (slice_get tables n))

abbrev pub put_outcome : Value → Outcome
put_outcome Nil = Fault NilKey
put_outcome _ = Done
