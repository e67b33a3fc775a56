-- Lists that go to a table.
use Rattle.std.specs.Prelude.{◌≡◌, ◌+◌, ◌==◌, ℕ, suc, ℤ, pos, cond, List, [], ◌∷◌, Option, Some, None}
use Rattle.int_core.specs.Rows.{set}
use Rattle.int_core.specs.Value.{Shape}
use Rattle.machine_core.specs.World.{running, Place, place_of}
use Rattle.machine_core.specs.Text.{read, end_list, fill_table, Text, quick, go_by}
use Rattle.machine_core.specs.InstructionRows.{read_values, then}
use Rattle.table_core.specs.Value.{lua_values}
use Rattle.table_core.specs.declared.value.TableId.{TableId}
use Rattle.table_core.specs.declared.value.Value.{Value as Kept}
use Rattle.table_core.specs.declared.value.Value.TheVariants.{Int, Table}
use Rattle.lua_heap.specs.declared.world.World.{World as Memory}
use Rattle.lua_heap.specs.Plain.{plain}

-- the Lua frame on top runs
pub record FrameRuns (W : Memory) : Type 0 where
  pub place : Place
  pub is : place_of (plain W 0) ≡ Some place
  pub running : place.top.wait ≡ running

-- the table that a value is
abbrev pub as_table : Kept → Option TableId
as_table (Table id) = Some id
as_table _ = None

-- values put behind an index, one after another
abbrev pub filled_rows : ℕ → List Kept → List (Kept × Kept) → List (Kept × Kept)
filled_rows last [] rows = rows
filled_rows last (v ∷ vs) rows = filled_rows (suc last) vs (set lua_values rows (Int (pos (suc last))) v)

-- so many values, or for 0 those up to the end of the open list, as a CALL is told of them
abbrev pub counted : ℕ → ℕ
counted count = cond (count == 0) 0 (count + 1)

-- they are read
abbrev pub listing : (from count : ℕ) → (ℕ → Shape → Text) → Text
listing from count more = read_values from (counted count) more

-- and go to the table in slot 0
abbrev pub puts : (last : ℕ) → ℤ → ℕ → Text
puts last behind v = quick (fill_table (read 0) last v) (λ _. then end_list (go_by behind))

abbrev pub filling : (from count last : ℕ) → ℤ → Text
filling from count last behind = listing from count (λ v _. puts last behind v)
