use Rattle.lua_heap.proofs.Reading.{values_stay, rows_stay}
use Rattle.lua_heap.proofs.law.new_strings_keep.Goals as goal

pub returns : goal.returns
returns c z texts text = record { values = values_stay z texts text; rows = rows_stay z texts text }
