use Rattle.std.proofs.Common.{refl}
use Rattle.int_core.specs.Value.{table_values}
use Rattle.table_core.specs.Value.{lua_values}
use Rattle.lua_heap.specs.Reading.{value}
use Rattle.lua_heap.proofs.Equal.{alike}
use Rattle.lib_base.proofs.Following.{next_on}
use Rattle.lib_base.proofs.law.rows_are_followed_alike.Goals as goal

pub returns : goal.returns
returns c texts a s rows key = next_on lua_values table_values (value texts) (alike texts a s) refl rows key
