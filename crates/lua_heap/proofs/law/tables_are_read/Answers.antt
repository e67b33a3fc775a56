use Rattle.std.proofs.Common.{refl}
use Rattle.int_core.specs.Value.{table_values}
use Rattle.table_core.specs.Value.{lua_values}
use Rattle.lua_heap.specs.Reading.{value}
use Rattle.lua_heap.proofs.Equal.{alike}
use Rattle.lua_heap.proofs.Tables.{get_on, set_on, border_on}
use Rattle.lua_heap.proofs.law.tables_are_read.Goals as goal

pub returns : goal.returns
returns c texts a s rows = record {
  field = λ key. get_on lua_values table_values (value texts) (alike texts a s) refl (λ n. refl) rows key;
  written = λ key v. set_on lua_values table_values (value texts) (alike texts a s) refl (λ n. refl) rows key v;
  ends = border_on lua_values table_values (value texts) (alike texts a s) refl (λ n. refl) rows;
}
