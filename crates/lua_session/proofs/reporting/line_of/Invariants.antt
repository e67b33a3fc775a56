use Rattle.std.proofs.Common.{◌≡◌, ◌++◌}
use Rattle.std.specs.Prelude.{map, drop}
use Rattle.lua_heap.specs.Reading.{value}
use Rattle.lua_meaning.specs.Meaning.{report_values}
use Rattle.lua_session.proofs.reporting.line_of.Given as goal

abbrev pub invariant-loop-v : goal.invariant-loop-v
invariant-loop-v l = record {
  written : l.line.items ++ report_values (map (value l.world.strings) (drop l.v-index l.v-items)) ≡ l.word ++ report_values (map (value l.world.strings) l.v-items);
}
