use Rattle.std.proofs.Common.{◌≡◌, map}
use Rattle.int_core.specs.Value.{a_table, object}
use Rattle.lua_heap.specs.Reading.{value}
use Rattle.lib_base.specs.Lists.{items_from}
use Rattle.pure_functions.specs.Answers.{heap_of}
use Rattle.lib_base.proofs.lists.items.Given as goal

abbrev pub invariant-loop-i : goal.invariant-loop-i
invariant-loop-i l = map (value l.world.strings) l.items.items ≡ items_from (heap_of l.world) (object a_table l.id.0) l.i 1
