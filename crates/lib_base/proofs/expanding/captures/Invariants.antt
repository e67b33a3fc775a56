use Rattle.std.proofs.Common.{◌≡◌, map}
use Rattle.int_core.specs.Value.{a_table, object, shape}
use Rattle.library_arguments.specs.Shapes.{shapes_of}
use Rattle.lib_base.specs.Lists.{items_from}
use Rattle.pure_functions.specs.Answers.{heap_of}
use Rattle.lib_base.proofs.expanding.captures.Given as goal

abbrev pub invariant-loop-i : goal.invariant-loop-i
invariant-loop-i l = shapes_of l.captures.items ≡ map shape (items_from (heap_of l.world) (object a_table l.id.0) l.i 0)
