use Rattle.int_core.specs.Value.{a_table, object}
use Rattle.pure_functions.specs.Answers.{heap_of}
use Rattle.lib_base.proofs.JoinRows.{IsJoined}
use Rattle.lib_base.proofs.joining.joined.Given as goal

abbrev pub invariant-loop-i : goal.invariant-loop-i
invariant-loop-i l = IsJoined (heap_of l.world) (object a_table l.id.0) l.many l.i l.text
