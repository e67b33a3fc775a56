use Rattle.running_frame.specs.Functions.{code_in}
use Rattle.running_frame.specs.Advancing.{Advances}
use Rattle.frame_calls.specs.Standing.{RunsAt}
use Rattle.running_frame.proofs.stack.run_round.Given as goal

abbrev pub ghost-run_once : goal.ghost-run_once
ghost-run_once g a = g.g

abbrev pub ghost-read_open : goal.ghost-read_open
ghost-read_open g a = g.g

abbrev pub invariant-loop-round : goal.invariant-loop-round
invariant-loop-round g l = record {
  goes : Advances g.g l.initial.stack l.stack l.initial.tables.objects l.tables.objects l.initial.cells.objects l.cells.objects l.initial.budget l.budget;
  runs : RunsAt g.g (code_in l.function.object.now l.function.proto.now l.around.strings.now) l.stack l.tables.objects l.cells.objects l.budget l.pc;
}
