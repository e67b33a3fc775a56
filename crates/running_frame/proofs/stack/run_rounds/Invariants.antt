use Rattle.running_frame.specs.Functions.{code_in}
use Rattle.machine_loop.specs.Knowing.{AllHold}
use Rattle.running_frame.specs.Advancing.{Advances}
use Rattle.frame_calls.specs.Standing.{RunsAt}
use Rattle.running_frame.proofs.stack.run_rounds.Given as goal

abbrev pub ghost-run_once : goal.ghost-run_once
ghost-run_once g a = g.g

abbrev pub ghost-go_between : goal.ghost-go_between
ghost-go_between g a = g.g

abbrev pub invariant-loop : goal.invariant-loop
invariant-loop g l = record {
  goes : Advances g.g l.initial.stack l.stack l.initial.tables.objects l.tables.objects l.initial.cells.objects l.cells.objects l.initial.budget l.budget;
  runs : RunsAt g.g (code_in l.function.object.now l.function.proto.now l.around.strings.now) l.stack l.tables.objects l.cells.objects l.budget l.pc;
  known : AllHold g.g.around l.function.object.now.cells.items l.cells.objects l.memo;
}
