use Rattle.machine_arms_tables.specs.Frame.{IsReadyAt, AreOpenAlike, RunsTo, code, moment}
use Rattle.machine_loop.proofs.Nearer.{distance}
use Rattle.machine_loop.proofs.frame.run_frame.Given as goal

abbrev pub ghost-go_on : goal.ghost-go_on
ghost-go_on g a = g.g

abbrev pub invariant-rounds : goal.invariant-rounds
invariant-rounds g l = record {
  ready : IsReadyAt g.g.around g.g.string_metatable (code l.closure l.strings) (moment l.tables.objects l.cells.objects l.registers l.pc l.fuel);
  opened : AreOpenAlike l.initial.cells.objects l.cells.objects;
  runs : RunsTo g.g.around g.g.string_metatable (moment l.initial.tables.objects l.initial.cells.objects l.initial.registers l.start l.initial.fuel) (moment l.tables.objects l.cells.objects l.registers l.pc l.fuel);
}

abbrev pub decreases-rounds : goal.decreases-rounds
decreases-rounds g l = distance g.g (moment l.tables.objects l.cells.objects l.registers l.pc l.fuel)
