use Rattle.std.proofs.Common.{sym, subst, ◌∙◌}
use Rattle.machine_arms_tables.specs.Frame.{code}
use Rattle.machine_arms_tables.proofs.Leading.{if_some, if_none, goes_leads, as_before}
use Rattle.machine_view.specs.View.{IsAt}
use Rattle.machine_arms_tables.proofs.instruction.run_instruction.Goals as goal

pub returns-in-Some-clause-goes : goal.returns-in-Some-clause-goes
returns-in-Some-clause-goes c = goes_leads (code c.args.closure c.args.strings.now) c.args.tables.now.objects c.args.cells.now.objects c.in-Some.ensures.goes

pub run_on_objects-requires : goal.run_on_objects-requires
run_on_objects-requires c = subst (λ r. IsAt c.args.op c.args.i c.args.closure.words.now c.args.closure.constants.now r c.args.pc) (sym c.in-None.ensures.kept) c.requires

pub returns-in-None : goal.returns-in-None
returns-in-None c = record {
  goes = if_some c.run_on_objects.result (λ to goes. as_before c.in-None.ensures.kept c.in-None.ensures.unpaid goes.leads) c.run_on_objects.ensures.goes;
  tables = c.run_on_objects.ensures.tables;
  cells = c.run_on_objects.ensures.cells;
  registers = if_none c.run_on_objects.result (λ same. same ∙ c.in-None.ensures.kept) c.run_on_objects.ensures.registers;
  unpaid = if_none c.run_on_objects.result (λ _. c.in-None.ensures.unpaid) c.run_on_objects.ensures.tables;
}
