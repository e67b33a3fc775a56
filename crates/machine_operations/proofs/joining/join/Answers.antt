use Rattle.std.proofs.Common.{◌≤◌, length, subst, sym}
use Rattle.int_core.specs.Value.{greatest_string}
use Rattle.machine_operations.specs.WholeTexts.{AreWhole}
use Rattle.machine_operations.proofs.joining.join.Goals as goal

pub join_whole-requires-clause-short : goal.join_whole-requires-clause-short
join_whole-requires-clause-short c = subst (λ t. length t ≤ greatest_string) (sym c.as_slice.ensures.value) c.in-Some.ensures.short

pub join_whole-requires-clause-whole : goal.join_whole-requires-clause-whole
join_whole-requires-clause-whole c = subst (AreWhole c.args.world.now c.args.first c.args.count c.args.last) (sym c.as_slice.ensures.value) c.in-Some.ensures
