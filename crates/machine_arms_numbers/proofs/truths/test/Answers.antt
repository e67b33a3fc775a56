use Rattle.std.proofs.Common.{◌+◌, ◌∙◌, ap, refl}
use Rattle.std.specs.Prelude.{cond}
use Rattle.code_core.specs.Instruction.{a_of, k_of}
use Rattle.int_core.specs.Value.{same_truth}
use Rattle.machine_view.proofs.Places.{register_there}
use Rattle.machine_arms_numbers.proofs.NumberRows.{branch_there}
use Rattle.machine_arms_numbers.proofs.TruthRows.{test_does}
use Rattle.machine_arms_numbers.proofs.truths.test.Goals as goal

pub get_a-requires : goal.get_a-requires
get_a-requires c = register_there c.requires 0 (a_of c.args.site.word) refl

pub branch-site-requires : goal.branch-site-requires
branch-site-requires c = branch_there c.requires refl

pub returns : goal.returns
returns c = test_does c.get_a.result c.requires c.get_a.ensures (c.branch-site.ensures ∙ ap (λ b. c.args.site.pc + cond (same_truth b (k_of c.args.site.word)) 1 2) c.truthy-truth.ensures)
