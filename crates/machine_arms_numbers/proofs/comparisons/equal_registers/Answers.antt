use Rattle.std.proofs.Common.{refl}
use Rattle.code_core.specs.Instruction.{a_of, b_of}
use Rattle.machine_view.proofs.Places.{register_there}
use Rattle.machine_arms_numbers.proofs.NumberRows.{equal_does, branch_there}
use Rattle.machine_arms_numbers.proofs.comparisons.equal_registers.Goals as goal

pub get_a-requires : goal.get_a-requires
get_a-requires c = register_there c.requires 0 (a_of c.args.site.word) refl

pub get_b-requires : goal.get_b-requires
get_b-requires c = register_there c.requires 1 (b_of c.args.site.word) refl

pub branch-site-requires : goal.branch-site-requires
branch-site-requires c = branch_there c.requires refl

pub returns : goal.returns
returns c = equal_does c.get_a.result c.get_b.result c.in_ok-truth.truth c.requires c.get_a.ensures c.get_b.ensures c.in_ok-truth.ensures c.branch-site.ensures
