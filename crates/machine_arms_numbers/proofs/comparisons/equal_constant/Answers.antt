use Rattle.std.proofs.Common.{◌∙◌, ap, sym, refl, arith}
use Rattle.std.specs.Prelude.{slice_get}
use Rattle.code_core.specs.Fields.{anything}
use Rattle.code_core.specs.Instruction.{a_of, b_of}
use Rattle.machine_view.proofs.Places.{register_there, constant_there}
use Rattle.machine_arms_numbers.proofs.NumberRows.{equal_constant_does, branch_there}
use Rattle.machine_arms_numbers.proofs.comparisons.equal_constant.Goals as goal

pub get_a-requires : goal.get_a-requires
get_a-requires c = register_there c.requires 0 (a_of c.args.site.word) refl

pub value_numbered-other-requires : goal.value_numbered-other-requires
value_numbered-other-requires c = let l = constant_there c.requires 0 (b_of c.args.site.word) anything refl in let e = c.b.ensures in omega (arith, e, l)

pub branch-site-requires : goal.branch-site-requires
branch-site-requires c = branch_there c.requires refl

pub returns : goal.returns
returns c = equal_constant_does c.get_a.result c.value_numbered-other.result c.in_ok-truth.truth c.requires c.get_a.ensures (ap (slice_get c.args.site.constants.now) (sym c.b.ensures) ∙ c.value_numbered-other.ensures) c.in_ok-truth.ensures c.branch-site.ensures
