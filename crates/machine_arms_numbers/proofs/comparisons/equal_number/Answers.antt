use Rattle.std.proofs.Common.{rules, ◌≡◌, refl, Some}
use Rattle.code_core.specs.Instruction.{a_of, sb_of}
use Rattle.machine_view.proofs.Places.{register_there}
use Rattle.table_core.specs.declared.value.Value.TheVariants.{Int}
use Rattle.machine_arms_numbers.specs.Numbers.{equal_at_once}
use Rattle.machine_arms_numbers.proofs.NumberRows.{equal_number_does, branch_there}
use Rattle.machine_arms_numbers.proofs.comparisons.equal_number.Goals as goal

pub get_a-requires : goal.get_a-requires
get_a-requires c = register_there c.requires 0 (a_of c.args.site.word) refl

pub branch-site-requires : goal.branch-site-requires
branch-site-requires c = branch_there c.requires refl

pub returns : goal.returns
returns c =
    let q : Some c.in_ok-truth.truth ≡ equal_at_once c.get_a.result (Int (sb_of c.args.site.word)) = search rules in
    equal_number_does c.get_a.result c.in_ok-truth.truth c.requires c.get_a.ensures q c.branch-site.ensures
