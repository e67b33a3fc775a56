use Rattle.std.proofs.Common.{rules, ◌≡◌, Some}
use Rattle.code_core.specs.Instruction.{sb_of}
use Rattle.int_core.specs.Value.{bind}
use Rattle.machine_arms_numbers.specs.Numbers.{ordered_by}
use Rattle.machine_arms_numbers.proofs.NumberRows.{number_named, number_branch, number_order}
use Rattle.machine_arms_numbers.proofs.comparisons.order_number.Goals as goal

pub get_a-requires : goal.get_a-requires
get_a-requires c = number_named c.requires.at c.requires.form

pub branch-site-requires : goal.branch-site-requires
branch-site-requires c = number_branch c.requires.at c.requires.form

pub returns : goal.returns
returns c =
    let q : Some c.in_ok-truth.truth ≡ bind (ordered_by c.args.op) (λ order. Some (order c.in_ok-m.m (sb_of c.args.site.word))) = search rules in
    number_order c.requires.at c.requires.form c.get_a.result c.in_ok-m.m c.in_ok-truth.truth c.get_a.ensures c.in_ok-m.ensures q c.branch-site.ensures
