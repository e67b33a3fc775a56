use Rattle.std.proofs.Common.{rules, ◌≡◌, Some}
use Rattle.int_core.specs.Value.{bind}
use Rattle.machine_arms_numbers.specs.Numbers.{ordered_by}
use Rattle.machine_arms_numbers.proofs.NumberRows.{order_names, order_does}
use Rattle.machine_arms_numbers.proofs.comparisons.order_registers.Goals as goal

pub get_a-requires : goal.get_a-requires
get_a-requires c = (order_names c.requires.at c.requires.form).0

pub get_b-requires : goal.get_b-requires
get_b-requires c = (order_names c.requires.at c.requires.form).1

pub branch-site-requires : goal.branch-site-requires
branch-site-requires c = (order_names c.requires.at c.requires.form).2

pub returns : goal.returns
returns c =
    let q : Some c.in_ok-truth.truth ≡ bind (ordered_by c.args.op) (λ order. Some (order c.in_ok-m.m c.in_ok-n.n)) = search rules in
    order_does c.get_a.result c.get_b.result c.in_ok-m.m c.in_ok-n.n c.in_ok-truth.truth c.requires.at c.requires.form c.get_a.ensures c.get_b.ensures c.in_ok-m.ensures c.in_ok-n.ensures q c.branch-site.ensures
