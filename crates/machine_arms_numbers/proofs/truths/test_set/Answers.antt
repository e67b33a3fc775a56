use Rattle.std.proofs.Common.{◌≡◌, refl, true, false}
use Rattle.code_core.specs.Instruction.{a_of, b_of, k_of}
use Rattle.int_core.specs.Value.{same_truth}
use Rattle.machine_view.proofs.Places.{register_there, next_there}
use Rattle.machine_arms_numbers.specs.Numbers.{is_truthy}
use Rattle.machine_arms_numbers.proofs.NumberRows.{branch_there}
use Rattle.machine_arms_numbers.proofs.TruthRows.{set_does, skip_does}
use Rattle.machine_arms_numbers.proofs.TruthRows.{same_so, same_not}
use Rattle.machine_arms_numbers.proofs.truths.test_set.Goals as goal

pub get_b-v-requires : goal.get_b-v-requires
get_b-v-requires c = register_there c.requires 1 (b_of c.args.site.word) refl

pub behind-requires : goal.behind-requires
behind-requires c = branch_there c.requires refl

pub returns-then-truthy-k : goal.returns-then-truthy-k
returns-then-truthy-k c =
    let q : same_truth (is_truthy c.get_b-v.result) (k_of c.args.site.word) ≡ false = same_not _ _ _ _ c.truthy.ensures c.k.ensures c.if-truthy-k.true in
    skip_does c.get_b-v.result c.requires c.get_b-v.ensures q c.behind.ensures

pub put_value-requires : goal.put_value-requires
put_value-requires c = record { there = register_there c.requires 0 (a_of c.args.site.word) refl; next = next_there c.requires refl }

pub returns : goal.returns
returns c =
    let q : same_truth (is_truthy c.get_b-v.result) (k_of c.args.site.word) ≡ true = same_so _ _ _ _ c.truthy.ensures c.k.ensures c.if-truthy-k.false in
    set_does c.get_b-v.result c.requires c.get_b-v.ensures q c.put_value.ensures.registers c.put_value.ensures.next
