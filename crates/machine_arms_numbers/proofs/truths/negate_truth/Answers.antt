use Rattle.std.proofs.Common.{rules, ◌≡◌, refl}
use Rattle.std.specs.Prelude.{not, slice_set}
use Rattle.code_core.specs.Instruction.{a_of, b_of}
use Rattle.machine_view.proofs.Places.{register_there, next_there}
use Rattle.table_core.specs.declared.value.Value.TheVariants.{Bool as Boolean}
use Rattle.machine_arms_numbers.specs.Numbers.{is_truthy}
use Rattle.machine_arms_numbers.proofs.TruthRows.{not_does}
use Rattle.machine_arms_numbers.proofs.truths.negate_truth.Goals as goal

pub get_b-requires : goal.get_b-requires
get_b-requires c = register_there c.requires 1 (b_of c.args.site.word) refl

pub put_value-requires : goal.put_value-requires
put_value-requires c = record { there = register_there c.requires 0 (a_of c.args.site.word) refl; next = next_there c.requires refl }

pub returns : goal.returns
returns c =
    let t : c.put_value.new.registers ≡ slice_set c.args.registers.now (a_of c.args.site.word) (Boolean (not (is_truthy c.get_b.result))) = search rules in
    not_does c.get_b.result c.requires c.get_b.ensures t c.put_value.ensures.next
