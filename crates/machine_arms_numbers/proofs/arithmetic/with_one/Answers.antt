use Rattle.std.proofs.Common.{rules, ◌≡◌, refl}
use Rattle.std.specs.Prelude.{slice_set}
use Rattle.code_core.specs.Instruction.{a_of, b_of}
use Rattle.table_core.specs.declared.value.Value.TheVariants.{Int}
use Rattle.machine_arms_numbers.specs.Numbers.{of_one}
use Rattle.machine_arms_numbers.proofs.NumberRows.{both_named, goes_behind, of_one_row, one_does}
use Rattle.machine_arms_numbers.proofs.arithmetic.with_one.Goals as goal

pub get_b-requires : goal.get_b-requires
get_b-requires c = both_named c.requires.at (of_one_row c.args.op c.args.site.word c.requires.form).place 1 (b_of c.args.site.word) refl

pub put_integer-requires : goal.put_integer-requires
put_integer-requires c = record { there = both_named c.requires.at (of_one_row c.args.op c.args.site.word c.requires.form).place 0 (a_of c.args.site.word) refl; next = goes_behind c.requires.at (of_one_row c.args.op c.args.site.word c.requires.form).place }

pub returns : goal.returns
returns c =
    let t : c.put_integer.new.registers ≡ slice_set c.args.registers.now (a_of c.args.site.word) (Int (of_one c.args.op c.in_ok-n.n)) = search rules in
    one_does c.requires.at c.requires.form c.get_b.result c.in_ok-n.n c.get_b.ensures c.in_ok-n.ensures t c.put_integer.ensures.next
