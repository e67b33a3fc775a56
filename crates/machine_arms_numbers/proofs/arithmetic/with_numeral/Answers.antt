use Rattle.std.proofs.Common.{rules, ◌≡◌, refl}
use Rattle.std.specs.Prelude.{slice_set}
use Rattle.code_core.specs.Instruction.{a_of, b_of, sc_of}
use Rattle.table_core.specs.declared.value.Value.TheVariants.{Int}
use Rattle.machine_arms_numbers.specs.Numbers.{of_numeral}
use Rattle.machine_arms_numbers.proofs.NumberRows.{both_named, goes_behind, of_numeral_row, numeral_skip, numeral_left, numeral_both}
use Rattle.machine_arms_numbers.proofs.arithmetic.with_numeral.Goals as goal

pub get_b-requires : goal.get_b-requires
get_b-requires c = both_named c.requires.at (of_numeral_row c.args.op c.args.site.word c.requires.form).place 1 (b_of c.args.site.word) refl

pub behind-requires : goal.behind-requires
behind-requires c = goes_behind c.requires.at (of_numeral_row c.args.op c.args.site.word c.requires.form).place

pub returns-in_default : goal.returns-in_default
returns-in_default c = numeral_left c.requires.at c.requires.form c.get_b.result c.get_b.ensures c.in_default.ensures c.behind.ensures

pub put_integer-requires : goal.put_integer-requires
put_integer-requires c = record { there = both_named c.requires.at (of_numeral_row c.args.op c.args.site.word c.requires.form).place 0 (a_of c.args.site.word) refl; next = numeral_skip c.requires.at c.requires.form }

pub returns : goal.returns
returns c =
    let t : c.put_integer.new.registers ≡ slice_set c.args.registers.now (a_of c.args.site.word) (Int (of_numeral c.args.op c.in-Some.m (sc_of c.args.site.word))) = search rules in
    numeral_both c.requires.at c.requires.form c.get_b.result c.in-Some.m c.get_b.ensures c.in-Some.ensures t c.put_integer.ensures.next
