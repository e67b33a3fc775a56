use Rattle.std.proofs.Common.{rules, ◌≡◌, Some}
use Rattle.std.specs.Prelude.{slice_set}
use Rattle.code_core.specs.Instruction.{a_of}
use Rattle.int_core.specs.Operations.{computed}
use Rattle.int_core.specs.Value.{bind}
use Rattle.table_core.specs.declared.value.Value.TheVariants.{Int}
use Rattle.machine_arms_numbers.specs.Numbers.{event_of}
use Rattle.machine_arms_numbers.proofs.NumberRows.{target_there, first_there, two_next, two_skip, two_left, two_right, two_both}
use Rattle.machine_arms_numbers.proofs.arithmetic.with_two.Goals as goal

pub get_b-requires : goal.get_b-requires
get_b-requires c = first_there c.requires.at c.requires.form

pub behind-requires : goal.behind-requires
behind-requires c = two_next c.requires.at c.requires.form

pub returns-in_default : goal.returns-in_default
returns-in_default c = two_left c.requires.at c.requires.form c.get_b.result c.get_b.ensures c.in_default.ensures c.behind.ensures

pub behind-requires-in_default-integer : goal.behind-requires-in_default-integer
behind-requires-in_default-integer c = two_next c.requires.at c.requires.form

pub returns-in_default-integer : goal.returns-in_default-integer
returns-in_default-integer c = two_right c.requires.at c.requires.form c.get_b.result c.second.result c.get_b.ensures c.second.ensures c.in_default-integer.ensures c.behind-in_default-integer.ensures

pub put_integer-requires : goal.put_integer-requires
put_integer-requires c = record { there = target_there c.requires.at c.requires.form; next = two_skip c.requires.at c.requires.form }

pub returns : goal.returns
returns c =
    let t : c.put_integer.new.registers ≡ slice_set c.args.registers.now (a_of c.args.site.word) (Int c.in_ok-k.k) = search rules in
    let q : Some c.in_ok-k.k ≡ bind (event_of c.args.op) (λ event. computed event c.in-Some.m c.in-Some-integer.n) = search rules in
    two_both c.requires.at c.requires.form c.get_b.result c.second.result c.in-Some.m c.in-Some-integer.n c.in_ok-k.k c.get_b.ensures c.second.ensures c.in-Some.ensures c.in-Some-integer.ensures q t c.put_integer.ensures.next
