use Rattle.std.proofs.Common.{rules, ◌≡◌, ◌+◌, ◌∙◌, ap, refl, length, true, false, arith}
use Rattle.std.specs.Prelude.{pos, slice_set}
use Rattle.code_core.specs.Instruction.{a_of}
use Rattle.int_core.specs.Value.{same_integer}
use Rattle.machine_core.specs.InstructionRows.{runs, rounds}
use Rattle.machine_view.proofs.Places.{next_there}
use Rattle.table_core.specs.declared.value.Value.TheVariants.{Int}
use Rattle.machine_arms_numbers.proofs.LoopRows.{prep_place, prep_passes, prep_starts}
use Rattle.machine_sound.proofs.Lists.{length_set}
use Rattle.machine_arms_numbers.proofs.jumps.for_prep.Goals as goal

pub behind-requires : goal.behind-requires
behind-requires c = let l = prep_place c.requires in let e = c.bx.ensures in omega (arith, l, e)

pub returns-then-not-has_round : goal.returns-then-not-has_round
returns-then-not-has_round c =
    let z : same_integer c.in_ok-step.step (pos 0) ≡ false = search rules in
    let b : runs c.in_ok-from.from c.in_ok-limit.limit c.in_ok-step.step ≡ false = search rules in
    prep_passes c.in_ok-from.from c.in_ok-limit.limit c.in_ok-step.step c.requires c.get_above.ensures c.get_above-2.ensures c.get_above-3.ensures c.in_ok-from.ensures c.in_ok-limit.ensures c.in_ok-step.ensures z b (c.behind.ensures ∙ ap (λ n. c.args.site.pc + (n + 2)) c.bx.ensures)

pub set_above_integer-requires-2 : goal.set_above_integer-requires-2
set_above_integer-requires-2 c = let l = c.loop_registers_are_there.ensures in let e = ap length c.set_above_integer.ensures ∙ length_set c.args.registers.now _ _ in omega (arith, l, e)

pub behind-requires-2 : goal.behind-requires-2
behind-requires-2 c = next_there c.requires refl

pub returns : goal.returns
returns c =
    let z : same_integer c.in_ok-step.step (pos 0) ≡ false = search rules in
    let b : runs c.in_ok-from.from c.in_ok-limit.limit c.in_ok-step.step ≡ true = search rules in
    let s1 : c.set_above_integer.new.registers ≡ slice_set c.args.registers.now (a_of c.args.site.word + 1) (Int (rounds c.in_ok-from.from c.in_ok-limit.limit c.in_ok-step.step)) = search rules in
    let s2 : c.set_above_integer-2.new.registers ≡ slice_set c.set_above_integer.new.registers (a_of c.args.site.word + 3) (Int c.in_ok-from.from) = search rules in
    prep_starts c.in_ok-from.from c.in_ok-limit.limit c.in_ok-step.step c.requires c.get_above.ensures c.get_above-2.ensures c.get_above-3.ensures c.in_ok-from.ensures c.in_ok-limit.ensures c.in_ok-step.ensures z b s1 s2 c.behind-2.ensures
