use Rattle.std.proofs.Common.{rules, ◌≡◌, ◌+◌, ◌-◌, ◌∙◌, ap, refl, length, true, false, arith}
use Rattle.std.specs.Prelude.{pos, slice_set}
use Rattle.code_core.specs.Instruction.{a_of}
use Rattle.int_core.specs.Arithmetic.{add, sub}
use Rattle.int_core.specs.Value.{same_integer}
use Rattle.machine_view.proofs.Places.{next_there}
use Rattle.table_core.specs.declared.value.Value.TheVariants.{Int}
use Rattle.machine_arms_numbers.proofs.LoopRows.{loop_back, round_ends, round_goes}
use Rattle.machine_sound.proofs.Lists.{length_set}
use Rattle.machine_arms_numbers.proofs.jumps.for_loop.Goals as goal

pub behind-requires : goal.behind-requires
behind-requires c = next_there c.requires refl

pub returns-then-count-eq0 : goal.returns-then-count-eq0
returns-then-count-eq0 c =
    let z : same_integer c.in_ok-count.count (pos 0) ≡ true = search rules in
    round_ends c.in_ok-from.from c.in_ok-count.count c.in_ok-step.step c.requires c.get_above.ensures c.get_above-2.ensures c.get_above-3.ensures c.in_ok-from.ensures c.in_ok-count.ensures c.in_ok-step.ensures z c.behind.ensures

pub set_above_integer-requires-2 : goal.set_above_integer-requires-2
set_above_integer-requires-2 c = let l = c.loop_registers_are_there.ensures in let e = ap length c.set_above_integer.ensures ∙ length_set c.args.registers.now _ _ in omega (arith, l, e)

pub set_above_integer-requires-3 : goal.set_above_integer-requires-3
set_above_integer-requires-3 c = let l = c.loop_registers_are_there.ensures in let e = ap length c.set_above_integer.ensures ∙ length_set c.args.registers.now _ _ in let f = ap length c.set_above_integer-2.ensures ∙ length_set c.set_above_integer.new.registers _ _ in omega (arith, l, e, f)

pub back-requires : goal.back-requires
back-requires c = let l = loop_back c.requires in let m = l.0 in let e = c.bx.ensures in record { there = next_there c.requires refl; near = omega (arith, m, e) }

pub returns : goal.returns
returns c =
    let z : same_integer c.in_ok-count.count (pos 0) ≡ false = search rules in
    let s1 : c.set_above_integer.new.registers ≡ slice_set c.args.registers.now (a_of c.args.site.word + 1) (Int (sub c.in_ok-count.count (pos 1))) = search rules in
    let s2 : c.set_above_integer-2.new.registers ≡ slice_set c.set_above_integer.new.registers (a_of c.args.site.word + 0) (Int (add c.in_ok-from.from c.in_ok-step.step)) = search rules in
    let s3 : c.set_above_integer-3.new.registers ≡ slice_set c.set_above_integer-2.new.registers (a_of c.args.site.word + 3) (Int (add c.in_ok-from.from c.in_ok-step.step)) = search rules in
    round_goes c.in_ok-from.from c.in_ok-count.count c.in_ok-step.step c.requires c.get_above.ensures c.get_above-2.ensures c.get_above-3.ensures c.in_ok-from.ensures c.in_ok-count.ensures c.in_ok-step.ensures z c.in_ok-pay.ensures.paid s1 s2 s3 (c.back.ensures ∙ ap (λ d. c.args.site.pc + 1 - d) c.bx.ensures)
