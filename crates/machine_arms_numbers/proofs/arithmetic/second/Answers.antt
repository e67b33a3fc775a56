use Rattle.std.proofs.Common.{◌∙◌, ap, sym, arith}
use Rattle.std.specs.Prelude.{cond, slice_get}
use Rattle.code_core.specs.Instruction.{c_of}
use Rattle.machine_arms_numbers.proofs.NumberRows.{second_constant, second_register}
use Rattle.machine_arms_numbers.proofs.arithmetic.second.Goals as goal

pub value_numbered-requires : goal.value_numbered-requires
value_numbered-requires c = let l = second_constant c.requires.at c.requires.form (sym c.has_constant.ensures ∙ c.if-has_constant.true) in let e = c.c-n.ensures in omega (arith, e, l)

pub returns-then-has_constant : goal.returns-then-has_constant
returns-then-has_constant c =
    ap (λ b. cond b (slice_get c.args.site.constants.now (c_of c.args.site.word)) (slice_get c.args.registers.now (c_of c.args.site.word))) (sym c.has_constant.ensures ∙ c.if-has_constant.true)
    ∙ ap (slice_get c.args.site.constants.now) (sym c.c-n.ensures) ∙ c.value_numbered.ensures

pub value_numbered-requires-2 : goal.value_numbered-requires-2
value_numbered-requires-2 c = let l = second_register c.requires.at c.requires.form (sym c.has_constant.ensures ∙ c.if-has_constant.false) in let e = c.c-n.ensures in omega (arith, e, l)

pub returns : goal.returns
returns c =
    ap (λ b. cond b (slice_get c.args.site.constants.now (c_of c.args.site.word)) (slice_get c.args.registers.now (c_of c.args.site.word))) (sym c.has_constant.ensures ∙ c.if-has_constant.false)
    ∙ ap (slice_get c.args.registers.now) (sym c.c-n.ensures) ∙ c.value_numbered-2.ensures
