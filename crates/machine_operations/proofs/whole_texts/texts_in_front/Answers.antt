use Rattle.std.proofs.Common.{◌≡◌, ◌+◌, arith, subst, sym}
use Rattle.meta_ops.specs.Concat.{AppendsText}
use Rattle.machine_operations.specs.WholeTexts.{AreTexts, no_texts}
use Rattle.machine_operations.proofs.Joins.{operand_there}
use Rattle.machine_operations.proofs.Wholes.{is_string, one_more}
use Rattle.machine_operations.proofs.whole_texts.texts_in_front.Goals as goal

pub loop-below-init : goal.loop-below-init
loop-below-init c = (omega arith, subst (AreTexts c.args.world.now c.args.first 0) (sym c.in_ok-text.ensures) no_texts)

pub read_register-operand-requires : goal.read_register-operand-requires
read_register-operand-requires c = c.requires.there c.loop-below.below c.loop-below-test.true

pub append_text-requires : goal.append_text-requires
append_text-requires c =
    let W = c.args.world.now in
    is_string W.strings W.tables.objects c.read_register-operand.result
    (operand_there W (c.args.first + c.loop-below.below) c.read_register-operand.result c.requires.sound c.operands_are_there.ensures c.read_register-operand.ensures)

pub loop-below-preserved : goal.loop-below-preserved
loop-below-preserved c =
    let W = c.args.world.now in
    let t = c.loop-below-test.true in
    let appends : AppendsText W.strings c.loop-below.text.items c.append_text.new.text.items c.read_register-operand.result = c.in_ok-append_text.ensures in (
      omega (arith, t),
      one_more W c.args.first c.loop-below.below c.loop-below.text.items c.append_text.new.text.items c.read_register-operand.result c.loop-below.invariant.1 c.read_register-operand.ensures appends,
    )

pub returns : goal.returns
returns c =
    let t = c.loop-below-test.false in
    let l = c.loop-below.invariant.0 in
    let e : c.loop-below.below ≡ c.args.count = omega (arith, t, l) in
    subst (λ n. AreTexts c.args.world.now c.args.first n c.loop-below.text.items) e c.loop-below.invariant.1
