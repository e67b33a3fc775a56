use Rattle.std.proofs.Common.{◌-◌, ◌/◌, sym, ap, ◌∙◌, drop, length-set, drop_of_length-le, arith}
use Rattle.std.specs.Fmt.{digits_onto}
use Rattle.std.proofs.DigitsParse.{digits_onto-nil, digits_onto_last, digits_onto_step, drop-set-cons}
use Rattle.text_format.proofs.digits.write_in_base.Goals as goal

pub loop-i-init : goal.loop-i-init
loop-i-init c = (
  omega arith,
  c.told-out,
  ap (digits_onto 64 c.args.base c.args.upper c.args.n) (drop_of_length-le c.args.out.now {i = 64} (omega (arith, c.told-out))) ∙ digits_onto-nil _ _ _,
)

pub loop-i-preserved : goal.loop-i-preserved
loop-i-preserved c =
    let l = c.loop-i in
    let a = c.args in
    let kept = length-set l.out (l.i - 1) c.ascii_digit.result ∙ l.invariant.1 in
    let written = ap (digits_onto (l.i - 1) a.base a.upper (l.rest / a.base)) (drop-set-cons l.out l.i _ _ c.loop-i-test.true (omega arith) (c.ascii_digit.ensures (omega (arith, c.requires)))) in
    (omega arith, kept, written ∙ sym (digits_onto_step a.base a.upper l.rest (drop l.i l.out) l.i c.loop-i-test.true c.if-rest-eq0.false) ∙ l.invariant.2)

pub returns-then-rest-eq0 : goal.returns-then-rest-eq0
returns-then-rest-eq0 c =
    let l = c.loop-i in
    let a = c.args in
    let written = drop-set-cons l.out l.i _ _ c.loop-i-test.true (omega arith) (c.ascii_digit.ensures (omega (arith, c.requires))) in
    record { bound = omega arith; value = written ∙ sym (digits_onto_last a.base a.upper l.rest (drop l.i l.out) l.i c.loop-i-test.true c.if-rest-eq0.true) ∙ l.invariant.2 }
