use Rattle.std.proofs.Common.{sym, arith, ◌≡◌, false, nat_eq, get_or}
use Rattle.std.proofs.lemmas.Bool.Decides.{nat_tests}
use Rattle.meta_ops.proofs.OperatorLemmas.{before-differs, before-ends}
use Rattle.meta_ops.proofs.compare.before.Goals as goal

pub returns-then-s-at : goal.returns-then-s-at
returns-then-s-at c =
    let differ : nat_eq (get_or c.args.s.now c.loop-at.at 0) (get_or c.args.t.now c.loop-at.at 0) ≡ false = grind (arith, nat_tests, c.if-s-at.true) in
    sym (before-differs c.args.s.now c.args.t.now c.loop-at.at (omega (arith, c.loop-at-test.true, c.min-both.ensures)) (omega (arith, c.loop-at-test.true, c.min-both.ensures)) c.loop-at.invariant differ)

pub returns : goal.returns
returns c = sym (before-ends c.args.s.now c.args.t.now (λ i below. c.loop-at.invariant i (omega (arith, below, c.loop-at-test.false, c.min-both.ensures))))
