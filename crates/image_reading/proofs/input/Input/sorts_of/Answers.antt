use Rattle.std.proofs.Common.{◌≡◌, ◌<◌, Err, arith, rules}
use Rattle.std.specs.Prelude.{nat_lt, nat_le, ◌&&◌}
use Rattle.image_bytes.specs.Format.{tested, byte, of_kind}
use Rattle.image_records.specs.Views.{sort}
use Rattle.image_bytes.specs.Format.{times}
use Rattle.image_reading.specs.Says.{items_of}
use Rattle.image_reading.proofs.Fronts.{failed, one_more}
use Rattle.image_reading.proofs.input.Input.sorts_of.Goals as goal

pub loop-preserved : goal.loop-preserved
loop-preserved c =
    let lt : c.loop.counter < c.args.count = omega arith in
    one_more (tested (λ s. nat_lt 0 s && nat_le s 4) (λ s. of_kind 5) byte) sort c.args.count c.loop.counter _ _ _ _ _ _ _ _ lt c.in_ok-sort.ensures.reads c.in_ok-push.ensures.items c.loop.invariant

pub returns-in_err-sort : goal.returns-in_err-sort
unfolding times
returns-in_err-sort c =
    let is : c.from_residual.result ≡ Err c.in_err-sort.field-0.0 = search rules in
    let lt : c.loop.counter < c.args.count = omega arith in
    record { reads = rw is (failed (tested (λ s. nat_lt 0 s && nat_le s 4) (λ s. of_kind 5) byte) sort (items_of sort) c.args.count c.loop.counter _ _ _ _ _ _ _ lt c.in_err-sort.ensures.reads c.loop.invariant) }
