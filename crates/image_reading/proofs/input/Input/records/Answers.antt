use Rattle.std.proofs.Common.{◌≡◌, ◌<◌, length, map, Err, sym, ◌∙◌, arith, rules}
use Rattle.std.proofs.lemmas.List.{length-map}
use Rattle.image_bytes.specs.Bytes.{records_format}
use Rattle.image_reading.specs.Says.{reader_in, items_of}
use Rattle.image_records.specs.Views.{record_read, sort}
use Rattle.image_reading.proofs.Sorts.{one_more_record, record_failed, records_ended}
use Rattle.image_reading.proofs.input.Input.records.Goals as goal

pub loop-at-preserved : goal.loop-at-preserved
loop-at-preserved c =
    let lt : c.loop-at.at < length (map sort c.args.context.now.sorts.now) = omega (arith, length-map c.args.context.now.sorts.now sort) in
    one_more_record (reader_in c.args.context.now) c.loop-at.at _ _ _ _ _ _ _ _ lt c.in_ok-record.ensures.reads c.in_ok-push.ensures.items c.loop-at.invariant

pub returns-in_err-record : goal.returns-in_err-record
unfolding records_format
returns-in_err-record c =
    let is : c.from_residual.result ≡ Err c.in_err-record.field-0.0 = search rules in
    let lt : c.loop-at.at < length (map sort c.args.context.now.sorts.now) = omega (arith, length-map c.args.context.now.sorts.now sort) in
    record { reads = rw is (record_failed (reader_in c.args.context.now) (items_of record_read) c.loop-at.at _ _ _ _ _ _ _ lt c.in_err-record.ensures.reads c.loop-at.invariant) }

pub returns : goal.returns
unfolding records_format
returns c =
    let ended : length (map sort c.args.context.now.sorts.now) ≡ c.loop-at.at = omega (arith, length-map c.args.context.now.sorts.now sort) in
    record { reads = sym c.loop-at.invariant ∙ records_ended (reader_in c.args.context.now) c.loop-at.at _ _ _ ended }
