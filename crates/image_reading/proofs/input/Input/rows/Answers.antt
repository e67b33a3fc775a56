use Rattle.std.proofs.Common.{◌≡◌, ◌<◌, [], map, Err, arith, rules}
use Rattle.image_bytes.specs.Bytes.{rows_format}
use Rattle.image_reading.specs.Rows.{behind}
use Rattle.image_reading.specs.Says.{reader_in, items_of}
use Rattle.image_records.specs.Views.{row}
use Rattle.image_reading.proofs.RowFronts.{keys_behind, one_more_row, row_failed}
use Rattle.image_reading.proofs.input.Input.rows.Goals as goal

pub loop-preserved : goal.loop-preserved
loop-preserved c =
    let lt : c.loop.counter < c.args.count = omega arith in
    let seen = behind [] (map row c.loop.rows.items) in
    record {
      keys = keys_behind c.args.context.now.known.now _ _ _ _ c.in_ok-push.ensures.items (c.in_ok-row.ensures.keys seen c.loop.invariant.keys);
      front = one_more_row (reader_in c.args.context.now) c.args.count c.loop.counter _ _ _ _ _ _ _ _ lt (c.in_ok-row.ensures.reads seen c.loop.invariant.keys) c.in_ok-push.ensures.items c.loop.invariant.front;
    }

pub returns-in_err-row : goal.returns-in_err-row
unfolding rows_format
returns-in_err-row c =
    let is : c.from_residual.result ≡ Err c.in_err-row.field-0.0 = search rules in
    let lt : c.loop.counter < c.args.count = omega arith in
    let seen = behind [] (map row c.loop.rows.items) in
    record { reads = rw is (row_failed (reader_in c.args.context.now) (items_of row) c.args.count c.loop.counter seen _ _ _ _ _ _ _ lt (c.in_err-row.ensures.reads seen c.loop.invariant.keys) c.loop.invariant.front) }
