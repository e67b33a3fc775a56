use Rattle.std.proofs.Common.{refl}
use Rattle.image_records.specs.Views.{item}
use Rattle.image_reading.proofs.RowKeys.{fresh_key, old_key}
use Rattle.image_reading.proofs.rows.add_key.Goals as goal

pub returns-then-branch : goal.returns-then-branch
returns-then-branch c seen are =
    fresh_key c.args.context.now.known.now c.args.keys.now.keys seen (item c.args.key) c.in-Some.own are c.in-Some.ensures c.insert.new.self.keys _
    c.in_ok-insert.ensures.added c.if-branch.true c.in_ok-insert.ensures.keys

pub returns-else-branch : goal.returns-else-branch
returns-else-branch c seen are =
    (old_key c.args.context.now.known.now c.args.keys.now.keys seen (item c.args.key) c.in-Some.own are c.in-Some.ensures _ c.in_ok-insert.ensures.added c.if-branch.false, refl)
