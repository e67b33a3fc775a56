use Rattle.std.proofs.Common.{[], ◌∷◌, ap}
use Rattle.image_core.specs.Records.{row_fields}
use Rattle.lua_heap.specs.Reading.{row}
use Rattle.graph_core.specs.Walk.{value_field, texts_in}
use Rattle.graph_core.proofs.Meeting.{one_more, fields_both, fields_as}
use Rattle.graph_core.proofs.walk.Walk.meet_rows.Goals as goal

pub loop-at-preserved : goal.loop-at-preserved
loop-at-preserved c =
    let w = c.args.self.now in
    let b = c.loop-at.seen.keys in
    let m = c.meet.new.seen.keys in
    let n = c.meet-in-loop-at.new.seen.keys in
    let key = fields_as w b m _ _ (ap (λ v. value_field w v ∷ []) c.value.ensures.same) c.in_ok-meet.ensures in
    one_more w (λ r. row_fields (row (texts_in w) r)) c.args.seen.now.keys b n c.loop-at.at c.args.table.now.rows c.row-key.result c.row-key.ensures c.loop-at.invariant
    (fields_both w b m n (value_field w c.row-key.result.0 ∷ []) (value_field w c.row-key.result.1 ∷ []) key c.in_ok-meet-2.ensures)
