use Rattle.std.proofs.Common.{[], ◌∷◌}
use Rattle.table_core.specs.declared.value.Value.{Value}
use Rattle.graph_core.specs.Walk.{value_field}
use Rattle.graph_core.proofs.Meeting.{one_more}
use Rattle.graph_core.proofs.walk.Walk.meet_all.Goals as goal

pub loop-at-preserved : goal.loop-at-preserved
loop-at-preserved c =
    one_more c.args.self.now (λ (v : Value). value_field c.args.self.now v ∷ []) c.args.seen.now.keys c.loop-at.seen.keys c.meet.new.seen.keys c.loop-at.at c.args.values.now c.item_at.result
    c.item_at.ensures c.loop-at.invariant c.in_ok-meet.ensures
