use Rattle.std.proofs.Common.{◌∙◌}
use Rattle.lua_stack.proofs.Parts.{put_step, length_set}
use Rattle.lua_stack.proofs.values.put.Goals as goal

pub loop-k-preserved : goal.loop-k-preserved
loop-k-preserved c =
    let i = c.loop-k.invariant in (
      put_step c.args.at c.loop-k.k c.args.from.now c.loop-k.values.items c.item_at.result c.item_at.ensures ∙ i.0,
      length_set c.loop-k.values.items _ c.item_at.result ∙ i.1,
    )
