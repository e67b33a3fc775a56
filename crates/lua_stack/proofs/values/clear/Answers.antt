use Rattle.std.proofs.Common.{rules, ◌<◌, ◌∙◌}
use Rattle.lua_stack.proofs.Parts.{clear_step, length_set}
use Rattle.table_core.specs.declared.value.Value.TheVariants.{Nil}
use Rattle.lua_stack.proofs.values.clear.Goals as goal

pub loop-k-preserved : goal.loop-k-preserved
loop-k-preserved c =
    let i = c.loop-k.invariant in
    let l : c.loop-k.k < c.args.count = search rules in
    (clear_step c.args.at c.args.count c.loop-k.k c.loop-k.values.items l ∙ i.0, length_set c.loop-k.values.items _ Nil ∙ i.1)
