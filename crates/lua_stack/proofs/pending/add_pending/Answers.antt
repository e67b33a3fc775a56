use Rattle.std.proofs.Common.{rules, ◌≡◌, [], ◌∷◌, ◌++◌, ◌∙◌}
use Rattle.lua_stack.proofs.PendingValues.{one_pushed}
use Rattle.lua_stack.proofs.pending.add_pending.Goals as goal

pub loop-k-preserved : goal.loop-k-preserved
loop-k-preserved c =
    let p : c.push.new.self.items ≡ c.loop-k.found.items ++ c.register_of.result ∷ [] = search rules in
    p ∙ one_pushed c.args.found.now.items c.loop-k.found.items c.args.values.now c.args.frame.window c.args.pending.now c.loop-k.k c.item_at-mark.result c.register_of.result c.loop-k.invariant c.item_at-mark.ensures c.register_of.ensures
