use Rattle.std.proofs.Common.{ap, sym, ◌∙◌}
use Rattle.lua_heap.proofs.Placed.{text_or_nothing, where_is}
use Rattle.lua_heap.proofs.world.World.where_text.Goals as goal

pub returns-in_ok-text-in-Some : goal.returns-in_ok-text-in-Some
returns-in_ok-text-in-Some c fuel = c.in_ok-text-in-Some.ensures ∙ sym (where_is c.args.self.now fuel c.args.level ∙ ap text_or_nothing (sym c.in-Some.ensures))

pub returns-in-None : goal.returns-in-None
returns-in-None c fuel = c.new.ensures.items ∙ sym (where_is c.args.self.now fuel c.args.level ∙ ap text_or_nothing (sym c.in-None.ensures))
