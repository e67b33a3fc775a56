use Rattle.std.proofs.Common.{Some, ap, ◌∙◌}
use Rattle.lua_heap.specs.declared.world.Cell.{Cell}
use Rattle.lua_heap.specs.declared.world.Cell.TheVariants.{Closed}
use Rattle.lua_heap.proofs.Listed.{cell_reads, open_reads, open_there}
use Rattle.lua_heap.proofs.world.World.cell_value.Goals as goal

pub register_at-requires : goal.register_at-requires
register_at-requires c =
    open_there c.args.self.now c.args.id c.in-Open.coro c.in-Open.frame c.in-Open.register c.get-in-Open.result.now c.requires.listed (c.get.ensures ∙ ap (λ (k : Cell). Some k) c.in-Open.is)
    c.get-in-Open.ensures c.requires.there

pub returns-in-Closed : goal.returns-in-Closed
returns-in-Closed c fuel = cell_reads c.args.self.now fuel c.args.id.0 (Closed c.in-Closed.value) (c.get.ensures ∙ ap (λ (k : Cell). Some k) c.in-Closed.is)

pub returns-in-Open : goal.returns-in-Open
returns-in-Open c fuel =
    open_reads c.args.self.now fuel c.args.id.0 c.in-Open.coro c.in-Open.frame c.in-Open.register c.get-in-Open.result.now (c.get.ensures ∙ ap (λ (k : Cell). Some k) c.in-Open.is) c.get-in-Open.ensures
    ∙ c.register_at.ensures c.args.self.now.strings
