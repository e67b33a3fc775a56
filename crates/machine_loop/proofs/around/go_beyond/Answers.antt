use Rattle.std.proofs.Common.{sym}
use Rattle.machine_arms_tables.specs.Frame.{code}
use Rattle.machine_loop.proofs.Stepping.{beyond_so}
use Rattle.machine_loop.proofs.around.go_beyond.Goals as goal

pub fetch-i-requires : goal.fetch-i-requires
fetch-i-requires c = c.requires.there

pub settle_beyond-requires : goal.settle_beyond-requires
settle_beyond-requires c = c.requires.is_at c.fetch-i.result c.in_ok-op.op c.fetch-i.ensures (sym c.in_ok-op.ensures)

pub returns-then-looks_beyond-clause-goes : goal.returns-then-looks_beyond-clause-goes
returns-then-looks_beyond-clause-goes c = beyond_so (code c.args.closure c.args.strings.now) _ _ c.args.cells.now.objects _ _ c.args.pc c.settle_beyond.result c.fetch-i.ensures c.in_ok-op.ensures c.settle_beyond.ensures.goes

pub store_beyond-requires : goal.store_beyond-requires
store_beyond-requires c = c.requires.is_at c.fetch-i.result c.in_ok-op.op c.fetch-i.ensures (sym c.in_ok-op.ensures)

pub returns-then-stores_beyond-clause-goes : goal.returns-then-stores_beyond-clause-goes
returns-then-stores_beyond-clause-goes c = beyond_so (code c.args.closure c.args.strings.now) _ _ c.args.cells.now.objects _ _ c.args.pc c.store_beyond.result c.fetch-i.ensures c.in_ok-op.ensures c.store_beyond.ensures.goes
