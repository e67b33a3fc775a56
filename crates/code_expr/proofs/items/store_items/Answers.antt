use Rattle.code_expr.proofs.Waiting.{none_waits, some_wait}
use Rattle.code_expr.proofs.items.store_items.Goals as goal

pub returns-then-items-eq0 : goal.returns-then-items-eq0
returns-then-items-eq0 c = none_waits c.args.emitter.now c.args.items.stored c.args.items.waiting c.args.target c.args.line c.if-items-eq0.true

pub returns : goal.returns
returns c = some_wait c.args.emitter.now c.set_list.new.self c.args.items.stored c.args.items.waiting c.args.target c.args.line c.if-items-eq0.false c.in_ok-set_list.ensures
