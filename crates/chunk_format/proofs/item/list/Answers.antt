use Rattle.std.proofs.Common.{◌≡◌, ◌<◌, ◌+◌, ◌-◌, ◌∙◌, sym, arith}
use Rattle.chunk_format.proofs.Steps.{read_times-step}
use Rattle.chunk_format.proofs.item.list.Goals as goal

pub loop-preserved : goal.loop-preserved
loop-preserved g c =
    let some_left : 0 < c.in_ok-len.len - c.loop.counter = omega arith in
    let step = read_times-step g.T.Item.reading (c.in_ok-len.len - c.loop.counter) c.loop.items.items c.in_ok-read.field-0 c.loop.input c.read.new.input some_left c.in_ok-read.ensures.reads in
    let less : c.in_ok-len.len - (c.loop.counter + 1) ≡ c.in_ok-len.len - c.loop.counter - 1 = omega arith in
    rw (c.in_ok-push.ensures.items, less) (sym step ∙ c.loop.invariant)
