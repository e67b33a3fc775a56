use Rattle.std.proofs.Common.{◌≡◌, ◌<◌, ◌+◌, ◌-◌, ◌∙◌, sym, arith}
use Rattle.chunk_format.specs.Reading.{read_function}
use Rattle.chunk_format.proofs.Functions.{functions-step}
use Rattle.chunk_format.proofs.function.+function.Goals as goal

pub functions-loop-preserved : goal.functions-loop-preserved
functions-loop-preserved t c =
    let some_left : 0 < c.in_ok-len.len - c.loop.counter = omega arith in
    let step = functions-step (read_function c.args.levels c.args.parent.now) (c.in_ok-len.len - c.loop.counter) c.loop.protos.items c.in_ok-function.field-0 c.loop.left c.function.new.left c.loop.input c.function.new.input some_left c.in_ok-function.ensures.reads in
    let less : c.in_ok-len.len - (c.loop.counter + 1) ≡ c.in_ok-len.len - c.loop.counter - 1 = omega arith in
    rw (c.in_ok-push.ensures.items, less) (sym step ∙ c.loop.invariant)
