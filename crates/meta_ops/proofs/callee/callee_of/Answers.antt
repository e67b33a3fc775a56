use Rattle.std.proofs.Common.{arith, sym, ◌∙◌}
use Rattle.int_core.specs.Operations.{greatest_chain}
use Rattle.lua_heap.specs.Reading.{value}
use Rattle.meta_ops.specs.Heap.{heap_of}
use Rattle.meta_ops.proofs.Links.{reached-function, reached-nothing, reached-next}
use Rattle.meta_ops.proofs.callee.callee_of.Goals as goal

pub returns-then-is_function : goal.returns-then-is_function
returns-then-is_function c arguments =
    let texts = c.args.heap.strings.now in
    reached-function (heap_of c.args.heap) (value texts c.args.called) (value texts c.loop-links.at) c.loop-links.links c.loop-links.invariant
    greatest_chain arguments (omega (arith, c.loop-links-test.true)) (sym (c.is_function.ensures texts) ∙ c.if-is_function.true)

pub returns-then-is_nil : goal.returns-then-is_nil
returns-then-is_nil c arguments =
    let texts = c.args.heap.strings.now in
    reached-nothing (heap_of c.args.heap) (value texts c.args.called) (value texts c.loop-links.at) c.loop-links.links c.loop-links.invariant
    greatest_chain arguments (value texts c.handler_in-handler.result) (omega (arith, c.loop-links-test.true)) (sym (c.is_function.ensures texts) ∙ c.if-is_function.false)
    c.handler_in-handler.ensures (sym (c.is_nil.ensures texts) ∙ c.if-is_nil.true)

pub loop-links-preserved : goal.loop-links-preserved
loop-links-preserved c =
    let texts = c.args.heap.strings.now in
    reached-next (heap_of c.args.heap) (value texts c.args.called) (value texts c.loop-links.at) c.loop-links.links c.loop-links.invariant
    (value texts c.handler_in-handler.result) (sym (c.is_function.ensures texts) ∙ c.if-is_function.false) c.handler_in-handler.ensures (sym (c.is_nil.ensures texts) ∙ c.if-is_nil.false)
