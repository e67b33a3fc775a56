use Rattle.std.proofs.Common.{arith, sym, ◌∙◌}
use Rattle.int_core.specs.Operations.{greatest_chain}
use Rattle.lua_heap.specs.Reading.{value}
use Rattle.meta_ops.specs.Chains.{stored_as}
use Rattle.meta_ops.specs.Heap.{heap_of}
use Rattle.meta_ops.proofs.Links.{none-written, written-settled, written-asks, written-next, written-ends}
use Rattle.meta_ops.proofs.store.store_of.Goals as goal

pub loop-link-init : goal.loop-link-init
loop-link-init c v = none-written (heap_of c.args.heap) (value c.args.heap.strings.now c.args.object) (value c.args.heap.strings.now c.args.key) v

pub returns-in-Settled : goal.returns-in-Settled
returns-in-Settled c v =
    let texts = c.args.heap.strings.now in
    written-settled (heap_of c.args.heap) (value texts c.args.object) (value texts c.loop-link.at) (value texts c.args.key) v c.loop-link._link (c.loop-link.invariant v)
    greatest_chain (stored_as texts (heap_of c.args.heap) (value texts c.args.key) v c.in-Settled.answer) (omega (arith, c.loop-link.auto._link-end)) (c.in-Settled.ensures v)

pub returns-then-is_function : goal.returns-then-is_function
returns-then-is_function c v =
    let texts = c.args.heap.strings.now in
    written-asks (heap_of c.args.heap) (value texts c.args.object) (value texts c.loop-link.at) (value texts c.args.key) v c.loop-link._link (c.loop-link.invariant v)
    greatest_chain (value texts c.in-Follow.handler) (omega (arith, c.loop-link-test.true)) (c.in-Follow.ensures v) (sym (c.is_function.ensures texts) ∙ c.if-is_function.true)

pub loop-link-preserved : goal.loop-link-preserved
loop-link-preserved c v =
    let texts = c.args.heap.strings.now in
    written-next (heap_of c.args.heap) (value texts c.args.object) (value texts c.loop-link.at) (value texts c.args.key) v c.loop-link._link (c.loop-link.invariant v)
    (value texts c.in-Follow.handler) (c.in-Follow.ensures v) (sym (c.is_function.ensures texts) ∙ c.if-is_function.false)

pub returns-in-Settled-store_link : goal.returns-in-Settled-store_link
returns-in-Settled-store_link c v =
    let texts = c.args.heap.strings.now in
    written-settled (heap_of c.args.heap) (value texts c.args.object) (value texts c.loop-link.at) (value texts c.args.key) v c.loop-link._link (c.loop-link.invariant v)
    greatest_chain (stored_as texts (heap_of c.args.heap) (value texts c.args.key) v c.in-Settled-store_link.answer) (omega (arith, c.loop-link.auto._link-end)) (c.in-Settled-store_link.ensures v)

pub returns-in-Follow-store_link : goal.returns-in-Follow-store_link
returns-in-Follow-store_link c v =
    let texts = c.args.heap.strings.now in
    written-ends (heap_of c.args.heap) (value texts c.args.object) (value texts c.loop-link.at) (value texts c.args.key) v c.loop-link._link (c.loop-link.invariant v)
    greatest_chain (value texts c.in-Follow-store_link.field-0) (omega (arith, c.loop-link.auto._link-end, c.loop-link-test.false)) (c.in-Follow-store_link.ensures v)
