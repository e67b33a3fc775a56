use Rattle.std.proofs.Common.{arith, sym, ◌∙◌, [], ◌∷◌}
use Rattle.int_core.specs.Operations.{greatest_chain}
use Rattle.lua_heap.specs.Reading.{value}
use Rattle.meta_ops.specs.Outcome.{settled}
use Rattle.meta_ops.specs.Heap.{heap_of}
use Rattle.meta_ops.proofs.Links.{looked-settled, looked-asks, looked-next, looked-ends}
use Rattle.meta_ops.proofs.index.index_of.Goals as goal

pub returns-in-Settled : goal.returns-in-Settled
returns-in-Settled c =
    let texts = c.args.heap.strings.now in
    looked-settled (heap_of c.args.heap) (value texts c.args.object) (value texts c.loop-link.at) (value texts c.args.key) c.loop-link._link c.loop-link.invariant
    greatest_chain (settled texts (heap_of c.args.heap) (value texts c.args.key ∷ []) c.in-Settled.outcome) (omega (arith, c.loop-link.auto._link-end)) c.in-Settled.ensures

pub returns-then-is_function : goal.returns-then-is_function
returns-then-is_function c =
    let texts = c.args.heap.strings.now in
    looked-asks (heap_of c.args.heap) (value texts c.args.object) (value texts c.loop-link.at) (value texts c.args.key) c.loop-link._link c.loop-link.invariant
    greatest_chain (value texts c.in-Follow.handler) (omega (arith, c.loop-link-test.true)) c.in-Follow.ensures (sym (c.is_function.ensures texts) ∙ c.if-is_function.true)

pub loop-link-preserved : goal.loop-link-preserved
loop-link-preserved c =
    let texts = c.args.heap.strings.now in
    looked-next (heap_of c.args.heap) (value texts c.args.object) (value texts c.loop-link.at) (value texts c.args.key) c.loop-link._link c.loop-link.invariant
    (value texts c.in-Follow.handler) c.in-Follow.ensures (sym (c.is_function.ensures texts) ∙ c.if-is_function.false)

pub returns-in-Settled-index_link : goal.returns-in-Settled-index_link
returns-in-Settled-index_link c =
    let texts = c.args.heap.strings.now in
    looked-settled (heap_of c.args.heap) (value texts c.args.object) (value texts c.loop-link.at) (value texts c.args.key) c.loop-link._link c.loop-link.invariant
    greatest_chain (settled texts (heap_of c.args.heap) (value texts c.args.key ∷ []) c.in-Settled-index_link.outcome) (omega (arith, c.loop-link.auto._link-end)) c.in-Settled-index_link.ensures

pub returns-in-Follow-index_link : goal.returns-in-Follow-index_link
returns-in-Follow-index_link c =
    let texts = c.args.heap.strings.now in
    looked-ends (heap_of c.args.heap) (value texts c.args.object) (value texts c.loop-link.at) (value texts c.args.key) c.loop-link._link c.loop-link.invariant
    greatest_chain (value texts c.in-Follow-index_link.field-0) (omega (arith, c.loop-link.auto._link-end, c.loop-link-test.false)) c.in-Follow-index_link.ensures
