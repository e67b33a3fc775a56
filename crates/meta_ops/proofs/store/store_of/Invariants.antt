use Rattle.int_core.specs.Value.{Value}
use Rattle.lua_heap.specs.Reading.{value}
use Rattle.meta_ops.specs.Heap.{heap_of}
use Rattle.meta_ops.proofs.Links.{IsWritten}
use Rattle.meta_ops.proofs.store.store_of.Given as goal

abbrev pub invariant-loop-link : goal.invariant-loop-link
invariant-loop-link l =
    (v : Value) → IsWritten (heap_of l.heap) (value l.heap.strings.now l.fn.object) (value l.heap.strings.now l.at) (value l.heap.strings.now l.key) v l._link
