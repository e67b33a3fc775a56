use Rattle.lua_heap.specs.Reading.{value}
use Rattle.meta_ops.specs.Heap.{heap_of}
use Rattle.meta_ops.proofs.Links.{IsLooked}
use Rattle.meta_ops.proofs.index.index_of.Given as goal

abbrev pub invariant-loop-link : goal.invariant-loop-link
invariant-loop-link l = IsLooked (heap_of l.heap) (value l.heap.strings.now l.fn.object) (value l.heap.strings.now l.at) (value l.heap.strings.now l.key) l._link
