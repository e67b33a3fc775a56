use Rattle.lua_heap.specs.Reading.{value}
use Rattle.meta_ops.specs.Heap.{heap_of}
use Rattle.meta_ops.proofs.Links.{IsReached}
use Rattle.meta_ops.proofs.callee.callee_of.Given as goal

abbrev pub invariant-loop-links : goal.invariant-loop-links
invariant-loop-links l = IsReached (heap_of l.heap) (value l.heap.strings.now l.fn.called) (value l.heap.strings.now l.at) l.links
