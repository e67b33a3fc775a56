use Rattle.std.proofs.Common.{◌≡◌, ◌+◌, ◌∷◌, drop}
use Rattle.std.specs.Prelude.{slice_get}
use Rattle.code_core.specs.Prototype.{function_count, prototypes, count}
use Rattle.lua_heap.specs.Codes.{preorder}
use Rattle.lua_heap.proofs.trees.+find.Given as goal

abbrev pub decreases-find : goal.decreases-find
decreases-find l = goal.size-find l

abbrev pub invariant-loop-inner : goal.invariant-loop-inner
invariant-loop-inner l = record {
  same : slice_get (preorder (prototypes (drop l.inner-index l.inner-items))) l.left ≡ slice_get (l.proto ∷ preorder l.proto.inner) l.number;
  sum : l.left + function_count l.proto ≡ l.number + count (prototypes (drop l.inner-index l.inner-items));
}
