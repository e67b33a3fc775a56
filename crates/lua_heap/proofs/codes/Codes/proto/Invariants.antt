use Rattle.std.proofs.Common.{◌≡◌, ◌-◌, ◌<◌, drop, map}
use Rattle.std.specs.Prelude.{slice_get, vec_len}
use Rattle.code_core.specs.Prototype.{prototypes}
use Rattle.lua_heap.specs.Codes.{preorder, functions}
use Rattle.lua_heap.proofs.codes.Codes.proto.Given as goal

abbrev pub invariant-trees : goal.invariant-trees
invariant-trees l = record {
  same : slice_get (preorder (prototypes (drop l.at (map (λ t. t.code) l.self.trees.items)))) l.left ≡ slice_get (functions l.self) l.fn.id.0;
  within : l.at < vec_len l.self.trees;
}

abbrev pub decreases-trees : goal.decreases-trees
decreases-trees l = vec_len l.self.trees - l.at
