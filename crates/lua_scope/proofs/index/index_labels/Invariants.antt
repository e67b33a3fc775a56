-- With what is left of the statements the index gives the first labels of all.
use Rattle.std.proofs.Common.{◌≡◌, ℕ, List, map, drop}
use Rattle.tree_core.specs.Plain.{plain_stat}
use Rattle.lua_scope.specs.Indexed.{first_label, found_in}
use Rattle.lua_scope.proofs.Indexing.{first_of}
use Rattle.lua_scope.proofs.index.index_labels.Given as goal

abbrev pub invariant-loop-stat : goal.invariant-loop-stat
invariant-loop-stat l =
    (l.at ≡ l.stat-index)
    × (l.stat-items ≡ l.list.items)
    × ((text : List ℕ) → first_of (found_in text l.labels) (first_label text l.at l.declared (drop l.stat-index (map plain_stat l.list.items))) ≡ first_label text 0 0 (map plain_stat l.list.items))
