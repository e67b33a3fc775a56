-- The targets from a place on are stored in already.
use Rattle.std.proofs.Common.{◌≡◌, ◌≤◌, ◌+◌, drop, length}
use Rattle.tree_core.specs.Tree.{exps}
use Rattle.tree_core.specs.Plain.{plain_exps}
use Rattle.code_of.specs.Parts.{stores_code}
use Rattle.code_emitter.specs.Listing.{listed}
use Rattle.code_stat.proofs.stores.write_stores.Given as goal

abbrev pub invariant-loop-left : goal.invariant-loop-left
invariant-loop-left l =
    (l.left ≤ length l.targets.items)
    × (l.register ≡ l.fn.register + l.left + l.left)
    × (l.value ≡ l.fn.value + l.left)
    × (l.emitter ≡ listed l.fn.emitter (stores_code l.fn.emitter.constants (exps (plain_exps (drop l.left l.targets.items))) l.register l.value))

abbrev pub decreases-loop-left : goal.decreases-loop-left
decreases-loop-left l = l.left
