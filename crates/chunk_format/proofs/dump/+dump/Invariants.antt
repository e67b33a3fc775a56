use Rattle.std.proofs.Common.{◌≡◌, ◌++◌, drop}
use Rattle.code_core.specs.Prototype.{prototypes}
use Rattle.chunk_format.specs.Spelling.{functions, all_kept}
use Rattle.chunk_format.proofs.dump.+dump.Given as goal

abbrev pub invariant-write_all-loop-proto : goal.invariant-write_all-loop-proto
invariant-write_all-loop-proto l =
    l.out.items ++ functions l.parent (all_kept l.strip (prototypes (drop l.proto-index l.protos)))
    ≡ l.fn.out.items ++ functions l.parent (all_kept l.strip (prototypes l.protos))
