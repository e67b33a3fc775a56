-- The bytes given and the bytes left are those that were left before.
use Rattle.std.proofs.Common.{arith, ◌≡◌, ◌++◌, ◌+◌, take, length}
use Rattle.std.proofs.Math.ListN.{drop}
use Rattle.std.proofs.lemmas.Grind.{common_steps}
use Rattle.std.proofs.lemmas.List.{drop-drop, take-append-drop, take_at}
use Rattle.io_edge.proofs.mem_source.MemSourceSource.read.Goals as goal

pub returns-clause-taken : goal.returns-clause-taken
returns-clause-taken c =
    let count = c.min-count.result in
    let next = c.args.self.now.next in
    let bytes = c.args.self.now.bytes in
    let copied : c.copy_from_slice.new.self ≡ take count (drop next bytes) = grind (arith, common_steps) in
    let as_long : length c.copy_from_slice.new.self ≡ count = grind (arith, common_steps) in
    let given : take count (c.copy_from_slice.new.self ++ drop count c.args.buf.now) ≡ c.copy_from_slice.new.self = take_at _ _ count as_long in
    let behind : drop count (drop next bytes) ≡ drop (next + count) bytes = drop-drop count next bytes in
    let whole : take count (drop next bytes) ++ drop count (drop next bytes) ≡ drop next bytes = take-append-drop count _ in
    cc
