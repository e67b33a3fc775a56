use Rattle.std.proofs.Common.{◌≡◌, ◌++◌, drop}
use Rattle.std.specs.List.{flat_map}
use Rattle.chunk_format.specs.Spelling.{spelled_list}
use Rattle.chunk_format.proofs.item.write_list.Given as goal

abbrev pub invariant-loop-item : goal.invariant-loop-item
invariant-loop-item g l =
    l.out.items ++ flat_map g.T.Item.spelled (drop l.item-index l.items) ≡ l.fn.out.items ++ spelled_list g.T.Item.spelled l.items
