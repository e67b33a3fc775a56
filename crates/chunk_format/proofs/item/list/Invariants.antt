use Rattle.std.proofs.Common.{◌≡◌, ◌-◌}
use Rattle.chunk_format.specs.Reading.{read_list, read_times}
use Rattle.chunk_format.proofs.Steps.{with_front}
use Rattle.chunk_format.proofs.item.list.Given as goal

abbrev pub invariant-loop : goal.invariant-loop
invariant-loop g l = with_front l.items.items (read_times g.T.Item.reading (l.len - l.counter) l.input) ≡ read_list g.T.Item.reading l.fn.input
