use Rattle.std.proofs.Common.{◌≡◌, ◌<◌, ◌^◌, length}
use Rattle.chunk_format.specs.Reading.{read_number, read_groups}
use Rattle.chunk_format.proofs.input.Input.number.Given as goal

abbrev pub invariant-loop-byte : goal.invariant-loop-byte
invariant-loop-byte l = (l.so_far < 2 ^ 31) × (read_groups l.so_far l.self ≡ read_number l.initial.self)

abbrev pub decreases-loop-byte : goal.decreases-loop-byte
decreases-loop-byte l = length l.self
