use Rattle.std.proofs.Common.{◌≡◌, drop}
use Rattle.chunk_format.specs.Reading.{read_exactly}
use Rattle.chunk_format.proofs.chunk.read_exactly.Given as goal

abbrev pub invariant-loop-byte : goal.invariant-loop-byte
invariant-loop-byte l = read_exactly (drop l.byte-index l.text) l.kind l.input ≡ read_exactly l.text l.kind l.fn.input
