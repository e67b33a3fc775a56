use Rattle.std.proofs.Common.{◌≡◌, ◌<◌, take}
use Rattle.library_rows.specs.Codepoints.{joined_bits}
use Rattle.utf8_core.proofs.Bits.{limit}
use Rattle.utf8_core.proofs.decoding.joined_bits.Given as goal

abbrev pub invariant-loop-byte : goal.invariant-loop-byte
invariant-loop-byte l = (l.code ≡ joined_bits l.bits (take l.byte-index l.bytes)) × (l.code < limit l.byte-index)
