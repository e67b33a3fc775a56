use Rattle.std.proofs.Common.{◌<◌, get_or, length, arith}
use Rattle.utf8_core.proofs.Bits.{limit_is_small, continues, one_more_byte, below_limit}
use Rattle.utf8_core.proofs.decoding.joined_bits.Goals as goal

pub overflow_mul-code : goal.overflow_mul-code
overflow_mul-code c =
    let small = limit_is_small c.loop-byte.byte-index (omega arith) in
    let below = c.loop-byte.invariant.1 in
    omega (arith, small, below)

pub loop-byte-preserved : goal.loop-byte-preserved
loop-byte-preserved c =
    let bytes = c.args.bytes.now in
    let i = c.loop-byte.byte-index in
    let inside : i < length bytes = c.loop-byte-test.true in
    let byte = continues (get_or bytes i 0) (c.requires.bytes i 0 inside) in
    rw c.from.ensures (one_more_byte c.args.bits bytes i c.loop-byte.code inside c.loop-byte.invariant.0, below_limit i c.loop-byte.code (get_or bytes i 0) c.loop-byte.invariant.1 byte.1)
