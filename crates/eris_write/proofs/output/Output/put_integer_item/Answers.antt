use Rattle.std.proofs.Common.{◌≡◌, None, rules}
use Rattle.std.specs.Int.{w64, cast_unsigned}
use Rattle.byteorder.specs.Endian.{little_bytes}
use Rattle.eris_write.proofs.Putting.{on_ok, puts_both, puts_is}
use Rattle.eris_write.proofs.output.Output.put_integer_item.Goals as goal

pub returns : goal.returns
returns c =
    let e : c.to_le_bytes.result ≡ little_bytes 8 (cast_unsigned w64 c.args.n) = search rules in
    on_ok c.put.result c.put.ensures (λ h. puts_both c.in_ok-put_byte.ensures (puts_is c.put_byte.new.self c.put.new.self None c.to_le_bytes.result (little_bytes 8 (cast_unsigned w64 c.args.n)) e h))
