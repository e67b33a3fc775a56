use Rattle.std.proofs.Common.{◌≤◌, arith}
use Rattle.std.specs.List.{prefix_len}
use Rattle.library_rows.specs.Codepoints.{is_continuation}
use Rattle.utf8_core.proofs.Bits.{front_passes}
use Rattle.utf8_core.proofs.decoding.decoded_by.Goals as goal

pub joined_bits-code-requires-clause-bytes : goal.joined_bits-code-requires-clause-bytes
joined_bits-code-requires-clause-bytes c =
    let h : c.args.lead.more ≤ prefix_len is_continuation c.args.text.now = omega arith in
    front_passes is_continuation c.args.text.now c.args.lead.more h
