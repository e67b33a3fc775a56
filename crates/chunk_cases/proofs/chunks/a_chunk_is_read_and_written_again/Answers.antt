use Rattle.std.proofs.Common.{◌≡◌, subst, sym}
use Rattle.code_core.specs.Prototype.{Prototype}
use Rattle.code_core.specs.Writable.{Writable}
use Rattle.chunk_format.proofs.Examples.{print_hi, print_hi_is_writable, begins_with_print_hi}
use Rattle.chunk_cases.proofs.chunks.a_chunk_is_read_and_written_again.Goals as goal

-- what was read is the prototype that the chunk spells
pub write_chunk-requires : goal.write_chunk-requires
write_chunk-requires g c =
    let same : c.in_ok-proto.proto ≡ print_hi = c.in_ok-proto.ensures.only print_hi 80 begins_with_print_hi in
    subst (λ (p : Prototype). Writable p) (sym same) print_hi_is_writable
