use Rattle.std.proofs.Common.{◌≡◌, ℕ, subst, sym, ap}
use Rattle.code_core.specs.Prototype.{Prototype}
use Rattle.code_core.specs.Writable.{Writable}
use Rattle.chunk_format.proofs.Examples.{print_hi, print_hi_is_writable, begins_with_function}
use Rattle.chunk_cases.proofs.chunks.a_function_is_read_and_written_again.Goals as goal

pub write_function-requires : goal.write_function-requires
write_function-requires g c =
    let pair : ◌≡◌ {A = Prototype × ℕ} (c.in_ok-proto.proto, c.in_ok-proto.taken) (print_hi, 48) = c.in_ok-proto.ensures.only print_hi 48 begins_with_function in
    subst (λ (p : Prototype). Writable p) (sym (ap (λ q. q.0) pair)) print_hi_is_writable
