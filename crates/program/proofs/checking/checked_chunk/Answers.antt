use Rattle.std.proofs.Common.{rules, ◌≡◌, Err, subst, sym}
use Rattle.code_core.specs.Check.{IsChecked}
use Rattle.program.specs.Faults.{fault_of_chunk, fault_of_check}
use Rattle.program.specs.Outcomes.{IsChunkIn}
use Rattle.program.proofs.ChunkLemmas.{no_chunk, unchecked, checked}
use Rattle.program.proofs.checking.checked_chunk.Goals as goal

pub returns-in_err-proto-clause-refused : goal.returns-in_err-proto-clause-refused
returns-in_err-proto-clause-refused c =
    let is : c.from_residual.result ≡ Err (fault_of_chunk c.in_err-proto.field-0.0) = search rules in
    rw is (no_chunk c.args.bytes.now c.in_err-proto.field-0.0 c.in_err-proto.ensures.only c.in_err-proto.ensures.kind)

pub returns-in_err-checked-clause-refused : goal.returns-in_err-checked-clause-refused
returns-in_err-checked-clause-refused c =
    let is : c.from_residual-in_err-checked.result ≡ Err (fault_of_check c.in_err-checked.field-0.0) = search rules in
    let found = c.in_ok-proto.ensures.found in
    rw is (unchecked c.args.bytes.now c.in_ok-proto.proto found.0 c.in_err-checked.field-0.0 found.1 c.in_ok-proto.ensures.only c.in_err-checked.ensures)

pub returns-clause-code : goal.returns-clause-code
returns-clause-code c =
    let found = c.in_ok-proto.ensures.found in
    let same : c.in_ok-checked.checked ≡ c.in_ok-proto.proto = c.in_ok-checked.ensures in
    let own : IsChunkIn c.args.bytes.now c.in_ok-proto.proto = checked c.args.bytes.now c.in_ok-proto.proto found.0 found.1 c.in_ok-proto.ensures.only (subst IsChecked same c.rules_hold.ensures) in
    subst (λ code. IsChunkIn c.args.bytes.now code) (sym same) own
