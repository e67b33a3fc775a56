use Rattle.std.proofs.Common.{rules, arith, ◌≡◌, ℕ, List, Err, ap, ◌∙◌, ◌⊎◌, subst}
use Rattle.std.specs.Option.{option_map}
use Rattle.io_edge.specs.Content.{with_file}
use Rattle.program.specs.declared.fault.Fault.TheVariants.{Device, Memory}
use Rattle.program.specs.Faults.{fault_of_file, done_status}
use Rattle.program.specs.Outcomes.{IsChunk, IsNoScriptFor}
use Rattle.program.proofs.CompileLemmas.{unread_compilation, stopped_compilation, put_compilation, unput_since, with_same_files}
use Rattle.program.proofs.compiling.compile_file.Goals as goal

pub returns-in_err-content-clause-call : goal.returns-in_err-content-clause-call
returns-in_err-content-clause-call g c =
    let is : c.from_residual.result ≡ Err (fault_of_file c.in_err-content.field-0.0) = search rules in
    rw (ap done_status is) (unread_compilation c.args.script.now c.args.chunk.now c.args.strip _ _ _ _ c.in_err-content.field-0.0 c.in_err-content.ensures.cause c.in_err-content.ensures.absent c.in_err-content.ensures.lacking c.in_err-content.ensures.kept c.in_err-content.ensures.failed)

pub returns-in_err-content-clause-once : goal.returns-in_err-content-clause-once
returns-in_err-content-clause-once g c = omega (arith, c.in_err-content.ensures.cause.once)

pub returns-in_err-bytes-clause-call : goal.returns-in_err-bytes-clause-call
returns-in_err-bytes-clause-call g c =
    let is : c.from_residual-in_err-bytes.result ≡ Err c.in_err-bytes.field-0.0 = search rules in
    let answers : IsNoScriptFor c.in_ok-content.content.items c.in_err-bytes.field-0.0 ⊎ (c.in_err-bytes.field-0.0 ≡ Memory) = subst (λ (s : List ℕ). IsNoScriptFor s c.in_err-bytes.field-0.0 ⊎ (c.in_err-bytes.field-0.0 ≡ Memory)) c.as_slice.ensures.value c.in_err-bytes.ensures.refused in
    with_same_files c.args.script.now c.args.chunk.now c.args.strip _ _ _ _ _ _ c.in_ok-content.ensures.cause.only c.in_ok-content.ensures.kept (ap done_status is)
    (stopped_compilation c.args.script.now c.args.chunk.now c.args.strip c.in_ok-content.content.items _ _ c.in_err-bytes.field-0.0 c.in_ok-content.ensures.found answers)

pub returns-in_err-bytes-clause-once : goal.returns-in_err-bytes-clause-once
returns-in_err-bytes-clause-once g c = omega (arith, c.in_ok-content.ensures.cause.once)

pub returns-clause-call : goal.returns-clause-call
returns-clause-call g c =
    let script = c.args.script.now in
    let strip = c.args.strip in
    let made : IsChunk script strip c.as_slice.result.now c.in_ok-bytes.bytes.items = c.in_ok-bytes.ensures.chunk in
    let own : IsChunk script strip c.in_ok-content.content.items c.in_ok-bytes.bytes.items = subst (λ (s : List ℕ). IsChunk script strip s c.in_ok-bytes.bytes.items) c.as_slice.ensures.value made in
    let bytes : IsChunk script strip c.in_ok-content.content.items c.as_slice-2.result.now = rw c.as_slice-2.ensures.value own in
    put_compilation script c.args.chunk.now strip c.in_ok-content.content.items c.as_slice-2.result.now _ _ _ _ c.in_ok-content.ensures.found bytes
    (c.in_ok-put.ensures.cause.only ∙ c.in_ok-content.ensures.cause.only)
    (c.in_ok-put.ensures.replaced ∙ ap (option_map (λ files. with_file files c.args.chunk.now c.as_slice-2.result.now)) c.in_ok-content.ensures.kept)

pub returns-clause-once : goal.returns-clause-once
returns-clause-once g c = omega (arith, c.in_ok-content.ensures.cause.only, c.in_ok-put.ensures.cause.only)

pub returns-in_err-put-clause-call : goal.returns-in_err-put-clause-call
returns-in_err-put-clause-call g c =
    let is : c.from_residual-in_err-put.result ≡ Err Device = search rules in
    let script = c.args.script.now in
    let strip = c.args.strip in
    let made : IsChunk script strip c.as_slice.result.now c.in_ok-bytes.bytes.items = c.in_ok-bytes.ensures.chunk in
    let own : IsChunk script strip c.in_ok-content.content.items c.in_ok-bytes.bytes.items = subst (λ (s : List ℕ). IsChunk script strip s c.in_ok-bytes.bytes.items) c.as_slice.ensures.value made in
    rw (ap done_status is) (unput_since script c.args.chunk.now strip c.in_ok-content.content.items c.in_ok-bytes.bytes.items _ _ _ _ _ _ c.in_ok-content.ensures.cause.only c.in_ok-content.ensures.kept c.in_ok-content.ensures.found own
    c.in_err-put.ensures.cause c.in_err-put.ensures.failed)

pub returns-in_err-put-clause-once : goal.returns-in_err-put-clause-once
returns-in_err-put-clause-once g c = omega (arith, c.in_ok-content.ensures.cause.only, c.in_err-put.ensures.cause.once)
