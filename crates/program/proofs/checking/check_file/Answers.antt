use Rattle.std.proofs.Common.{rules, arith, ◌≡◌, ℕ, List, Err, refl, ap, ◌∙◌, subst}
use Rattle.program.specs.declared.fault.Fault.TheVariants.{Memory}
use Rattle.program.specs.Faults.{fault_of_file, done_status}
use Rattle.program.specs.Outcomes.{IsChunkIn}
use Rattle.program.proofs.CheckLemmas.{IsCounts, counted, unread_check, stopped_check, memory_check, written_check, with_files_kept, refused_file, refusal_tells}
use Rattle.program.proofs.checking.check_file.Goals as goal

pub returns-in_err-content-clause-check : goal.returns-in_err-content-clause-check
returns-in_err-content-clause-check g c =
    let is : c.from_residual.result ≡ Err (fault_of_file c.in_err-content.field-0.0) = search rules in
    rw (ap done_status is) (unread_check c.args.name.now _ _ _ _ _ _ c.in_err-content.field-0.0 c.in_err-content.ensures.cause c.in_err-content.ensures.absent c.in_err-content.ensures.lacking c.in_err-content.ensures.kept c.in_err-content.ensures.failed)

pub returns-in_err-content-clause-once : goal.returns-in_err-content-clause-once
returns-in_err-content-clause-once g c = omega (arith, c.in_err-content.ensures.cause.once)

pub returns-in_err-checked-clause-check : goal.returns-in_err-checked-clause-check
returns-in_err-checked-clause-check g c =
    let is : c.from_residual-in_err-checked.result ≡ Err c.in_err-checked.field-0.0 = search rules in
    with_files_kept c.args.name.now _ _ _ _ _ _ _ c.in_ok-content.ensures.cause.only c.in_ok-content.ensures.kept (ap done_status is)
    (stopped_check c.args.name.now c.in_ok-content.content.items _ _ _ _ c.in_err-checked.field-0.0 c.in_ok-content.ensures.found (refused_file c.as_slice.ensures.value c.in_err-checked.ensures.refused))

pub returns-in_err-checked-clause-fits : goal.returns-in_err-checked-clause-fits
returns-in_err-checked-clause-fits g c =
    let is : c.from_residual-in_err-checked.result ≡ Err c.in_err-checked.field-0.0 = search rules in
    λ content has. rw is (refusal_tells c.args.name.now c.in_ok-content.content.items content _ c.in_err-checked.field-0.0 c.in_ok-content.ensures.found has (refused_file c.as_slice.ensures.value c.in_err-checked.ensures.refused))

pub returns-in_err-checked-clause-once : goal.returns-in_err-checked-clause-once
returns-in_err-checked-clause-once g c = omega (arith, c.in_ok-content.ensures.cause.once)

pub returns-in_err-text-clause-check : goal.returns-in_err-text-clause-check
returns-in_err-text-clause-check g c =
    let is : c.from_residual-in_err-text.result ≡ Err Memory = search rules in
    with_files_kept c.args.name.now _ _ _ _ _ _ _ c.in_ok-content.ensures.cause.only c.in_ok-content.ensures.kept (ap done_status is)
    (memory_check c.args.name.now c.in_ok-content.content.items _ _ _ _ c.in_ok-content.ensures.found)

pub returns-in_err-text-clause-once : goal.returns-in_err-text-clause-once
returns-in_err-text-clause-once g c = omega (arith, c.in_ok-content.ensures.cause.once)

pub returns-clause-check : goal.returns-clause-check
returns-clause-check g c =
    let code : IsChunkIn c.in_ok-content.content.items c.in_ok-checked.checked = subst (λ (s : List ℕ). IsChunkIn s c.in_ok-checked.checked) c.as_slice.ensures.value c.in_ok-checked.ensures.code in
    let counts : IsCounts c.in_ok-content.content.items c.as_slice-2.result.now = counted c.in_ok-content.content.items c.as_slice-2.result.now c.in_ok-checked.checked code (c.as_slice-2.ensures.value ∙ c.in_ok-text.ensures) in
    with_files_kept c.args.name.now _ _ _ _ _ _ _ c.in_ok-content.ensures.cause.only c.in_ok-content.ensures.kept refl
    (written_check c.args.name.now c.in_ok-content.content.items c.as_slice-2.result.now _ _ _ _ _ _ c.write_output.result c.in_ok-content.ensures.found counts c.write_output.ensures.cause c.write_output.ensures.written c.write_output.ensures.front c.write_output.ensures.device)

pub returns-clause-once : goal.returns-clause-once
returns-clause-once g c = omega (arith, c.in_ok-content.ensures.cause.only, c.write_output.ensures.cause.once)
