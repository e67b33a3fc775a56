-- What standard error is told.
use Rattle.std.proofs.Common.{Result, arith, Ok, Err, OnErr, OnOk, ◌≡◌, ℕ, List, [], ◌++◌, Option, Some, None, true, refl, sym, ap, ◌∙◌, append-nil, append_assoc}
use Rattle.std.specs.Option.{option_map}
use Rattle.std.specs.Prelude.{is_err}
use Rattle.io_edge.specs.declared.fault.Failed.{Failed}
use Rattle.io_edge.specs.Causes.{HasCause}
use Rattle.io_edge.specs.Content.{FileMap, GrowsByFront}
use Rattle.command_words.specs.Words.{Command}
use Rattle.program.specs.declared.fault.Fault.{Fault}
use Rattle.program.proofs.DeviceLemmas.{grows_by_all, grows_by_none}
use Rattle.program.specs.Report.{FitsFor, LimitFitsFor, none, of_fault, is_quiet, IsReported, status_of_fault, line_of_fault}

pub same_text : (written : Option (List ℕ)) → written ≡ option_map (λ text. text ++ []) written
same_text (Some text) = ap Some (sym (append-nil text))
same_text None = refl

pub reported : (command : Option Command) (files : Option FileMap) (left : Option (List ℕ)) (reason : Fault) (k k' : ℕ) (written written' : Option (List ℕ)) (status : ℕ) (result : Result (Unit {0}) Failed) → FitsFor command files reason → LimitFitsFor command left reason → status ≡ status_of_fault reason → HasCause k k' (is_err result) → OnOk result (written' ≡ option_map (λ text. text ++ line_of_fault reason) written) → OnErr result (GrowsByFront (line_of_fault reason) written written') → IsReported command files left (record { faults = k; faults' = k'; content = written; content' = written' }) status
reported command files left reason k k' written written' status (Ok done) fits limits same cause wrote front =
    record { line = line_of_fault reason; line_is = rw same (of_fault reason fits limits); written = λ stays. wrote; front = grows_by_all (line_of_fault reason) written written' wrote; once = cause.once }
reported command files left reason k k' written written' status (Err error) fits limits same cause wrote front =
    record { line = line_of_fault reason; line_is = rw same (of_fault reason fits limits); written = λ stays. absurd (stays cause.rose); front = front; once = cause.once }

pub unreported : (command : Option Command) (files : Option FileMap) (left : Option (List ℕ)) (k : ℕ) (written : Option (List ℕ)) (status : ℕ) → is_quiet status ≡ true → IsReported command files left (record { faults = k; faults' = k; content = written; content' = written }) status
unreported command files left k written status quiet = record { line = []; line_is = none status quiet; written = λ stays. same_text written; front = grows_by_none [] written; once = omega arith }

-- what is so at a fault
pub at_fault : {A E P : Type 0} (r : Result A E) → P → OnErr r P
at_fault (Ok x) h = tt
at_fault (Err e) h = h

-- one text written after another
pub then_text : (before between after : Option (List ℕ)) (a b : List ℕ) → between ≡ option_map (λ text. text ++ a) before → after ≡ option_map (λ text. text ++ b) between → after ≡ option_map (λ text. text ++ (a ++ b)) before
then_text (Some text) between after a b first second = second ∙ ap (option_map (λ text. text ++ b)) first ∙ ap Some (append_assoc text a b)
then_text None between after a b first second = second ∙ ap (option_map (λ text. text ++ b)) first
