-- What a call tells of the session that it ran: how it ended, and what is left of it.
use Rattle.std.proofs.Common.{◌≡◌, ℕ, true, false, List, ◌++◌, Option, Some, None, refl, ap, sym, subst, ◌∙◌, arith}
use Rattle.std.specs.Option.{option_map}
use Rattle.std.specs.Str.{bytes_eq}
use Rattle.std.proofs.lemmas.List.{append_cancel_left}
use Rattle.std.proofs.lemmas.Map.{update_same}
use Rattle.std.proofs.lemmas.Slice.Eq.{bytes_eq-Decides}
use Rattle.list_laws.proofs.Items.{some_same}
use Rattle.code_core.specs.Prototype.{Prototype}
use Rattle.io_edge.specs.Content.{FileMap, with_file}
use Rattle.io_edge.specs.Lines.{lines_of}
use Rattle.machine_runs.specs.Runs.{Close, has_returned, has_failed, has_spent, is_suspended, Run}
use Rattle.sessions_join.specs.Sessions.{IsSaved}
use Rattle.program.specs.declared.session.Session.{Session}
use Rattle.program.specs.Devices.{Device, Holds}
use Rattle.program.specs.Meaning.{has_ended}
use Rattle.program.specs.Sessions as session
use Rattle.program.specs.Sessions.{functions_of, status_of_close, IsKept, IsLeft, Ends}
use Rattle.program.proofs.Endings.{told_lines, not_ended}

-- the run of a call that came to an end
pub record Closed (prelude : Prototype) (Runs : List (List ℕ) → Run → Type 0) (save : Option (List ℕ)) (files : Device FileMap) (text printed : List ℕ) (status : ℕ) : Type 0 where
  pub run : Run
  pub runs : Runs (lines_of text) run
  pub prints : run.printed ≡ printed
  pub left : IsLeft prelude run save files status

-- the output had these bytes, and so much is written after them
grown : (before printed more : List ℕ) (had has : Option (List ℕ)) → had ≡ Some before → has ≡ Some (before ++ printed) → has ≡ option_map (λ text. text ++ more) had → more ≡ printed
grown before printed more had has is now by =
    let both : Some (before ++ more) ≡ Some (before ++ printed) = sym (by ∙ ap (λ (o : Option (List ℕ)). option_map (λ text. text ++ more) o) is) ∙ now in
    append_cancel_left before more printed (some_same (before ++ more) (before ++ printed) both)

pub closed_so : (prelude : Prototype) (Runs : List (List ℕ) → Run → Type 0) (save : Option (List ℕ)) (files : Device FileMap) (input out : Device (List ℕ)) (last : Option Session) (status : ℕ) (text before printed : List ℕ)
    → Ends prelude Runs save files input out last status → has_ended status ≡ true → input.content ≡ Some text → out.content ≡ Some before → out.content' ≡ Some (before ++ printed)
    → Closed prelude Runs save files text printed status
closed_so prelude Runs save files input out last status text before printed (session.closed lines are run runs written left handed) ended told had has =
    record {
      run = run;
      runs = subst (λ (l : List (List ℕ)). Runs l run) (told_lines input.content text lines are told) runs;
      prints = grown before printed run.printed out.content out.content' had has written;
      left = left;
    }
closed_so prelude Runs save files input out last status text before printed (session.failed rose is) ended told had has = absurd (not_ended status 6 is refl ended)
closed_so prelude Runs save files input out last status text before printed (session.past_limits past is) ended told had has = absurd (not_ended status 7 is refl ended)
closed_so prelude Runs save files input out last status text before printed (session.no_memory is) ended told had has = absurd (not_ended status 9 is refl ended)

-- where it is 3 and a file is named, that file holds the bytes of the session

suspended_so : (c : Close) → status_of_close c ≡ 3 → c ≡ is_suspended
suspended_so has_returned is = let k : 0 ≡ 3 = is in absurd (omega (arith, k))
suspended_so has_failed is = let k : 1 ≡ 3 = is in absurd (omega (arith, k))
suspended_so is_suspended is = refl
suspended_so has_spent is = let k : 4 ≡ 3 = is in absurd (omega (arith, k))

put_so : (files files' : Option FileMap) (image bytes next : List ℕ) → files' ≡ option_map (λ held. with_file held image bytes) files → Holds files' image next → next ≡ bytes
put_so (Some held) files' image bytes next is holds =
    let there : with_file held image bytes image ≡ Some next = subst (λ (f : Option FileMap). Holds f image next) is holds in
    some_same next bytes (sym there ∙ update_same bytes_eq held image (Some bytes) image ((bytes_eq-Decides image image).1 refl))
put_so None files' image bytes next is holds = absurd (subst (λ (f : Option FileMap). Holds f image next) is holds)

kept_so : (prelude : Prototype) (run : Run) (files : Device FileMap) (save : Option (List ℕ)) (image next : List ℕ) → save ≡ Some image → IsKept prelude run files save → run.close ≡ is_suspended → Holds files.content' image next
    → IsSaved (functions_of prelude) run.last next
kept_so prelude run files _ image next named (session.unnamed same) waits holds = absurd (cc)
kept_so prelude run files _ image next named (session.ended other ends same) waits holds = absurd (ends waits)
kept_so prelude run files _ image next named (session.saved other bytes is written size held put) waits holds =
    let names : other ≡ image = some_same other image named in
    let there : next ≡ bytes = put_so files.content files.content' image bytes next (put ∙ ap (λ (n : List ℕ). option_map (λ held. with_file held n bytes) files.content) names) holds in
    subst (IsSaved (functions_of prelude) run.last) (sym there) (record { written = written; size = size; kept = held })

pub saved_so : (prelude : Prototype) (run : Run) (files : Device FileMap) (image next : List ℕ) (status : ℕ) → IsLeft prelude run (Some image) files status → status ≡ 3 → Holds files.content' image next
    → (run.close ≡ is_suspended) × IsSaved (functions_of prelude) run.last next
saved_so prelude run files image next _ (session.kept kept) is holds =
    let waits : run.close ≡ is_suspended = suspended_so run.close is in
    (waits, kept_so prelude run files (Some image) image next refl kept waits holds)
saved_so prelude run files image next _ (session.too_large named waits large) is holds = let k : 7 ≡ 3 = is in absurd (omega (arith, k))
saved_so prelude run files image next _ (session.changed named waits other) is holds = let k : 12 ≡ 3 = is in absurd (omega (arith, k))
saved_so prelude run files image next _ (session.unwritten named waits rose) is holds = let k : 6 ≡ 3 = is in absurd (omega (arith, k))
saved_so prelude run files image next _ (session.no_memory named waits) is holds = let k : 9 ≡ 3 = is in absurd (omega (arith, k))
