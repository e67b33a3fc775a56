-- A call of `resume` after calls on a script writes the rest of what the script means.
use Rattle.std.proofs.Common.{◌≡◌, ◌≢◌, ℕ, ◌≤◌, true, List, [], ◌∷◌, ◌++◌, length, Option, Some, refl, ap, sym, subst, ◌∙◌, append_assoc}
use Rattle.std.specs.Option.{option_map}
use Rattle.int_core.specs.Value.{greatest_string}
use Rattle.io_edge.specs.Lines.{lines_of}
use Rattle.machine_sound.proofs.Lists.{each_front, each_append}
use Rattle.source_builds.proofs.Lookups.{read_some}
use Rattle.machine_runs.specs.Runs.{Close, has_returned, has_failed, has_spent, is_suspended}
use Rattle.program.specs.Meaning.{has_ended}
use Rattle.machine_runs.specs.Laws.{AreShort}
use Rattle.program.specs.Sessions.{status_of_close}
use Rattle.command_words.specs.Words.{resume}
use Rattle.calls_mean.specs.Calls.{Called, Resumed, last_call, saving_call, Calls, first_call, SavedCalls, first_saves, next_saves}
use Rattle.calls_mean.specs.Law.{all_lines, CallsMean}
use Rattle.calls_mean.specs.Resumes.{IsSavedByCall, by_run, by_resume, SavedGoesOn, SavedIsUnchanged, ResumesAsMeant}
use Rattle.calls_mean.proofs.Meant.{each_back}

abbrev Short : List ℕ → Type 0
Short line = length line ≤ greatest_string

-- lines

pub front_short : (texts : List (List ℕ)) (text : List ℕ) → AreShort (all_lines (texts ++ text ∷ [])) → AreShort (all_lines texts)
front_short [] text h = λ i line e. absurd (cc)
front_short (t ∷ texts) text h = each_append Short (lines_of t) (all_lines texts) (each_front Short (lines_of t) (all_lines (texts ++ text ∷ [])) h)
    (front_short texts text (each_back Short (lines_of t) (all_lines (texts ++ text ∷ [])) h))

pub last_short : (texts : List (List ℕ)) (text : List ℕ) → AreShort (all_lines (texts ++ text ∷ [])) → AreShort (lines_of text)
last_short [] text h = each_front Short (lines_of text) [] h
last_short (t ∷ texts) text h = last_short texts text (each_back Short (lines_of t) (all_lines (texts ++ text ∷ [])) h)

-- calls

saved_by : (budget : ℕ) (name content : List ℕ) (texts : List (List ℕ)) (printed session : List ℕ) → length name ≤ 65536 → AreShort (all_lines texts) → SavedCalls budget name content texts printed session → IsSavedByCall session
saved_by budget name content _ printed session short lines (first_saves text _ image _ call holds) =
    by_run name budget image short (record { files = call.files; input = call.input; out = call.out; last = call.last; is_call = call.is_call; text = text; reads = call.reads; lines = last_short [] text lines; holds = holds })
saved_by budget name content _ _ next short lines (next_saves texts printed session other text more image _ before call holds) =
    by_resume other budget image (record { files = call.files; input = call.input; out = call.out; last = call.last; is_call = call.is_call; text = text; reads = call.reads; lines = last_short texts text lines; holds = holds })

-- the calls up to one that saved, and those from there on
joined : (budget : ℕ) (name content : List ℕ) (texts : List (List ℕ)) (printed session : List ℕ) (later : List (List ℕ)) (more : List ℕ) (status : ℕ) → SavedCalls budget name content texts printed session
    → Resumed budget session later more status → Calls budget name content (texts ++ later) (printed ++ more) status
joined budget name content _ printed session later more status (first_saves text _ image _ call holds) rest = first_call text printed image session later more status call holds rest
joined budget name content _ _ next later more status (next_saves texts printed session other text own image _ before call holds) rest =
    let all = joined budget name content texts printed session (text ∷ later) (own ++ more) status before (saving_call session other text own image next later more status call holds rest) in
    subst (λ ts. Calls budget name content ts ((printed ++ own) ++ more) status) (sym (append_assoc texts (text ∷ []) later))
    (subst (λ bytes. Calls budget name content (texts ++ text ∷ later) bytes status) (sym (append_assoc printed own more)) all)

ended_so : (c : Close) → has_ended (status_of_close c) ≡ true
ended_so has_returned = refl
ended_so has_failed = refl
ended_so is_suspended = refl
ended_so has_spent = refl

pub resumes_as_meant : SavedGoesOn → SavedIsUnchanged → CallsMean → ResumesAsMeant
resumes_as_meant on unchanged mean name content budget texts printed session saved script short text before out status lines had call =
    let never : status ≢ 12 = unchanged name content budget texts printed session saved short (front_short texts text lines) call.name budget call.save call.files call.input out call.last status call.is_call call.holds text call.reads (last_short texts text lines) in
    let some = read_some (on session (saved_by budget name content texts printed session short (front_short texts text lines) saved) budget text out status call (λ named. never)) in
    let r = some.2 in
    let written : out.content' ≡ Some (before ++ r.run.printed) = r.writes ∙ ap (λ (o : Option (List ℕ)). option_map (λ bytes. bytes ++ r.run.printed) o) had in
    let own : Called (resume call.name budget call.save) call.name session text r.run.printed status
    = record { files = call.files; input = call.input; out = out; last = call.last; is_call = call.is_call; holds = call.holds; reads = call.reads; before = before; had = had; has = written } in
    let rest : Resumed budget session (text ∷ []) r.run.printed status = last_call session call.name text r.run.printed call.save status own (subst (λ s. has_ended s ≡ true) (sym r.answers) (ended_so r.run.close)) in
    let m = mean name content budget (texts ++ text ∷ []) (printed ++ r.run.printed) status
    (record { calls = joined budget name content texts printed session (text ∷ []) r.run.printed status saved rest; is_script = script; short = short; lines = lines }) in
    (r.run.printed, written, m)
