-- How a session ends that was fed and left.
use Rattle.std.proofs.Common.{Err, ◌≡◌, ◌≢◌, ◌⊎◌, inl, inr, ℕ, ◌<◌, List, [], ◌∷◌, ◌++◌, length, true, false, Option, Some, None, IfSome, IsSome, is_some, refl, sym, ap, subst, ◌∙◌, arith, ◌≤◌, ◌^◌}
use Rattle.std.specs.Prelude.{IsErrOf, IsSomeAnd}
use Rattle.std.specs.Option.{option_map}
use Rattle.code_core.specs.Prototype.{Prototype, list_of}
use Rattle.io_edge.specs.Causes.{HasCause}
use Rattle.io_edge.specs.Content.{FileMap, GrowsByFront}
use Rattle.io_edge.specs.Lines.{Unread, ahead, lines_of}
use Rattle.prelude_code.specs.Prelude.{IsPreludeCode}
use Rattle.machine_core.specs.World.{World}
use Rattle.machine_core.specs.Moves.{Row}
use Rattle.machine_sound.specs.Sound.{Each}
use Rattle.machine_runs.specs.Opening.{handed_line}
use Rattle.machine_runs.specs.Runs.{Close, has_returned, has_failed, has_spent, is_suspended, Run, CodeRun, CodeOnward, suspends}
use Rattle.machine_runs.specs.Laws.{RunIsOne}
use Rattle.images_stand.specs.Sessions.{IsKept as IsHeldWhole}
use Rattle.lua_heap.specs.declared.world.World.{World as Memory}
use Rattle.lua_heap.specs.Plain.{plain}
use Rattle.image_bytes.specs.Bytes.{image_format}
use Rattle.session_images.specs.Prelude.{HasPrelude}
use Rattle.session_images.specs.Saved.{session_image}
use Rattle.session_images.specs.Stored.{root_count, IsWrittenAs}
use Rattle.lua_feed.specs.Faults.{is_input_fault, is_output_fault}
use Rattle.lua_feed.specs.Feeding.{IsLast, IsFed, IsBrokenOff, IsCutOff, IsFedTo, IsFedFront, OnlyGrows}
use Rattle.lua_feed.specs.Limits.{usable_lines, passes_limits}
use Rattle.lua_feed.specs.declared.fault.FeedFault.{FeedFault}
use Rattle.lua_feed.specs.declared.fault.FeedFault.TheVariants as feeding
use Rattle.lua_feed.specs.declared.feeding.Close.{Close as Kept}
use Rattle.program.specs.declared.session.Session.{Session}
use Rattle.program.specs.declared.session.SessionState.{SessionState}
use Rattle.program.specs.Devices.{Device, RoseIn, GrewIn, IsUntouched, KeepsOthers}
use Rattle.program.specs.Faults.{fault_of_feeding}
use Rattle.program.specs.Meaning.{has_ended}
use Rattle.program.specs.Outcomes as by
use Rattle.program.specs.Outcomes.{IsLeftBy}
use Rattle.program.specs.Report.{status_of_fault}
use Rattle.program.specs.Sessions as session
use Rattle.program.specs.Sessions.{functions_of, status_of_close, state_of, IsSessionOf, IsTooLarge, HasChanged, IsKept, IsCutShort, IsLeft, Ends}
use Rattle.program.proofs.DeviceLemmas.{grows_by_all, only_front, same_telling, kept_others, replaces_others}

-- what is known of a session that was fed, whatever its end is
pub record Ran (prelude : Prototype) (Runs : List (List ℕ) → Run → Type 0) (save : Option (List ℕ)) (files : Device FileMap) (input out : Device (List ℕ)) (last : Option Session) (status : ℕ) : Type 0 where
  pub ends : Ends prelude Runs save files input out last status
  pub does : (text : List ℕ) (run : Run) → input.content ≡ Some text → Runs (lines_of text) run → ¬ (RoseIn files) → ¬ (RoseIn input) → ¬ (RoseIn out) → status ≢ 7 → status ≢ 9 → (IsSome save → status ≢ 12)
      → (status ≡ status_of_close run.close) × (out.content' ≡ option_map (λ before. before ++ run.printed) out.content) × IsKept prelude run files save
  pub unchanged : ((lines : List (List ℕ)) (run : Run) → Each (λ (line : List ℕ). length line ≤ 2 ^ 20) lines → Runs lines run → HasPrelude (functions_of prelude) run.last) → status ≢ 12
  pub session : (text : List ℕ) (run : Run) → input.content ≡ Some text → Runs (lines_of text) run → has_ended status ≡ true → IsSomeAnd last (IsSessionOf run)
  pub limit : (text : List ℕ) (run : Run) → input.content ≡ Some text → Runs (usable_lines 0 text) run → run.close ≡ is_suspended → passes_limits 0 text ≡ true → ¬ (RoseIn files) → ¬ (RoseIn input) → ¬ (RoseIn out) → status ≢ 9
      → (status ≡ 7) × (out.content' ≡ option_map (λ before. before ++ run.printed) out.content) × (files.content' ≡ files.content)
  pub fault : GrewIn files ⊎ (GrewIn input ⊎ GrewIn out) → status ≡ 6
  pub broken : GrewIn input → IsBrokenOff Runs 0 input.content out.content out.content'
  pub front : (text : List ℕ) (run : Run) → input.content ≡ Some text → Runs (usable_lines 0 text) run → GrowsByFront run.printed out.content out.content'
  pub grows : OnlyGrows out.content out.content'
  pub others : KeepsOthers save files
  pub same : (status ≡ 6 → ¬ (RoseIn files)) → (status ≡ 3 → save ≡ None) → files.content' ≡ files.content

-- what is left of a run that closed

pub record Leaves (prelude : Prototype) (run : Run) (save : Option (List ℕ)) (files : Device FileMap) (status : ℕ) : Type 0 where
  pub left : IsLeft prelude run save files status
  pub keeps : ¬ (RoseIn files) → status ≢ 7 → status ≢ 9 → (IsSome save → status ≢ 12) → (status ≡ status_of_close run.close) × IsKept prelude run files save
  pub unchanged : (run.close ≡ is_suspended → HasPrelude (functions_of prelude) run.last) → status ≢ 12
  pub fault : GrewIn files → status ≡ 6
  pub others : KeepsOthers save files
  pub same : (status ≡ 6 → ¬ (RoseIn files)) → (status ≡ 3 → save ≡ None) → files.content' ≡ files.content

pub not_12 : (c : Close) → status_of_close c ≢ 12
not_12 has_returned is = let k : 0 ≡ 12 = is in absurd (omega (arith, k))
not_12 has_failed is = let k : 1 ≡ 12 = is in absurd (omega (arith, k))
not_12 is_suspended is = let k : 3 ≡ 12 = is in absurd (omega (arith, k))
not_12 has_spent is = let k : 4 ≡ 12 = is in absurd (omega (arith, k))

-- the prelude is the same whatever is left of the budget
prelude_there : (prelude : Prototype) (W : Memory) (left : ℕ) → HasPrelude (functions_of prelude) (plain W left) → HasPrelude (functions_of prelude) (plain W 0)
prelude_there prelude W left h = record {
  known = record { number = h.known.number; names = h.known.names; functions = h.known.functions };
  untouched = record { table = h.untouched.table; cell = h.untouched.cell; apart = h.untouched.apart };
}

module _ (prelude : Prototype) (is_prelude : IsPreludeCode prelude) (save : Option (List ℕ)) (files : Device FileMap) (W : Memory) (run : Run) (last : IsLast run.last W) where
  ended_kept : (save : Option (List ℕ)) → run.close ≢ is_suspended → files.content' ≡ files.content → IsKept prelude run files save
  ended_kept None ends same = session.unnamed same
  ended_kept (Some image) ends same = session.ended image ends same

  leaves : (close : Close) (status : ℕ) → run.close ≡ close → IsLeftBy W close save files status → Leaves prelude run save files status
  leaves close _ closes (by.ended ends still) =
      let kept : IsKept prelude run files save = ended_kept save (λ e. ends (sym closes ∙ e)) still.unwritten in
      record {
        left = subst (λ c. IsLeft prelude run save files (status_of_close c)) closes (session.kept kept);
        keeps = λ calm within ample unchanged. (ap status_of_close (sym closes), kept);
        unchanged = λ there. not_12 close;
        fault = λ grew. absurd (omega (arith, still.no_fault, grew));
        others = kept_others save files (same_telling files.content files.content' still.unwritten);
        same = λ calm unnamed. still.unwritten;
      }
  leaves close _ closes (by.unnamed waits none still) =
      let is : run.close ≡ is_suspended = closes ∙ waits in
      let kept : IsKept prelude run files save = subst (IsKept prelude run files) (sym none) (session.unnamed still.unwritten) in
      record {
        left = subst (IsLeft prelude run save files) (ap status_of_close is) (session.kept kept);
        keeps = λ calm within ample unchanged. (ap status_of_close (sym is), kept);
        unchanged = λ there. not_12 is_suspended;
        fault = λ grew. absurd (omega (arith, still.no_fault, grew));
        others = kept_others save files (same_telling files.content files.content' still.unwritten);
        same = λ calm unnamed. still.unwritten;
      }
  leaves close _ closes (by.saved image bytes waits named image_of still put) =
      let is : run.close ≡ is_suspended = closes ∙ waits in
      let written : IsWrittenAs (functions_of prelude) run.last bytes = subst (λ V. IsWrittenAs (functions_of prelude) V bytes) (sym last.is) (image_of.written last.left (list_of prelude.inner) is_prelude.functions) in
      let kept : IsKept prelude run files save = subst (IsKept prelude run files) (sym named) (session.saved image bytes is written image_of.size (subst IsHeldWhole (sym last.is) (image_of.kept last.left)) put) in
      record {
        left = subst (IsLeft prelude run save files) (ap status_of_close is) (session.kept kept);
        keeps = λ calm within ample unchanged. (ap status_of_close (sym is), kept);
        unchanged = λ there. not_12 is_suspended;
        fault = λ grew. absurd (omega (arith, still, grew));
        others = subst (λ s. KeepsOthers s files) (sym named) (replaces_others image bytes files.content files.content' put);
        same = λ calm unnamed. absurd (let bad : None ≡ Some image = sym (unnamed refl) ∙ named in cc);
      }
  leaves close _ closes (by.too_large image waits named large still) =
      record {
        left = session.too_large (ap is_some named) (closes ∙ waits) (record { more = λ R. subst (λ V. 2147483647 < length ((image_format R root_count).spell (session_image V))) (sym last.is) (large.more last.left R) });
        keeps = λ calm within ample unchanged. absurd (within refl);
        unchanged = λ there is. let k : 7 ≡ 12 = is in absurd (omega (arith, k));
        fault = λ grew. absurd (omega (arith, still.no_fault, grew));
        others = kept_others save files (same_telling files.content files.content' still.unwritten);
        same = λ calm unnamed. still.unwritten;
      }
  leaves close _ closes (by.touched image waits named other still) =
      let touched : HasChanged prelude run.last
      = record { is = λ h. other.none (list_of prelude.inner) is_prelude.functions (prelude_there prelude W last.left (subst (HasPrelude (functions_of prelude)) last.is h)) } in
      record {
        left = session.changed (ap is_some named) (closes ∙ waits) touched;
        keeps = λ calm within ample unchanged. absurd (unchanged (ap is_some named) refl);
        unchanged = λ there is. touched.is (there (closes ∙ waits));
        fault = λ grew. absurd (omega (arith, still.no_fault, grew));
        others = kept_others save files (same_telling files.content files.content' still.unwritten);
        same = λ calm unnamed. still.unwritten;
      }
  leaves close _ closes (by.unput image waits named rose others) =
      record {
        left = session.unwritten (ap is_some named) (closes ∙ waits) rose;
        keeps = λ calm within ample unchanged. absurd (calm rose);
        unchanged = λ there is. let k : 6 ≡ 12 = is in absurd (omega (arith, k));
        fault = λ grew. refl;
        others = subst (λ s. KeepsOthers s files) (sym named) others;
        same = λ calm unnamed. absurd (calm refl rose);
      }
  leaves close _ closes (by.no_memory image waits named still) =
      record {
        left = session.no_memory (ap is_some named) (closes ∙ waits);
        keeps = λ calm within ample unchanged. absurd (ample refl);
        unchanged = λ there is. let k : 9 ≡ 12 = is in absurd (omega (arith, k));
        fault = λ grew. absurd (omega (arith, still.no_fault, grew));
        others = kept_others save files (same_telling files.content files.content' still.unwritten);
        same = λ calm unnamed. still.unwritten;
      }

pub told_lines : (left : Option (List ℕ)) (text : List ℕ) (lines : List (List ℕ)) → IfSome left (λ bytes. lines ≡ lines_of bytes) → left ≡ Some text → lines ≡ lines_of text
told_lines (Some bytes) text lines are told = let same : bytes ≡ text = cc in are ∙ ap lines_of same
told_lines None text lines are told = absurd (cc)

pub not_ended : (status other : ℕ) → status ≡ other → has_ended other ≡ false → has_ended status ≡ true → ⊥
not_ended status other is goes ended = let same : has_ended status ≡ has_ended other = ap has_ended is in cc

-- the run of a session that came to an end, and the session is handed back
pub ran_so : (prelude : Prototype) (Runs : List (List ℕ) → Run → Type 0) (save : Option (List ℕ)) (files : Device FileMap) (input out : Device (List ℕ)) (last : Option Session) (status : ℕ) (text : List ℕ)
    → Ends prelude Runs save files input out last status → input.content ≡ Some text → has_ended status ≡ true → (run : Run) × Runs (lines_of text) run × IsSomeAnd last (IsSessionOf run)
ran_so prelude Runs save files input out last status text (session.closed lines are run runs written left handed) told ended =
    (run, subst (λ (l : List (List ℕ)). Runs l run) (told_lines input.content text lines are told) runs, handed)
ran_so prelude Runs save files input out last status text (session.failed rose is) told ended = absurd (not_ended status 6 is refl ended)
ran_so prelude Runs save files input out last status text (session.past_limits past is) told ended = absurd (not_ended status 7 is refl ended)
ran_so prelude Runs save files input out last status text (session.no_memory is) told ended = absurd (not_ended status 9 is refl ended)

-- what is known of the bytes of an input that tells them
pub told_so : (P : List ℕ → Type 0) (left : Option (List ℕ)) (text : List ℕ) → IfSome left P → left ≡ Some text → P text
told_so P (Some bytes) text is told = let same : bytes ≡ text = cc in subst P same is
told_so P None text is told = absurd (cc)

-- what was done where the input failed
pub short_of : (Runs Other : List (List ℕ) → Run → Type 0) (text : List ℕ) (input out : Device (List ℕ)) → input.content ≡ Some text → ((lines : List (List ℕ)) (run : Run) → Runs lines run → Other lines run)
    → IsBrokenOff Runs 0 input.content out.content out.content' → IsCutShort Other text out
short_of Runs Other text input out told other b =
    let first = told_so (λ bytes. (more : List (List ℕ)) × (usable_lines 0 bytes ≡ b.lines ++ more)) input.content text b.are told in
    record { lines = b.lines; more = first.0; first = first.1; run = b.run; runs = other b.lines b.run b.runs; waits = b.waits; written = b.grown }

-- a session that is fed

module _ (prelude : Prototype) (is_prelude : IsPreludeCode prelude) (Runs : List (List ℕ) → Run → Type 0) (once : (lines : List (List ℕ)) (x y : Run) → Runs lines x → Runs lines y → x ≡ y)
    (save : Option (List ℕ)) (files : Device FileMap) (input out : Device (List ℕ)) where
  -- it closes, and all that it prints is written
  pub closed_ran : (W : Memory) (close : Close) (state : SessionState) (status : ℕ) → input.faults' ≡ input.faults → out.faults' ≡ out.faults → IsFedTo Runs 0 input.content out.content out.content' close W → IsLeftBy W close save files status
      → state ≡ state_of close → Ran prelude Runs save files input out (Some (record { world = W; state = state })) status
  closed_ran W close state status same_input same_output to left stands =
      let l = leaves prelude is_prelude save files W to.fed.run to.leaves close status to.fed.closes left in
      let handed : IsSessionOf to.fed.run (record { world = W; state = state }) = record { world = to.leaves; state = stands ∙ ap state_of (sym to.fed.closes) } in
      record {
        ends = session.closed to.fed.lines to.fed.are to.fed.run to.fed.runs to.fed.grown l.left handed;
        does = λ text run told goes calm calm' calm'' within ample unchanged.
            let same : to.fed.run ≡ run = the_same to.fed text run told goes in
            let kept = l.keeps calm within ample unchanged in
            (kept.0 ∙ ap (λ (r : Run). status_of_close r.close) same, to.fed.grown ∙ ap (λ (r : Run). option_map (λ before. before ++ r.printed) out.content) same, subst (λ (r : Run). IsKept prelude r files save) same kept.1);
        unchanged = λ keeps. l.unchanged (λ waits. keeps to.fed.lines to.fed.run (to.fed.short (sym to.fed.closes ∙ waits)) to.fed.runs);
        session = λ text run told goes ended. subst (λ (r : Run). IsSessionOf r (record { world = W; state = state })) (the_same to.fed text run told goes) handed;
        limit = λ text run told goes waits past calm calm' calm'' ample.
            let w = told_within to.fed text told in
            let closes : close ≡ is_suspended = sym to.fed.closes ∙ ap (λ (r : Run). r.close) (usable_same to.fed text run told goes) ∙ waits in
            absurd (let none : passes_limits 0 text ≡ false = w.1 closes in cc);
        fault = λ grew. elim grew [ inl less ↦ l.fault less | inr more ↦ absurd (elim more [ inl less ↦ omega (arith, same_input, less) | inr less ↦ omega (arith, same_output, less) ]) ];
        broken = λ grew. absurd (omega (arith, same_input, grew));
        front = λ text run told goes.
            subst (λ (r : Run). GrowsByFront r.printed out.content out.content') (usable_same to.fed text run told goes) (grows_by_all to.fed.run.printed out.content out.content' to.fed.grown);
        grows = only_front to.fed.run.printed out.content out.content' (grows_by_all to.fed.run.printed out.content out.content' to.fed.grown);
        others = l.others;
        same = l.same;
      }
    where
      told_within : (fed : IsFed Runs 0 input.content out.content out.content' close) (text : List ℕ) → input.content ≡ Some text → Runs (usable_lines 0 text) fed.run × (close ≡ is_suspended → passes_limits 0 text ≡ false)
      told_within fed text told = told_so (λ bytes. Runs (usable_lines 0 bytes) fed.run × (close ≡ is_suspended → passes_limits 0 bytes ≡ false)) input.content text fed.within told

      usable_same : (fed : IsFed Runs 0 input.content out.content out.content' close) (text : List ℕ) (run : Run) → input.content ≡ Some text → Runs (usable_lines 0 text) run → fed.run ≡ run
      usable_same fed text run told goes = once (usable_lines 0 text) fed.run run (told_so (λ bytes. Runs (usable_lines 0 bytes) fed.run × (close ≡ is_suspended → passes_limits 0 bytes ≡ false)) input.content text fed.within told).0 goes

      the_same : (fed : IsFed Runs 0 input.content out.content out.content' close) (text : List ℕ) (run : Run) → input.content ≡ Some text → Runs (lines_of text) run → fed.run ≡ run
      the_same fed text run told goes = once (lines_of text) fed.run run (subst (λ ls. Runs ls fed.run) (told_lines input.content text fed.lines fed.are told) fed.runs) goes

  told_front : (left : Option (List ℕ)) (text : List ℕ) (run : Run) → IfSome left (λ bytes. (run : Run) → Runs (usable_lines 0 bytes) run → GrowsByFront run.printed out.content out.content') → left ≡ Some text → Runs (usable_lines 0 text) run
      → GrowsByFront run.printed out.content out.content'
  told_front (Some bytes) text run is told goes = let same : bytes ≡ text = cc in is run (subst (λ b. Runs (usable_lines 0 b) run) (sym same) goes)
  told_front None text run is told goes = absurd (cc)

  -- with this status, all is written that a run prints that waits for a line past the limits
  abbrev IsLimited : ℕ → Type 0
  IsLimited status = (text : List ℕ) (run : Run) → input.content ≡ Some text → Runs (usable_lines 0 text) run → ¬ (RoseIn input) → ¬ (RoseIn out) → status ≢ 9
      → (status ≡ 7) × (out.content' ≡ option_map (λ before. before ++ run.printed) out.content)

  cut_off : IsCutOff Runs 0 input.content out.content out.content' → IsLimited 7
  cut_off cut text run told goes calm calm' ample =
      let same : cut.run ≡ run = once (usable_lines 0 text) cut.run run (subst (λ ls. Runs ls cut.run) (told_so (λ bytes. cut.lines ≡ usable_lines 0 bytes) input.content text cut.are told) cut.runs) goes in
      (refl, cut.grown ∙ ap (λ (r : Run). option_map (λ before. before ++ r.printed) out.content) same)

  -- what is known of a session that does not close
  cut_by : (last : Option Session) (status : ℕ) → (has_ended status ≡ true → ⊥) → status ≢ 12 → IsUntouched files → IsFedFront Runs 0 input.content out.content out.content' → OnlyGrows out.content out.content' → Ends prelude Runs save files input out last status → IsLimited status
      → (¬ (RoseIn input) → ¬ (RoseIn out) → status ≢ 7 → status ≢ 9 → ⊥) → (GrewIn input ⊎ GrewIn out → status ≡ 6) → (GrewIn input → IsBrokenOff Runs 0 input.content out.content out.content') → Ran prelude Runs save files input out last status
  cut_by last status unended other still front grows ends limited never fault broken = record {
    ends = ends;
    does = λ text run told goes calm calm' calm'' within ample unchanged. absurd (never calm' calm'' within ample);
    unchanged = λ keeps. other;
    session = λ text run told goes ended. absurd (unended ended);
    limit = λ text run told goes waits past calm calm' calm'' ample.
        let l = limited text run told goes calm' calm'' ample in
        (l.0, l.1, still.unwritten);
    fault = λ grew. elim grew [ inl less ↦ absurd (omega (arith, still.no_fault, less)) | inr more ↦ fault more ];
    broken = broken;
    front = λ text run told goes. told_front input.content text run front.is told goes;
    grows = grows;
    others = kept_others save files (same_telling files.content files.content' still.unwritten);
    same = λ calm unnamed. still.unwritten;
  }

  still_by : {A : Type 0} → input.faults' ≡ input.faults → out.faults' ≡ out.faults → GrewIn input ⊎ GrewIn out → A
  still_by same_input same_output grew = absurd (elim grew [ inl less ↦ omega (arith, same_input, less) | inr less ↦ omega (arith, same_output, less) ])

  pub cut_ran : (last : Option Session) (reason : FeedFault) → IsUntouched files → HasCause input.faults input.faults' (is_input_fault {T = Kept} (Err reason)) → HasCause out.faults out.faults' (is_output_fault {T = Kept} (Err reason))
      → (IsErrOf {T = Kept} (Err reason) feeding.Limit → IsCutOff Runs 0 input.content out.content out.content') → (IsErrOf {T = Kept} (Err reason) feeding.Input → IsBrokenOff Runs 0 input.content out.content out.content') → IsFedFront Runs 0 input.content out.content out.content' → OnlyGrows out.content out.content'
      → Ran prelude Runs save files input out last (status_of_fault (fault_of_feeding reason))
  cut_ran last feeding.Input still cause cause' limit broken front grows = cut_by last 6 (λ ended. cc) (λ is. let k : 6 ≡ 12 = is in absurd (omega (arith, k))) still front grows (session.failed (inl (cause.rose, broken refl)) refl) (λ text run told goes calm calm' ample. absurd (calm cause.rose)) (λ calm calm' within ample. calm cause.rose) (λ grew. refl) (λ grew. broken refl)
  cut_ran last feeding.Output still cause cause' limit broken front grows = cut_by last 6 (λ ended. cc) (λ is. let k : 6 ≡ 12 = is in absurd (omega (arith, k))) still front grows (session.failed (inr cause'.rose) refl) (λ text run told goes calm calm' ample. absurd (calm' cause'.rose)) (λ calm calm' within ample. calm' cause'.rose) (λ grew. refl) (λ grew. absurd (omega (arith, cause.only, grew)))
  cut_ran last feeding.Limit still cause cause' limit broken front grows =
      cut_by last 7 (λ ended. cc) (λ is. let k : 7 ≡ 12 = is in absurd (omega (arith, k))) still front grows (session.past_limits (limit refl) refl) (cut_off (limit refl)) (λ calm calm' within ample. within refl) (λ grew. still_by cause.only cause'.only grew) (λ grew. absurd (omega (arith, cause.only, grew)))
  cut_ran last feeding.Memory still cause cause' limit broken front grows =
      cut_by last 9 (λ ended. cc) (λ is. let k : 9 ≡ 12 = is in absurd (omega (arith, k))) still front grows (session.no_memory refl) (λ text run told goes calm calm' ample. absurd (ample refl)) (λ calm calm' within ample. ample refl) (λ grew. still_by cause.only cause'.only grew) (λ grew. absurd (omega (arith, cause.only, grew)))

-- a session does one thing alone from where it waits for a line
pub onward_once : RunIsOne → (rows : ℕ → Row) (W : World) (budget : ℕ) (lines : List (List ℕ)) (x y : Run) → CodeOnward rows W lines budget x → CodeOnward rows W lines budget y → x ≡ y
onward_once one rows W budget [] x y h k = let both : Some x ≡ Some y = sym h.gives ∙ k.gives in cc
onward_once one rows W budget (line ∷ more) x y h k = one rows (handed_line W line) more budget x y (record { count = h.count; gives = h.gives }) (record { count = k.count; gives = k.gives })

-- a new reader has all of the input before it

ahead_new : (reader : Unread) (left : Option (List ℕ)) → reader ≡ record { pending = []; taken = 0 } → ahead reader left ≡ left
ahead_new reader (Some text) new = ap (λ (r : Unread). ahead r (Some text)) new
ahead_new reader None new = refl

pub limit_new : (reader : Unread) (Runs : List (List ℕ) → Run → Type 0) (left written written' : Option (List ℕ)) → reader ≡ record { pending = []; taken = 0 } → IsCutOff Runs reader.taken (ahead reader left) written written' → IsCutOff Runs 0 left written written'
limit_new reader Runs left written written' new cut =
    subst (λ n. IsCutOff Runs n left written written') (ap (λ (r : Unread). r.taken) new) (subst (λ (text : Option (List ℕ)). IsCutOff Runs reader.taken text written written') (ahead_new reader left new) cut)

pub broken_new : (reader : Unread) (Runs : List (List ℕ) → Run → Type 0) (left written written' : Option (List ℕ)) → reader ≡ record { pending = []; taken = 0 } → IsBrokenOff Runs reader.taken (ahead reader left) written written' → IsBrokenOff Runs 0 left written written'
broken_new reader Runs left written written' new broken =
    subst (λ n. IsBrokenOff Runs n left written written') (ap (λ (r : Unread). r.taken) new) (subst (λ (text : Option (List ℕ)). IsBrokenOff Runs reader.taken text written written') (ahead_new reader left new) broken)

pub front_new : (reader : Unread) (Runs : List (List ℕ) → Run → Type 0) (left written written' : Option (List ℕ)) → reader ≡ record { pending = []; taken = 0 } → IsFedFront Runs reader.taken (ahead reader left) written written' → IsFedFront Runs 0 left written written'
front_new reader Runs left written written' new front =
    subst (λ n. IsFedFront Runs n left written written') (ap (λ (r : Unread). r.taken) new) (subst (λ (text : Option (List ℕ)). IsFedFront Runs reader.taken text written written') (ahead_new reader left new) front)

pub fed_new : (reader : Unread) (Runs : List (List ℕ) → Run → Type 0) (left written written' : Option (List ℕ)) (close : Close) (W : Memory) → reader ≡ record { pending = []; taken = 0 }
    → IsFedTo Runs reader.taken (ahead reader left) written written' close W → IsFedTo Runs 0 left written written' close W
fed_new reader Runs left written written' close W new fed =
    subst (λ n. IsFedTo Runs n left written written' close W) (ap (λ (r : Unread). r.taken) new) (subst (λ (text : Option (List ℕ)). IsFedTo Runs reader.taken text written written' close W) (ahead_new reader left new) fed)
