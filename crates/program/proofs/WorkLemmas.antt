-- How a script ends that is work alone.
use Rattle.std.proofs.Common.{Err, ◌≡◌, ◌≢◌, ◌⊎◌, inl, inr, ℕ, ◌+◌, ◌-◌, ◌^◌, ◌<◌, ◌≤◌, min, true, false, List, [], ◌++◌, Option, Some, None, IsTrue, OnOk, OnErr, IfErr, Ok, Result, refl, sym, ap, subst, ◌∙◌, arith, IsErrAnd}
use Rattle.std.specs.Prelude.{IsErrOf, IsSomeAnd, is_err, codes, decimal, length}
use Rattle.std.specs.Option.{option_map}
use Rattle.load_rows.specs.Loading.{Builds}
use Rattle.source_builds.specs.Builds.{BuildsSources}
use Rattle.tree_core.specs.Tree.{Block, Body}
use Rattle.tree_activation.specs.Work.{State}
use Rattle.scope_core.specs.Places.{placed}
use Rattle.code_core.specs.Prototype.{Prototype, list_of}
use Rattle.code_core.specs.Check.{IsChecked}
use Rattle.code_core.specs.Writable.{name_fits}
use Rattle.code_of.specs.CodeOf.{code_of}
use Rattle.library_rows.specs.PreludeText.{prelude_text}
use Rattle.io_edge.specs.Causes.{HasCause, Rose}
use Rattle.io_edge.specs.Content.{GrowsByFront}
use Rattle.io_edge.specs.Lines.{Unread, ahead, lines_of}
use Rattle.compile_text.specs.Source.{IsRefused, IsSource}
use Rattle.compile_text.specs.declared.fault.TextFault.{TextFault}
use Rattle.compile_chunk.specs.Chunk.{IsCodeOf}
use Rattle.prelude_code.specs.Prelude.{IsPreludeCode, IsNoPrelude}
use Rattle.prelude_code.specs.declared.fault.PreludeFault.{PreludeFault}
use Rattle.prelude_code.specs.declared.fault.PreludeFault.TheVariants as prelude
use Rattle.prelude_code.proofs.Preludes.{code_once}
use Rattle.lua_meaning.specs.Meaning.{Meaning}
use Rattle.lua_meaning.specs.Opening.{prelude_of}
use Rattle.machine_core.specs.World.{World}
use Rattle.machine_runs.specs.Opening.{opening, begun}
use Rattle.machine_runs.specs.Runs.{Close, Run, CodeRun}
use Rattle.machine_runs.specs.Laws.{RunIsOne}
use Rattle.machine_sound.proofs.Lists.{each_none}
use Rattle.loaded_code.specs.Laws.{library}
use Rattle.scripts_mean.specs.Scripts.{IsRead, functions_in, RunsAs, ScriptsDo, ScriptsMean, PreludeIsAlike}
use Rattle.lua_heap.specs.declared.world.World.{World as Memory}
use Rattle.lua_feed.specs.Faults.{is_input_fault, is_output_fault}
use Rattle.lua_feed.specs.Feeding.{Does, IsCutOff, IsFedTo, IsFedFront, OnlyGrows}
use Rattle.lua_feed.specs.Limits.{passes_limits}
use Rattle.lua_feed.specs.Running.{started}
use Rattle.lua_feed.specs.declared.fault.FeedFault.{FeedFault}
use Rattle.lua_feed.specs.declared.fault.FeedFault.TheVariants as feeding
use Rattle.lua_feed.specs.declared.feeding.Close.{Close as Kept}
use Rattle.lua_feed.proofs.Fed.{front_more, front_behind, grows_twice}
use Rattle.lua_feed.proofs.Limits.{none_left, none_past}
use Rattle.work_script.specs.Script.{work_script}
use Rattle.program.specs.declared.fault.Fault.{Fault}
use Rattle.program.specs.declared.fault.Fault.TheVariants as fault
use Rattle.program.specs.declared.session.Session.{Session}
use Rattle.program.specs.declared.session.SessionState.{SessionState}
use Rattle.program.specs.Faults.{fault_of_prelude, fault_of_text, fault_of_feeding, status_of}
use Rattle.program.specs.Meaning.{EndsWith, has_ended}
use Rattle.program.specs.Outcomes.{IsNoScriptFor}
use Rattle.program.specs.Report.{ScriptFits, status_of_fault}
use Rattle.program.specs.Sessions.{status_of_close, state_of, IsSessionOf}
use Rattle.program.specs.Working.{WorkMeans, WorkRuns, line_of_work, IsNotRun, no_prelude, no_script, no_memory, IsCause, not_run, has_run, failed, out_of_memory, IsWork}
use Rattle.program.proofs.CompileLemmas.{text_refused}
use Rattle.program.proofs.DeviceLemmas.{stream_of, grows_by_none, grows_by_all, only_front, only_same, stays}
use Rattle.program.proofs.Endings.{limit_new, front_new, fed_new}
use Rattle.program.proofs.MeaningLemmas.{Short, read_of, prelude_is, ends_with}
use Rattle.program.proofs.Raised.{raised}

no_lines : lines_of [] ≡ []
unfolding lines_of
no_lines = refl

-- a script that is not run

not_run_ends : (count status : ℕ) → IsNotRun count status → has_ended status ≡ true → ⊥
not_run_ends count _ (no_prelude none) ended = absurd (cc)
not_run_ends count _ (no_script none) ended = absurd (cc)
not_run_ends count _ no_memory ended = absurd (cc)

not_run_by : {builds : Builds Body} → (count k : ℕ) (written : Option (List ℕ)) (last : Option Session) (status : ℕ) → IsNotRun count status → ((run : Run) → WorkRuns builds count run → status ≢ 9 → ⊥) → ((m : Meaning Body State) → WorkMeans builds count m → status ≢ 9 → status ≢ 12 → ⊥)
    → IsWork builds count (stream_of k k written written) last status
not_run_by count k written last status why runs means = record {
  cause = not_run status why (record { no_fault = refl; unwritten = refl });
  runs = λ run goes calm ample. absurd (runs run goes ample);
  means = λ m goes calm ample made. absurd (means m goes ample made);
  meant = λ ended. absurd (not_run_ends count status why ended);
  session = λ ended. absurd (not_run_ends count status why ended);
  fault = λ grew. absurd (stays k written written grew);
  front = λ run goes. grows_by_none (run.printed ++ line_of_work count) written;
  meant_front = λ m goes. grows_by_none (m.printed ++ line_of_work count) written;
  grows = only_same written;
}

pub memory_work : {builds : Builds Body} → (count k : ℕ) (written : Option (List ℕ)) (last : Option Session) → IsWork builds count (stream_of k k written written) last 9
memory_work count k written last = not_run_by count k written last 9 no_memory (λ run goes ample. ample refl) (λ m goes ample made. ample refl)

-- the exit of a `?` for want of memory
pub memory_exit : {builds : Builds Body} → (count k : ℕ) (written : Option (List ℕ)) (last : Option Session) (result : Result ℕ Fault) → IsErrAnd result (λ made. made ≡ fault.Memory) → IsWork builds count (stream_of k k written written) last (status_of result)
memory_exit count k written last result short = rw (ap status_of (raised result fault.Memory short)) (memory_work count k written last)

pub no_prelude_work : {builds : Builds Body} → (count k : ℕ) (written : Option (List ℕ)) (last : Option Session) (reason : PreludeFault) → IsNoPrelude reason → IsWork builds count (stream_of k k written written) last (status_of_fault (fault_of_prelude reason))
no_prelude_work count k written last prelude.Refused none = not_run_by count k written last 12 (no_prelude none) (λ run goes ample. none goes.prelude goes.is_prelude) (λ m goes ample made. made refl)
no_prelude_work count k written last prelude.Memory none = memory_work count k written last

refused_by : {builds : Builds Body} → (count k : ℕ) (written : Option (List ℕ)) (last : Option Session) (status : ℕ) → status ≡ 5 → ((tree : Block) → IsSource (work_script count) tree → ⊥) → IsWork builds count (stream_of k k written written) last status
refused_by count k written last status is none =
    rw is (not_run_by count k written last 5 (no_script none) (λ run goes ample. none goes.is_code.tree goes.is_code.is_source) (λ m goes ample made. none goes.tree goes.is_source))

pub refused_work : {builds : Builds Body} → (count k : ℕ) (written : Option (List ℕ)) (last : Option Session) (reason : TextFault) → IsRefused (work_script count) reason → IsWork builds count (stream_of k k written written) last (status_of_fault (fault_of_text reason))
refused_work {builds = builds} count k written last reason refused = by (text_refused (work_script count) reason refused)
  where
    by : IsNoScriptFor (work_script count) (fault_of_text reason) ⊎ (fault_of_text reason ≡ fault.Memory) → IsWork builds count (stream_of k k written written) last (status_of_fault (fault_of_text reason))
    by (inl own) = refused_by count k written last (status_of_fault (fault_of_text reason)) own.status own.holds_none
    by (inr memory) = rw memory (memory_work count k written last)

pub refused_fits : (count : ℕ) (reason : TextFault) → IsRefused (work_script count) reason → ScriptFits (work_script count) (fault_of_text reason)
refused_fits count reason refused = by (text_refused (work_script count) reason refused)
  where
    by : IsNoScriptFor (work_script count) (fault_of_text reason) ⊎ (fault_of_text reason ≡ fault.Memory) → ScriptFits (work_script count) (fault_of_text reason)
    by (inl own) = own.fits
    by (inr memory) = rw memory tt

pub prelude_fits : (content : List ℕ) (reason : PreludeFault) → ScriptFits content (fault_of_prelude reason)
prelude_fits content prelude.Refused = tt
prelude_fits content _ = tt

pub feeding_fits : (content : List ℕ) (reason : FeedFault) → ScriptFits content (fault_of_feeding reason)
feeding_fits content feeding.Input = tt
feeding_fits content _ = tt

-- what its line says
pub worked_line : (count bytes : ℕ) (line script : List ℕ) → line ≡ codes "work " ++ (decimal count ++ (codes " " ++ (decimal bytes ++ codes "\n"))) → bytes ≡ length script → script ≡ work_script count → line ≡ line_of_work count
worked_line count bytes line script told size made = told ∙ ap (λ n. codes "work " ++ (decimal count ++ (codes " " ++ (decimal n ++ codes "\n")))) (size ∙ ap length made)

-- a script that runs

named : IsTrue (name_fits (Some (codes "work")))
named = refl

module _ (builds : Builds Body) (sources : BuildsSources builds) (one : RunIsOne) (does : ScriptsDo) (law : ScriptsMean) (alike : PreludeIsAlike) (count : ℕ) (prelude code : Prototype) (is_prelude : IsPreludeCode prelude) (only : (other : Prototype) → IsPreludeCode other → prelude ≡ other)
    (is_code : IsCodeOf (codes "work") (work_script count) true code) (checked : IsChecked code) where
  abbrev Goes : Run → Type 0
  Goes run = CodeRun (library builds) (started prelude code) [] 10000000 run

  of_code : (run : Run) → Goes run → WorkRuns builds count run
  of_code run goes = record { prelude = prelude; is_prelude = is_prelude; code = code; is_code = is_code; checked = checked; runs = goes }

  its_run : (run : Run) → WorkRuns builds count run → Goes run
  its_run run goes =
      let codes_same : code ≡ goes.code = code_once (codes "work") (work_script count) true code goes.code is_code goes.is_code in
      let preludes : prelude ≡ goes.prelude = only goes.prelude goes.is_prelude in
      rw (preludes, codes_same) goes.runs

  once : (run other : Run) → Goes run → Goes other → run ≡ other
  once run other a b = one (library builds) (started prelude code) [] 10000000 run other a b

  starts : (tree own : Block) → code ≡ code_of (Some (codes "work")) (placed tree) → prelude ≡ code_of None (placed own)
      → started prelude code ≡ begun (opening (prelude_of (list_of (code_of None (placed own)).inner))) (code_of (Some (codes "work")) (placed tree))
  starts tree own a b = ap (λ p. started p code) b ∙ ap (λ c. started (code_of None (placed own)) c) a

  -- what the script means its code does, and the other way around

  meant_run : (m : Meaning Body State) → WorkMeans builds count m → (run : Run) × Goes run × RunsAs run m
  meant_run m means =
      let codes_same : code ≡ code_of (Some (codes "work")) (placed means.tree) = is_code.code_is ∙ ap (λ t. code_of (Some (codes "work")) (placed t)) (means.is_source.only is_code.tree is_code.is_source.has_tree) in
      let preludes : prelude ≡ code_of None (placed means.prelude) = prelude_is prelude means.prelude is_prelude means.is_prelude in
      let goes = law builds sources (work_script count) means.tree (prelude_of (functions_in (placed means.prelude))) (prelude_of (list_of (code_of None (placed means.prelude)).inner)) (Some (codes "work")) [] 10000000
      (record { read = read_of (work_script count) means.tree means.is_source; libraries = alike means.prelude means.is_prelude; name = named; lines = each_none Short }) m means.means in
      (goes.0, subst (λ W. CodeRun (library builds) W [] 10000000 goes.0) (sym (starts means.tree means.prelude codes_same preludes)) goes.1, goes.2)

  run_meant : (run : Run) → Goes run → (m : Meaning Body State) × WorkMeans builds count m × RunsAs run m
  run_meant run goes =
      let own = is_prelude.compiled in
      let read : IsRead prelude_text own.tree = read_of prelude_text own.tree own.is_source in
      let meant = does builds sources (work_script count) is_code.tree (prelude_of (functions_in (placed own.tree))) (prelude_of (list_of (code_of None (placed own.tree)).inner)) (Some (codes "work")) [] 10000000
      (record { read = read_of (work_script count) is_code.tree is_code.is_source; libraries = alike own.tree read; name = named; lines = each_none Short }) run
      (subst (λ W. CodeRun (library builds) W [] 10000000 run) (starts is_code.tree own.tree is_code.code_is own.code_is) goes) in
      (meant.0, record { tree = is_code.tree; is_source = is_code.is_source; prelude = own.tree; is_prelude = read; means = meant.1 }, meant.2)

  -- it closes, and all is written
  closed_work : (k k' : ℕ) (before after : Option (List ℕ)) (last : Option Session) (run : Run) → Goes run → k' ≡ k → after ≡ option_map (λ b. b ++ (run.printed ++ line_of_work count)) before → IsSomeAnd last (IsSessionOf run)
      → IsWork builds count (stream_of k k' before after) last (status_of_close run.close)
  closed_work k k' before after last run goes same grown handed = record {
    cause = has_run run (of_code run goes) grown handed;
    runs = λ other works calm ample.
        let is : run ≡ other = once run other goes (its_run other works) in
        (ap (λ (r : Run). status_of_close r.close) is, grown ∙ ap (λ (r : Run). option_map (λ b. b ++ (r.printed ++ line_of_work count)) before) is);
    means = λ m works calm ample made.
        let r = meant_run m works in
        let is : run ≡ r.0 = once run r.0 goes r.1 in (
          subst (λ (s : Run). EndsWith m.outcome (status_of_close s.close)) (sym is) (ends_with r.0.close m.outcome r.2.ends),
          grown ∙ ap (λ (s : Run). option_map (λ b. b ++ (s.printed ++ line_of_work count)) before) is ∙ ap (λ t. option_map (λ b. b ++ (t ++ line_of_work count)) before) r.2.printed,
        );
    meant = λ ended.
        let r = run_meant run goes in
        (r.0, r.1, ends_with run.close r.0.outcome r.2.ends, grown ∙ ap (λ t. option_map (λ b. b ++ (t ++ line_of_work count)) before) r.2.printed);
    session = λ ended. (run, of_code run goes, handed);
    fault = λ grew. absurd (omega (arith, same, grew));
    front = λ other works.
        let is : run ≡ other = once run other goes (its_run other works) in
        subst (λ (r : Run). GrowsByFront (r.printed ++ line_of_work count) before after) is whole;
    meant_front = λ m works.
        let r = meant_run m works in
        let is : run ≡ r.0 = once run r.0 goes r.1 in
        subst (λ t. GrowsByFront (t ++ line_of_work count) before after) (ap (λ (s : Run). s.printed) is ∙ r.2.printed) whole;
    grows = only_front (run.printed ++ line_of_work count) before after whole;
  }
    where
      whole : GrowsByFront (run.printed ++ line_of_work count) before after
      whole = grows_by_all (run.printed ++ line_of_work count) before after grown

  -- it stops, and a prefix is written
  stopped_work : (k k' : ℕ) (before after : Option (List ℕ)) (last : Option Session) (status : ℕ) → IsCause builds count (stream_of k k' before after) last status → (has_ended status ≡ true → ⊥) → (¬ (Rose k k') → status ≢ 9 → ⊥) → (k < k' → status ≡ 6)
      → ((run : Run) → Goes run → GrowsByFront (run.printed ++ line_of_work count) before after) → OnlyGrows before after → IsWork builds count (stream_of k k' before after) last status
  stopped_work k k' before after last status cause unended never fault front grows = record {
    cause = cause;
    runs = λ run works calm ample. absurd (never calm ample);
    means = λ m works calm ample made. absurd (never calm ample);
    meant = λ ended. absurd (unended ended);
    session = λ ended. absurd (unended ended);
    fault = fault;
    front = λ run works. front run (its_run run works);
    meant_front = λ m works.
        let r = meant_run m works in
        subst (λ t. GrowsByFront (t ++ line_of_work count) before after) r.2.printed (front r.0 r.1);
    grows = grows;
  }

  -- it is not fed to its end
  pub cut_work : (reader : Unread) (k k' : ℕ) (before after : Option (List ℕ)) (last : Option Session) (reason : FeedFault) → reader ≡ record { pending = []; taken = 0 }
      → HasCause 0 0 (is_input_fault {T = Kept} (Err reason)) → HasCause k k' (is_output_fault {T = Kept} (Err reason))
      → (IsErrOf {T = Kept} (Err reason) feeding.Limit → IsCutOff (Does (library builds) (started prelude code) 10000000) reader.taken (ahead reader (Some [])) before after)
      → IsFedFront (Does (library builds) (started prelude code) 10000000) reader.taken (ahead reader (Some [])) before after → OnlyGrows before after → IsWork builds count (stream_of k k' before after) last (status_of_fault (fault_of_feeding reason))
  cut_work reader k k' before after last reason new input output limit front grows = by reason input output limit
    where
      fronts : (run : Run) → Goes run → GrowsByFront (run.printed ++ line_of_work count) before after
      fronts run goes =
          let f : IsFedFront (Does (library builds) (started prelude code) 10000000) 0 (Some []) before after = front_new reader (Does (library builds) (started prelude code) 10000000) (Some []) before after new front in
          front_more run.printed (line_of_work count) before after (f.is run (subst (λ ls. CodeRun (library builds) (started prelude code) ls 10000000 run) (sym (none_left 0 [] refl)) goes))

      by : (reason : FeedFault) → HasCause 0 0 (is_input_fault {T = Kept} (Err reason)) → HasCause k k' (is_output_fault {T = Kept} (Err reason))
          → (IsErrOf {T = Kept} (Err reason) feeding.Limit → IsCutOff (Does (library builds) (started prelude code) 10000000) reader.taken (ahead reader (Some [])) before after) → IsWork builds count (stream_of k k' before after) last (status_of_fault (fault_of_feeding reason))
      by feeding.Input input output limit = absurd (let rose : min (0 + 1) (2 ^ 64 - 1) ≤ 0 = input.rose in omega (arith, rose))
      by feeding.Output input output limit = stopped_work k k' before after last 6 (failed output.rose) (λ ended. absurd (cc)) (λ calm ample. calm output.rose) (λ grew. refl) fronts grows
      by feeding.Limit input output limit =
          let cut : IsCutOff (Does (library builds) (started prelude code) 10000000) 0 (Some []) before after = limit_new reader (Does (library builds) (started prelude code) 10000000) (Some []) before after new (limit refl) in
          let past : passes_limits 0 [] ≡ true = cut.past in
          absurd (let none : passes_limits 0 [] ≡ false = none_past 0 [] refl in cc)
      by feeding.Memory input output limit =
          stopped_work k k' before after last 9 out_of_memory (λ ended. absurd (cc)) (λ calm ample. ample refl) (λ grew. absurd (omega (arith, output.only, grew))) fronts grows

  -- it closes, and its line is written or not
  module _ (reader : Unread) (k k' k'' : ℕ) (before between after : Option (List ℕ)) (close : Close) (W : Memory) (state : SessionState) (new : reader ≡ record { pending = []; taken = 0 }) (same : k' ≡ k)
      (start : World) (begins : start ≡ started prelude code) (fed : IsFedTo (Does (library builds) start 10000000) reader.taken (ahead reader (Some [])) before between close W) (stands : state ≡ state_of close) where
    abbrev handed_back : Option Session
    handed_back = Some (record { world = W; state = state })

    to : IsFedTo (Does (library builds) (started prelude code) 10000000) 0 (Some []) before between close W
    to = fed_new reader (Does (library builds) (started prelude code) 10000000) (Some []) before between close W new
        (subst (λ (start : World). IsFedTo (Does (library builds) start 10000000) reader.taken (ahead reader (Some [])) before between close W) begins fed)

    goes : Goes to.fed.run
    goes = subst (λ ls. CodeRun (library builds) (started prelude code) ls 10000000 to.fed.run) (to.fed.are ∙ no_lines) to.fed.runs

    pub done_work : (status : ℕ) → status ≡ status_of_close close → k'' ≡ k' → after ≡ option_map (λ b. b ++ line_of_work count) between → IsWork builds count (stream_of k k'' before after) handed_back status
    done_work status answers still wrote =
        subst (IsWork builds count (stream_of k k'' before after) handed_back) (ap status_of_close to.fed.closes ∙ sym answers)
        (closed_work k k'' before after handed_back to.fed.run goes (still ∙ same) (grows_twice to.fed.run.printed (line_of_work count) before between after to.fed.grown wrote)
        (record { world = to.leaves; state = stands ∙ ap state_of (sym to.fed.closes) }))

    pub failed_work : Rose k' k'' → GrowsByFront (line_of_work count) between after → IsWork builds count (stream_of k k'' before after) handed_back 6
    failed_work rose front =
        let since : Rose k k'' = subst (λ n. Rose n k'') same rose in
        let whole : GrowsByFront (to.fed.run.printed ++ line_of_work count) before after = front_behind to.fed.run.printed (line_of_work count) before between after to.fed.grown front in
        stopped_work k k'' before after handed_back 6 (failed since) (λ ended. absurd (cc)) (λ calm ample. calm since) (λ grew. refl)
        (λ run own. subst (λ (r : Run). GrowsByFront (r.printed ++ line_of_work count) before after) (once to.fed.run run goes own) whole)
        (only_front (to.fed.run.printed ++ line_of_work count) before after whole)
