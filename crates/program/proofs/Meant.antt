-- What a script does that was run to an end, its source means.
use Rattle.std.proofs.Common.{◌≡◌, ℕ, ◌≤◌, true, false, List, ◌++◌, length, Option, Some, None, refl, ap, sym, subst, ◌∙◌}
use Rattle.std.specs.Option.{option_map}
use Rattle.load_rows.specs.Loading.{Builds}
use Rattle.source_builds.specs.Builds.{BuildsSources}
use Rattle.tree_core.specs.Tree.{Body}
use Rattle.tree_activation.specs.Work.{State}
use Rattle.scope_core.specs.Places.{placed}
use Rattle.code_core.specs.Prototype.{Prototype, list_of}
use Rattle.code_of.specs.CodeOf.{code_of}
use Rattle.compile_chunk.specs.Chunk.{IsCodeOf, script_in}
use Rattle.library_rows.specs.PreludeText.{prelude_text}
use Rattle.lua_meaning.specs.Meaning.{Meaning}
use Rattle.lua_meaning.specs.Opening.{prelude_of}
use Rattle.machine_runs.specs.Opening.{opening, begun}
use Rattle.machine_runs.specs.Runs.{Run, CodeRun}
use Rattle.loaded_code.specs.Laws.{library}
use Rattle.scripts_mean.specs.Scripts.{IsRead, functions_in, RunsAs, ScriptsDo, PreludeIsAlike}
use Rattle.io_edge.specs.Content.{FileMap}
use Rattle.io_edge.specs.Lines.{lines_of}
use Rattle.prelude_code.specs.Prelude.{IsPreludeCode}
use Rattle.lua_feed.specs.Feeding.{Does}
use Rattle.lua_feed.specs.Running.{started}
use Rattle.program.specs.declared.session.Session.{Session}
use Rattle.program.specs.Devices.{Device}
use Rattle.program.specs.Checking.{begins_chunk, IsAccepted}
use Rattle.program.specs.Compiling.{source_name}
use Rattle.program.specs.Running as running
use Rattle.program.specs.Meaning.{MeansOn, EndsWith, has_ended, IsDoneAsMeant}
use Rattle.machine_runs.specs.Laws.{AreShort}
use Rattle.program.specs.Running.{HoldsCode, RunsOn, IsNotRun}
use Rattle.program.specs.Sessions as session
use Rattle.program.specs.Sessions.{status_of_close, IsLeft, Ends}
use Rattle.program.proofs.MeaningLemmas.{read_of, name_is_short, ends_with}
use Rattle.program.proofs.Endings.{told_lines, not_ended}
use Rattle.program.proofs.CodeLemmas.{of_script}

-- a file that is not run has another status
pub not_run_ends : (name : List ℕ) (files : Device FileMap) (status : ℕ) → IsNotRun name files status → has_ended status ≡ true → ⊥
not_run_ends name files _ (running.absent lacks) ended = cc
not_run_ends name files _ _ ended = cc

-- what the run of a script's code does the script means
pub run_meant : {builds : Builds Body} → BuildsSources builds → ScriptsDo → PreludeIsAlike → (name content : List ℕ) (lines : List (List ℕ)) (budget : ℕ) (run : Run)
    → length name ≤ 65536 → AreShort lines → begins_chunk content ≡ false → RunsOn builds name content lines budget run
    → (m : Meaning Body State) × MeansOn builds name content lines budget m × RunsAs run m
run_meant {builds = builds} sources law alike name content lines budget run short fits begins goes =
    let made : IsCodeOf (source_name name) (script_in content) true goes.code = of_script (IsAccepted content goes.code) (IsCodeOf (source_name name) (script_in content) true goes.code) (begins_chunk content) begins goes.holds in
    let own = goes.is_prelude.compiled in
    let read : IsRead prelude_text own.tree = read_of prelude_text own.tree own.is_source in
    let code : goes.code ≡ code_of (Some (source_name name)) (placed made.tree) = made.code_is in
    let prelude : goes.prelude ≡ code_of None (placed own.tree) = own.code_is in
    let starts : started goes.prelude goes.code ≡ begun (opening (prelude_of (list_of (code_of None (placed own.tree)).inner))) (code_of (Some (source_name name)) (placed made.tree))
    = ap (λ p. started p goes.code) prelude ∙ ap (λ c. started (code_of None (placed own.tree)) c) code in
    let meant = law builds sources (script_in content) made.tree (prelude_of (functions_in (placed own.tree))) (prelude_of (list_of (code_of None (placed own.tree)).inner)) (Some (source_name name)) lines budget
    (record { read = read_of (script_in content) made.tree made.is_source; libraries = alike own.tree read; name = name_is_short name short; lines = fits })
    run (subst (λ W. CodeRun (library builds) W lines budget run) starts goes.runs) in
    (meant.0, record { is_script = begins; tree = made.tree; is_source = made.is_source; prelude = own.tree; is_prelude = read; means = meant.1 }, meant.2)

-- what is left of a run that came to an end tells how it closed
pub ended_so : (prelude : Prototype) (run : Run) (save : Option (List ℕ)) (files : Device FileMap) (status : ℕ) → IsLeft prelude run save files status → has_ended status ≡ true → status ≡ status_of_close run.close
ended_so prelude run save files _ (session.kept kept) ended = refl
ended_so prelude run save files _ _ ended = absurd (cc)

-- a run that came to an end
pub done : {builds : Builds Body} → BuildsSources builds → ScriptsDo → PreludeIsAlike → (name content text : List ℕ) (budget : ℕ) (prelude code : Prototype) (save : Option (List ℕ)) (files : Device FileMap) (input out : Device (List ℕ)) (last : Option Session) (status : ℕ) → length name ≤ 65536
    → IsPreludeCode prelude → HoldsCode name content code → begins_chunk content ≡ false → input.content ≡ Some text → AreShort (lines_of text) → has_ended status ≡ true → Ends prelude (Does (library builds) (started prelude code) budget) save files input out last status
    → IsDoneAsMeant builds name content (lines_of text) budget out status
done {builds = builds} sources law alike name content text budget prelude code save files input out last status short is_prelude holds begins told fits ended (session.closed lines are run goes written left handed) =
    let same : lines ≡ lines_of text = told_lines input.content text lines are told in
    let does : RunsOn builds name content (lines_of text) budget run
    = record { prelude = prelude; is_prelude = is_prelude; code = code; holds = holds; runs = subst (λ l. CodeRun (library builds) (started prelude code) l budget run) same goes } in
    let meant = run_meant sources law alike name content (lines_of text) budget run short fits begins does in
    record {
      m = meant.0;
      means = meant.1;
      ends = subst (EndsWith meant.0.outcome) (sym (ended_so prelude run save files status left ended)) (ends_with run.close meant.0.outcome meant.2.ends);
      written = written ∙ ap (λ b. option_map (λ before. before ++ b) out.content) meant.2.printed;
    }
done {builds = builds} sources law alike name content text budget prelude code save files input out last status short is_prelude holds begins told fits ended (session.failed rose is) = absurd (not_ended status 6 is refl ended)
done {builds = builds} sources law alike name content text budget prelude code save files input out last status short is_prelude holds begins told fits ended (session.past_limits past is) = absurd (not_ended status 7 is refl ended)
done {builds = builds} sources law alike name content text budget prelude code save files input out last status short is_prelude holds begins told fits ended (session.no_memory is) = absurd (not_ended status 9 is refl ended)
