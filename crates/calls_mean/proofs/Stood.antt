-- What a call of `run` saved is the image of the run of the script's code.
use Rattle.std.proofs.Common.{◌≡◌, ℕ, suc, true, List, [], ◌∷◌, ◌++◌, length, Some, None, refl, ap, sym, subst, ◌∙◌, arith}
use Rattle.std.proofs.lemmas.List.{length-map}
use Rattle.tree_core.specs.Tree.{Block, Body}
use Rattle.tree_activation.specs.Work.{State}
use Rattle.scope_core.specs.Places.{placed}
use Rattle.code_core.specs.Prototype.{Prototype, list_of}
use Rattle.code_of.specs.CodeOf.{code_of}
use Rattle.compile_text.specs.Source.{HasTree}
use Rattle.compile_chunk.specs.Chunk.{IsCodeOf, script_in}
use Rattle.io_edge.specs.Lines.{lines_of}
use Rattle.library_rows.specs.Library.{Library, library_name}
use Rattle.library_rows.specs.PreludeText.{prelude_text, prelude_functions, function_keys}
use Rattle.load_rows.specs.Loading.{Builds}
use Rattle.loaded_code.specs.Laws.{library}
use Rattle.prelude_code.specs.Prelude.{IsPreludeCode}
use Rattle.lua_meaning.specs.Meaning.{Meaning}
use Rattle.lua_meaning.specs.Opening.{entries_of, prelude_of}
use Rattle.machine_runs.specs.Opening.{opening, begun}
use Rattle.machine_runs.specs.Runs.{is_suspended, Run, CodeRun}
use Rattle.source_builds.specs.Builds.{BuildsSources}
use Rattle.lua_feed.specs.Feeding.{Does}
use Rattle.lua_feed.specs.Running.{started}
use Rattle.scripts_mean.specs.Scripts.{IsRead, IsPrelude, functions_in, Begins, PreludeIsAlike}
use Rattle.sessions_join.specs.Sessions.{IsSaved}
use Rattle.program.specs.Checking.{begins_chunk, IsAccepted}
use Rattle.program.specs.Compiling.{source_name}
use Rattle.program.specs.Meaning.{MeansOn}
use Rattle.program.specs.Running as running
use Rattle.program.specs.Running.{HoldsCode}
use Rattle.program.specs.Sessions as session
use Rattle.program.specs.Sessions.{functions_of, Ends}
use Rattle.program.proofs.DeviceLemmas.{same_content}
use Rattle.program.proofs.Endings.{told_lines}
use Rattle.program.proofs.Meant.{not_run_ends}
use Rattle.program.proofs.MeaningLemmas.{read_of, name_is_short, tree_of}
use Rattle.calls_mean.proofs.Ended.{saved_so}
use Rattle.calls_mean.specs.SavedImages.{IsSavedScript, SavedImagesStand}
use Rattle.calls_mean.specs.Stands.{IsSavingCall, StandFor, SavedCallsStand}
use Rattle.program.proofs.CodeLemmas.{of_script}
use Rattle.calls_mean.proofs.Meant.{all_there}

module _ (builds : Builds Body) (name content text image bytes : List ℕ) (budget : ℕ) (s : IsSavingCall builds name content text image bytes budget) where
  -- the run of the call
  record Saved : Type 0 where
    prelude : Prototype
    is_prelude : IsPreludeCode prelude
    code : Prototype
    holds : HoldsCode name content code
    run : Run
    runs : CodeRun (library builds) (started prelude code) (lines_of text) budget run
    waits : run.close ≡ is_suspended
    saved : IsSaved (functions_of prelude) run.last bytes

  closed_so : (prelude code : Prototype) → IsPreludeCode prelude → HoldsCode name content code → Ends prelude (Does (library builds) (started prelude code) budget) (Some image) s.files s.input s.out s.last 3 → Saved
  closed_so prelude code own holds (session.closed lines are run runs written left handed) =
      let k = saved_so prelude run s.files image bytes 3 left refl s.saved in
      record {
        prelude = prelude;
        is_prelude = own;
        code = code;
        holds = holds;
        run = run;
        runs = subst (λ l. CodeRun (library builds) (started prelude code) l budget run) (told_lines s.input.content text lines are s.reads) runs;
        waits = k.0;
        saved = k.1;
      }
  closed_so prelude code own holds (session.failed rose is) = let k : 3 ≡ 6 = is in absurd (omega (arith, k))
  closed_so prelude code own holds (session.past_limits past is) = let k : 3 ≡ 7 = is in absurd (omega (arith, k))
  closed_so prelude code own holds (session.no_memory is) = let k : 3 ≡ 9 = is in absurd (omega (arith, k))

  saved_run : running.IsCause builds name budget (Some image) s.files s.input s.out s.last 3 → Saved
  saved_run (running.not_run why still quiet) = absurd (not_run_ends name s.files 3 why refl)
  saved_run (running.has_run found_content prelude code found own holds ends) =
      let contents : found_content ≡ content = sym (same_content name found_content content s.files.content found s.holds) in
      closed_so prelude code own (subst (λ c. HoldsCode name c code) contents holds) ends

  module _ (law : SavedImagesStand) (alike : PreludeIsAlike) (are : BuildsSources builds) (m : Meaning Body State) (means : MeansOn builds name content (lines_of text) budget m) where
    ran : Saved
    ran = saved_run s.is_run.cause

    made : IsCodeOf (source_name name) (script_in content) true ran.code
    made = of_script (IsAccepted content ran.code) (IsCodeOf (source_name name) (script_in content) true ran.code) (begins_chunk content) s.is_script ran.holds

    code_is : ran.code ≡ code_of (Some (source_name name)) (placed means.tree)
    code_is = made.code_is ∙ ap (λ t. code_of (Some (source_name name)) (placed t)) (means.is_source.only made.tree made.is_source.has_tree)

    prelude_is : ran.prelude ≡ code_of None (placed means.prelude)
    prelude_is =
        let own = ran.is_prelude.compiled in
        own.code_is ∙ ap (λ t. code_of None (placed t)) (sym (own.is_source.only means.prelude (tree_of prelude_text means.prelude means.is_prelude)))

    begins : Begins (script_in content) means.tree (prelude_of (functions_in (placed means.prelude))) (functions_of ran.prelude) (Some (source_name name)) (lines_of text)
    begins = record {
      read = read_of (script_in content) means.tree means.is_source;
      libraries = subst (λ p. IsPrelude (prelude_of (functions_in (placed means.prelude))) (functions_of p)) (sym prelude_is) (alike means.prelude means.is_prelude);
      name = name_is_short name s.short;
      lines = s.lines;
    }

    script : IsSavedScript builds (script_in content) means.tree (prelude_of (functions_in (placed means.prelude))) (functions_of ran.prelude) (Some (source_name name)) (lines_of text) budget bytes
    script = record {
      begins = begins;
      all_there = all_there ran.prelude ran.is_prelude;
      run = ran.run;
      runs = subst (λ code. CodeRun (library builds) (begun (opening (functions_of ran.prelude)) code) (lines_of text) budget ran.run) code_is ran.runs;
      waits = ran.waits;
      saved = ran.saved;
    }

    stand_for : StandFor builds bytes m
    stand_for = record {
      prelude = ran.prelude;
      is_prelude = ran.is_prelude;
      stands = law builds are (script_in content) means.tree (prelude_of (functions_in (placed means.prelude))) (functions_of ran.prelude) (Some (source_name name)) (lines_of text) budget bytes script m means.means;
    }

pub saved_calls_stand : SavedImagesStand → PreludeIsAlike → SavedCallsStand
saved_calls_stand law alike builds are name content text image bytes budget s m means = stand_for builds name content text image bytes budget s law alike are m means
