-- What calls do one after another, the script in the file means.
use Rattle.std.proofs.Common.{◌≡◌, ℕ, ◌≤◌, suc, true, List, [], ◌∷◌, ◌++◌, length, map, Some, None, refl, ap, sym, subst, ◌∙◌, arith}
use Rattle.std.proofs.lemmas.List.{length-map}
use Rattle.int_core.specs.Value.{greatest_string}
use Rattle.tree_core.specs.Tree.{Block, Body}
use Rattle.tree_activation.specs.Work.{State}
use Rattle.scope_core.specs.Places.{placed}
use Rattle.code_core.specs.Prototype.{Prototype, list_of}
use Rattle.code_of.specs.CodeOf.{code_of}
use Rattle.compile_text.specs.Source.{HasTree}
use Rattle.compile_chunk.specs.Chunk.{IsCodeOf, script_in}
use Rattle.io_edge.specs.Lines.{lines_of}
use Rattle.library_rows.specs.Library.{Library, library_name}
use Rattle.library_rows.specs.PreludeText.{prelude_text, prelude_functions, function_keys}
use Rattle.prelude_code.specs.Prelude.{IsPreludeCode}
use Rattle.lua_meaning.specs.Meaning.{Meaning}
use Rattle.lua_meaning.specs.Opening.{entries_of, prelude_of}
use Rattle.machine_sound.specs.Sound.{Each}
use Rattle.machine_sound.proofs.Lists.{each_none, each_cons, each_tail, each_front}
use Rattle.loaded_code.specs.Laws.{library}
use Rattle.load_rows.specs.Loading.{Builds}
use Rattle.source_builds.specs.Builds.{BuildsSources}
use Rattle.source_builds.proofs.Knowing.{read_map}
use Rattle.images_joined.specs.Law.{SessionReaderKnows}
use Rattle.lua_saving.specs.Saving.{session_reader, session_codes}
use Rattle.scripts_mean.specs.Scripts.{IsRead, IsPrelude, functions_in, MeansSo, PreludeIsAlike}
use Rattle.sessions_join.specs.Sessions.{Sessions}
use Rattle.sessions_join.specs.Laws as joined
use Rattle.sessions_mean.specs.Law as sessions
use Rattle.sessions_mean.specs.Law.{AreSessions, SessionsMean, SessionsMeanOne}
use Rattle.program.specs.Checking.{begins_chunk, IsAccepted}
use Rattle.program.specs.Compiling.{source_name}
use Rattle.program.specs.Meaning.{MeansOn, EndsWith}
use Rattle.machine_runs.specs.Laws.{AreShort}
use Rattle.program.specs.Sessions.{functions_of}
use Rattle.program.proofs.MeaningLemmas.{read_of, name_is_short, ends_with, tree_of}
use Rattle.calls_mean.specs.Law.{all_lines, AreCalls, IsAsMeant, CallsMean, CallsMeanOne}
use Rattle.calls_mean.proofs.Chained.{Chain, chain_of}
use Rattle.program.proofs.CodeLemmas.{of_script}

-- the lines of all inputs

lines_joined : (texts : List (List ℕ)) → joined.all_lines (map lines_of texts) ≡ all_lines texts
lines_joined [] = refl
lines_joined (text ∷ texts) = ap (λ ls. lines_of text ++ ls) (lines_joined texts)

pub each_back : {A : Type 0} (P : A → Type 0) (xs ys : List A) → Each P (xs ++ ys) → Each P ys
each_back P [] ys h = h
each_back P (x ∷ xs) ys h = each_back P xs ys (each_tail P x (xs ++ ys) h)

abbrev Short : List ℕ → Type 0
Short line = length line ≤ greatest_string

short_lines : (texts : List (List ℕ)) → AreShort (all_lines texts) → joined.AreShort (map lines_of texts)
short_lines [] h = each_none (λ (lines : List (List ℕ)). Each Short lines)
short_lines (text ∷ texts) h =
    each_cons (λ (lines : List (List ℕ)). Each Short lines) (lines_of text) (map lines_of texts) (each_front Short (lines_of text) (all_lines texts) h)
    (short_lines texts (each_back Short (lines_of text) (all_lines texts) h))

-- the prelude has a function for each key

pub entries_length : {F : Type 0} (names : List (List ℕ × Library)) (fs : List F) → length fs ≡ length names → length (entries_of names fs) ≡ length names
entries_length [] fs h = refl
entries_length (n ∷ names) [] h = absurd (omega (arith, h))
entries_length (n ∷ names) (f ∷ fs) h = ap suc (entries_length names fs (omega (arith, h)))

pub all_there : (prelude : Prototype) → IsPreludeCode prelude → length (functions_of prelude) ≡ length function_keys
all_there prelude own = entries_length prelude_functions (list_of prelude.inner) own.functions ∙ sym (length-map prelude_functions (λ (f : List ℕ × Library). library_name f.1 ++ f.0))

module _
    (knows : SessionReaderKnows) (alike : PreludeIsAlike) (name content : List ℕ) (budget : ℕ) (texts : List (List ℕ)) (printed : List ℕ) (status : ℕ) (c : AreCalls name content budget texts printed status)
    (builds : Builds Body) (are : BuildsSources builds) (chain : Chain builds name content budget texts printed status)
  where
    made : IsCodeOf (source_name name) (script_in content) true chain.code
    made = of_script (IsAccepted content chain.code) (IsCodeOf (source_name name) (script_in content) true chain.code) (begins_chunk content) c.is_script chain.holds

    sessions_of : (tree prelude : Block) → IsRead (script_in content) tree → IsRead prelude_text prelude → chain.code ≡ code_of (Some (source_name name)) (placed tree) → chain.prelude ≡ code_of None (placed prelude)
        → AreSessions builds (script_in content) tree (prelude_of (functions_in (placed prelude))) (functions_of chain.prelude) (Some (source_name name)) budget (map lines_of texts) printed chain.close
    sessions_of tree prelude read read_prelude code own = record {
      read = read;
      libraries = subst (λ p. IsPrelude (prelude_of (functions_in (placed prelude))) (functions_of p)) (sym own) (alike prelude read_prelude);
      all_there = all_there chain.prelude chain.is_prelude;
      name = name_is_short name c.short;
      lines = short_lines texts c.lines;
      reader = session_reader;
      knows = knows;
      code_named = session_codes (functions_of chain.prelude);
      sessions = subst (λ code. Sessions session_reader (session_codes (functions_of chain.prelude)) (functions_of chain.prelude) (library builds) budget code (map lines_of texts) printed chain.close) code chain.sessions;
    }

    as_meant : (m : Meaning Body State) → sessions.IsAsMeant m printed chain.close → IsAsMeant m printed status
    as_meant m a = record { prints = a.prints; ends = subst (EndsWith m.outcome) (sym chain.answers) (ends_with chain.close m.outcome a.ends) }

    does : SessionsMean → (m : Meaning Body State) × MeansOn builds name content (all_lines texts) budget m × IsAsMeant m printed status
    does law =
        let own = chain.is_prelude.compiled in
        let read : IsRead prelude_text own.tree = read_of prelude_text own.tree own.is_source in
        let k = law builds are (script_in content) made.tree (prelude_of (functions_in (placed own.tree))) (functions_of chain.prelude) (Some (source_name name)) budget (map lines_of texts) printed chain.close
        (sessions_of made.tree own.tree (read_of (script_in content) made.tree made.is_source) read made.code_is own.code_is) in
        let means : MeansSo builds made.tree (Some (source_name name)) (all_lines texts) budget (prelude_of (functions_in (placed own.tree))) k.0
        = subst (λ ls. MeansSo builds made.tree (Some (source_name name)) ls budget (prelude_of (functions_in (placed own.tree))) k.0) (lines_joined texts) k.1 in
        (k.0, record { is_script = c.is_script; tree = made.tree; is_source = made.is_source; prelude = own.tree; is_prelude = read; means = means }, as_meant k.0 k.2)

    one : SessionsMeanOne → (m : Meaning Body State) → MeansOn builds name content (all_lines texts) budget m → IsAsMeant m printed status
    one law m means =
        let own = chain.is_prelude.compiled in
        let code : chain.code ≡ code_of (Some (source_name name)) (placed means.tree) = made.code_is ∙ ap (λ t. code_of (Some (source_name name)) (placed t)) (means.is_source.only made.tree made.is_source.has_tree) in
        let prelude : chain.prelude ≡ code_of None (placed means.prelude) = own.code_is ∙ ap (λ t. code_of None (placed t)) (sym (own.is_source.only means.prelude (tree_of prelude_text means.prelude means.is_prelude))) in
        as_meant m (law builds are (script_in content) means.tree (prelude_of (functions_in (placed means.prelude))) (functions_of chain.prelude) (Some (source_name name)) budget (map lines_of texts) printed chain.close
        (sessions_of means.tree means.prelude (read_of (script_in content) means.tree means.is_source) means.is_prelude code prelude) m
        (subst (λ ls. MeansSo builds means.tree (Some (source_name name)) ls budget (prelude_of (functions_in (placed means.prelude))) m) (sym (lines_joined texts)) means.means))

pub calls_mean : SessionReaderKnows → PreludeIsAlike → SessionsMean → CallsMean
calls_mean knows alike law name content budget texts printed status c =
    read_map (λ builds are chain. does knows alike name content budget texts printed status c builds are chain law) (chain_of name content budget texts printed status c.calls)

pub calls_mean_one : SessionReaderKnows → PreludeIsAlike → SessionsMeanOne → CallsMeanOne
calls_mean_one knows alike law name content budget texts printed status c =
    read_map (λ builds are chain. one knows alike name content budget texts printed status c builds are chain law) (chain_of name content budget texts printed status c.calls)
