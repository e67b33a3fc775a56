-- What a script means is what its code does, from the world of the libraries.
use Rattle.std.proofs.Common.{◌≡◌, ℕ, ◌+◌, ◌≤◌, Bool, true, false, cond, List, [], ◌∷◌, length, Some, None, IsTrue, refl, sym, ap, ◌∙◌, arith, ◌^◌}
use Rattle.std.proofs.lemmas.Bool.Decides.{nat_tests}
use Rattle.std.specs.Bool.{MatchBool}
use Rattle.load_rows.specs.Loading.{Builds}
use Rattle.source_builds.specs.Builds.{BuildsSources}
use Rattle.int_core.specs.Value.{greatest_string}
use Rattle.machine_sound.specs.Sound.{Each}
use Rattle.machine_sound.proofs.Lists.{each_none, each_cons, each_on}
use Rattle.tree_core.specs.Tree.{Block, Body}
use Rattle.tree_activation.specs.Work.{State}
use Rattle.scope_core.specs.Places.{placed}
use Rattle.code_core.specs.Prototype.{Prototype, list_of}
use Rattle.code_core.specs.Writable.{name_fits}
use Rattle.code_of.specs.CodeOf.{code_of}
use Rattle.compile_text.specs.Source.{HasTree, IsSource}
use Rattle.compile_chunk.specs.Chunk.{IsCodeOf, script_in}
use Rattle.library_rows.specs.PreludeText.{prelude_text}
use Rattle.prelude_code.specs.Prelude.{IsPreludeCode}
use Rattle.lua_meaning.specs.Meaning as meaning
use Rattle.lua_meaning.specs.Meaning.{Meaning, Outcome}
use Rattle.lua_meaning.specs.Opening.{prelude_of}
use Rattle.machine_runs.specs.Runs.{Close, has_returned, has_failed, has_spent, is_suspended, Run, CodeRun}
use Rattle.loaded_code.specs.Laws.{library}
use Rattle.scripts_mean.specs.Scripts.{IsRead, functions_in, EndsAs, RunsAs, ScriptsMean, PreludeIsAlike}
use Rattle.lua_feed.specs.Limits.{is_within, lines_within}
use Rattle.lua_feed.specs.Running.{started}
use Rattle.lua_feed.proofs.Limits.{within_short}
use Rattle.program.specs.Checking.{begins_chunk, IsAccepted}
use Rattle.program.specs.Compiling.{source_name}
use Rattle.program.specs.Meaning.{MeansOn, EndsWith, IsWaiting}
use Rattle.machine_runs.specs.Laws.{AreShort}
use Rattle.program.specs.Running.{HoldsCode}
use Rattle.program.specs.Sessions.{status_of_close}
use Rattle.program.proofs.CodeLemmas.{of_script}

abbrev pub Short : List ℕ → Type 0
Short line = length line ≤ greatest_string

pub read_of : (source : List ℕ) (tree : Block) → IsSource source tree → IsRead source tree
read_of source tree s = record {
  limited = s.has_tree.limited;
  tokens = s.has_tree.tokens;
  lexed = s.has_tree.lexed;
  derived = s.has_tree.derived;
  lawful = s.lawful;
}

pub tree_of : (source : List ℕ) (tree : Block) → IsRead source tree → HasTree source tree
tree_of source tree r = record { limited = r.limited; tokens = r.tokens; lexed = r.lexed; derived = r.derived }

pub name_is_short : (name : List ℕ) → length name ≤ 65536 → IsTrue (name_fits (Some (source_name name)))
name_is_short name short = grind (arith, nat_tests, short)

-- the code in a file and the prelude's are the codes of their trees
code_is : (name content : List ℕ) (code : Prototype) (tree : Block) → begins_chunk content ≡ false → HoldsCode name content code → IsSource (script_in content) tree → code ≡ code_of (Some (source_name name)) (placed tree)
code_is name content code tree begins holds source =
    let made : IsCodeOf (source_name name) (script_in content) true code = of_script (IsAccepted content code) (IsCodeOf (source_name name) (script_in content) true code) (begins_chunk content) begins holds in
    made.code_is ∙ ap (λ t. code_of (Some (source_name name)) (placed t)) (source.only made.tree made.is_source.has_tree)

pub prelude_is : (code : Prototype) (tree : Block) → IsPreludeCode code → IsRead prelude_text tree → code ≡ code_of None (placed tree)
prelude_is code tree own read =
    own.compiled.code_is ∙ ap (λ t. code_of None (placed t)) (sym (own.compiled.is_source.only tree (tree_of prelude_text tree read)))

pub meaning_run : {builds : Builds Body} → BuildsSources builds → ScriptsMean → PreludeIsAlike → (name content : List ℕ) (lines : List (List ℕ)) (budget : ℕ) (prelude code : Prototype) (m : Meaning Body State)
    → length name ≤ 65536 → AreShort lines → IsPreludeCode prelude → HoldsCode name content code → MeansOn builds name content lines budget m
    → (run : Run) × CodeRun (library builds) (started prelude code) lines budget run × RunsAs run m
meaning_run {builds = builds} sources law alike name content lines budget prelude code m short fits own holds means =
    let codes : code ≡ code_of (Some (source_name name)) (placed means.tree) = code_is name content code means.tree means.is_script holds means.is_source in
    let preludes : prelude ≡ code_of None (placed means.prelude) = prelude_is prelude means.prelude own means.is_prelude in
    let goes = law builds sources (script_in content) means.tree (prelude_of (functions_in (placed means.prelude))) (prelude_of (list_of (code_of None (placed means.prelude)).inner)) (Some (source_name name)) lines budget
    (record { read = read_of (script_in content) means.tree means.is_source; libraries = alike means.prelude means.is_prelude; name = name_is_short name short; lines = fits }) m means.means in
    (goes.0, rw (codes, preludes) goes.1, goes.2)

pub ends_with : (close : Close) (o : Outcome Body State) → EndsAs close o → EndsWith o (status_of_close close)
ends_with has_returned meaning.has_returned e = refl
ends_with has_failed meaning.has_failed e = refl
ends_with has_spent meaning.has_spent e = refl
ends_with is_suspended (meaning.is_suspended W) e = refl
ends_with _ _ e = absurd e

-- a script that waits for a line runs as one that does
pub waits_too : (close : Close) (o : Outcome Body State) → EndsAs close o → IsWaiting o → close ≡ is_suspended
waits_too is_suspended o e w = refl
waits_too has_returned (meaning.is_suspended W) e w = absurd e
waits_too has_failed (meaning.is_suspended W) e w = absurd e
waits_too has_spent (meaning.is_suspended W) e w = absurd e
waits_too _ _ e w = absurd w

-- and the other way around
pub waiting : (o : Outcome Body State) → EndsAs is_suspended o → IsWaiting o
waiting (meaning.is_suspended W) e = tt
waiting _ e = absurd e

-- strings can hold the lines that are handed over
pub handed_short : (lines : List (List ℕ)) → Each (λ (line : List ℕ). length line ≤ 2 ^ 20) lines → AreShort lines
handed_short lines short = each_on (λ (line : List ℕ). length line ≤ 2 ^ 20) Short (λ line h. let k : length line ≤ 1048576 = h in omega (arith, k)) lines short

-- and those that are not past the limits
pub usable_short : (taken : ℕ) (lines : List (List ℕ)) → AreShort (lines_within taken lines)
usable_short taken [] = each_none Short
usable_short taken (line ∷ lines) = by (is_within taken line) refl (usable_short (taken + length line + 1) lines)
  where
    by : (t : Bool) → is_within taken line ≡ t → AreShort (lines_within (taken + length line + 1) lines) → AreShort (cond t (line ∷ lines_within (taken + length line + 1) lines) [])
    by true within rest =
        let first = within_short taken line within in
        let fits : length line ≤ greatest_string = omega (arith, first) in
        each_cons Short line (lines_within (taken + length line + 1) lines) fits rest
    by false within rest = each_none Short
