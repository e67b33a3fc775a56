-- What the script in a file means (Lua 5.4 manual, 2 and 3), and that it was done.
use Rattle.std.specs.Prelude.{◌≡◌, ℕ, List, ◌++◌, Bool, true, false, ◌||◌, nat_eq}
use Rattle.std.specs.Option.{option_map}
use Rattle.load_rows.specs.Loading.{Builds}
use Rattle.tree_core.specs.Tree.{Block, Body}
use Rattle.tree_activation.specs.Work.{when_declared, State}
use Rattle.scope_core.specs.Places.{placed}
use Rattle.library_rows.specs.PreludeText.{prelude_text}
use Rattle.compile_text.specs.Source.{IsSource}
use Rattle.compile_chunk.specs.Chunk.{script_in}
use Rattle.lua_meaning.specs.Meaning as meaning
use Rattle.lua_meaning.specs.Meaning.{Meaning, Outcome, IsMeaning}
use Rattle.lua_feed.specs.Limits.{usable_lines}
use Rattle.lua_meaning.specs.Opening.{primitives, prelude_of}
use Rattle.lua_meaning.specs.TreeMeaning.{trees, tree_opening}
use Rattle.runs_alike.specs.Alike.{script}
use Rattle.scripts_mean.specs.Scripts.{IsRead, functions_in}
use Rattle.program.specs.Devices.{Device}
use Rattle.program.specs.Checking.{begins_chunk}
use Rattle.program.specs.Compiling.{source_name}

-- What the script in a file means on lines of input by the letter of the manual, under the file's name and with lines: in the world of the libraries, whose
-- Lua functions are those of the prelude's text. Each turn has the budget
pub record MeansOn (builds : Builds Body) (name content : List ℕ) (lines : List (List ℕ)) (budget : ℕ) (m : Meaning Body State) : Type 0 where
  pub is_script : begins_chunk content ≡ false
  pub tree : Block
  pub is_source : IsSource (script_in content) tree
  pub prelude : Block
  pub is_prelude : IsRead prelude_text prelude
  pub means :
      IsMeaning (trees when_declared) (primitives builds) (tree_opening (prelude_of (functions_in (placed prelude)))) (script (placed tree) (source_name name) true) lines budget m

-- the status of how a script ends by its meaning
abbrev pub EndsWith : Outcome Body State → (status : ℕ) → Type 0
EndsWith meaning.has_returned status = status ≡ 0
EndsWith meaning.has_failed status = status ≡ 1
EndsWith (meaning.is_suspended W) status = status ≡ 3
EndsWith meaning.has_spent status = status ≡ 4
EndsWith meaning.is_broken status = ⊥

-- the script waits for a line
abbrev pub IsWaiting : Outcome Body State → Type 0
IsWaiting (meaning.is_suspended W) = Unit {0}
IsWaiting _ = ⊥

-- the statuses of a run that came to an end: it returned, failed, waits for a line and there is none, or a turn has spent its budget
abbrev pub has_ended : (status : ℕ) → Bool
has_ended status = nat_eq status 0 || nat_eq status 1 || nat_eq status 3 || nat_eq status 4

-- the script in a file has a meaning on the lines of which this status is the end, and what it prints was written, byte for byte
pub record IsDoneAsMeant (builds : Builds Body) (name content : List ℕ) (lines : List (List ℕ)) (budget : ℕ) (out : Device (List ℕ)) (status : ℕ) : Type 0 where
  pub m : Meaning Body State
  pub means : MeansOn builds name content lines budget m
  pub ends : EndsWith m.outcome status
  pub written : out.content' ≡ option_map (λ before. before ++ m.printed) out.content

-- reading failed: some first lines of the text were taken, none of them past the limits, the script waits for the next by what it means on them, and what it
-- prints was written, byte for byte
pub record IsMeantShort (builds : Builds Body) (name content text : List ℕ) (budget : ℕ) (out : Device (List ℕ)) : Type 0 where
  pub lines : List (List ℕ)
  pub more : List (List ℕ)
  pub first : usable_lines 0 text ≡ lines ++ more
  pub m : Meaning Body State
  pub means : MeansOn builds name content lines budget m
  pub waits : IsWaiting m.outcome
  pub written : out.content' ≡ option_map (λ before. before ++ m.printed) out.content
