-- What a script means on which the program is called, call after call.
use Rattle.std.specs.Prelude.{◌≡◌, ℕ, ◌≤◌, false, List, length}
use Rattle.std.specs.List.{flat_map}
use Rattle.tree_core.specs.Tree.{Body}
use Rattle.tree_activation.specs.Work.{State}
use Rattle.io_edge.specs.Lines.{lines_of}
use Rattle.lua_meaning.specs.Meaning.{Meaning}
use Rattle.source_builds.specs.Readings.{AsRead}
use Rattle.program.specs.Checking.{begins_chunk}
use Rattle.program.specs.Meaning.{MeansOn, EndsWith}
use Rattle.machine_runs.specs.Laws.{AreShort}
use Rattle.calls_mean.specs.Calls.{Calls}

-- the lines of all inputs, in their order
abbrev pub all_lines : List (List ℕ) → List (List ℕ)
all_lines texts = flat_map lines_of texts

-- calls on a file that holds a script and no chunk, and lines that strings can hold
pub record AreCalls (name content : List ℕ) (budget : ℕ) (texts : List (List ℕ)) (printed : List ℕ) (status : ℕ) : Type 0 where
  pub calls : Calls budget name content texts printed status
  pub is_script : begins_chunk content ≡ false
  pub short : length name ≤ 65536
  pub lines : AreShort (all_lines texts)

-- a meaning that prints these bytes and has this status
pub record IsAsMeant (m : Meaning Body State) (printed : List ℕ) (status : ℕ) : Type 0 where
  pub prints : m.printed ≡ printed
  pub ends : EndsWith m.outcome status

-- What the calls write, joined, the script means on all lines, and the last status is that of its end. What the calls load is read in the meaning as in them
abbrev pub CallsMean : Type 0
CallsMean =
    (name content : List ℕ) (budget : ℕ) (texts : List (List ℕ)) (printed : List ℕ) (status : ℕ)
    → AreCalls name content budget texts printed status → AsRead (λ builds. (m : Meaning Body State) × MeansOn builds name content (all_lines texts) budget m × IsAsMeant m printed status)

-- and it means nothing else
abbrev pub CallsMeanOne : Type 0
CallsMeanOne =
    (name content : List ℕ) (budget : ℕ) (texts : List (List ℕ)) (printed : List ℕ) (status : ℕ)
    → AreCalls name content budget texts printed status → AsRead (λ builds. (m : Meaning Body State) → MeansOn builds name content (all_lines texts) budget m → IsAsMeant m printed status)
