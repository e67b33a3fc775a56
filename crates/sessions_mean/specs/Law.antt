-- What a script means that is cut into sessions.
use Rattle.std.specs.Prelude.{◌≡◌, ℕ, List, length, Option, IsTrue}
use Rattle.tree_core.specs.Tree.{Block, Body}
use Rattle.tree_activation.specs.Work.{State}
use Rattle.scope_core.specs.Places.{placed}
use Rattle.code_core.specs.Prototype.{Prototype}
use Rattle.code_core.specs.Writable.{name_fits}
use Rattle.code_of.specs.CodeOf.{code_of}
use Rattle.library_rows.specs.Library.{Entry}
use Rattle.library_rows.specs.PreludeText.{function_keys}
use Rattle.lua_meaning.specs.Meaning.{Meaning}
use Rattle.load_rows.specs.Loading.{Builds}
use Rattle.loaded_code.specs.Laws.{library}
use Rattle.source_builds.specs.Builds.{BuildsSources}
use Rattle.machine_runs.specs.Runs.{Close}
use Rattle.image_core.specs.Image.{PermKey}
use Rattle.image_bytes.specs.Bytes.{Reader}
use Rattle.images_stand.specs.Sessions.{KnowsLibraries}
use Rattle.scripts_mean.specs.Scripts.{IsRead, IsPrelude, EndsAs, MeansSo}
use Rattle.sessions_join.specs.Sessions.{Sessions}
use Rattle.sessions_join.specs.Laws.{AreShort, all_lines}

-- a source and a prelude, and the sessions of its code: the lines of each, what they print, and how the last one closes. In all of them what is loaded is built as
-- `builds` says
pub record AreSessions (builds : Builds Body) (source : List ℕ) (tree : Block) (prelude : List (Entry Body)) (compiled : List (Entry Prototype)) (given : Option (List ℕ)) (budget : ℕ) (inputs : List (List (List ℕ))) (printed : List ℕ) (close : Close) : Type 0 where
  pub read : IsRead source tree
  pub libraries : IsPrelude prelude compiled
  pub all_there : length compiled ≡ length function_keys
  pub name : IsTrue (name_fits given)
  pub lines : AreShort inputs
  pub reader : Reader
  pub knows : KnowsLibraries reader
  pub code_named : PermKey → Option Prototype
  pub sessions : Sessions reader code_named compiled (library builds) budget (code_of given (placed tree)) inputs printed close

-- a meaning that prints these bytes and ends so
pub record IsAsMeant (m : Meaning Body State) (printed : List ℕ) (close : Close) : Type 0 where
  pub prints : m.printed ≡ printed
  pub ends : EndsAs close m.outcome

-- what the sessions do, joined, the tree means on all lines
abbrev pub SessionsMean : Type 0
SessionsMean =
    (builds : Builds Body) → BuildsSources builds → (source : List ℕ) (tree : Block) (prelude : List (Entry Body)) (compiled : List (Entry Prototype)) (given : Option (List ℕ)) (budget : ℕ) (inputs : List (List (List ℕ))) (printed : List ℕ) (close : Close)
    → AreSessions builds source tree prelude compiled given budget inputs printed close → (m : Meaning Body State) × MeansSo builds tree given (all_lines inputs) budget prelude m × IsAsMeant m printed close

-- and it means nothing else
abbrev pub SessionsMeanOne : Type 0
SessionsMeanOne =
    (builds : Builds Body) → BuildsSources builds → (source : List ℕ) (tree : Block) (prelude : List (Entry Body)) (compiled : List (Entry Prototype)) (given : Option (List ℕ)) (budget : ℕ) (inputs : List (List (List ℕ))) (printed : List ℕ) (close : Close)
    → AreSessions builds source tree prelude compiled given budget inputs printed close → (m : Meaning Body State) → MeansSo builds tree given (all_lines inputs) budget prelude m → IsAsMeant m printed close
