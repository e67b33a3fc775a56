-- That turns end: within a budget of fuel a script comes to a yield, a return, an error or the end of the budget.
use Rattle.std.specs.Prelude.{◌≡◌, ℕ, true, List}
use Rattle.tree_core.specs.Tree.{Body}
use Rattle.tree_activation.specs.Work.{Celling, State}
use Rattle.lua_meaning.specs.World.{World}
use Rattle.lua_meaning.specs.Step.{has_ended, tick, ticks}
use Rattle.lua_meaning.specs.Meaning.{Script, Meaning, IsMeaning, begun, handed_line}
use Rattle.load_rows.specs.Loading.{Builds}
use Rattle.library_rows.specs.Library.{Entry}
use Rattle.lua_meaning.specs.Opening.{primitives}
use Rattle.lua_meaning.specs.TreeMeaning.{trees, tree_opening}

-- how a run came to where it is: a script began, the world made a step, or a line was handed over
pub data History : Type 0 where
  began : (prelude : List (Entry Body)) → Script Body → (budget : ℕ) → History
  went_on : History → History
  was_handed : History → (line : List ℕ) → (budget : ℕ) → History

abbrev pub world_after : Celling → Builds Body → History → World Body State
world_after celling builds (began prelude script budget) = begun (trees celling) (primitives builds) (tree_opening prelude) script budget
world_after celling builds (went_on h) = tick (trees celling) (primitives builds) (world_after celling builds h)
world_after celling builds (was_handed h line budget) = handed_line (trees celling) (primitives builds) (world_after celling builds h) line budget

abbrev pub Ends : Celling → Builds Body → World Body State → Type 0
Ends celling builds W = (n : ℕ) × (has_ended (ticks (trees celling) (primitives builds) n W).now ≡ true)

abbrev pub TurnsEnd : Type 0
TurnsEnd = (celling : Celling) (builds : Builds Body) (h : History) → Ends celling builds (world_after celling builds h)

abbrev pub EveryScriptHasAMeaning : Type 0
EveryScriptHasAMeaning =
    (celling : Celling) (builds : Builds Body) (prelude : List (Entry Body)) (script : Script Body) (input : List (List ℕ)) (budget : ℕ)
    → (m : Meaning Body State) × IsMeaning (trees celling) (primitives builds) (tree_opening prelude) script input budget m
