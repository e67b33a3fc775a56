-- What is proved of the meaning as such.
use Rattle.std.specs.Prelude.{◌≡◌, ℕ, ◌≤◌, true, List, [], ◌∷◌, ◌++◌, length, Some}
use Rattle.int_core.specs.Limits.{greatest_depth}
use Rattle.load_rows.specs.Loading.{Builds}
use Rattle.tree_core.specs.Tree.{Body}
use Rattle.tree_activation.specs.Work.{Celling, State}
use Rattle.lua_meaning.specs.World.{World, Coroutine}
use Rattle.lua_meaning.specs.Calls.{frames_in}
use Rattle.lua_meaning.specs.Step.{has_ended, ticks}
use Rattle.lua_meaning.specs.Meaning.{Script, Meaning, is_suspended, behind, IsMeaning, IsOnward}
use Rattle.lua_meaning.specs.Opening.{primitives}
use Rattle.lua_meaning.specs.TreeMeaning.{trees}

-- a turn that has ended within n steps is the same within more
abbrev pub EndedStays : Type 0
EndedStays =
    (celling : Celling) (builds : Builds Body) (m n : ℕ) (W : World Body State)
    → has_ended (ticks (trees celling) (primitives builds) m W).now ≡ true → m ≤ n → ticks (trees celling) (primitives builds) n W ≡ ticks (trees celling) (primitives builds) m W

-- a script has at most one meaning
abbrev pub MeaningIsOne : Type 0
MeaningIsOne =
    (celling : Celling) (builds : Builds Body) (opening : World Body State) (script : Script Body) (input : List (List ℕ)) (budget : ℕ) (x y : Meaning Body State)
    → IsMeaning (trees celling) (primitives builds) opening script input budget x → IsMeaning (trees celling) (primitives builds) opening script input budget y → x ≡ y

-- what a script prints on some lines, and then from where it was suspended on further ones, is what it prints on all of them, and so is the ending
abbrev pub CutsDoNotShow : Type 0
CutsDoNotShow =
    (celling : Celling) (builds : Builds Body) (opening : World Body State) (script : Script Body) (some more : List (List ℕ)) (budget : ℕ) (x y : Meaning Body State) (W : World Body State)
    → IsMeaning (trees celling) (primitives builds) opening script some budget x → x.outcome ≡ is_suspended W → IsOnward (trees celling) (primitives builds) W more budget y
    → IsMeaning (trees celling) (primitives builds) opening script (some ++ more) budget (behind x.printed y)

-- no coroutine has more frames than the limit
abbrev pub AllShallow : {S : Type 0} → List (Coroutine S) → Type 0
AllShallow [] = Unit {0}
AllShallow (c ∷ coroutines) = (length (frames_in (Some c)) ≤ greatest_depth) × AllShallow coroutines

pub record IsShallow (W : World Body State) : Type 0 where
  pub top : length W.frames ≤ greatest_depth
  pub others : AllShallow W.coroutines

-- a step keeps so, and spends at most what is left of the budget
abbrev pub KeepsLimits : Type 0
KeepsLimits =
    (celling : Celling) (builds : Builds Body) (n : ℕ) (W : World Body State) → IsShallow W
    → IsShallow (ticks (trees celling) (primitives builds) n W) × ((ticks (trees celling) (primitives builds) n W).fuel ≤ W.fuel)
