-- Names that are declared one by one.
use Rattle.std.proofs.Common.{ℕ, ◌≡◌, ◌≤◌, List, [], ◌∷◌, ◌++◌, Vec, Global, refl, sym, ap, ◌∙◌, map, length, take, drop}
use Rattle.tree_core.specs.declared.name.Name.{Name}
use Rattle.tree_core.specs.declared.name.Declared.{Declared}
use Rattle.scope_core.specs.declared.variable.Variable.{Variable}
use Rattle.scope_core.specs.Scopes.{Frame, declare, declare_all, plain_variable, declared_variable}
use Rattle.scope_core.specs.Places.{first_placed, local_placed, placed_names, placed_declared}
use Rattle.scope_core.proofs.Going.{IsGoing, WalksRow, after_all, settled_all, gone_through}

map_same : {X : Type 0} (xs : List X) → map (λ x. x) xs ≡ xs
map_same [] = refl
map_same (x ∷ xs) = ap (λ ys. x ∷ ys) (map_same xs)

abbrev pub declares_name : List Frame → Name → List Frame
declares_name frames name = declare frames (plain_variable name)

abbrev pub declares_local : List Frame → Declared → List Frame
declares_local frames declared = declare frames (declared_variable declared)

-- names that are gone through, of which each is declared as a variable

pub declaring :
    {X : Type 0} (variable : X → Variable) (placed : List Frame → X → X) (placed_all : List Frame → List X → List X)
    → ((fs : List Frame) → placed_all fs [] ≡ []) → ((fs : List Frame) (x : X) (xs : List X) → placed_all fs (x ∷ xs) ≡ placed fs x ∷ placed_all (declare fs (variable x)) xs)
    → WalksRow (λ (xs : List X). xs) (λ fs x. declare fs (variable x)) placed (λ fs xs. declare_all fs (map variable xs)) placed_all
declaring {X} variable placed placed_all none first = record { leads = leads; gives = gives }
  where
    leads : (frames : List Frame) (xs : List X) → declare_all frames (map variable xs) ≡ after_all (λ fs x. declare fs (variable x)) frames xs
    leads frames [] = refl
    leads frames (x ∷ xs) = leads (declare frames (variable x)) xs

    gives : (frames : List Frame) (xs : List X) → placed_all frames xs ≡ settled_all (λ fs x. declare fs (variable x)) placed frames xs
    gives frames [] = none frames
    gives frames (x ∷ xs) = first frames x xs ∙ ap (λ ns. placed frames x ∷ ns) (gives (declare frames (variable x)) xs)

pub names_walk : WalksRow (λ (ns : List Name). ns) declares_name first_placed (λ fs ns. declare_all fs (map plain_variable ns)) placed_names
names_walk = declaring plain_variable first_placed placed_names (λ fs. refl) (λ fs n ns. refl)

pub locals_walk : WalksRow (λ (ds : List Declared). ds) declares_local local_placed (λ fs ds. declare_all fs (map declared_variable ds)) placed_declared
locals_walk = declaring declared_variable local_placed placed_declared (λ fs. refl) (λ fs d ds. refl)

-- the names of a vector were all gone through
pub all_declared :
    {X : Type 0} {after : List Frame → X → List Frame} {settled : List Frame → X → X} {after_row : List Frame → List X → List Frame} {settled_row : List Frame → List X → List X}
    {start frames : List Frame} {xs whole : List X} {i : ℕ}
    → WalksRow (λ (xs : List X). xs) after settled after_row settled_row → (v : Vec X Global) → IsGoing (λ (x : X). x) after settled frames xs i start whole
    → length xs ≤ i → length xs ≡ length whole → whole ≡ v.items
    → (frames ≡ after_row start v.items) × (take v.len (xs ++ drop (length xs) v.items) ≡ settled_row start v.items)
all_declared {after_row = after_row} {settled_row = settled_row} {start = start} {xs = xs} walks v g h l w =
    let all = gone_through walks v g h l w in (
      all.0 ∙ ap (after_row start) (map_same v.items),
      sym (map_same (take v.len (xs ++ drop (length xs) v.items))) ∙ all.1 ∙ ap (settled_row start) (map_same v.items),
    )
