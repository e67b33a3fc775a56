-- Names that are declared one by one, of which each may break the limit on local variables.
use Rattle.std.proofs.Common.{ℕ, ◌+◌, ◌≡◌, ◌≤◌, ◌<◌, List, [], ◌∷◌, refl, sym, ap₂, ◌∙◌, map, length, drop}
use Rattle.std.specs.Prelude.{Option, slice_index_or}
use Rattle.tree_core.specs.declared.name.Name.{Name}
use Rattle.tree_core.specs.declared.name.Declared.{Declared}
use Rattle.scope_core.specs.declared.violation.Violation.{Violation}
use Rattle.scope_core.specs.declared.variable.Variable.{Variable}
use Rattle.scope_core.specs.Scopes.{Frame, declare, declare_all, plain_variable, declared_variable}
use Rattle.lua_scope.specs.Met.{met_declared, met_names, met_declarations}
use Rattle.lua_scope.proofs.Looping.{on, at_end}

-- what names are met with, by their variables and lines
pub record MeetsEach {X : Type 0} (variable : X → Variable) (line : X → ℕ) (met_all : List Frame → Option Violation → List X → Option Violation) : Type 0 where
  pub none : (fs : List Frame) (o : Option Violation) → met_all fs o [] ≡ o
  pub first : (fs : List Frame) (o : Option Violation) (x : X) (xs : List X)
      → met_all fs o (x ∷ xs) ≡ met_all (declare fs (variable x)) (met_declared (declare fs (variable x)) o (line x)) xs

pub each_name : MeetsEach plain_variable (λ (n : Name). n.line) met_names
each_name = record { none = λ fs o. refl; first = λ fs o n ns. refl }

pub each_declared : MeetsEach declared_variable (λ (d : Declared). d.name.line) met_declarations
each_declared = record { none = λ fs o. refl; first = λ fs o d ds. refl }

-- what is left leads to these functions around and this violation
abbrev pub IsDeclaring :
    {X : Type 0} → (X → Variable) → (List Frame → Option Violation → List X → Option Violation)
    → (frames : List Frame) (least : Option Violation) (rest : List X) (ends : List Frame) (found : Option Violation) → Type 0
IsDeclaring variable met_all frames least rest ends found = (declare_all frames (map variable rest) ≡ ends) × (met_all frames least rest ≡ found)

pub declaring_on :
    {X : Type 0} {variable : X → Variable} {line : X → ℕ} {met_all : List Frame → Option Violation → List X → Option Violation} → MeetsEach variable line met_all
    → (frames : List Frame) (least : Option Violation) (xs : List X) (i : ℕ) (x : X) {frames' ends : List Frame} {least' found : Option Violation}
    → i < length xs → x ≡ slice_index_or xs i x
    → frames' ≡ declare frames (variable x) → least' ≡ met_declared (declare frames (variable x)) least (line x)
    → IsDeclaring variable met_all frames least (drop i xs) ends found
    → IsDeclaring variable met_all frames' least' (drop (i + 1) xs) ends found
declaring_on {X} {variable} {line} {met_all} each frames least xs i x {frames'} {ends} {least'} {found} h is f o known = (
  on (λ (fs : List Frame) (ns : List X). declare_all fs (map variable ns)) (λ fs n ns. declare fs (variable n)) (λ fs n ns. refl) frames frames' xs i x _ h is f known.0,
  on (λ (s : List Frame × Option Violation) (ns : List X). met_all s.0 s.1 ns) (λ s n ns. (declare s.0 (variable n), met_declared (declare s.0 (variable n)) s.1 (line n)))
      (λ s n ns. each.first s.0 s.1 n ns) (frames, least) (frames', least') xs i x _ h is (ap₂ (λ a b. (a, b)) f o) known.1,
)

pub all_declared :
    {X : Type 0} {variable : X → Variable} {line : X → ℕ} {met_all : List Frame → Option Violation → List X → Option Violation} → MeetsEach variable line met_all
    → (frames : List Frame) (least : Option Violation) (xs : List X) (i : ℕ) {ends : List Frame} {found : Option Violation}
    → length xs ≤ i → IsDeclaring variable met_all frames least (drop i xs) ends found
    → (frames ≡ ends) × (least ≡ found)
all_declared {X} {variable} {line} {met_all} each frames least xs i h known = (
  at_end (λ (fs : List Frame) (ns : List X). declare_all fs (map variable ns)) frames xs i _ h known.0,
  sym (each.none frames least) ∙ at_end (λ (o : Option Violation) (ns : List X). met_all frames o ns) least xs i _ h known.1,
)
