-- Code in memory: the functions of prototypes in a list, and what is kept of each.
use Rattle.std.specs.Prelude.{◌≡◌, ℕ, suc, ◌+◌, List, [], ◌∷◌, ◌++◌, Option, Some, None, false, length, map, take, slice_get}
use Rattle.int_core.specs.Value.{known}
use Rattle.code_core.specs.Prototype.{Prototype, Prototypes, none, more, prototypes, count, stripped}
use Rattle.code_core.specs.Check.{IsChecked}
use Rattle.machine_core.specs.Text.{constant}
use Rattle.lua_heap.specs.declared.codes.Code.{Code}
use Rattle.lua_heap.specs.declared.codes.Codes.{Codes}
use Rattle.lua_heap.specs.declared.codes.Tree.{Tree}
use Rattle.lua_heap.specs.Reading.{value}

-- functions, each followed by those that are defined in it
abbrev pub preorder : Prototypes → List Prototype
preorder none = []
preorder (more own inner rest) = record { own = own; inner = inner } ∷ preorder inner ++ preorder rest

-- the numbers of functions that stand beside each other, where the first has number n
abbrev pub numbers : ℕ → Prototypes → List ℕ
numbers n none = []
numbers n (more own inner rest) = n ∷ numbers (suc n + count inner) rest

abbrev pub functions_in : List Tree → List Prototype
functions_in trees = preorder (prototypes (map (λ t. t.code) trees))

abbrev pub functions : Codes → List Prototype
functions codes = functions_in codes.trees.items

-- each tree has the number of its first function
abbrev pub AreFirsts : List Tree → Type 0
AreFirsts trees = (k : ℕ) (t : Tree) → slice_get trees k ≡ Some t → t.first ≡ length (functions_in (take k trees))

-- what is kept of function n says what its prototype says
pub record IsCode (texts : List (List ℕ)) (n : ℕ) (p : Prototype) (code : Code) : Type 0 where
  pub checked : IsChecked p
  pub words : code.words.items ≡ p.own.code
  pub constants : map (value texts) code.constants.items ≡ map (λ c. known (constant c)) p.own.constants
  pub stack : code.stack ≡ p.own.stack
  pub params : code.params ≡ p.own.params
  pub vararg : code.vararg ≡ p.own.vararg
  pub upvalues : code.upvalues.items ≡ p.own.upvalues
  pub inner : map (λ id. id.0) code.inner.items ≡ numbers (suc n) p.inner

pub record AreCodes (texts : List (List ℕ)) (codes : Codes) : Type 0 where
  pub count : length codes.list.items ≡ length (functions codes)
  pub firsts : AreFirsts codes.trees.items
  pub each : (n : ℕ) (p : Prototype) (code : Code) → slice_get (functions codes) n ≡ Some p → slice_get codes.list.items n ≡ Some code → IsCode texts n p code

-- what stands for a function that is not there: no checked code is empty
unfoldable pub no_code : Prototype
no_code = stripped 0 false 0 [] [] [] none

abbrev pub code_or_none : Option Prototype → Prototype
code_or_none None = no_code
code_or_none (Some p) = p

abbrev pub prototype_at : List Prototype → ℕ → Prototype
prototype_at ps n = code_or_none (slice_get ps n)
