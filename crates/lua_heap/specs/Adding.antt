-- Code that is added: strings go behind those that are there, and functions behind functions.
use Rattle.std.specs.Prelude.{◌≡◌, ℕ, suc, List, [], ◌∷◌, ◌++◌, length, map}
use Rattle.code_core.specs.Prototype.{Prototype}
use Rattle.machine_sound.specs.Sound.{Sound}
use Rattle.lua_heap.specs.declared.codes.Code.{Code}
use Rattle.lua_heap.specs.declared.codes.Tree.{Tree}
use Rattle.lua_heap.specs.declared.world.World.{World as Memory}
use Rattle.lua_heap.specs.Codes.{numbers, preorder, functions, IsCode, AreCodes}
use Rattle.lua_heap.specs.Plain.{plain}

-- a list that begins with another
pub record Begins (A : Type 0) (old new : List A) : Type 0 where
  pub more : List A
  pub is : new ≡ old ++ more

-- what is kept of a function, but for the numbers of those that are defined in it: once it has them, it says what its prototype says
pub record IsOwnCode (texts : List (List ℕ)) (p : Prototype) (code : Code) : Type 0 where
  pub numbered : (n : ℕ) (whole : Code) → whole ≡ record code { inner = whole.inner } → map (λ id. id.0) whole.inner.items ≡ numbers (suc n) p.inner → IsCode texts n p whole

-- what is kept of functions says what their prototypes say, where the first has number n
abbrev pub AreCodesFrom : List (List ℕ) → (n : ℕ) → List Prototype → List Code → Type 0
AreCodesFrom texts n [] [] = Unit {0}
AreCodesFrom texts n [] (code ∷ rest) = ⊥
AreCodesFrom texts n (p ∷ ps) [] = ⊥
AreCodesFrom texts n (p ∷ ps) (code ∷ rest) = IsCode texts n p code × AreCodesFrom texts (suc n) ps rest

-- functions go last
pub record AddsFunctions (texts : List (List ℕ)) (old new : List Code) (ps : List Prototype) : Type 0 where
  pub added : List Code
  pub list : new ≡ old ++ added
  pub codes : AreCodesFrom texts (length old) ps added

-- a prototype's function goes last, then those that are defined in it; a sound world reads the same
pub record AddsCode (old new : Memory) (p : Prototype) : Type 0 where
  pub functions : functions new.codes ≡ functions old.codes ++ (p ∷ preorder p.inner)
  pub trees : Begins Tree old.codes.trees.items new.codes.trees.items
  pub list : Begins Code old.codes.list.items new.codes.list.items
  pub strings : Begins (List ℕ) old.strings new.strings
  pub rest : new ≡ record old { strings = new.strings; codes = new.codes }
  pub plain : (primitives fuel : ℕ) → Sound primitives (plain old fuel) → plain new fuel ≡ plain old fuel
  pub codes : AreCodes new.strings new.codes

-- code is what it was
pub record KeepsCode (old new : Memory) : Type 0 where
  pub trees : new.codes.trees.items ≡ old.codes.trees.items
  pub list : new.codes.list.items ≡ old.codes.list.items
  pub rest : new ≡ record old { codes = new.codes }
  pub plain : (fuel : ℕ) → plain new fuel ≡ plain old fuel
  pub codes : AreCodes old.strings old.codes → AreCodes new.strings new.codes
