-- What a look-up of a constant tells.
use Rattle.std.specs.Prelude.{◌≡◌, ℕ, ◌<◌, ℤ, List, length, Option, Some, None}
use Rattle.code_core.specs.declared.proto.Const.{Const}
use Rattle.code_core.specs.declared.proto.Const.TheVariants.{Nil, False, True, Int, Str}
use Rattle.code_of.specs.Constants.{number_in}

-- its number, or none where it is not there
abbrev pub Tells : List Const → Const → Option ℕ → Type 0
Tells constants x None = number_in constants x ≡ length constants
Tells constants x (Some number) = (number_in constants x ≡ number) × (number < length constants)

-- strings and integers are found by their contents, and the other three constants by their names
pub record IsIndexed (constants : List Const) (text_number : List ℕ → Option ℕ) (integer_number : ℤ → Option ℕ) (nil_number false_number true_number : Option ℕ) : Type 0 where
  pub texts : (text : List ℕ) → Tells constants (Str text) (text_number text)
  pub integers : (n : ℤ) → Tells constants (Int n) (integer_number n)
  pub nils : Tells constants Nil nil_number
  pub falses : Tells constants False false_number
  pub trues : Tells constants True true_number
