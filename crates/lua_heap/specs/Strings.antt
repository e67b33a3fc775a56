-- Strings that are kept once for each content.
use Rattle.std.specs.Prelude.{◌≡◌, ℕ, ◌≤◌, List, [], ◌∷◌, ◌++◌, if◌then◌else◌, Some, length, bytes_eq, slice_get}
use Rattle.std.specs.List.{list_any}
use Rattle.int_core.specs.Value.{greatest_string}

-- a content that is not there goes last
abbrev pub interned : List (List ℕ) → List ℕ → List (List ℕ)
interned texts text = if list_any (bytes_eq text) texts then texts else texts ++ text ∷ []

-- no two strings have one content
abbrev pub AreApart : List (List ℕ) → Type 0
AreApart texts = (i j : ℕ) (text : List ℕ) → slice_get texts i ≡ Some text → slice_get texts j ≡ Some text → i ≡ j

-- none is longer than a string may be
abbrev pub AreShort : List (List ℕ) → Type 0
AreShort texts = (i : ℕ) (text : List ℕ) → slice_get texts i ≡ Some text → length text ≤ greatest_string
