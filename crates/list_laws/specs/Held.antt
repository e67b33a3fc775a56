-- Numbers with what belongs to them, as registers and locals with the cells that they are held as.
use Rattle.std.specs.Prelude.{◌≡◌, ℕ, ◌⊎◌, List, [], ◌∷◌}

abbrev pub Held : Type 0
Held = List (ℕ × ℕ)

-- a number and what belongs to it are in the list
abbrev pub Has : {A : Type 0} → ℕ → A → List (ℕ × A) → Type 0
Has n x [] = ⊥
Has n x (s ∷ list) = ((s.0 ≡ n) × (s.1 ≡ x)) ⊎ Has n x list
