-- Labels that a `goto` may name (Lua 5.4 manual, 3.3.4).
use Rattle.std.specs.Prelude.{ℕ, Bool, true, false, cond, ◌&&◌, ◌||◌, List, [], ◌∷◌, nat_le, bytes_eq}
use Rattle.tree_core.specs.Tree.{Stats, EndStats, MoreStats, Stat, Empty, Label}
use Rattle.tree_terms.specs.Levels.{level_after}

-- void statements are empty ones and labels
abbrev pub are_void : Stats → Bool
are_void EndStats = true
are_void (MoreStats (Empty line) ss) = are_void ss
are_void (MoreStats (Label line name) ss) = are_void ss
are_void _ = false

-- names that a `goto` may have: those of the labels around it, and whether it may go there without entering the scope of a local

abbrev pub Named : Type 0
Named = List ℕ × Bool

abbrev pub legal : List ℕ → List Named → Bool
legal name [] = false
legal name (x ∷ xs) = cond (bytes_eq x.0 name) x.1 (legal name xs)

-- of the labels further on, from a statement before which t locals are in scope
abbrev pub names_ahead : Stats → (falls : Bool) → (t level : ℕ) → List Named
names_ahead EndStats falls t level = []
names_ahead (MoreStats (Label line name) ss) falls t level = (name.text, (falls && are_void ss) || nat_le level t) ∷ names_ahead ss falls t level
names_ahead (MoreStats s ss) falls t level = names_ahead ss falls t (level_after s level)

abbrev pub names_passed : Stat → List Named → List Named
names_passed (Label line name) named = (name.text, true) ∷ named
names_passed _ named = named
