-- The captures that stand before a place of a pattern.
use Rattle.std.specs.Prelude.{ℕ, ◌+◌, ◌-◌, length, take, slice_index, Bool, true, false, ◌==◌, ◌&&◌, not, nat_lt, List, [], ◌∷◌, ◌++◌}
use Rattle.std.specs.List.{list_any}

-- how many were opened, and the numbers of those that are open, in the order in which they were opened
pub record Scope : Type 0 where
  pub opened : ℕ
  pub unclosed : List ℕ

abbrev pub empty_scope : Scope
empty_scope = record { opened = 0; unclosed = [] }

abbrev pub opens : Scope → Scope
opens scope = record { opened = scope.opened + 1; unclosed = scope.unclosed ++ scope.opened ∷ [] }

abbrev pub with_place : Scope → Scope
with_place scope = record scope { opened = scope.opened + 1 }

-- the open capture that was opened last, and what is left when it is closed
abbrev pub innermost : Scope → ℕ
innermost scope = slice_index scope.unclosed (length scope.unclosed - 1)

abbrev pub closes : Scope → Scope
closes scope = record scope { unclosed = take (length scope.unclosed - 1) scope.unclosed }

abbrev pub is_closed : Scope → Bool
is_closed scope = is_empty scope.unclosed where
  is_empty : List ℕ → Bool
  is_empty [] = true
  is_empty (number ∷ rest) = false

-- the capture of a number was opened and is open no more
abbrev pub ended_before : Scope → ℕ → Bool
ended_before scope number = nat_lt number scope.opened && not (list_any (λ other. other == number) scope.unclosed)
