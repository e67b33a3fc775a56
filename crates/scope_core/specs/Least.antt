-- The answer where static rules are broken: the least violation by line, and on one line by rule.
use Rattle.std.specs.Prelude.{◌≤◌, ◌<◌, ◌≡◌, ◌⊎◌, Bool, ◌&&◌, ◌||◌, ◌==◌, nat_lt, if◌then◌else◌, List, [], All, Contains, Option, Some, None}
use Rattle.scope_core.specs.declared.violation.Violation.{Violation}

abbrev pub is_before : Violation → Violation → Bool
is_before one other = nat_lt one.line other.line || (one.line == other.line) && nat_lt one.rule other.rule

abbrev pub IsBefore : Violation → Violation → Type 0
IsBefore one other = (one.line < other.line) ⊎ ((one.line ≡ other.line) × (one.rule ≤ other.rule))

-- the least of those met so far, after one more
abbrev pub meet : Option Violation → Violation → Option Violation
meet None violation = Some violation
meet (Some least) violation = if is_before violation least then Some violation else Some least

pub record IsLeast (all : List Violation) (least : Violation) : Type 0 where
  pub there : Contains all least
  pub first : All (IsBefore least) all

-- the least of all violations, or none where there is none
abbrev pub IsLeastOf : List Violation → Option Violation → Type 0
IsLeastOf all None = all ≡ []
IsLeastOf all (Some least) = IsLeast all least
