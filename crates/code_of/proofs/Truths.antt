-- How long a test is that keeps a value.
use Rattle.std.proofs.Common.{◌≡◌, ℕ, Bool, length, Option, Some, None, refl}
use Rattle.code_of.specs.Truths.{set_if}

pub set_sized : (at : Option ℕ) (k : Bool) (ahead t line : ℕ) → length (set_if at k ahead t line) ≡ 2
set_sized None k ahead t line = refl
set_sized (Some x) k ahead t line = refl
