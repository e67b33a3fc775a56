-- What a further round of a loop over an iterator's values does.
use Rattle.std.proofs.Common.{◌≡◌, ℕ, ◌+◌, List, refl, Bool, true, false}
use Rattle.std.specs.Prelude.{cond}
use Rattle.int_core.specs.Value.{nil, Shape, is_known, is_object, shape, same_plain}
use Rattle.machine_core.specs.Text.{read, Text, quick, pay, write_register}
use Rattle.machine_core.specs.InstructionRows.{back, next, then}
use Rattle.table_core.specs.Value.{is_nil}
use Rattle.table_core.specs.declared.value.Value.{Value as Kept}
use Rattle.table_core.specs.declared.value.Value.TheVariants.{Nil}
use Rattle.lua_heap.specs.Reading.{value}

abbrev pub again : ℕ → ℕ → ℕ → Text
again base by v = quick pay (λ _. then (write_register (base + 2) (read v)) (back by))

abbrev pub over : ℕ → ℕ → ℕ → Shape → Text
over base by v s = elim s [ is_known k ↦ cond (same_plain k nil) next (again base by v) | is_object kind ↦ again base by v ]

pub over_nil : (texts : List (List ℕ)) (base by : ℕ) (v : Kept) → is_nil v ≡ true → over base by 0 (shape (value texts v)) ≡ next
over_nil texts base by Nil e = refl
over_nil texts base by _ e = absurd (cc)

pub over_more : (texts : List (List ℕ)) (base by : ℕ) (v : Kept) → is_nil v ≡ false → over base by 0 (shape (value texts v)) ≡ again base by 0
over_more texts base by Nil e = absurd (cc)
over_more texts base by _ e = refl
