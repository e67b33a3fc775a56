-- Raw equality is equality, and each integer is a value of its own.
use Rattle.std.proofs.Common.{◌≡◌, true, false, refl, sym, ap, true≢false, arith}
use Rattle.std.proofs.lemmas.Bool.Decides.{nat_tests}
use Rattle.int_core.proofs.RowsLemmas.{AreValues}
use Rattle.table_core.specs.declared.value.Value.{Value}
use Rattle.table_core.specs.declared.value.Value.TheVariants.{Nil, Bool as Boolean, Int, Str, Prim, Table, Func, Coro}
use Rattle.table_core.specs.Value.{value_eq, lua_values}

pub value_eq-equal : (a b : Value) → value_eq a b ≡ true → a ≡ b
value_eq-equal Nil Nil h = refl
value_eq-equal (Boolean true) (Boolean true) h = refl
value_eq-equal (Boolean false) (Boolean false) h = refl
value_eq-equal (Int a) (Int b) h = ap Int (grind (arith, nat_tests))
value_eq-equal (Str a) (Str b) h = ap Str (grind (arith, nat_tests))
value_eq-equal (Prim a) (Prim b) h = ap Prim (grind (arith, nat_tests))
value_eq-equal (Table a) (Table b) h = ap Table (grind (arith, nat_tests))
value_eq-equal (Func a) (Func b) h = ap Func (grind (arith, nat_tests))
value_eq-equal (Coro a) (Coro b) h = ap Coro (grind (arith, nat_tests))
value_eq-equal _ _ h = absurd (true≢false (sym h))

pub value_eq-refl : (a : Value) → value_eq a a ≡ true
value_eq-refl Nil = refl
value_eq-refl (Boolean true) = refl
value_eq-refl (Boolean false) = refl
value_eq-refl _ = grind (arith, nat_tests)

pub lua_values-AreValues : AreValues lua_values
lua_values-AreValues = record { same_equal = value_eq-equal; same_refl = value_eq-refl; integer_own = λ m n e. cc }

-- nil equals no other value
pub nil-other : (v : Value) → (v ≡ Nil → ⊥) → value_eq Nil v ≡ false
nil-other Nil h = absurd (h refl)
nil-other _ h = refl
