-- Kept values are equal where the values that they stand for are.
use Rattle.std.proofs.Common.{◌≡◌, ℕ, List, refl, Bool, true, false, arith, tests}
use Rattle.std.specs.Prelude.{ℤ, pos, negsuc}
use Rattle.std.specs.Ordering.{int_eq}
use mathlib.Core.Bool.{beq}
use Rattle.int_core.specs.Value.{same, same_integer, same_truth}
use Rattle.table_core.specs.Value.{value_eq}
use Rattle.table_core.specs.declared.value.Value.{Value as Kept}
use Rattle.table_core.specs.declared.value.Value.TheVariants.{Nil, Bool as Boolean, Int, Str, Prim, Table, Func, Coro}
use Rattle.lua_heap.specs.Strings.{AreApart, AreShort}
use Rattle.lua_heap.specs.Reading.{value}
use Rattle.lua_heap.proofs.Reading.{strings_alike}

truths : (a b : Bool) → same_truth a b ≡ beq a b
truths true true = refl
truths true false = refl
truths false true = refl
truths false false = refl

integers : (m n : ℤ) → same_integer m n ≡ int_eq m n
integers (pos m) (pos n) = grind (arith, tests)
integers (pos m) (negsuc n) = refl
integers (negsuc m) (pos n) = refl
integers (negsuc m) (negsuc n) = grind (arith, tests)

pub alike : (texts : List (List ℕ)) → AreApart texts → AreShort texts → (a b : Kept) → same (value texts a) (value texts b) ≡ value_eq a b
alike texts h s Nil Nil = refl
alike texts h s (Boolean a) (Boolean b) = truths a b
alike texts h s (Int m) (Int n) = integers m n
alike texts h s (Str i) (Str j) = strings_alike texts h s i.0 j.0
alike texts h s (Prim k) (Prim l) = refl
alike texts h s (Table i) (Table j) = refl
alike texts h s (Func i) (Func j) = refl
alike texts h s (Coro i) (Coro j) = refl
alike texts h s _ _ = refl
