-- Constants by their numbers.
use Rattle.std.proofs.Common.{◌≡◌, true, ℤ, ℕ, List, refl, ap, pos, negsuc}
use Rattle.code_core.specs.declared.proto.Const.{Const}
use Rattle.code_core.specs.declared.proto.Const.TheVariants.{Nil as NilConst, False as FalseConst, True as TrueConst, Int as IntConst, Str as StrConst}
use Rattle.code_of.specs.Constants.{same_constant}
use Rattle.std.proofs.lemmas.Slice.Eq.{bytes_eq-Decides}
use Rattle.std.proofs.lemmas.Bool.{eq-eqb, eqb-true}
use Rattle.int_core.specs.Value.{same_integer}
use Rattle.int_core.proofs.Equality.{integer_is}

pub same_integer_self : (m : ℤ) → same_integer m m ≡ true
same_integer_self (pos m) = eq-eqb m m refl
same_integer_self (negsuc m) = eq-eqb m m refl

pub same_int : (z : ℤ) → same_constant (IntConst z) (IntConst z) ≡ true
same_int z = same_integer_self z

pub same_text : (s : List ℕ) → same_constant (StrConst s) (StrConst s) ≡ true
same_text s = (bytes_eq-Decides s s).1 refl

pub same_self : (x : Const) → same_constant x x ≡ true
same_self (IntConst z) = same_int z
same_self (StrConst s) = same_text s
same_self NilConst = refl
same_self FalseConst = refl
same_self TrueConst = refl

-- the test of constants is equality

pub same_is : (c x : Const) → same_constant c x ≡ true → c ≡ x
same_is (IntConst m) (IntConst n) h = ap IntConst (integer_is m n h)
same_is (StrConst s) (StrConst t) h = ap StrConst ((bytes_eq-Decides s t).0 h)
same_is NilConst NilConst h = refl
same_is FalseConst FalseConst h = refl
same_is TrueConst TrueConst h = refl
same_is _ _ h = absurd (cc)
