-- A vector of one expression; and assignments to several targets, or of several values, which add no constant of their own.
use Rattle.std.proofs.Common.{◌≡◌, List, [], ◌∷◌, length, refl, sym, ap, arith}
use Rattle.std.specs.Prelude.{slice_index_or}
use Rattle.tree_core.specs.declared.tree.Exp.{Exp}
use Rattle.tree_core.specs.Tree as tree
use Rattle.tree_core.specs.Tree.{Exps, EndExps, MoreExps, exps}
use Rattle.tree_core.specs.Plain.{plain_exp, plain_exps}
use Rattle.code_core.specs.declared.proto.Const.{Const}
use Rattle.code_of.specs.ConstantOperands.{stored_constant}
use Rattle.code_of.specs.Constants.{with_any}

pub single : (xs : List Exp) (x : Exp) → length xs ≡ 1 → x ≡ slice_index_or xs 0 x → tree.exps (plain_exps xs) ≡ tree.MoreExps (plain_exp x) tree.EndExps
single [] x h e = absurd (omega (arith, h))
single (y ∷ []) x h e = ap (λ z. tree.MoreExps (plain_exp z) tree.EndExps) (sym e)
single (y ∷ z ∷ xs) x h e = absurd (omega (arith, h))

-- assignments

pub several_targets : (ts : List Exp) (es : Exps) (cs : List Const) → (length ts ≡ 1 → ⊥) → cs ≡ with_any (stored_constant (exps (plain_exps ts)) es) cs
several_targets [] es cs h = refl
several_targets (x ∷ []) es cs h = absurd (h refl)
several_targets (x ∷ y ∷ ts) es cs h = refl

pub several_values : (ts : Exps) (es : List Exp) (cs : List Const) → (length es ≡ 1 → ⊥) → cs ≡ with_any (stored_constant ts (exps (plain_exps es))) cs
several_values EndExps es cs h = refl
several_values (MoreExps x (MoreExps y ts)) es cs h = refl
several_values (MoreExps x EndExps) [] cs h = refl
several_values (MoreExps x EndExps) (e ∷ []) cs h = absurd (h refl)
several_values (MoreExps x EndExps) (e ∷ d ∷ es) cs h = refl
