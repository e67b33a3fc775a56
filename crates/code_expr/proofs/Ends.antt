-- Lists of expressions by their items.
use Rattle.std.proofs.Common.{arith, ℕ, suc, ◌+◌, ◌-◌, ◌≡◌, true, false, List, [], ◌∷◌, refl, ap, ◌∙◌, cond, length}
use Rattle.std.specs.Prelude.{slice_index_or}
use Rattle.tree_core.specs.declared.tree.Exp.{Exp}
use Rattle.tree_core.specs.Tree as tree
use Rattle.tree_core.specs.Plain.{plain_exp, plain_exps}
use Rattle.code_of.specs.Expressions.{count, is_open, ends_open, list_field}

pub counted : (es : List Exp) → count (tree.exps (plain_exps es)) ≡ length es
counted [] = refl
counted (e ∷ es) = ap suc (counted es)

last_decides : (e : Exp) (es : List Exp) (d : Exp) → ends_open (tree.exps (plain_exps (e ∷ es))) ≡ is_open (plain_exp (slice_index_or (e ∷ es) (length es) d))
last_decides e [] d = refl
last_decides e (f ∷ es) d = last_decides f es d

at_last : (e : Exp) (es : List Exp) (d : Exp) → is_open (plain_exp (slice_index_or (e ∷ es) (length es) d)) ≡ is_open (plain_exp (slice_index_or (e ∷ es) (length (e ∷ es) - 1) d))
at_last e es d = ap (λ k. is_open (plain_exp (slice_index_or (e ∷ es) k d))) (omega arith)

pub open_field : (n : ℕ) (es : List Exp) (d : Exp) → (length es ≡ 0 → ⊥) → is_open (plain_exp (slice_index_or es (length es - 1) d)) ≡ true → list_field n (tree.exps (plain_exps es)) ≡ 0
open_field n [] d h e = absurd (h refl)
open_field n (x ∷ es) d h e = ap (λ b. cond b 0 (n + count (tree.exps (plain_exps (x ∷ es))) + 1)) (last_decides x es d ∙ at_last x es d ∙ e)

pub closed_field : (n : ℕ) (es : List Exp) (d : Exp) → (length es ≡ 0 → ⊥) → is_open (plain_exp (slice_index_or es (length es - 1) d)) ≡ false → list_field n (tree.exps (plain_exps es)) ≡ n + length es + 1
closed_field n [] d h e = absurd (h refl)
closed_field n (x ∷ es) d h e =
    ap (λ b. cond b 0 (n + count (tree.exps (plain_exps (x ∷ es))) + 1)) (last_decides x es d ∙ at_last x es d ∙ e)
    ∙ ap (λ k. n + k + 1) (counted (x ∷ es))

pub empty_field : (n : ℕ) (es : List Exp) → length es ≡ 0 → list_field n (tree.exps (plain_exps es)) ≡ n + 1
empty_field n [] h = omega arith
empty_field n (x ∷ es) h = omega (arith, h)
