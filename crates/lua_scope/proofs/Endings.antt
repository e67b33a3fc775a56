-- The variables of a block are those in scope before it, and more; where their scope ends the others are left.
use Rattle.std.proofs.Common.{arith, ℕ, suc, ◌-◌, ◌≡◌, ◌≤◌, List, [], ◌∷◌, refl, ap, ◌∙◌, length, drop}
use Rattle.scope_core.specs.declared.variable.Variable.{Variable}
use Rattle.tree_core.specs.Tree.{Block, Falls, Returns, Stats, EndStats, MoreStats}
use Rattle.scope_core.specs.Scopes.{Frame, declare, declare_all, declared_by, behind, behind_stats}
use Rattle.scope_core.specs.Walked.{own_variables, kept, entered, left}

grows : (fs : List Frame) (v : Variable) → length (own_variables fs) ≤ length (own_variables (declare fs v))
grows [] v = omega arith
grows (f ∷ fs) v = omega arith

drop_past : (n : ℕ) (v : Variable) (vs : List Variable) → n ≤ length vs → drop (suc (length vs) - n) (v ∷ vs) ≡ drop (length vs - n) vs
drop_past n v vs h =
    let e : suc (length vs) - n ≡ suc (length vs - n) = omega (arith, h) in
    ap (λ k. drop k (v ∷ vs)) e

kept_declare : (n : ℕ) (fs : List Frame) (v : Variable) → n ≤ length (own_variables fs) → kept n (declare fs v) ≡ kept n fs
kept_declare n [] v h = refl
kept_declare n (f ∷ fs) v h = ap (λ vs. record f { variables = vs } ∷ fs) (drop_past n v f.variables h)

kept_all : (n : ℕ) (fs : List Frame) (vs : List Variable) → n ≤ length (own_variables fs) → (kept n (declare_all fs vs) ≡ kept n fs) × (n ≤ length (own_variables (declare_all fs vs)))
kept_all n fs [] h = (refl, h)
kept_all n fs (v ∷ vs) h =
    let more = kept_all n (declare fs v) vs (omega (arith, h, grows fs v)) in
    (more.0 ∙ kept_declare n fs v h, more.1)

kept_stats : (n : ℕ) (fs : List Frame) (ss : Stats) → n ≤ length (own_variables fs) → kept n (behind_stats fs ss) ≡ kept n fs
kept_stats n fs EndStats h = refl
kept_stats n fs (MoreStats s ss) h =
    let one = kept_all n fs (declared_by s) h in
    kept_stats n (declare_all fs (declared_by s)) ss one.1 ∙ one.0

kept_behind : (n : ℕ) (fs : List Frame) (b : Block) → n ≤ length (own_variables fs) → kept n (behind fs b) ≡ kept n fs
kept_behind n fs (Falls ss tokens line) h = kept_stats n fs ss h
kept_behind n fs (Returns ss es tokens line) h = kept_stats n fs ss h

kept_self : (fs : List Frame) → kept (length (own_variables fs)) fs ≡ fs
kept_self [] = refl
kept_self (f ∷ fs) =
    let e : length f.variables - length f.variables ≡ 0 = omega arith in
    ap (λ k. record f { variables = drop k f.variables } ∷ fs) e

pub ended_behind : (fs : List Frame) (b : Block) → kept (length (own_variables fs)) (behind fs b) ≡ fs
ended_behind fs b = kept_behind (length (own_variables fs)) fs b (omega arith) ∙ kept_self fs

pub ended_for : (fs : List Frame) (hidden vs : List Variable) (b : Block) → kept (length (own_variables fs)) (behind (declare_all (declare_all fs hidden) vs) b) ≡ fs
ended_for fs hidden vs b =
    let n : ℕ = length (own_variables fs) in
    let first = kept_all n fs hidden (omega arith) in
    let more = kept_all n (declare_all fs hidden) vs first.1 in
    kept_behind n (declare_all (declare_all fs hidden) vs) b more.1 ∙ more.0 ∙ first.0 ∙ kept_self fs

-- Leaving a function.

left_declare : (fs : List Frame) (v : Variable) → left (declare fs v) ≡ left fs
left_declare [] v = refl
left_declare (f ∷ fs) v = refl

left_all : (fs : List Frame) (vs : List Variable) → left (declare_all fs vs) ≡ left fs
left_all fs [] = refl
left_all fs (v ∷ vs) = left_all (declare fs v) vs ∙ left_declare fs v

left_stats : (fs : List Frame) (ss : Stats) → left (behind_stats fs ss) ≡ left fs
left_stats fs EndStats = refl
left_stats fs (MoreStats s ss) = left_stats (declare_all fs (declared_by s)) ss ∙ left_all fs (declared_by s)

left_behind : (fs : List Frame) (b : Block) → left (behind fs b) ≡ left fs
left_behind fs (Falls ss tokens line) = left_stats fs ss
left_behind fs (Returns ss es tokens line) = left_stats fs ss

pub left_body : (fs : List Frame) (vs : List Variable) (b : Block) → left (behind (declare_all (entered fs) vs) b) ≡ fs
left_body fs vs b = left_behind (declare_all (entered fs) vs) b ∙ left_all (entered fs) vs
