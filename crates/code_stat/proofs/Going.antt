-- Targets that are written one by one.
use Rattle.std.proofs.Common.{arith, ℕ, suc, Some, ◌+◌, ◌*◌, ◌≡◌, ◌≤◌, ◌<◌, List, [], ◌∷◌, ◌++◌, refl, sym, ap, ap₂, ◌∙◌, length, drop}
use Rattle.std.specs.Prelude.{slice_index_or}
use Rattle.std.proofs.lemmas.List.{drop_more, drop_all, append-nil}
use Rattle.tree_core.specs.declared.tree.Exp.{Exp}
use Rattle.tree_core.specs.Tree as tree
use Rattle.tree_core.specs.Plain.{plain_exp, plain_exps}
use Rattle.code_of.specs.Coded.{Coded}
use Rattle.code_of.specs.Expressions.{count, made_by, made_in, exp_code, exps_code}
use Rattle.code_of.specs.Parts.{target_code, targets_code, store_code, stores_code, pair_code, steps_code, stored_code}
use Rattle.code_emitter.specs.Listing.{Listing, listed, followed}
use Rattle.code_emitter.proofs.Joining.{listing, after, none_made, both_listed, then_made, then_listed}
use Rattle.code_expr.proofs.TargetSeats.{nothing_listed}
use Rattle.code_expr.proofs.Ends.{counted}

pub front : {X : Type 0} (xs : List X) (i : ℕ) (x : X) → i < length xs → x ≡ slice_index_or xs i x → drop i xs ≡ x ∷ drop (i + 1) xs
front xs i x h e = drop_more xs i x h ∙ ap (λ y. y ∷ drop (i + 1) xs) (sym e)

abbrev pub targets_from : Listing → (t : ℕ) → tree.Exps → Listing
targets_from s t es = followed s (targets_code s.constants es t s.made) (made_in es)

target_step : (s : Listing) (t : ℕ) (e : tree.Exp) (es : tree.Exps) → targets_from s t (tree.MoreExps e es) ≡ targets_from (followed s (target_code s.constants e t s.made) (made_by e)) (t + 2) es
target_step s t e es = sym (after s (target_code s.constants e t s.made) (made_by e) (targets_code s.constants es (t + 2) (s.made + made_by e)) (made_in es))

pub next_target :
    (xs : List Exp) (i : ℕ) (x : Exp) (s r : Listing) (t t' : ℕ) (all : Listing)
    → i < length xs → x ≡ slice_index_or xs i x
    → r ≡ followed s (target_code s.constants (plain_exp x) t s.made) (made_by (plain_exp x)) → t' ≡ t + 2
    → targets_from s t (tree.exps (plain_exps (drop i xs))) ≡ all → targets_from r t' (tree.exps (plain_exps (drop (i + 1) xs))) ≡ all
next_target xs i x s r t t' all h is r_is t_is known =
    let es = tree.exps (plain_exps (drop (i + 1) xs)) in
    ap (λ q. targets_from q t' es) r_is
    ∙ ap (λ k. targets_from (followed s (target_code s.constants (plain_exp x) t s.made) (made_by (plain_exp x))) k es) t_is
    ∙ sym (target_step s t (plain_exp x) es)
    ∙ sym (ap (λ l. targets_from s t (tree.exps (plain_exps l))) (front xs i x h is))
    ∙ known

pub all_targets : (xs : List Exp) (i : ℕ) (s : Listing) (t : ℕ) (all : Listing) → length xs ≤ i → targets_from s t (tree.exps (plain_exps (drop i xs))) ≡ all → s ≡ all
all_targets xs i s t all h known = nothing_listed s ∙ sym (none_made s []) ∙ sym (ap (λ l. targets_from s t (tree.exps (plain_exps l))) (drop_all i xs h)) ∙ known

-- from right to left

pub next_store :
    (xs : List Exp) (i : ℕ) (x : Exp) (s q r : Listing) (t v t' v' : ℕ)
    → i < length xs → x ≡ slice_index_or xs i x → t ≡ t' + 2 → v ≡ v' + 1
    → q ≡ listed s (stores_code s.constants (tree.exps (plain_exps (drop (i + 1) xs))) t v) → r ≡ listed q (store_code q.constants (plain_exp x) t' v')
    → r ≡ listed s (stores_code s.constants (tree.exps (plain_exps (drop i xs))) t' v')
next_store xs i x s q r t v t' v' h is t_is v_is q_is r_is =
    let k = s.constants in
    let behind = tree.exps (plain_exps (drop (i + 1) xs)) in
    r_is
    ∙ ap (λ z. listed z (store_code z.constants (plain_exp x) t' v')) (q_is ∙ ap₂ (λ m n. listed s (stores_code k behind m n)) t_is v_is)
    ∙ both_listed s (stores_code k behind (t' + 2) (v' + 1)) (store_code k (plain_exp x) t' v')
    ∙ sym (ap (λ l. listed s (stores_code k (tree.exps (plain_exps l)) t' v')) (front xs i x h is))

pub no_store : (xs : List Exp) (i : ℕ) (s : Listing) (t v : ℕ) → length xs ≤ i → s ≡ listed s (stores_code s.constants (tree.exps (plain_exps (drop i xs))) t v)
no_store xs i s t v h = nothing_listed s ∙ sym (ap (λ l. listed s (stores_code s.constants (tree.exps (plain_exps l)) t v)) (drop_all i xs h))

pub two_listed : (s r q : Listing) (x y : Coded) → r ≡ listed s (x ∷ []) → q ≡ listed r (y ∷ []) → q ≡ listed s (x ∷ y ∷ [])
two_listed s r q x y e h = h ∙ ap (λ z. listed z (y ∷ [])) e ∙ both_listed s (x ∷ []) (y ∷ [])

pub steps_follow :
    (s r q : Listing) (from limit step : tree.Exp) (t : ℕ)
    → r ≡ followed s (pair_code s.constants from limit t s.made) (made_by from + made_by limit) → q ≡ followed r (exp_code r.constants step (t + 2) r.made 2) (made_by step)
    → q ≡ followed s (steps_code s.constants from limit step t s.made) (made_by from + made_by limit + made_by step)
steps_follow s r q from limit step t e h =
    then_made s r q (pair_code s.constants from limit t s.made) (made_by from + made_by limit) (λ k j. exp_code k step (t + 2) j 2) (made_by step) e h
    ∙ ap (λ n. followed s (pair_code s.constants from limit t s.made ++ exp_code s.constants step (t + 2) n 2) (made_by from + made_by limit + made_by step)) (omega arith)

-- an assignment

pub stored :
    (s0 s1 s2 s3 : Listing) (xs : List Exp) (es : tree.Exps) (t v n line : ℕ)
    → n ≡ length xs → v ≡ t + n + n
    → s1 ≡ followed s0 (targets_code s0.constants (tree.exps (plain_exps xs)) t s0.made) (made_in (tree.exps (plain_exps xs)))
    → s2 ≡ followed s1 (exps_code s1.constants es (Some n) v s1.made line) (made_in es)
    → s3 ≡ listed s2 (stores_code s2.constants (tree.exps (plain_exps xs)) t v)
    → s3 ≡ followed s0 (stored_code s0.constants (tree.exps (plain_exps xs)) es t s0.made line) (made_in (tree.exps (plain_exps xs)) + made_in es)
stored s0 s1 s2 s3 xs es t v n line n_is v_is e1 e2 e3 =
    let ts = tree.exps (plain_exps xs) in
    let many : n ≡ count ts = n_is ∙ sym (counted xs) in
    let from : v ≡ t + 2 * count ts = omega (arith, v_is, many) in
    then_made s0 s1 s3 (targets_code s0.constants ts t s0.made) (made_in ts) (λ k j. exps_code k es (Some n) v j line ++ stores_code k ts t v) (made_in es) e1
    (then_listed s1 s2 s3 (exps_code s1.constants es (Some n) v s1.made line) (made_in es) (λ k. stores_code k ts t v) e2 e3)
    ∙ ap₂ (λ m w. followed s0 (targets_code s0.constants ts t s0.made ++ (exps_code s0.constants es (Some m) w (s0.made + made_in ts) line ++ stores_code s0.constants ts t w)) (made_in ts + made_in es)) many from
