-- Assignments that write their value straight to a local's register, and others.
use Rattle.std.proofs.Common.{arith, ℕ, ◌+◌, ◌≡◌, Bool, true, false, List, [], ◌∷◌, length, cond, Option, Some, None, refl, sym, ap, ap₂, ◌∙◌, ◌++◌}
use Rattle.std.specs.Prelude.{slice_index_or}
use Rattle.tree_core.specs.declared.tree.Exp.{Exp}
use Rattle.tree_core.specs.Tree as tree
use Rattle.tree_core.specs.Plain.{plain_exps, plain_exp}
use Rattle.code_of.specs.Expressions.{made_by, made_in, exp_code}
use Rattle.code_of.specs.Operands.{is_direct, target_local, assigned, second_assigned}
use Rattle.code_of.proofs.Operands.{assigned_is}
use Rattle.code_of.specs.Parts.{direct_code, first_direct, field_code, first_field, stored_code, kept_code, store_by, assign_by, assign_code, target_code, store_code, two_code, first_two, two_by}
use Rattle.code_of.specs.Stores.{is_field, stores_field}
use Rattle.code_of.specs.Coded.{Coded}
use Rattle.code_of.specs.Targets.{local_store, single_store}
use Rattle.code_of.proofs.StoredValues.{stored_in_makes}
use Rattle.code_of.proofs.Targets.{single_store_is}
use Rattle.code_core.specs.declared.proto.Const.{Const}
use Rattle.code_emitter.specs.declared.emitter.Step.{Step}
use Rattle.code_emitter.specs.Listing.{Listing, followed, put, step, listed}
use Rattle.code_expr.specs.Targets.{stored_step}
use Rattle.code_emitter.proofs.Joining.{none_made, then_made, then_listed}
use Rattle.code_emitter.specs.Operands.{made_directly}
use Rattle.code_expr.specs.Stores.{made_in_field}

-- what is found of one target and one value; of other lists it finds nothing
pub record OfOne (A : Type 0) (finds : tree.Exps → tree.Exps → A) (nothing : A) : Type 0 where
  pub no_target : (es : tree.Exps) → finds tree.EndExps es ≡ nothing
  pub targets : (x y : tree.Exp) (ts es : tree.Exps) → finds (tree.MoreExps x (tree.MoreExps y ts)) es ≡ nothing
  pub no_value : (x : tree.Exp) → finds (tree.MoreExps x tree.EndExps) tree.EndExps ≡ nothing
  pub values : (x e d : tree.Exp) (es : tree.Exps) → finds (tree.MoreExps x tree.EndExps) (tree.MoreExps e (tree.MoreExps d es)) ≡ nothing

pub not_one_target : {A : Type 0} {finds : tree.Exps → tree.Exps → A} {nothing : A} → OfOne A finds nothing → (ts : List Exp) (es : tree.Exps) → (length ts ≡ 1 → ⊥) → finds (tree.exps (plain_exps ts)) es ≡ nothing
not_one_target o [] es h = o.no_target es
not_one_target o (x ∷ []) es h = absurd (h refl)
not_one_target o (x ∷ y ∷ ts) es h = o.targets (plain_exp x) (plain_exp y) (tree.exps (plain_exps ts)) es

pub not_one_value : {A : Type 0} {finds : tree.Exps → tree.Exps → A} {nothing : A} → OfOne A finds nothing → (ts : tree.Exps) (es : List Exp) → (length es ≡ 1 → ⊥) → finds ts (tree.exps (plain_exps es)) ≡ nothing
not_one_value o tree.EndExps es h = o.no_target (tree.exps (plain_exps es))
not_one_value o (tree.MoreExps x (tree.MoreExps y ts)) es h = o.targets x y ts (tree.exps (plain_exps es))
not_one_value o (tree.MoreExps x tree.EndExps) [] h = o.no_value x
not_one_value o (tree.MoreExps x tree.EndExps) (e ∷ []) h = absurd (h refl)
not_one_value o (tree.MoreExps x tree.EndExps) (e ∷ d ∷ es) h = o.values x (plain_exp e) (plain_exp d) (tree.exps (plain_exps es))

pub assigned_one : OfOne (Option ℕ) assigned None
assigned_one = record { no_target = λ es. refl; targets = λ x y ts es. refl; no_value = λ x. refl; values = λ x e d es. refl }

pub field_one : OfOne Bool stores_field false
field_one = record { no_target = λ es. refl; targets = λ x y ts es. refl; no_value = λ x. refl; values = λ x e d es. refl }

pub store_one : (constants : List Const) → OfOne (Option Coded) (single_store constants) None
store_one constants = record { no_target = λ es. refl; targets = λ x y ts es. refl; no_value = λ x. refl; values = λ x e d es. refl }

pub none_by : {ts es : tree.Exps} {x e : tree.Exp} {o : Option ℕ} → ts ≡ tree.MoreExps x tree.EndExps → es ≡ tree.MoreExps e tree.EndExps → cond (is_direct e) (target_local x) None ≡ o → assigned ts es ≡ o
none_by t v h = ap₂ assigned t v ∙ h

pub stored_follows : (s q : Listing) (ts es : tree.Exps) (t line : ℕ) → assigned ts es ≡ None → q ≡ followed s (two_by s.constants (second_assigned ts es) ts es t s.made line) (made_in ts + made_in es) → q ≡ followed s (assign_code s.constants ts es t s.made line) (made_in ts + made_in es)
stored_follows s q ts es t line is h = h ∙ ap (λ o. followed s (assign_by s.constants o ts es t s.made line) (made_in ts + made_in es)) (sym is)

made_so : (e : tree.Exp) → is_direct e ≡ true → made_directly e ≡ made_by e
made_so (tree.Nil l) h = refl
made_so (tree.True l) h = refl
made_so (tree.False l) h = refl
made_so (tree.Int l z) h = refl
made_so (tree.Str l bytes) h = refl
made_so (tree.Var l name) h = refl
made_so (tree.Paren l e) h = made_so e h
made_so (tree.Unary l op e) h = refl
made_so (tree.Index l object key) h = refl
made_so (tree.Binary l op e d) h = refl
made_so _ h = absurd (cc)

pub direct_follows :
    (s q : Listing) (ts es : tree.Exps) (x e : tree.Exp) (r t line : ℕ) → ts ≡ tree.MoreExps x tree.EndExps → es ≡ tree.MoreExps e tree.EndExps → cond (is_direct e) (target_local x) None ≡ Some r
    → q ≡ followed s (direct_code s.constants e r t s.made) (made_directly e) → q ≡ followed s (assign_code s.constants ts es t s.made line) (made_in ts + made_in es)
direct_follows s q ts es x e r t line target value is h =
    let known = none_by target value is in
    let form = assigned_is ts es r known in
    let no_functions : made_in ts ≡ 0 = ap made_in form.target in
    let same : e ≡ form.value = ap first (sym value ∙ form.values) in
    let makes : made_directly e ≡ made_by e = made_so e (ap is_direct same ∙ form.direct) in
    let from : s.made ≡ s.made + made_in ts = omega (arith, no_functions) in
    let sum : made_directly e ≡ made_in ts + made_in es = let all = ap made_in value in omega (arith, makes, no_functions, all) in
    h ∙ ap₂ (λ j n. followed s (direct_code s.constants e r t j) n) from sum
    ∙ ap (λ z. followed s (first_direct s.constants z r t (s.made + made_in ts)) (made_in ts + made_in es)) (sym value)
    ∙ ap (λ o. followed s (assign_by s.constants o ts es t s.made line) (made_in ts + made_in es)) (sym known)
  where
    first : tree.Exps → tree.Exp
    first tree.EndExps = e
    first (tree.MoreExps d ds) = d

-- two values, of which the second one goes straight to a local's register, and others

pub two_targets : (ts : List Exp) (es : tree.Exps) → (length ts ≡ 2 → ⊥) → second_assigned (tree.exps (plain_exps ts)) es ≡ None
two_targets [] es h = refl
two_targets (x ∷ []) es h = refl
two_targets (x ∷ y ∷ []) es h = absurd (h refl)
two_targets (x ∷ y ∷ z ∷ ts) es h = refl

pub two_values : (ts : tree.Exps) (es : List Exp) → (length es ≡ 2 → ⊥) → second_assigned ts (tree.exps (plain_exps es)) ≡ None
two_values tree.EndExps es h = refl
two_values (tree.MoreExps x tree.EndExps) es h = refl
two_values (tree.MoreExps x (tree.MoreExps y (tree.MoreExps z ts))) es h = refl
two_values (tree.MoreExps x (tree.MoreExps y tree.EndExps)) [] h = refl
two_values (tree.MoreExps x (tree.MoreExps y tree.EndExps)) (e ∷ []) h = refl
two_values (tree.MoreExps x (tree.MoreExps y tree.EndExps)) (e ∷ d ∷ []) h = absurd (h refl)
two_values (tree.MoreExps x (tree.MoreExps y tree.EndExps)) (e ∷ d ∷ c ∷ es) h = refl

pub second_by : {ts es : tree.Exps} {x y e d : tree.Exp} {o : Option ℕ} → ts ≡ tree.MoreExps x (tree.MoreExps y tree.EndExps) → es ≡ tree.MoreExps e (tree.MoreExps d tree.EndExps) → cond (is_direct d) (target_local y) None ≡ o → second_assigned ts es ≡ o
second_by t v h = ap₂ second_assigned t v ∙ h

pub single_follows : (s q : Listing) (ts es : tree.Exps) (t line : ℕ) → second_assigned ts es ≡ None → q ≡ followed s (store_by s.constants (stores_field ts es) ts es t s.made line) (made_in ts + made_in es)
    → q ≡ followed s (two_by s.constants (second_assigned ts es) ts es t s.made line) (made_in ts + made_in es)
single_follows s q ts es t line is h = h ∙ ap (λ o. followed s (two_by s.constants o ts es t s.made line) (made_in ts + made_in es)) (sym is)

target_makes : (y : tree.Exp) (r : ℕ) → target_local y ≡ Some r → made_by y ≡ 0
target_makes (tree.Var l name) r h = refl
target_makes _ r h = absurd (cc)

pub second_follows :
    (s q : Listing) (ts es : tree.Exps) (x y e d : tree.Exp) (r t line : ℕ) → ts ≡ tree.MoreExps x (tree.MoreExps y tree.EndExps) → es ≡ tree.MoreExps e (tree.MoreExps d tree.EndExps) → cond (is_direct d) (target_local y) None ≡ Some r
    → q ≡ followed s (two_code s.constants x e d r t s.made) (made_by x + (made_by e + made_directly d)) → q ≡ followed s (two_by s.constants (second_assigned ts es) ts es t s.made line) (made_in ts + made_in es)
second_follows s q ts es x y e d r t line targets values is h = by (is_direct d) refl is
  where
    by : (b : Bool) → is_direct d ≡ b → cond b (target_local y) None ≡ Some r → q ≡ followed s (two_by s.constants (second_assigned ts es) ts es t s.made line) (made_in ts + made_in es)
    by false direct is_local = absurd (cc)
    by true direct is_local =
        let makes = made_so d direct in
        let none = target_makes y r is_local in
        let in_targets = ap made_in targets in
        let in_values = ap made_in values in
        let sum : made_by x + (made_by e + made_directly d) ≡ made_in ts + made_in es = omega (arith, makes, none, in_targets, in_values) in
        h ∙ ap (λ n. followed s (two_code s.constants x e d r t s.made) n) sum
        ∙ ap₂ (λ a b. followed s (first_two s.constants a b r t s.made) (made_in ts + made_in es)) (sym targets) (sym values)
        ∙ ap (λ o. followed s (two_by s.constants o ts es t s.made line) (made_in ts + made_in es)) (sym (second_by targets values is))

pub two_written :
    (s0 s1 s2 s3 s4 : Listing) (x e d : tree.Exp) (r t v f : ℕ) → v ≡ t + 2 → f ≡ t + 3 → s1 ≡ followed s0 (target_code s0.constants x t s0.made) (made_by x) → s2 ≡ followed s1 (exp_code s1.constants e v s1.made 2) (made_by e)
    → s3 ≡ followed s2 (direct_code s2.constants d r f s2.made) (made_directly d) → s4 ≡ listed s3 (store_code s3.constants x t v) → s4 ≡ followed s0 (two_code s0.constants x e d r t s0.made) (made_by x + (made_by e + made_directly d))
two_written s0 s1 s2 s3 s4 x e d r t v f v_is f_is e1 e2 e3 e4 =
    then_made s0 s1 s4 (target_code s0.constants x t s0.made) (made_by x) (λ k j. exp_code k e v j 2 ++ (direct_code k d r f (j + made_by e) ++ store_code k x t v)) (made_by e + made_directly d) e1
    (then_made s1 s2 s4 (exp_code s1.constants e v s1.made 2) (made_by e) (λ k j. direct_code k d r f j ++ store_code k x t v) (made_directly d) e2
    (then_listed s2 s3 s4 (direct_code s2.constants d r f s2.made) (made_directly d) (λ k. store_code k x t v) e3 e4))
    ∙ ap₂ (λ w g. followed s0 (target_code s0.constants x t s0.made ++ (exp_code s0.constants e w (s0.made + made_by x) 2 ++ (direct_code s0.constants d r g (s0.made + made_by x + made_by e) ++ store_code s0.constants x t w))) (made_by x + (made_by e + made_directly d)))
    v_is f_is

-- a vector of two expressions
pub double : (xs : List Exp) (x y : Exp) → length xs ≡ 2 → x ≡ slice_index_or xs 0 x → y ≡ slice_index_or xs 1 y → tree.exps (plain_exps xs) ≡ tree.MoreExps (plain_exp x) (tree.MoreExps (plain_exp y) tree.EndExps)
double [] x y h e f = absurd (omega (arith, h))
double (a ∷ []) x y h e f = absurd (omega (arith, h))
double (a ∷ b ∷ []) x y h e f = ap₂ (λ p q. tree.MoreExps (plain_exp p) (tree.MoreExps (plain_exp q) tree.EndExps)) (sym e) (sym f)
double (a ∷ b ∷ c ∷ xs) x y h e f = absurd (omega (arith, h))

-- a value that goes to a field, and others

pub kept_by : {ts es : tree.Exps} {x e : tree.Exp} {b : Bool} → ts ≡ tree.MoreExps x tree.EndExps → es ≡ tree.MoreExps e tree.EndExps → is_field x ≡ b → stores_field ts es ≡ b
kept_by t v h = ap₂ stores_field t v ∙ h

pub kept_follows : (s q : Listing) (ts es : tree.Exps) (t line : ℕ) → stores_field ts es ≡ false → single_store s.constants ts es ≡ None → q ≡ followed s (stored_code s.constants ts es t s.made line) (made_in ts + made_in es)
    → q ≡ followed s (store_by s.constants (stores_field ts es) ts es t s.made line) (made_in ts + made_in es)
kept_follows s q ts es t line is none h =
    h ∙ ap (λ o. followed s (kept_code s.constants o ts es t s.made line) (made_in ts + made_in es)) (sym none)
    ∙ ap (λ b. followed s (store_by s.constants b ts es t s.made line) (made_in ts + made_in es)) (sym is)

-- a local or a constant that goes to a global name

step_of : (d e : Step) → Some d ≡ Some e → d ≡ e
step_of d e h = ap (λ o. elim o as (λ _. Step) [ None ↦ d | Some z ↦ z ]) h

no_step : (o : Option Coded) → stored_step o ≡ None → o ≡ None
no_step None h = refl
no_step (Some x) h = absurd (cc)

pub no_store_by : (constants : List Const) {ts es : tree.Exps} {x e : tree.Exp} → ts ≡ tree.MoreExps x tree.EndExps → es ≡ tree.MoreExps e tree.EndExps → stored_step (local_store constants x e) ≡ None → single_store constants ts es ≡ None
no_store_by constants {ts} {es} {x} {e} t v h = ap₂ (single_store constants) t v ∙ no_step (local_store constants x e) h

pub local_follows :
    (s q : Listing) (ts es : tree.Exps) (x e : tree.Exp) (d : Step) (t line : ℕ) → ts ≡ tree.MoreExps x tree.EndExps → es ≡ tree.MoreExps e tree.EndExps → is_field x ≡ false
    → stored_step (local_store s.constants x e) ≡ Some d → q ≡ put s d → q ≡ followed s (store_by s.constants (stores_field ts es) ts es t s.made line) (made_in ts + made_in es)
local_follows s q ts es x e d t line target value is stored h = by (local_store s.constants x e) refl stored
  where
    by : (o : Option Coded) → local_store s.constants x e ≡ o → stored_step o ≡ Some d → q ≡ followed s (store_by s.constants (stores_field ts es) ts es t s.made line) (made_in ts + made_in es)
    by None known stored = absurd (cc)
    by (Some i) known stored =
        let single : single_store s.constants ts es ≡ Some i = ap₂ (single_store s.constants) target value ∙ known in
        let form = single_store_is s.constants ts es i single in
        let no_target = ap made_in form.target in
        let no_value = ap made_in form.values in
        let none = stored_in_makes s.constants form.value form.constant form.field form.is in
        let sum : 0 ≡ made_in ts + made_in es = omega (arith, no_target, no_value, none) in
        h ∙ ap (put s) (sym (step_of (step i) d stored)) ∙ sym (none_made s (i ∷ [])) ∙ ap (followed s (i ∷ [])) sum
        ∙ ap (λ o. followed s (kept_code s.constants o ts es t s.made line) (made_in ts + made_in es)) (sym single)
        ∙ ap (λ b. followed s (store_by s.constants b ts es t s.made line) (made_in ts + made_in es)) (sym (kept_by target value is))

made_stored : (x e : tree.Exp) → is_field x ≡ true → made_in_field x e ≡ made_by x + made_by e
made_stored (tree.Index l object key) e h = refl
made_stored _ e h = absurd (cc)

pub field_follows :
    (s q : Listing) (ts es : tree.Exps) (x e : tree.Exp) (t line : ℕ) → ts ≡ tree.MoreExps x tree.EndExps → es ≡ tree.MoreExps e tree.EndExps → is_field x ≡ true
    → q ≡ followed s (field_code s.constants x e t s.made (s.made + made_by x)) (made_in_field x e) → q ≡ followed s (store_by s.constants (stores_field ts es) ts es t s.made line) (made_in ts + made_in es)
field_follows s q ts es x e t line target value is h =
    let known = kept_by target value is in
    let makes = made_stored x e is in
    let one = ap made_in target in
    let all = ap made_in value in
    let from : s.made + made_by x ≡ s.made + made_in ts = omega (arith, one) in
    let sum : made_in_field x e ≡ made_in ts + made_in es = omega (arith, makes, one, all) in
    h ∙ ap₂ (λ j n. followed s (field_code s.constants x e t s.made j) n) from sum
    ∙ ap₂ (λ y z. followed s (first_field s.constants y z t s.made (s.made + made_in ts)) (made_in ts + made_in es)) (sym target) (sym value)
    ∙ ap (λ b. followed s (store_by s.constants b ts es t s.made line) (made_in ts + made_in es)) (sym known)
