-- Which calls take the place of their caller.
use Rattle.std.proofs.Common.{arith, ℕ, suc, ◌+◌, ◌≡◌, Bool, true, false, List, [], ◌∷◌, ◌++◌, refl, sym, ap, ap₂, ◌∙◌, subst, length, Option, Some, None}
use Rattle.std.proofs.lemmas.List.{length-append}
use Rattle.tree_core.specs.declared.tree.Exp.{Exp}
use Rattle.tree_core.specs.declared.name.Name.{Name}
use Rattle.tree_core.specs.Tree as tree
use Rattle.tree_core.specs.Plain.{plain_exp, plain_exps}
use Rattle.code_core.specs.declared.proto.Const.{Const}
use Rattle.code_core.specs.declared.opcode.Opcode.TheVariants.{TailCall, Return}
use Rattle.code_of.specs.Coded.{Coded, leaving_by, leaving_local}
use Rattle.code_of.specs.Expressions.{made_by, made_in, list_field, exp_code, exps_code}
use Rattle.code_of.specs.Operators.{self_code}
use Rattle.code_of.specs.Operands.{local_of, lone_local, seat, unless}
use Rattle.code_of.specs.Parts.{call_last, method_last, return_code, listed_last, returned_by, values_last}
use Rattle.code_of.proofs.Operands.{local_makes, lone_is}
use Rattle.code_emitter.specs.Listing.{Listing, listed, followed}
use Rattle.code_emitter.proofs.Joining.{none_made}
use Rattle.code_stat.specs.Tails.{is_called, tail_code}
use Rattle.code_expr.proofs.Kept.{no_further}

module _ (k : List Const) where
  pub closing_return : (closing : Bool) (es : tree.Exps) (t j line back : ℕ) → closing ≡ true → return_code k closing es t j line back ≡ values_last k es t j line back
  closing_return closing es t j line back e = ap (λ b. return_code k b es t j line back) e

  pub other_return : (closing : Bool) (e : tree.Exp) (t j line back : ℕ) → is_called e ≡ false → return_code k closing (tree.MoreExps e tree.EndExps) t j line back ≡ values_last k (tree.MoreExps e tree.EndExps) t j line back
  other_return false (tree.Call l f es) t j line back h = absurd (cc)
  other_return false (tree.Method l object name es) t j line back h = absurd (cc)
  other_return _ _ t j line back h = refl

  longer : (closing : Bool) (e d : tree.Exp) (ds : tree.Exps) (t j line back : ℕ) → return_code k closing (tree.MoreExps e (tree.MoreExps d ds)) t j line back ≡ values_last k (tree.MoreExps e (tree.MoreExps d ds)) t j line back
  longer false (tree.Nil l) d ds t j line back = refl
  longer _ _ d ds t j line back = refl

  empty_return : (closing : Bool) (t j line back : ℕ) → return_code k closing tree.EndExps t j line back ≡ values_last k tree.EndExps t j line back
  empty_return true t j line back = refl
  empty_return false t j line back = refl

  pub several_return : (closing : Bool) (xs : List Exp) (t j line back : ℕ) → (length xs ≡ 1 → ⊥) → return_code k closing (tree.exps (plain_exps xs)) t j line back ≡ values_last k (tree.exps (plain_exps xs)) t j line back
  several_return closing [] t j line back h = empty_return closing t j line back
  several_return closing (x ∷ []) t j line back h = absurd (h refl)
  several_return closing (x ∷ y ∷ xs) t j line back h = longer closing (plain_exp x) (plain_exp y) (tree.exps (plain_exps xs)) t j line back

-- a local that is all of a list has no code of its own

pub local_returned :
    (s q : Listing) (es : tree.Exps) (r t line back : ℕ) → lone_local es ≡ Some r → q ≡ listed s (leaving_local r t back line ∷ []) → q ≡ followed s (values_last s.constants es t s.made line back) (made_in es)
local_returned s q es r t line back is h =
    let lone = lone_is es r is in
    let all = ap made_in lone.values in
    let none = local_makes lone.value r lone.is in
    let sum : 0 ≡ made_in es = omega (arith, all, none) in
    h ∙ sym (none_made s (leaving_local r t back line ∷ [])) ∙ ap (followed s (leaving_local r t back line ∷ [])) sum
    ∙ ap (λ o. followed s (returned_by s.constants o es t s.made line back) (made_in es)) (sym is)

pub list_returned :
    (s q : Listing) (es : tree.Exps) (t line back : ℕ) → lone_local es ≡ None → q ≡ followed s (listed_last s.constants es t s.made line back) (made_in es) → q ≡ followed s (values_last s.constants es t s.made line back) (made_in es)
list_returned s q es t line back is h = h ∙ ap (λ o. followed s (returned_by s.constants o es t s.made line back) (made_in es)) (sym is)

-- what is written for a list of values is what is written for the return of it

pub closing_follows :
    (s r : Listing) (closing : Bool) (es : tree.Exps) (t line back : ℕ) → closing ≡ true
    → r ≡ followed s (values_last s.constants es t s.made line back) (made_in es) → r ≡ followed s (return_code s.constants closing es t s.made line back) (made_in es)
closing_follows s r closing es t line back e h = h ∙ sym (ap (λ code. followed s code (made_in es)) (closing_return s.constants closing es t s.made line back e))

pub several_follow :
    (s r : Listing) (closing : Bool) (xs : List Exp) (n t line back : ℕ) → n ≡ length xs → (n ≡ 1 → ⊥)
    → r ≡ followed s (values_last s.constants (tree.exps (plain_exps xs)) t s.made line back) (made_in (tree.exps (plain_exps xs)))
    → r ≡ followed s (return_code s.constants closing (tree.exps (plain_exps xs)) t s.made line back) (made_in (tree.exps (plain_exps xs)))
several_follow s r closing xs n t line back n_is e h =
    h ∙ sym (ap (λ code. followed s code (made_in (tree.exps (plain_exps xs)))) (several_return s.constants closing xs t s.made line back (λ one. e (n_is ∙ one))))

tail_is : (k : List Const) (e : tree.Exp) (t j line back : ℕ) → is_called e ≡ true → return_code k false (tree.MoreExps e tree.EndExps) t j line back ≡ tail_code k e t j back
tail_is k (tree.Call l f es) t j line back h = refl
tail_is k (tree.Method l object name es) t j line back h = refl
tail_is k _ t j line back h = absurd (cc)

pub tail_follows :
    (s r : Listing) (closing : Bool) (all : tree.Exps) (e : tree.Exp) (t line back : ℕ) → closing ≡ false → is_called e ≡ true → all ≡ tree.MoreExps e tree.EndExps
    → r ≡ followed s (tail_code s.constants e t s.made back) (made_by e)
    → r ≡ followed s (return_code s.constants closing all t s.made line back) (made_in all)
tail_follows s r closing all e t line back open_now called a h =
    let same : followed s (return_code s.constants closing all t s.made line back) (made_in all) ≡ followed s (tail_code s.constants e t s.made back) (made_by e) =
    ap₂ (λ b l. followed s (return_code s.constants b l t s.made line back) (made_in l)) open_now a
    ∙ ap₂ (followed s) (tail_is s.constants e t s.made line back called) (no_further (made_by e)) in
    h ∙ sym same

pub other_follows :
    (s r : Listing) (closing : Bool) (all : tree.Exps) (e : tree.Exp) (t line back : ℕ) → is_called e ≡ false → all ≡ tree.MoreExps e tree.EndExps
    → r ≡ followed s (values_last s.constants all t s.made line back) (made_in all)
    → r ≡ followed s (return_code s.constants closing all t s.made line back) (made_in all)
other_follows s r closing all e t line back other a h =
    h ∙ ap (λ code. followed s code (made_in all)) (ap (λ l. values_last s.constants l t s.made line back) a ∙ sym (other_return s.constants closing e t s.made line back other) ∙ sym (ap (λ l. return_code s.constants closing l t s.made line back) a))

pub call_tail :
    (s r : Listing) (e f : tree.Exp) (es : tree.Exps) (t line back : ℕ) → e ≡ tree.Call line f es
    → r ≡ followed s (call_last s.constants f es t s.made line back) (made_by (tree.Call line f es)) → r ≡ followed s (tail_code s.constants e t s.made back) (made_by e)
call_tail s r e f es t line back is h = subst (λ d. r ≡ followed s (tail_code s.constants d t s.made back) (made_by d)) (sym is) h

pub method_tail :
    (s r : Listing) (e object : tree.Exp) (name : Name) (es : tree.Exps) (t line back : ℕ) → e ≡ tree.Method line object name es
    → r ≡ followed s (method_last s.constants object name.text es t s.made line back) (made_by (tree.Method line object name es)) → r ≡ followed s (tail_code s.constants e t s.made back) (made_by e)
method_tail s r e object name es t line back is h = subst (λ d. r ≡ followed s (tail_code s.constants d t s.made back) (made_by d)) (sym is) h

-- a return has code

behind_some : (xs ys : List Coded) (n : ℕ) → length ys ≡ suc n → length (xs ++ ys) ≡ 0 → ⊥
behind_some xs ys n e h = let a = length-append xs ys in omega (arith, a, e, h)

values_some : (k : List Const) (es : tree.Exps) (t j line back : ℕ) → length (values_last k es t j line back) ≡ 0 → ⊥
values_some k es t j line back h = by (lone_local es) h
  where
    by : (o : Option ℕ) → length (returned_by k o es t j line back) ≡ 0 → ⊥
    by None h = behind_some (exps_code k es None t j line) (leaving_by Return t (list_field 0 es) back line ∷ []) 0 refl h
    by (Some r) h = absurd (cc)

tail_some : (k : List Const) (e : tree.Exp) (t j line back : ℕ) → is_called e ≡ true → length (return_code k false (tree.MoreExps e tree.EndExps) t j line back) ≡ 0 → ⊥
tail_some k (tree.Call l f es) t j line back called h =
    let last : List Coded = leaving_by TailCall t (list_field 0 es) back l ∷ leaving_by Return t 0 back l ∷ [] in
    let values = exps_code k es None (t + 1) (j + made_by f) l in
    let a = length-append (exp_code k f t j 2) (values ++ last) in
    let b = length-append values last in
    omega (arith, a, b, h)
tail_some k (tree.Method l object name es) t j line back called h =
    let last : List Coded = leaving_by TailCall t (list_field 1 es) back l ∷ leaving_by Return t 0 back l ∷ [] in
    let values = exps_code k es None (t + 2) (j + made_by object) l in
    let whole = self_code k name.text (seat (local_of object) t) t l in
    let a = length-append (unless (local_of object) (exp_code k object t j 2)) (whole ++ (values ++ last)) in
    let b = length-append whole (values ++ last) in
    let c = length-append values last in
    omega (arith, a, b, c, h)
tail_some k _ t j line back called h = absurd (cc)

pub return_some : (k : List Const) (closing : Bool) (es : tree.Exps) (t j line back : ℕ) → length (return_code k closing es t j line back) ≡ 0 → ⊥
return_some k true es t j line back h = values_some k es t j line back (ap length (sym (closing_return k true es t j line back refl)) ∙ h)
return_some k false tree.EndExps t j line back h = values_some k tree.EndExps t j line back h
return_some k false (tree.MoreExps e tree.EndExps) t j line back h = by (is_called e) refl
  where
    by : (b : Bool) → is_called e ≡ b → ⊥
    by true called = tail_some k e t j line back called h
    by false other = values_some k (tree.MoreExps e tree.EndExps) t j line back (ap length (sym (other_return k false e t j line back other)) ∙ h)
return_some k false (tree.MoreExps e (tree.MoreExps d ds)) t j line back h = values_some k (tree.MoreExps e (tree.MoreExps d ds)) t j line back (ap length (sym (longer k false e d ds t j line back)) ∙ h)
