-- What is written by a name is read as the same.
use Rattle.std.proofs.Common.{ℕ, zero, suc, ◌≡◌, Bool, true, false, cond, List, [], ◌∷◌, Some, refl, sym, ◌∙◌, ap, subst}
use Rattle.std.specs.Prelude.{slice_get, option_map}
use Rattle.int_core.specs.Value.{a_table, Value, object, same}
use Rattle.int_core.proofs.Equality.{value_is}
use Rattle.machine_alike.specs.Agree.{SameValue, same_object}
use Rattle.image_core.specs.Image.{PermKey, Perm, permanent, environment}
use Rattle.image_core.specs.Records.{key_of, sort_of}
use Rattle.image_core.specs.Loading.{value_made}
use Rattle.image_core.proofs.Lists.{map_some, none_some}
use Rattle.image_saved.specs.Permanents.{same_key, object_named, NamesAreRead}
use Rattle.image_saved.proofs.Equal.{key_is, key_self}

pub some_so : {A : Type 0} {a b : A} → Some a ≡ Some b → a ≡ b
some_so e = cc

-- a permanent that gave a value its key
pub record KeyFrom (ps : List Perm) (v : Value) (key : PermKey) : Type 0 where
  pub at : ℕ
  pub found : Perm
  pub there : slice_get ps at ≡ Some found
  pub object : found.object ≡ v
  pub names : found.key ≡ key

pub key_found : (ps : List Perm) (v : Value) (key : PermKey) → key_of ps v ≡ Some key → KeyFrom ps v key
key_found [] v key e = absurd (none_some key e)
key_found (p ∷ ps) v key e = by (same p.object v) refl e (λ f. key_found ps v key f)
  where
    by : (b : Bool) → same p.object v ≡ b → cond b (Some p.key) (key_of ps v) ≡ Some key → (key_of ps v ≡ Some key → KeyFrom ps v key) → KeyFrom (p ∷ ps) v key
    by true h e again = record { at = 0; found = p; there = refl; object = value_is p.object v h; names = some_so e }
    by false h e again = let f = again e in record { at = suc f.at; found = f.found; there = f.there; object = f.object; names = f.names }

-- the permanent whose object a key stands for
pub record ObjectFrom (qs : List Perm) (key : PermKey) : Type 0 where
  pub at : ℕ
  pub found : Perm
  pub there : slice_get qs at ≡ Some found
  pub names : found.key ≡ key
  pub object : object_named qs key ≡ found.object

object_found : (qs : List Perm) (key : PermKey) (j : ℕ) (q : Perm) → slice_get qs j ≡ Some q → q.key ≡ key → ObjectFrom qs key
object_found [] key j q e is = absurd (none_some q e)
object_found (x ∷ qs) key zero q e is = record { at = 0; found = x; there = refl; names = ap (λ p. p.key) (some_so e) ∙ is; object = ap (λ b. cond b x.object (object_named qs key)) same_is }
  where
    same_is : same_key x.key key ≡ true
    same_is = subst (λ k. same_key x.key k ≡ true) (ap (λ p. p.key) (some_so e) ∙ is) (key_self x.key)
object_found (x ∷ qs) key (suc j) q e is = by (same_key x.key key) refl (object_found qs key j q e is)
  where
    by : (b : Bool) → same_key x.key key ≡ b → ObjectFrom qs key → ObjectFrom (x ∷ qs) key
    by true h f = record { at = 0; found = x; there = refl; names = key_is x.key key h; object = ap (λ b. cond b x.object (object_named qs key)) h }
    by false h f = record { at = suc f.at; found = f.found; there = f.there; names = f.names; object = ap (λ b. cond b x.object (object_named qs key)) h ∙ f.object }

pub names_are_read : NamesAreRead
names_are_read pairs env T forth back inverse reads v i e records = by_environment (same (object a_table env) v) refl e
  where
    keyed : (key : PermKey) → KeyFrom forth v key → SameValue pairs v (T.named (sort_of v) key)
    keyed key f =
        let known = inverse.is_known f.at f.found f.there in
        let g = object_found back key known.0 known.1 known.2 (known.3 ∙ f.names) in
        let pair = inverse.is_paired g.at g.found g.there in
        let one = inverse.once f.at pair.0 f.found pair.1 f.there pair.2 (f.names ∙ (sym g.names ∙ sym pair.3)) in
        let found : f.found ≡ pair.1 = some_so (sym f.there ∙ (ap (slice_get forth) one ∙ pair.2)) in
        subst (λ w. SameValue pairs v w) (sym (reads.named (sort_of v) key ∙ g.object)) (subst (λ u. SameValue pairs u g.found.object) (ap (λ p. p.object) (sym found) ∙ f.object) pair.4)

    by_environment : (b : Bool) → same (object a_table env) v ≡ b → cond b (Some environment) (option_map (permanent (sort_of v)) (key_of forth v)) ≡ Some i → SameValue pairs v (value_made T records i)
    by_environment true h e =
        subst (λ i. SameValue pairs v (value_made T records i)) (some_so e)
        (subst (λ v. SameValue pairs v (object a_table T.environment)) (value_is (object a_table env) v h) (same_object a_table env T.environment reads.environments))
    by_environment false h e =
        let k = map_some (permanent (sort_of v)) (key_of forth v) i e in
        subst (λ i. SameValue pairs v (value_made T records i)) k.2 (keyed k.0 (key_found forth v k.0 k.1))
