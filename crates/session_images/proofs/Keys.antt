-- The names of the libraries' functions: each has its own, and nothing else has one but the prelude's environment.
use Rattle.std.proofs.Common.{arith, ℕ, zero, suc, ◌+◌, ◌≡◌, ◌<◌, ◌≤◌, Bool, true, false, cond, List, [], ◌∷◌, ◌++◌, Some, None, refl, subst, sym, ◌∙◌, ap, ⊎_elim, length, map}
use Rattle.std.specs.Prelude.{slice_get, not, ◌&&◌, ◌||◌, nat_eq, option_map}
use Rattle.std.specs.List.{list_any}
use Rattle.std.proofs.lemmas.Bool.{and_parts}
use Rattle.int_core.specs.Value.{Kind, a_table, a_function, a_coroutine, Value, known, object, primitive, same}
use Rattle.list_laws.proofs.Tests.{eq_refl, or_left, or_right, split}
use Rattle.library_rows.specs.Library as library
use Rattle.library_rows.specs.Library.{all_entries}
use Rattle.library_rows.specs.PreludeText.{function_keys}
use Rattle.machine_core.specs.World.{World}
use Rattle.machine_alike.specs.Agree.{SameValue, same_known, same_object}
use Rattle.image_core.specs.Image.{PermKey, text_key, Perm, permanent, environment}
use Rattle.image_core.specs.Records.{key_of}
use Rattle.image_core.proofs.Lists.{Every, every_get, every_both, none_some}
use Rattle.image_saved.specs.Permanents.{same_key, AreInverse}
use Rattle.image_saved.proofs.Equal.{key_self}
use Rattle.session_images.specs.Permanents.{by_keys, primitive_value, function_value, base_permanents}
use Rattle.session_images.specs.Saved.{prelude_pairs, session_name}
use Rattle.session_images.proofs.Same.{below_so}

abbrev primitive_keys : List (List ℕ)
primitive_keys = map library.key_of all_entries

-- which objects have a key

pub after_unkeyed : (xs ys : List Perm) (v : Value) → key_of xs v ≡ None → key_of (xs ++ ys) v ≡ key_of ys v
after_unkeyed [] ys v h = refl
after_unkeyed (x ∷ xs) ys v h = by (same x.object v) h (after_unkeyed xs ys v)
  where
    by : (b : Bool) → cond b (Some x.key) (key_of xs v) ≡ None → (key_of xs v ≡ None → key_of (xs ++ ys) v ≡ key_of ys v) → cond b (Some x.key) (key_of (xs ++ ys) v) ≡ key_of ys v
    by true h f = absurd (cc)
    by false h f = f h

pub primitives_unkeyed : (n : ℕ) (keys : List (List ℕ)) (kind : Kind) (m : ℕ) → key_of (by_keys primitive_value n keys) (object kind m) ≡ None
primitives_unkeyed n [] kind m = refl
primitives_unkeyed n (key ∷ keys) kind m = primitives_unkeyed (suc n) keys kind m

coroutine_unkeyed : (n : ℕ) (keys : List (List ℕ)) (m : ℕ) → key_of (by_keys function_value n keys) (object a_coroutine m) ≡ None
coroutine_unkeyed n [] m = refl
coroutine_unkeyed n (key ∷ keys) m = coroutine_unkeyed (suc n) keys m

function_keyed : (n : ℕ) (keys : List (List ℕ)) (m : ℕ) → n ≤ m → m < n + length keys → (key : PermKey) × (key_of (by_keys function_value n keys) (object a_function m) ≡ Some key)
function_keyed n [] m low high = absurd (omega (arith, low, high))
function_keyed n (key ∷ keys) m low high = by (nat_eq n m) refl (λ other. function_keyed (suc n) keys m other (omega (arith, high)))
  where
    differ : nat_eq n m ≡ false → n ≡ m → ⊥
    differ f same = let t = subst (λ m. nat_eq n m ≡ true) same (eq_refl n) in cc

    by : (b : Bool) → nat_eq n m ≡ b → (suc n ≤ m → (key : PermKey) × (key_of (by_keys function_value (suc n) keys) (object a_function m) ≡ Some key))
        → (found : PermKey) × (cond b (Some (text_key key)) (key_of (by_keys function_value (suc n) keys) (object a_function m)) ≡ Some found)
    by true h f = (text_key key, refl)
    by false h f = f (let d = differ h in omega (arith, low, d))

base_unkeyed : (m : ℕ) → key_of base_permanents (object a_coroutine m) ≡ None
unfolding base_permanents
base_unkeyed m = after_unkeyed (by_keys primitive_value 0 primitive_keys) (by_keys function_value 0 function_keys) (object a_coroutine m) (primitives_unkeyed 0 primitive_keys a_coroutine m) ∙ coroutine_unkeyed 0 function_keys m

base_keyed : (m : ℕ) → m < length function_keys → (key : PermKey) × (key_of base_permanents (object a_function m) ≡ Some key)
unfolding base_permanents
base_keyed m h =
    let k = function_keyed 0 function_keys m (omega arith) (omega (arith, h)) in
    (k.0, after_unkeyed (by_keys primitive_value 0 primitive_keys) (by_keys function_value 0 function_keys) (object a_function m) (primitives_unkeyed 0 primitive_keys a_function m) ∙ k.1)

module _ (W : World) where
  pub coroutine_unnamed : (m : ℕ) → session_name W (object a_coroutine m) ≡ None
  coroutine_unnamed m = ap (option_map (permanent a_coroutine)) (base_unkeyed m)

  pub unnamed_function : (m : ℕ) → session_name W (object a_function m) ≡ None → length function_keys ≤ m
  unnamed_function m h = ⊎_elim (λ low. let k = base_keyed m low in absurd (let e = sym (ap (option_map (permanent a_function)) k.1) ∙ h in cc)) (λ past. past) (split m (length function_keys))

  pub unnamed_table : (m : ℕ) → session_name W (object a_table m) ≡ None → W.prelude_environment ≡ m → ⊥
  unnamed_table m h is = by (nat_eq W.prelude_environment m) (subst (λ m. nat_eq W.prelude_environment m ≡ true) is (eq_refl W.prelude_environment)) h
    where
      by : (b : Bool) → b ≡ true → cond b (Some environment) (option_map (permanent a_table) (key_of base_permanents (object a_table m))) ≡ None → ⊥
      by true t h = cc
      by false t h = cc

-- each permanent is the same in all worlds that have the prelude

module _ (count : ℕ) where
  abbrev Kept : Perm → Type 0
  Kept p = SameValue (prelude_pairs count) p.object p.object

  primitives_kept : (n : ℕ) (keys : List (List ℕ)) → Every Kept (by_keys primitive_value n keys)
  primitives_kept n [] = tt
  primitives_kept n (key ∷ keys) = (same_known (primitive n), primitives_kept (suc n) keys)

  functions_kept : (n : ℕ) (keys : List (List ℕ)) → n + length keys ≤ count → Every Kept (by_keys function_value n keys)
  functions_kept n [] h = tt
  functions_kept n (key ∷ keys) h = (same_object a_function n n (below_so count n (omega (arith, h))), functions_kept (suc n) keys (omega (arith, h)))

  base_kept : length function_keys ≤ count → Every Kept base_permanents
  unfolding base_permanents
  base_kept h = every_both Kept (by_keys primitive_value 0 primitive_keys) (by_keys function_value 0 function_keys) (primitives_kept 0 primitive_keys) (functions_kept 0 function_keys (omega (arith, h)))

-- no key stands twice

abbrev different : List PermKey → Bool
different [] = true
different (k ∷ ks) = not (list_any (same_key k) ks) && different ks

abbrev key_in : Perm → PermKey
key_in p = p.key

has_key : (ps : List Perm) (k : PermKey) (j : ℕ) (p : Perm) → slice_get ps j ≡ Some p → k ≡ p.key → list_any (same_key k) (map key_in ps) ≡ true
has_key [] k j p e is = absurd (none_some p e)
has_key (x ∷ ps) k zero p e is = let same : x ≡ p = cc in or_left (same_key k x.key) (list_any (same_key k) (map key_in ps)) (subst (λ l. same_key k l ≡ true) (is ∙ ap key_in (sym same)) (key_self k))
has_key (x ∷ ps) k (suc j) p e is = or_right (same_key k x.key) (list_any (same_key k) (map key_in ps)) (has_key ps k j p e is)

pub not_both : (b : Bool) → not b ≡ true → b ≡ true → ⊥
not_both true h k = cc
not_both false h k = cc

keys_once : (ps : List Perm) → different (map key_in ps) ≡ true → (i j : ℕ) (p q : Perm) → slice_get ps i ≡ Some p → slice_get ps j ≡ Some q → p.key ≡ q.key → i ≡ j
keys_once [] d i j p q a b is = absurd (none_some p a)
keys_once (x ∷ ps) d zero zero p q a b is = refl
keys_once (x ∷ ps) d zero (suc j) p q a b is =
    let both = and_parts (not (list_any (same_key x.key) (map key_in ps))) (different (map key_in ps)) d in
    let same : x ≡ p = cc in
    absurd (not_both (list_any (same_key x.key) (map key_in ps)) both.0 (has_key ps x.key j q b (ap key_in same ∙ is)))
keys_once (x ∷ ps) d (suc i) zero p q a b is =
    let both = and_parts (not (list_any (same_key x.key) (map key_in ps))) (different (map key_in ps)) d in
    let same : x ≡ q = cc in
    absurd (not_both (list_any (same_key x.key) (map key_in ps)) both.0 (has_key ps x.key i p a (ap key_in same ∙ sym is)))
keys_once (x ∷ ps) d (suc i) (suc j) p q a b is =
    let both = and_parts (not (list_any (same_key x.key) (map key_in ps))) (different (map key_in ps)) d in
    ap suc (keys_once ps both.1 i j p q a b is)

base_different : different (map key_in base_permanents) ≡ true
unfolding base_permanents
base_different = refl

pub base_inverse : (count : ℕ) → length function_keys ≤ count → AreInverse (prelude_pairs count) base_permanents base_permanents
base_inverse count h = record {
  is_known = λ i p e. (i, p, e, refl);
  is_paired = λ j q e. (j, q, e, refl, every_get (Kept count) base_permanents j q (base_kept count h) e);
  once = keys_once base_permanents base_different;
}
