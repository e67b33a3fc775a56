-- A reader that goes by the objects of keys knows the permanents.
use Rattle.std.proofs.Common.{ℕ, zero, suc, ◌≡◌, Bool, true, false, cond, List, [], ◌∷◌, Some, refl, subst, sym, ap, ◌∙◌}
use Rattle.std.specs.Prelude.{slice_get, option_map}
use Rattle.int_core.specs.Value.{primitive, Plain, Kind, a_table, Value, known, object}
use Rattle.int_core.proofs.Equality.{value_self}
use Rattle.image_core.specs.Image.{PermKey, Perm, Item, plain, numbered, permanent, environment}
use Rattle.image_core.specs.Records.{key_of, sort_of, named}
use Rattle.image_core.proofs.Lists.{none_some}
use Rattle.image_saved.specs.Permanents.{same_key, object_named}
use Rattle.image_saved.proofs.Equal.{key_is, key_self}
use Rattle.images_stand.specs.Standing.{IsObject, ArePermanents, PlainIsHeld, IsItem}
use Rattle.images_stand.specs.Readers.{object_sort, a_value, a_record, becomes, ReadersKnow}
use Rattle.images_stand.proofs.Kept.{Named, by_environment, by_key, named_so}
use Rattle.image_saved.proofs.Names.{some_so}

-- each key stands for its object
module _ (env : ℕ) (perms : List Perm) (are : ArePermanents perms) where
  object_is : (ps : List Perm) → ((i j : ℕ) (p q : Perm) → slice_get ps i ≡ Some p → slice_get ps j ≡ Some q → p.key ≡ q.key → i ≡ j) → (i : ℕ) (p : Perm) → slice_get ps i ≡ Some p → object_named ps p.key ≡ p.object
  object_is [] once i p e = absurd (none_some p e)
  object_is (x ∷ ps) once zero p e = let is : x ≡ p = some_so e in ap (λ b. cond b x.object (object_named ps p.key)) (subst (λ p. same_key x.key p.key ≡ true) is (key_self x.key)) ∙ ap (λ p. p.object) is
  object_is (x ∷ ps) once (suc i) p e = by (same_key x.key p.key) refl (object_is ps (λ i j p q a b k. same_places (once (suc i) (suc j) p q a b k)) i p e)
    where
      same_places : {m n : ℕ} → suc m ≡ suc n → m ≡ n
      same_places e = cc

      by : (b : Bool) → same_key x.key p.key ≡ b → object_named ps p.key ≡ p.object → cond b x.object (object_named ps p.key) ≡ p.object
      by false h again = again
      by true h again = absurd (apart (once 0 (suc i) x p refl e (key_is x.key p.key h)))
        where
          apart : 0 ≡ suc i → ⊥
          apart e = cc

  object_of_key : (i : ℕ) (p : Perm) → slice_get perms i ≡ Some p → object_named perms p.key ≡ p.object
  object_of_key i p e = object_is perms are.once i p e

  sort_is : (v : Value) → IsObject v → object_sort v ≡ Some (sort_of v)
  sort_is (known (primitive n)) h = refl
  sort_is (object kind n) h = refl
  sort_is _ h = absurd h

  -- the value that stands as a permanent
  record StandsFor (kind : Kind) (key : PermKey) : Type 0 where
    value : Value
    name : named env perms value ≡ Some (permanent kind key)
    becomes_it : object_named perms key ≡ value
    is_object : IsObject value

  keyed : (v : Value) (kind : Kind) (key : PermKey) (i : Item) → named env perms v ≡ Some (permanent kind key) → Named env perms v i → i ≡ permanent kind key → StandsFor kind key
  keyed v kind key i e (by_environment h) is = absurd (cc)
  keyed v kind key i e (by_key other f) is =
      let names : other ≡ key = cc in
      record {
        value = v;
        name = e;
        becomes_it = ap (object_named perms) (sym names) ∙ (ap (object_named perms) (sym f.names) ∙ (object_of_key f.at f.found f.there ∙ f.object));
        is_object = subst IsObject f.object (are.objects f.at f.found f.there);
      }

  stands_for : (kind : Kind) (key : PermKey) → IsItem env perms (permanent kind key) → StandsFor kind key
  stands_for kind key h = keyed h.0 kind key (permanent kind key) h.1 (named_so env perms h.0 (permanent kind key) h.1) refl

  value_so : {v w : Value} → a_value v ≡ a_value w → v ≡ w
  value_so e = cc

  plain_so : {p q : Plain} → known p ≡ known q → p ≡ q
  plain_so e = cc

  no_object : (p : Plain) → PlainIsHeld p → IsObject (known p) → ⊥
  no_object (primitive n) h k = h
  no_object _ h k = k

  item_so : {i j : Item} → Some i ≡ Some j → i ≡ j
  item_so e = cc

  environment_named : named env perms (object a_table env) ≡ Some environment
  environment_named = ap (λ b. cond b (Some environment) (option_map (permanent a_table) (key_of perms (object a_table env)))) (value_self (object a_table env))

  one_item : (a b : Item) → IsItem env perms a → IsItem env perms b → becomes env perms a ≡ becomes env perms b → a ≡ b
  one_item (plain p) (plain q) h k e = ap plain (plain_so (value_so e))
  one_item (plain p) (numbered n) h k e = absurd (cc)
  one_item (plain p) (permanent kind key) h k e = let s = stands_for kind key k in absurd (no_object p h (subst IsObject (sym (value_so e ∙ s.becomes_it)) s.is_object))
  one_item (plain p) environment h k e = absurd (cc)
  one_item (numbered m) (plain q) h k e = absurd (cc)
  one_item (numbered m) (numbered n) h k e = ap numbered (number_so e)
    where
      number_so : a_record m ≡ a_record n → m ≡ n
      number_so e = cc
  one_item (numbered m) (permanent kind key) h k e = absurd (cc)
  one_item (numbered m) environment h k e = absurd (cc)
  one_item (permanent kind key) (plain q) h k e = let s = stands_for kind key h in absurd (no_object q k (subst IsObject (sym s.becomes_it ∙ value_so e) s.is_object))
  one_item (permanent kind key) (numbered n) h k e = absurd (cc)
  one_item (permanent kind key) (permanent other name) h k e =
      let s = stands_for kind key h in
      let t = stands_for other name k in
      item_so (sym s.name ∙ (ap (named env perms) (sym s.becomes_it ∙ (value_so e ∙ t.becomes_it)) ∙ t.name))
  one_item (permanent kind key) environment h k e =
      let s = stands_for kind key h in
      item_so (sym s.name ∙ (ap (named env perms) (sym s.becomes_it ∙ value_so e) ∙ environment_named))
  one_item environment (plain q) h k e = absurd (cc)
  one_item environment (numbered n) h k e = absurd (cc)
  one_item environment (permanent kind key) h k e =
      let s = stands_for kind key k in
      item_so (sym environment_named ∙ (ap (named env perms) (value_so e ∙ s.becomes_it) ∙ s.name))
  one_item environment environment h k e = refl

pub readers_know : ReadersKnow
readers_know env perms R are goes = record {
  checked = goes.checked;
  sorts = λ i p e. goes.sorts p.key ∙ (ap object_sort (object_of_key env perms are i p e) ∙ sort_is env perms are p.object (are.objects i p e));
  keys = λ a b h k e. one_item env perms are a b h k (goes.keys a b e);
}
