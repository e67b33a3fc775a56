-- Permanents that are inverse to each other give each key the same object, so a reader is the same by either.
use Rattle.std.proofs.Common.{ℕ, zero, suc, ◌≡◌, Bool, true, false, cond, List, [], ◌∷◌, Some, length, refl, sym, ap, subst, ◌∙◌, ◌⊎◌, inl, inr, true≢false}
use Rattle.std.specs.Prelude.{slice_get}
use Rattle.int_core.specs.Value.{nil, known}
use Rattle.list_laws.proofs.Items.{some_same}
use Rattle.image_core.specs.Image.{PermKey, Perm, Item, plain, numbered, permanent, environment}
use Rattle.image_bytes.specs.Bytes.{Reader}
use Rattle.image_saved.specs.Permanents.{same_key, object_named}
use Rattle.image_saved.proofs.Equal.{key_is, key_self}
use Rattle.image_saved.proofs.Names.{ObjectFrom}
use Rattle.image_records.specs.Names.{sort_of_object}
use Rattle.image_reading.specs.Reader.{of_value, no_fault, row_key, same_row_key, reader}
use Rattle.chunk_check.specs.Faults.{first_fault}
use Rattle.graph_core.specs.Inverse.{Inverse}
use Rattle.graph_core.specs.Permanents.{permanents}
use Rattle.eris_write.specs.Persisting.{image}
use Rattle.images_joined.specs.Law.{InverseCanLoad, WrittenIsRead, WrittenIsReadByInverse}
use Rattle.images_joined.proofs.Joined.{IsReadAs}

-- a permanent with a key is the first one that has it, or none has it
record IsMissing (ps : List Perm) (key : PermKey) : Type 0 where
  missing : (i : ℕ) (p : Perm) → slice_get ps i ≡ Some p → p.key ≡ key → ⊥
  object : object_named ps key ≡ known nil

first_or_none : (ps : List Perm) (key : PermKey) → ObjectFrom ps key ⊎ IsMissing ps key
first_or_none [] key = inr (record { missing = λ i p g e. absurd (cc); object = refl })
first_or_none (x ∷ ps) key = by (same_key x.key key) refl (first_or_none ps key)
  where
    none : same_key x.key key ≡ false → ((i : ℕ) (p : Perm) → slice_get ps i ≡ Some p → p.key ≡ key → ⊥) → (i : ℕ) (p : Perm) → slice_get (x ∷ ps) i ≡ Some p → p.key ≡ key → ⊥
    none h rest zero p g e =
        let is : x.key ≡ key = ap (λ (p : Perm). p.key) (some_same x p g) ∙ e in
        true≢false (sym (subst (λ k. same_key x.key k ≡ true) is (key_self x.key)) ∙ h)
    none h rest (suc i) p g e = rest i p g e

    by : (b : Bool) → same_key x.key key ≡ b → ObjectFrom ps key ⊎ IsMissing ps key → ObjectFrom (x ∷ ps) key ⊎ IsMissing (x ∷ ps) key
    by true h r = inl (record { at = 0; found = x; there = refl; names = key_is x.key key h; object = ap (λ b. cond b x.object (object_named ps key)) h })
    by false h (inl r) = inl (record { at = suc r.at; found = r.found; there = r.there; names = r.names; object = ap (λ b. cond b x.object (object_named ps key)) h ∙ r.object })
    by false h (inr r) = inr (record { missing = none h r.missing; object = ap (λ b. cond b x.object (object_named ps key)) h ∙ r.object })

module _ (forth back : List Perm) (inverse : Inverse forth back) where
  same_named : (key : PermKey) → object_named back key ≡ object_named forth key
  same_named key = by (first_or_none forth key) (first_or_none back key)
    where
      by : ObjectFrom forth key ⊎ IsMissing forth key → ObjectFrom back key ⊎ IsMissing back key → object_named back key ≡ object_named forth key
      by (inl f) (inl b) =
          let own = inverse.read_is_written b.at b.found b.there in
          let at : own.0 ≡ f.at = inverse.keys own.0 f.at b.found f.found own.1 f.there (b.names ∙ sym f.names) in
          let is : b.found ≡ f.found = some_same b.found f.found (sym own.1 ∙ (ap (slice_get forth) at ∙ f.there)) in
          b.object ∙ (ap (λ (p : Perm). p.object) is ∙ sym f.object)
      by (inl f) (inr b) = let own = inverse.written_is_read f.at f.found f.there in absurd (b.missing own.0 f.found own.1 f.names)
      by (inr f) (inl b) = let own = inverse.read_is_written b.at b.found b.there in absurd (f.missing own.0 b.found own.1 b.names)
      by (inr f) (inr b) = b.object ∙ sym f.object

  same_row : (env : ℕ) (item : Item) → row_key back env item ≡ row_key forth env item
  same_row env (plain p) = refl
  same_row env (numbered n) = refl
  same_row env (permanent kind key) = ap of_value (same_named key)
  same_row env environment = refl

  same_reader : (env : ℕ) → reader back env ≡ reader forth env
  same_reader env = λ i. record {
    sorts = [];
    sort_named = λ name. sort_of_object (same_named name i);
    same_key = λ a b. same_row_key (same_row env a i) (same_row env b i);
    is_checked = λ p. no_fault (first_fault p);
  }

pub read_by_inverse : WrittenIsRead → WrittenIsReadByInverse
read_by_inverse law W roots forth back bytes code_named c w inverse objects keys rows codes =
    subst (λ (R : Reader). IsReadAs R code_named bytes (image W roots forth 0) (length roots)) (sym (same_reader (permanents forth) (permanents back) inverse W.prelude.env.0))
    (law W roots forth bytes code_named c w objects keys rows codes)

pub inverse_can_load : InverseCanLoad
inverse_can_load pairs forth back inverse paired = record {
  is_known = λ i p e. let other = inverse.written_is_read i p e in (other.0, p, other.1, refl);
  is_paired = λ j q e. let own = inverse.read_is_written j q e in (own.0, q, own.1, refl, paired own.0 q own.1);
  once = inverse.keys;
}
