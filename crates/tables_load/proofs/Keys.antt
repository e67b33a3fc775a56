-- Keys that a reader takes for different become different values.
use Rattle.std.proofs.Common.{arith, ℕ, ◌+◌, ◌<◌, ◌≡◌, List, [], ◌∷◌, Some, refl, subst, sym, ap, ap₂, ◌∙◌, map, true, false, not, true≢false}
use Rattle.std.specs.Prelude.{slice_get, nat_eq, ◌&&◌}
use Rattle.std.specs.List.{list_any, AllByRecursion, IsDistinct}
use Rattle.std.specs.Map.{keys_of}
use Rattle.std.proofs.lemmas.Bool.{and_parts, or_parts, not-true, false_from_ne_true}
use Rattle.int_core.specs.Rows.{AreRows, has_row}
use Rattle.int_core.specs.Value.{nil, Kind, a_table, a_function, a_coroutine, Value, known, object, same, same_kind, table_values, bind}
use Rattle.int_core.proofs.Equality.{kind_is, flipped}
use Rattle.list_laws.proofs.Tests.{eq_true, eq_refl}
use Rattle.image_core.specs.Image.{PermKey, Perm, Item, plain, numbered, permanent, environment, Record}
use Rattle.image_core.specs.Loading.{kind_in, is_of, is_kind, rank, Target, count_in, new_number, numbered_value, value_made, row_made}
use Rattle.image_core.proofs.Lists.{rank_one}
use Rattle.image_bytes.specs.Bytes.{Reader, is_sort, is_nil_item, is_new_key, sort_byte, with_sorts}
use Rattle.image_reading.specs.Reader.{of_value, of_record, same_row_key, row_key, reader}
use Rattle.image_records.specs.Names.{sort_of_object}
use Rattle.image_saved.specs.Permanents.{object_named}
use Rattle.image_sound.specs.Reads.{ItemRead, All, RowRead}
use Rattle.image_sound.proofs.Given.{numbers_name_records}
use Rattle.tables_load.specs.Laws.{IsHome}
use Rattle.tables_load.proofs.NewKeys.{KeysNew}
use Rattle.image_core.proofs.Parts.{kind_self}

module _ (perms : List Perm) (env : ℕ) (T : Target) (home : IsHome perms env T) (rs : List Record) where
  abbrev R : Reader
  R = with_sorts (reader perms env) (map sort_byte rs)

  abbrev made : Item → Value
  made i = value_made T rs i

  -- a value that was there before
  abbrev Old : Value → Type 0
  Old (known p) = Unit {0}
  Old (object kind n) = n < count_in T kind

  -- what an item becomes: a value that was there, or the object of a record
  data Meant (i : Item) : Type 0 where
    as_value : (v : Value) → Old v → row_key perms env i ≡ of_value v → made i ≡ v → Meant i
    as_record : (n : ℕ) (kind : Kind) (r : Record) → slice_get rs n ≡ Some r → is_of kind r ≡ true → row_key perms env i ≡ of_record n → made i ≡ object kind (new_number T rs kind n) → Meant i

  named_old : (key : PermKey) (v : Value) → object_named perms key ≡ v → Old v
  named_old key (known p) e = tt
  named_old key (object kind n) e = home.there key kind n e

  meant : (i : Item) → ItemRead R i → Meant i
  meant (plain p) h = as_value (known p) tt refl refl
  meant (numbered n) h =
      let r = numbers_name_records rs n h in
      as_record n r.1 r.0 r.2 (ap (is_kind r.1) r.3 ∙ kind_self r.1) refl
      (ap (numbered_value T rs n) (ap (λ o. bind o kind_in) r.2 ∙ r.3))
  meant (permanent kind key) h = as_value (object_named perms key) (named_old key (object_named perms key) refl) refl (home.named kind key)
  meant environment h = as_value (object a_table env) home.env_there refl (ap (object a_table) home.environment)

  -- what was there is no object of a record
  old_new : (v : Value) (kind : Kind) (n : ℕ) → Old v → same v (object kind (new_number T rs kind n)) ≡ false
  old_new (known p) kind n h = refl
  old_new (object k m) kind n h = false_from_ne_true (same_kind k kind && nat_eq m (new_number T rs kind n)) (λ e.
      let both = and_parts (same_kind k kind) (nat_eq m (new_number T rs kind n)) e in
      let l : m < count_in T kind = subst (λ k. m < count_in T k) (kind_is k kind both.0) h in
      let is : m ≡ new_number T rs kind n = eq_true m (new_number T rs kind n) both.1 in
      omega (arith, l, is))

  records_apart : (m n : ℕ) (k l : Kind) (r s : Record) → slice_get rs m ≡ Some r → is_of k r ≡ true → slice_get rs n ≡ Some s → is_of l s ≡ true → nat_eq m n ≡ false
      → same (object k (new_number T rs k m)) (object l (new_number T rs l n)) ≡ false
  records_apart m n k l r s e i f j d = false_from_ne_true (same_kind k l && nat_eq (new_number T rs k m) (new_number T rs l n)) (λ t.
      let both = and_parts (same_kind k l) (nat_eq (new_number T rs k m) (new_number T rs l n)) t in
      let kinds : k ≡ l = kind_is k l both.0 in
      let numbers : new_number T rs k m ≡ new_number T rs l n = eq_true (new_number T rs k m) (new_number T rs l n) both.1 in
      let ranks : count_in T k + rank (is_of k) rs m ≡ count_in T k + rank (is_of k) rs n = subst (λ l. new_number T rs k m ≡ new_number T rs l n) (sym kinds) numbers in
      let same : m ≡ n = rank_one (is_of k) rs m n r s e i f (subst (λ l. is_of l s ≡ true) (sym kinds) j) (omega (arith, ranks)) in
      true≢false (sym (subst (λ n. nat_eq m n ≡ true) same (eq_refl m)) ∙ d))

  keys_apart : (a b : Item) → Meant a → Meant b → same_row_key (row_key perms env a) (row_key perms env b) ≡ false → same (made a) (made b) ≡ false
  keys_apart a b (as_value v old k m) (as_value w old' k' m') d = ap₂ same m m' ∙ sym (ap₂ same_row_key k k') ∙ d
  keys_apart a b (as_value v old k m) (as_record n kind r e i k' m') d = ap₂ same m m' ∙ old_new v kind n old
  keys_apart a b (as_record n kind r e i k m) (as_value w old k' m') d = ap₂ same m m' ∙ flipped w (object kind (new_number T rs kind n)) (old_new w kind n old)
  keys_apart a b (as_record n kind r e i k m) (as_record n' kind' r' e' i' k' m') d = ap₂ same m m' ∙ records_apart n n' kind kind' r r' e i e' i' (sym (ap₂ same_row_key k k') ∙ d)

  -- no key is nil

  sort_no_nil : (kind : Kind) (v : Value) → is_sort kind (sort_of_object v) ≡ true → same (known nil) v ≡ false
  sort_no_nil kind (known nil) h = absurd (cc)
  sort_no_nil kind _ h = refl

  no_nil : (i : Item) → ItemRead R i → is_nil_item R i ≡ false → same (known nil) (made i) ≡ false
  no_nil (plain nil) h k = absurd (cc)
  no_nil (numbered n) h k = by (meant (numbered n) h)
    where
      by : Meant (numbered n) → same (known nil) (made (numbered n)) ≡ false
      by (as_value v old e m) = absurd (cc)
      by (as_record n kind r e i d m) = ap (same (known nil)) m
  no_nil (permanent kind key) h k = ap (same (known nil)) (home.named kind key) ∙ sort_no_nil kind (object_named perms key) h
  no_nil _ h k = refl

  -- rows

  abbrev rows_made : List (Item × Item) → List (Value × Value)
  rows_made rows = map (row_made T rs) rows

  parts_of : (seen : List Item) (i : Item) → is_new_key R seen i ≡ true → (is_nil_item R i ≡ false) × (list_any (R.same_key i) seen ≡ false)
  parts_of seen i h =
      let both = and_parts (not (is_nil_item R i)) (not (list_any (R.same_key i) seen)) h in
      (not-true (is_nil_item R i) both.0, not-true (list_any (R.same_key i) seen) both.1)

  later_apart : (s : Item) → ItemRead R s → (seen : List Item) (rows : List (Item × Item)) → ((i : Item) → list_any (R.same_key i) seen ≡ false → R.same_key i s ≡ false) → All (RowRead R) rows → KeysNew R seen rows
      → AllByRecursion (λ v. same (made s) v ≡ false) (keys_of (rows_made rows))
  later_apart s a seen [] among h k = tt
  later_apart s a seen (row ∷ rows) among h k =
      let new = parts_of seen row.0 k.0 in
      let apart : same (made row.0) (made s) ≡ false = keys_apart row.0 s (meant row.0 h.0.0) (meant s a) (among row.0 new.1) in (
        flipped (made row.0) (made s) apart,
        later_apart s a (row.0 ∷ seen) rows (λ i e. among i (or_parts (R.same_key i row.0) (list_any (R.same_key i) seen) e).1) h.1 k.1,
      )

  distinct : (seen : List Item) (rows : List (Item × Item)) → All (RowRead R) rows → KeysNew R seen rows → IsDistinct same (keys_of (rows_made rows))
  unfolding IsDistinct
  distinct seen [] h k = tt
  distinct seen (row ∷ rows) h k =
      (later_apart row.0 h.0.0 (row.0 ∷ seen) rows (λ i e. (or_parts (R.same_key i row.0) (list_any (R.same_key i) seen) e).0) h.1 k.1, distinct (row.0 ∷ seen) rows h.1 k.1)

  none_nil : (seen : List Item) (rows : List (Item × Item)) → All (RowRead R) rows → KeysNew R seen rows → has_row table_values (rows_made rows) (known nil) ≡ false
  none_nil seen [] h k = refl
  none_nil seen (row ∷ rows) h k = rw (no_nil row.0 h.0.0 (parts_of seen row.0 k.0).0) (none_nil (row.0 ∷ seen) rows h.1 k.1)

  pub are_rows : (rows : List (Item × Item)) → All (RowRead R) rows → KeysNew R [] rows → AreRows table_values (rows_made rows)
  are_rows rows h k = record { distinct = distinct [] rows h k; no_nil = none_nil [] rows h k }
