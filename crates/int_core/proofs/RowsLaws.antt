-- What every layer may use of rows: a write keeps them rows, and each key finds what was written last.
use Rattle.std.proofs.Common.{◌≡◌, Bool, true, false, List, [], ◌∷◌, ◌++◌, refl, sym, ◌∙◌, ap, arith, true≢false}
use Rattle.std.proofs.lemmas.Map.{keys-set_value}
use Rattle.std.proofs.lemmas.Map.Keys.{IsDistinct-cons, IsDistinct-head, IsDistinct-tail}
use Rattle.std.proofs.lemmas.Map.Made.{IsDistinct-keys_filter, is_some-lookup}
use Rattle.std.specs.Prelude.{Option, Some, None, unwrap_or, is_some, count_by, nat_lt, if◌then◌else◌}
use Rattle.std.specs.List.{AllByRecursion, IsDistinct}
use Rattle.std.specs.Map.{keys_of, lookup}
use Rattle.int_core.specs.Rows.{Values, AreRows, is_nil, is_filled, is_cleared, has_row, get, set, kept}
use Rattle.int_core.proofs.RowsLemmas.{AreValues, absent-filter, get-absent, get-filter, lookup-append_other, lookup-append_same, lookup-set_value_other, lookup-set_value_same}

module _ {V : Type 0} (values : Values V) (laws : AreValues values) where
  -- ---- the rows that stay before a new key

  kept-absent : (rows : List (V × V)) (key : V) → has_row values rows key ≡ false → has_row values (kept values rows) key ≡ false
  kept-absent rows key absent = by (nat_lt (count_by (is_filled values) rows) (count_by (is_cleared values) rows)) refl
    where
      by : (b : Bool) → nat_lt (count_by (is_filled values) rows) (count_by (is_cleared values) rows) ≡ b → has_row values (kept values rows) key ≡ false
      by true e = rw e (absent-filter values laws (is_filled values) rows key absent)
      by false e = rw e absent

  kept-distinct : (rows : List (V × V)) → IsDistinct values.same (keys_of rows) → IsDistinct values.same (keys_of (kept values rows))
  kept-distinct rows distinct = by (nat_lt (count_by (is_filled values) rows) (count_by (is_cleared values) rows)) refl
    where
      by : (b : Bool) → nat_lt (count_by (is_filled values) rows) (count_by (is_cleared values) rows) ≡ b → IsDistinct values.same (keys_of (kept values rows))
      by true e = rw e (IsDistinct-keys_filter values.same (is_filled values) rows distinct)
      by false e = rw e distinct

  get-kept : (rows : List (V × V)) (key : V) → IsDistinct values.same (keys_of rows) → get values (kept values rows) key ≡ get values rows key
  get-kept rows key distinct = by (nat_lt (count_by (is_filled values) rows) (count_by (is_cleared values) rows)) refl
    where
      by : (b : Bool) → nat_lt (count_by (is_filled values) rows) (count_by (is_cleared values) rows) ≡ b → get values (kept values rows) key ≡ get values rows key
      by true e = rw e (get-filter values laws rows key distinct)
      by false e = rw e refl

  -- ---- a new row

  absent-flipped : (key x : V) → values.same key x ≡ false → (b : Bool) → values.same x key ≡ b → b ≡ false
  absent-flipped key x differ false there = refl
  absent-flipped key x differ true there =
      let same = laws.same_equal x key there in
      let wrong : values.same key x ≡ true = rw same (laws.same_refl key) in
      cc

  distinct-append : (rows : List (V × V)) (key w : V) → IsDistinct values.same (keys_of rows) → has_row values rows key ≡ false → IsDistinct values.same (keys_of (rows ++ (key, w) ∷ []))
  distinct-append [] key w distinct absent = IsDistinct-cons values.same key [] tt distinct
  distinct-append (row ∷ rows) key w distinct absent =
      let here : values.same key row.0 ≡ false = grind (arith) in
      let rest : has_row values rows key ≡ false = grind (arith) in
      IsDistinct-cons values.same row.0 (keys_of (rows ++ (key, w) ∷ []))
      (apart row.0 rows (IsDistinct-head values.same row.0 (keys_of rows) distinct) (absent-flipped key row.0 here _ refl))
      (distinct-append rows key w (IsDistinct-tail values.same row.0 (keys_of rows) distinct) rest)
    where
      apart : (x : V) (rows : List (V × V)) → AllByRecursion (λ y. values.same x y ≡ false) (keys_of rows) → values.same x key ≡ false → AllByRecursion (λ y. values.same x y ≡ false) (keys_of (rows ++ (key, w) ∷ []))
      apart x [] all last = (last, tt)
      apart x (row ∷ rows) all last = (all.0, apart x rows all.1 last)

  -- ---- a write

  no_nil-append : (rows : List (V × V)) (key w : V) → has_row values rows values.nil ≡ false → values.same values.nil key ≡ false → has_row values (rows ++ (key, w) ∷ []) values.nil ≡ false
  no_nil-append [] key w none not_nil = rw not_nil refl
  no_nil-append (row ∷ rows) key w none not_nil =
      let here : values.same values.nil row.0 ≡ false = grind (arith) in
      let rest : has_row values rows values.nil ≡ false = grind (arith) in
      rw here (no_nil-append rows key w rest not_nil)

  -- rows stay rows
  pub AreRows-set : (rows : List (V × V)) (key w : V) → AreRows values rows → values.same values.nil key ≡ false → AreRows values (set values rows key w)
  AreRows-set rows key w are not_nil = by (has_row values rows key) refl (is_nil values w) refl
    where
      by : (b : Bool) → has_row values rows key ≡ b → (d : Bool) → is_nil values w ≡ d → AreRows values (set values rows key w)
      by true there d nil = rw there (record {
        distinct = rw (keys-set_value (values.same key) rows w) are.distinct;
        no_nil = rw (keys-set_value (values.same key) rows w) are.no_nil;
      })
      by false absent true nil = rw absent (rw nil are)
      by false absent false filled = rw absent (rw filled (record {
        distinct = distinct-append (kept values rows) key w (kept-distinct rows are.distinct) (kept-absent rows key absent);
        no_nil = no_nil-append (kept values rows) key w (kept-absent rows values.nil are.no_nil) not_nil;
      }))

  found-by_row : (rows : List (V × V)) (key : V) → has_row values rows key ≡ true → (found : Option V) → lookup (values.same key) rows ≡ found → (was : V) × (lookup (values.same key) rows ≡ Some was)
  found-by_row rows key there None e =
      let none : is_some (lookup (values.same key) rows) ≡ false = rw e refl in
      let some = is_some-lookup (values.same key) rows in
      absurd (true≢false (sym there ∙ sym some ∙ none))
  found-by_row rows key there (Some was) e = (was, e)

  get-set_same : (rows : List (V × V)) (key w : V) → AreRows values rows → get values (set values rows key w) key ≡ w
  get-set_same rows key w are = by (has_row values rows key) refl (is_nil values w) refl
    where
      by : (b : Bool) → has_row values rows key ≡ b → (d : Bool) → is_nil values w ≡ d → get values (set values rows key w) key ≡ w
      by true there d nil =
          let found = found-by_row rows key there _ refl in
          rw there (rw (lookup-set_value_same values laws (values.same key) rows found.0 w found.1) refl)
      by false absent true nil = rw absent (rw nil (get-absent values rows key absent ∙ sym (laws.same_equal w values.nil nil)))
      by false absent false filled = rw absent (rw filled (rw (lookup-append_same values laws (kept values rows) key w (kept-absent rows key absent)) refl))

  get-set_other : (rows : List (V × V)) (key w other : V) → AreRows values rows → (key ≡ other → ⊥) → get values (set values rows key w) other ≡ get values rows other
  get-set_other rows key w other are differ = by (has_row values rows key) refl (is_nil values w) refl
    where
      by : (b : Bool) → has_row values rows key ≡ b → (d : Bool) → is_nil values w ≡ d → get values (set values rows key w) other ≡ get values rows other
      by true there d nil = rw there (rw (lookup-set_value_other values laws key other differ rows w) refl)
      by false absent true nil = rw absent (rw nil refl)
      by false absent false filled = rw absent (rw filled (ap (λ found. unwrap_or found values.nil) (lookup-append_other values laws key other differ (kept values rows) w) ∙ get-kept rows other are.distinct))

  -- each key finds what was written last
  pub get-set : (rows : List (V × V)) (key w other : V) → AreRows values rows → get values (set values rows key w) other ≡ (if values.same other key then w else get values rows other)
  get-set rows key w other are = by (values.same other key) refl
    where
      by : (b : Bool) → values.same other key ≡ b → get values (set values rows key w) other ≡ (if values.same other key then w else get values rows other)
      by true same = rw same (rw (laws.same_equal other key same) (get-set_same rows key w are))
      by false differ = rw differ (get-set_other rows key w other are (λ e. true≢false (sym (laws.same_refl other) ∙ (rw e at differ))))
