-- The least border of a table, and that it is the one computed.
use Rattle.std.proofs.Common.{◌≡◌, ℕ, zero, suc, ◌+◌, ◌<◌, ◌≤◌, Bool, true, false, not, cond, List, [], ◌∷◌, ◌++◌, length, filter, refl, sym, ◌∙◌, ap, arith, inl, inr, true≢false, below_more}
use Rattle.std.proofs.lemmas.Bool.{cases_lt}
use Rattle.std.proofs.lemmas.List.Filters.{length-filter_both}
use Rattle.std.specs.Prelude.{ℤ, pos, Option, Some, None}
use Rattle.std.proofs.lemmas.Map.Keys.{IsDistinct-head, IsDistinct-tail}
use Rattle.std.specs.List.{AllByRecursion, IsDistinct}
use Rattle.std.specs.Map.{keys_of, lookup, set_value}
use Rattle.int_core.specs.Rows.{Values, is_nil, is_filled, has_row, get, behind, IsBorder, border_from, border}

-- what holds of the values where `same` is equality and each integer is a value of its own
pub record AreValues {V : Type 0} (values : Values V) : Type 0 where
  pub same_equal : (a b : V) → values.same a b ≡ true → a ≡ b
  pub same_refl : (a : V) → values.same a a ≡ true
  pub integer_own : (m n : ℤ) → values.integer m ≡ values.integer n → m ≡ n

integers_differ : (n m : ℕ) → m < n → pos (n + 1) ≡ pos (m + 1) → ⊥
integers_differ n m below e = let same : n + 1 ≡ m + 1 = cc in omega arith

module _ {V : Type 0} (values : Values V) where
  -- a key without a row is not found
  pub lookup-absent : (rows : List (V × V)) (key : V) → has_row values rows key ≡ false → lookup (values.same key) rows ≡ None
  lookup-absent [] key absent = refl
  lookup-absent (row ∷ rows) key absent =
      let skips : values.same key row.0 ≡ false = grind (arith) in
      let rest : has_row values rows key ≡ false = grind (arith) in
      rw skips (lookup-absent rows key rest)

  pub get-absent : (rows : List (V × V)) (key : V) → has_row values rows key ≡ false → get values rows key ≡ values.nil
  get-absent rows key absent = rw (lookup-absent rows key absent) refl

module _ {V : Type 0} (values : Values V) (laws : AreValues values) where
  -- the rows without those of a key
  abbrev without : V → List (V × V) → List (V × V)
  without key rows = filter (λ row. not (values.same key row.0)) rows

  -- two keys that differ are not both equal to a third
  other_differs : (key other x : V) → (key ≡ other → ⊥) → values.same key x ≡ true → (b : Bool) → values.same other x ≡ b → b ≡ false
  other_differs key other x differ here false there = refl
  other_differs key other x differ here true there = absurd (differ (laws.same_equal key x here ∙ sym (laws.same_equal other x there)))

  -- the rows of other keys are found as before
  lookup-without : (key other : V) → (key ≡ other → ⊥) → (rows : List (V × V)) → lookup (values.same other) (without key rows) ≡ lookup (values.same other) rows
  lookup-without key other differ [] = refl
  lookup-without key other differ (row ∷ rows) = by (values.same key row.0) refl (lookup-without key other differ rows)
    where
      by : (b : Bool) → values.same key row.0 ≡ b → lookup (values.same other) (without key rows) ≡ lookup (values.same other) rows → lookup (values.same other) (without key (row ∷ rows)) ≡ lookup (values.same other) (row ∷ rows)
      by false e rest = rw e (ap (λ found. cond (values.same other row.0) (Some row.1) found) rest)
      by true e rest =
          let skips : values.same other row.0 ≡ false = other_differs key other row.0 differ e _ refl in
          rw (e, skips) rest

  -- a key that is found has a row to be taken out
  length-without : (key : V) (rows : List (V × V)) (value : V) → lookup (values.same key) rows ≡ Some value → length (without key rows) < length rows
  length-without key [] value found = cc
  length-without key (row ∷ rows) value found = by (values.same key row.0) refl (length-without key rows value)
    where
      by : (b : Bool) → values.same key row.0 ≡ b → (lookup (values.same key) rows ≡ Some value → length (without key rows) < length rows) → length (without key (row ∷ rows)) < length (row ∷ rows)
      by true e rest = rw e (omega (arith, length-filter_both (λ r. not (values.same key r.0)) (λ r. not (not (values.same key r.0))) (λ r. refl) rows))
      by false e rest = rw e (omega (arith, rest (rw e at found)))

  found-filled : (key : V) (rows : List (V × V)) → is_nil values (get values rows key) ≡ false → (found : Option V) → lookup (values.same key) rows ≡ found → (value : V) × (lookup (values.same key) rows ≡ Some value)
  found-filled key rows filled None e = absurd (true≢false (sym (laws.same_refl values.nil) ∙ (rw e at filled)))
  found-filled key rows filled (Some value) e = (value, e)

  -- as many integers as have values, so many rows there are at least
  pub filled_fit : (n : ℕ) (rows : List (V × V)) → ((m : ℕ) → m < n → is_nil values (behind values rows m) ≡ false) → n ≤ length rows
  filled_fit zero rows filled = omega arith
  filled_fit (suc n) rows filled =
      let key : V = values.integer (pos (n + 1)) in
      let last = found-filled key rows (filled n (omega arith)) _ refl in
      let fewer = length-without key rows last.0 last.1 in
      let others : (m : ℕ) → m < n → is_nil values (behind values (without key rows) m) ≡ false =
      λ m below. rw (lookup-without key (values.integer (pos (m + 1))) (λ e. integers_differ n m below (laws.integer_own _ _ e)) rows) (filled m (omega arith)) in
      omega (arith, filled_fit n (without key rows) others)

  border_from-is : (rows : List (V × V)) (left n : ℕ) → length rows ≤ left + n → ((m : ℕ) → m < n → is_nil values (behind values rows m) ≡ false) → IsBorder values rows (border_from values rows left n)
  border_from-is rows zero n most filled = ends (is_nil values (behind values rows n)) refl
    where
      ends : (b : Bool) → is_nil values (behind values rows n) ≡ b → IsBorder values rows n
      ends true e = record { ends = e; filled = filled }
      ends false e = absurd (omega (arith, filled_fit (n + 1) rows (below_more _ n filled e)))
  border_from-is rows (suc left) n most filled = by (is_nil values (behind values rows n)) refl (border_from-is rows left (n + 1) (omega arith))
    where
      by : (b : Bool) → is_nil values (behind values rows n) ≡ b → (((m : ℕ) → m < n + 1 → is_nil values (behind values rows m) ≡ false) → IsBorder values rows (border_from values rows left (n + 1))) → IsBorder values rows (border_from values rows (suc left) n)
      by true e rest = rw e (record { ends = e; filled = filled })
      by false e rest = rw e (rest (below_more _ n filled e))

  -- where each integer up to the number of rows has a value, that number is the border
  pub border-length : (rows : List (V × V)) → ((m : ℕ) → m < length rows → is_nil values (behind values rows m) ≡ false) → IsBorder values rows (length rows)
  border-length rows filled = border_from-is rows 0 (length rows) (omega arith) filled

  -- the computed border is the least one
  pub border-is : (rows : List (V × V)) → IsBorder values rows (border values rows)
  border-is rows = border_from-is rows (length rows) 0 (omega arith) (λ m below. absurd (omega arith))

  -- and there is no other
  pub IsBorder-same : (rows : List (V × V)) (m n : ℕ) → IsBorder values rows m → IsBorder values rows n → m ≡ n
  IsBorder-same rows m n h k =
      elim (cases_lt m n) [
        | inl below ↦ absurd (true≢false (sym h.ends ∙ k.filled m below))
        | inr above ↦ elim (cases_lt n m) [
          | inl over ↦ absurd (true≢false (sym k.ends ∙ h.filled n over))
          | inr level ↦ omega arith
        ]
      ]

  -- ---- what a key finds after a write

  pub lookup-set_value_same : (test : V → Bool) (rows : List (V × V)) (was w : V) → lookup test rows ≡ Some was → lookup test (set_value test rows w) ≡ Some w
  lookup-set_value_same test [] was w found = cc
  lookup-set_value_same test (row ∷ rows) was w found = by (test row.0) refl (lookup-set_value_same test rows was w)
    where
      by : (b : Bool) → test row.0 ≡ b → (lookup test rows ≡ Some was → lookup test (set_value test rows w) ≡ Some w) → lookup test (set_value test (row ∷ rows) w) ≡ Some w
      by true e rest = rw e (rw e refl)
      by false e rest = rw e (rw e (rest (rw e at found)))

  pub lookup-set_value_other : (key other : V) → (key ≡ other → ⊥) → (rows : List (V × V)) (w : V) → lookup (values.same other) (set_value (values.same key) rows w) ≡ lookup (values.same other) rows
  lookup-set_value_other key other differ [] w = refl
  lookup-set_value_other key other differ (row ∷ rows) w = by (values.same key row.0) refl (lookup-set_value_other key other differ rows w)
    where
      by : (b : Bool) → values.same key row.0 ≡ b → lookup (values.same other) (set_value (values.same key) rows w) ≡ lookup (values.same other) rows → lookup (values.same other) (set_value (values.same key) (row ∷ rows) w) ≡ lookup (values.same other) (row ∷ rows)
      by true e rest =
          let skips : values.same other row.0 ≡ false = other_differs key other row.0 differ e _ refl in
          rw e (rw skips refl)
      by false e rest = rw e (ap (λ found. cond (values.same other row.0) (Some row.1) found) rest)

  pub lookup-append_same : (rows : List (V × V)) (key w : V) → has_row values rows key ≡ false → lookup (values.same key) (rows ++ (key, w) ∷ []) ≡ Some w
  lookup-append_same [] key w absent = rw (laws.same_refl key) refl
  lookup-append_same (row ∷ rows) key w absent =
      let skips : values.same key row.0 ≡ false = grind (arith) in
      let rest : has_row values rows key ≡ false = grind (arith) in
      rw skips (lookup-append_same rows key w rest)

  pub lookup-append_other : (key other : V) → (key ≡ other → ⊥) → (rows : List (V × V)) (w : V) → lookup (values.same other) (rows ++ (key, w) ∷ []) ≡ lookup (values.same other) rows
  lookup-append_other key other differ [] w =
      let skips : values.same other key ≡ false = other_differs key other key differ (laws.same_refl key) _ refl in
      rw skips refl
  lookup-append_other key other differ (row ∷ rows) w = ap (λ found. cond (values.same other row.0) (Some row.1) found) (lookup-append_other key other differ rows w)

  -- where no key after a row is its own, that key has no row there
  absent-after : (key : V) (rows : List (V × V)) → AllByRecursion (λ k. values.same key k ≡ false) (keys_of rows) → has_row values rows key ≡ false
  absent-after key [] all = refl
  absent-after key (row ∷ rows) all = rw all.0 (absent-after key rows all.1)

  pub absent-filter : (p : V × V → Bool) (rows : List (V × V)) (key : V) → has_row values rows key ≡ false → has_row values (filter p rows) key ≡ false
  absent-filter p [] key absent = refl
  absent-filter p (row ∷ rows) key absent = by (p row) refl (absent-filter p rows key (grind (arith)))
    where
      by : (b : Bool) → p row ≡ b → has_row values (filter p rows) key ≡ false → has_row values (filter p (row ∷ rows)) key ≡ false
      by true e rest =
          let here : values.same key row.0 ≡ false = grind (arith) in
          rw (e, here) rest
      by false e rest = rw e rest

  -- dropping the cleared rows changes no value
  pub get-filter : (rows : List (V × V)) (key : V) → IsDistinct values.same (keys_of rows) → get values (filter (is_filled values) rows) key ≡ get values rows key
  get-filter [] key distinct = refl
  get-filter (row ∷ rows) key distinct = by (is_nil values row.1) refl (values.same key row.0) refl (get-filter rows key (IsDistinct-tail values.same row.0 (keys_of rows) distinct))
    where
      by : (b : Bool) → is_nil values row.1 ≡ b → (d : Bool) → values.same key row.0 ≡ d → get values (filter (is_filled values) rows) key ≡ get values rows key → get values (filter (is_filled values) (row ∷ rows)) key ≡ get values (row ∷ rows) key
      by false nil true here rest = rw nil (rw here refl)
      by false nil false here rest = rw nil (rw here rest)
      by true nil false here rest = rw nil (rw here rest)
      by true nil true here rest =
          let after = IsDistinct-head values.same row.0 (keys_of rows) distinct in
          let absent : has_row values rows key ≡ false = rw (laws.same_equal key row.0 here) (absent-after row.0 rows after) in
          rw nil (rw here (get-absent values (filter (is_filled values) rows) key (absent-filter (is_filled values) rows key absent) ∙ sym (laws.same_equal row.1 values.nil nil)))
