-- Tables stay tables where a list is put into one, where a table is made, and in operations on values: they write at no nil.
use Rattle.std.proofs.Common.{ℕ, zero, suc, ◌≡◌, List, [], ◌∷◌, ◌++◌, Option, Some, None, refl, length, Bool, true, false, cond}
use Rattle.std.specs.Prelude.{ℤ, pos, slice_get, slice_set, not, codes, nat_le, nat_eq, int_lt, int_le}
use Rattle.std.specs.List.{IsDistinct}
use Rattle.int_core.specs.Rows.{AreRows, set, border}
use Rattle.int_core.proofs.RowsLaws.{AreRows-set}
use Rattle.int_core.specs.Value.{nil, boolean, integer, string, primitive, a_table, a_function, a_coroutine, Value, known, object, same, is_nil, table_values, bind, greatest_string}
use Rattle.int_core.specs.Heap.{Table, Heap, raw_get, raw_set, filled, filled_table, add_table}
use Rattle.int_core.specs.Operations.{Event, of_index, of_newindex, of_len, of_eq, of_concat, of_lt, of_le, handler_in, handler_of, is_function, Settled, found, ask, fault, cannot_arise, asked, greatest_chain, indexed, index_of, set_raw, stored, store_of, arithmetic_on, concat_on, raw_length, length_on, truth, equal_on, ordered, computed, number_in, text_of, by_zero, before, cannot_compare, Operation, index, store, arithmetic, concat, length', equal, less, less_equal, does}
use Rattle.int_core.proofs.Equality.{are_values}
use Rattle.machine_sound.proofs.Lists.{each_set, each_push}
use Rattle.tables_stay.specs.Laws.{AreTables}

abbrev pub IsTable : Table → Type 0
IsTable t = AreRows table_values t.rows

abbrev pub NotNil : Value → Type 0
NotNil key = same (known nil) key ≡ false

set_rows : (rows : List (Value × Value)) (key v : Value) → NotNil key → AreRows table_values rows → AreRows table_values (set table_values rows key v)
set_rows rows key v k h = AreRows-set table_values are_values rows key v h k

filled_rows : (last : ℕ) (vs : List Value) (rows : List (Value × Value)) → AreRows table_values rows → AreRows table_values (filled last vs rows)
filled_rows last [] rows h = h
filled_rows last (v ∷ vs) rows h = filled_rows (suc last) vs (set table_values rows (known (integer (pos (suc last)))) v) (set_rows rows (known (integer (pos (suc last)))) v refl h)

no_rows : IsTable (record { rows = []; metatable = None })
unfolding IsDistinct
no_rows = record { distinct = tt; no_nil = refl }

pub new_kept : (H : Heap) → AreTables H → AreTables (add_table H)
new_kept H h = each_push IsTable H.tables (record { rows = []; metatable = None }) h no_rows

-- a heap after a change that may not be there
abbrev pub TablesIfSome : Option Heap → Type 0
TablesIfSome None = Unit {0}
TablesIfSome (Some H) = AreTables H

-- what became of an operation
abbrev pub SettledKeeps : Settled → Type 0
SettledKeeps (found H vs) = AreTables H
SettledKeeps (ask f vs) = Unit {0}
SettledKeeps (fault text) = Unit {0}
SettledKeeps cannot_arise = Unit {0}

pick_settled : (b : Bool) (s t : Settled) → SettledKeeps s → SettledKeeps t → SettledKeeps (cond b s t)
pick_settled true s t a b = a
pick_settled false s t a b = b

asked_kept : (o : Option Value) (vs : List Value) (s : Settled) → SettledKeeps s → SettledKeeps (asked o vs s)
asked_kept None vs s k = k
asked_kept (Some f) vs s k = tt

module _ (H : Heap) (h : AreTables H) where
  put_kept : (n : ℕ) (t : Table) → IsTable t → AreTables (record H { tables = slice_set H.tables n t })
  put_kept n t k = each_set IsTable H.tables n t h k

  pub raw_set_kept : (n : ℕ) (key v : Value) → NotNil key → AreTables (raw_set H n key v)
  unfolding raw_set
  raw_set_kept n key v k = from (slice_get H.tables n) refl
    where
      from : (o : Option Table) → slice_get H.tables n ≡ o → AreTables (elim o [ None ↦ H | Some t ↦ record H { tables = slice_set H.tables n (record t { rows = set table_values t.rows key v }) } ])
      from None e = h
      from (Some t) e = put_kept n (record t { rows = set table_values t.rows key v }) (set_rows t.rows key v k (h n t e))

  pub filled_kept : (v : Value) (last : ℕ) (vs : List Value) → TablesIfSome (filled_table H v last vs)
  filled_kept (object a_table n) last vs = from (slice_get H.tables n) refl
    where
      from : (o : Option Table) → slice_get H.tables n ≡ o → TablesIfSome (bind o (λ t. Some (record H { tables = slice_set H.tables n (record t { rows = filled last vs t.rows }) })))
      from None e = tt
      from (Some t) e = put_kept n (record t { rows = filled last vs t.rows }) (filled_rows last vs t.rows (h n t e))
  filled_kept (object a_function n) last vs = tt
  filled_kept (object a_coroutine n) last vs = tt
  filled_kept (known p) last vs = tt

  -- `__index` and `__newindex`

  indexed_kept : (o : Value) (raw : Option Value) (follow : Value → Settled) → ((f : Value) → SettledKeeps (follow f)) → SettledKeeps (indexed H o raw follow)
  indexed_kept o None follow f = pick_settled (not (is_nil (handler_in H of_index o))) (follow (handler_in H of_index o)) _ (f (handler_in H of_index o)) tt
  indexed_kept o (Some v) follow f =
      pick_settled (not (is_nil v)) (found H (v ∷ [])) _ h (pick_settled (not (is_nil (handler_in H of_index o))) (follow (handler_in H of_index o)) (found H (v ∷ [])) (f (handler_in H of_index o)) h)

  index_kept : (links : ℕ) (o key : Value) → SettledKeeps (index_of links H o key)
  index_kept zero o key = indexed_kept o (raw_get H o key) (λ f. fault (codes "'__index' chain too long; possibly a loop")) (λ f. tt)
  index_kept (suc links) o key = indexed_kept o (raw_get H o key) _ (λ f. pick_settled (is_function f) (ask f (o ∷ key ∷ [])) (index_of links H f key) tt (index_kept links f key))

  set_raw_kept : (o key v : Value) → SettledKeeps (set_raw H o key v)
  set_raw_kept (object a_table n) (known nil) v = tt
  set_raw_kept (object a_table n) (known (boolean b)) v = raw_set_kept n (known (boolean b)) v refl
  set_raw_kept (object a_table n) (known (integer z)) v = raw_set_kept n (known (integer z)) v refl
  set_raw_kept (object a_table n) (known (string s)) v = raw_set_kept n (known (string s)) v refl
  set_raw_kept (object a_table n) (known (primitive m)) v = raw_set_kept n (known (primitive m)) v refl
  set_raw_kept (object a_table n) (object k m) v = raw_set_kept n (object k m) v refl
  set_raw_kept (object a_function n) key v = tt
  set_raw_kept (object a_coroutine n) key v = tt
  set_raw_kept (known p) key v = tt

  stored_kept : (o key v : Value) (raw : Option Value) (follow : Value → Settled) → ((f : Value) → SettledKeeps (follow f)) → SettledKeeps (stored H o key v raw follow)
  stored_kept o key v None follow f = pick_settled (not (is_nil (handler_in H of_newindex o))) (follow (handler_in H of_newindex o)) _ (f (handler_in H of_newindex o)) (set_raw_kept o key v)
  stored_kept o key v (Some w) follow f =
      pick_settled (not (is_nil w)) (set_raw H o key v) _ (set_raw_kept o key v)
      (pick_settled (not (is_nil (handler_in H of_newindex o))) (follow (handler_in H of_newindex o)) _ (f (handler_in H of_newindex o)) (set_raw_kept o key v))

  store_kept : (links : ℕ) (o key v : Value) → SettledKeeps (store_of links H o key v)
  store_kept zero o key v = stored_kept o key v (raw_get H o key) (λ f. fault (codes "'__newindex' chain too long; possibly a loop")) (λ f. tt)
  store_kept (suc links) o key v =
      stored_kept o key v (raw_get H o key) _ (λ f. pick_settled (is_function f) (ask f (o ∷ key ∷ v ∷ [])) (store_of links H f key v) tt (store_kept links f key v))

  -- the other operators leave the heap as it is

  arithmetic_kept : (event : Event) (m n : Option ℤ) (l r : Value) → SettledKeeps (arithmetic_on event H m n l r)
  arithmetic_kept event (Some m) (Some n) l r = from (computed event m n)
    where
      from : (o : Option ℤ) → SettledKeeps (elim o [ None ↦ fault (by_zero event) | Some k ↦ found H (known (integer k) ∷ []) ])
      from None = tt
      from (Some k) = h
  arithmetic_kept event None n l r = asked_kept (handler_of H event l r) (l ∷ r ∷ []) _ tt
  arithmetic_kept event (Some m) None l r = asked_kept (handler_of H event l r) (l ∷ r ∷ []) _ tt

  concat_kept : (s t : Option (List ℕ)) (l r : Value) → SettledKeeps (concat_on H s t l r)
  concat_kept (Some s) (Some t) l r = pick_settled (nat_le (length (s ++ t)) greatest_string) (found H (known (string (s ++ t)) ∷ [])) (fault (codes "resulting string too large")) h tt
  concat_kept None t l r = asked_kept (handler_of H of_concat l r) (l ∷ r ∷ []) _ tt
  concat_kept (Some s) None l r = asked_kept (handler_of H of_concat l r) (l ∷ r ∷ []) _ tt

  raw_length_kept : (v : Value) → SettledKeeps (raw_length H v)
  raw_length_kept (object a_table n) = from (slice_get H.tables n)
    where
      from : (o : Option Table) → SettledKeeps (elim o [ None ↦ cannot_arise | Some t ↦ found H (known (integer (pos (border table_values t.rows))) ∷ []) ])
      from None = tt
      from (Some t) = h
  raw_length_kept (object a_function n) = tt
  raw_length_kept (object a_coroutine n) = tt
  raw_length_kept (known p) = tt

  asks_length : (v : Value) → SettledKeeps (asked (handler_of H of_len v v) (v ∷ v ∷ []) (raw_length H v))
  asks_length v = asked_kept (handler_of H of_len v v) (v ∷ v ∷ []) (raw_length H v) (raw_length_kept v)

  length_kept : (v : Value) → SettledKeeps (length_on H v)
  length_kept (known (string s)) = h
  length_kept (known nil) = asks_length (known nil)
  length_kept (known (boolean b)) = asks_length (known (boolean b))
  length_kept (known (integer n)) = asks_length (known (integer n))
  length_kept (known (primitive n)) = asks_length (known (primitive n))
  length_kept (object k n) = asks_length (object k n)

  equal_kept : (l r : Value) → SettledKeeps (equal_on H l r)
  equal_kept (object a_table m) (object a_table n) =
      pick_settled (nat_eq m n) (truth H true) _ h (asked_kept (handler_of H of_eq (object a_table m) (object a_table n)) (object a_table m ∷ object a_table n ∷ []) (truth H false) h)
  equal_kept (object a_table m) (object a_function n) = h
  equal_kept (object a_table m) (object a_coroutine n) = h
  equal_kept (object a_table m) (known p) = h
  equal_kept (object a_function m) r = h
  equal_kept (object a_coroutine m) r = h
  equal_kept (known p) r = h

  ordered_kept : (event : Event) (f : ℤ → ℤ → Bool) (g : List ℕ → List ℕ → Bool) (l r : Value) → SettledKeeps (ordered event f g H l r)
  ordered_kept event f g (known (integer m)) (known (integer n)) = h
  ordered_kept event f g (known (string s)) (known (string t)) = h
  ordered_kept event f g l r = asked_kept (handler_of H event l r) (l ∷ r ∷ []) (fault (cannot_compare l r)) tt

  pub does_kept : (op : Operation) (vs : List Value) → SettledKeeps (does op vs H)
  does_kept index (o ∷ key ∷ []) = index_kept greatest_chain o key
  does_kept store (o ∷ key ∷ v ∷ []) = store_kept greatest_chain o key v
  does_kept (arithmetic event) (l ∷ r ∷ []) = arithmetic_kept event (number_in l) (number_in r) l r
  does_kept concat (l ∷ r ∷ []) = concat_kept (text_of l) (text_of r) l r
  does_kept length' (v ∷ []) = length_kept v
  does_kept equal (l ∷ r ∷ []) = equal_kept l r
  does_kept less (l ∷ r ∷ []) = ordered_kept of_lt int_lt before l r
  does_kept less_equal (l ∷ r ∷ []) = ordered_kept of_le int_le (λ s t. not (before t s)) l r
  does_kept _ _ = tt
