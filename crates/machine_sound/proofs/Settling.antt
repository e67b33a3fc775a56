-- What operations look at and answer, where tables hold values of one sort alone: what is read, handlers, chains and results are of the sort.
use Rattle.std.proofs.Common.{ℕ, zero, suc, ◌≡◌, ◌≤◌, List, [], ◌∷◌, ◌++◌, Option, Some, None, refl, length, Bool, true, false, cond}
use Rattle.std.specs.Prelude.{ℤ, pos, slice_get, not, IsTrue, codes, nat_le, int_lt, int_le}
use Rattle.int_core.specs.Rows.{get}
use Rattle.int_core.specs.Value.{nil, boolean, integer, string, primitive, a_table, a_function, a_coroutine, Value, known, object, is_nil, table_values, bind, greatest_string}
use Rattle.int_core.specs.Heap.{Table, Heap, raw_get, metatable_of}
use Rattle.int_core.specs.Operations.{Event, of_call, of_index, of_newindex, of_len, of_eq, of_concat, of_close, handler_in, handler_of, is_function, Settled, found, ask, fault, cannot_arise, asked, greatest_chain, indexed, index_of, set_raw, stored, store_of, Callee, callee, not_callable, callee_of, arithmetic_on, joined, concat_on, raw_length, length_on, truth, equal_on, ordered, computed, number_in, text_of, of_type, by_zero, cannot_compare, event_name, Operation, index, store, arithmetic, concat, length', equal, less, less_equal, operands, does, of_lt, before, of_le}
use Rattle.machine_sound.specs.Sound.{Each, OptionOk}
use Rattle.machine_sound.proofs.Lists.{each_cons, each_one}
use Rattle.machine_sound.proofs.Values.{le_of}
use Rattle.machine_sound.proofs.TableRows.{RowHas, get_has}

-- what became of an operation: the heap is right, what is answered or asked is of the sort, and what cannot arise is as said
abbrev pub SettledBy : (Value → Type 0) → (Heap → Type 0) → Type 0 → Settled → Type 0
SettledBy P Right never (found K vs) = Right K × Each P vs
SettledBy P Right never (ask f vs) = P f × Each P vs
SettledBy P Right never (fault text) = Unit {0}
SettledBy P Right never cannot_arise = never

-- what is called is a function, and with values of the sort
abbrev pub CalleeBy : (Value → Type 0) → Callee → Type 0
CalleeBy P (callee f vs) = P f × IsTrue (is_function f) × Each P vs
CalleeBy P (not_callable text) = Unit {0}

-- what is asked of a sort of values and of the heap that operations look at
pub record Settles (P : Value → Type 0) (Right : Heap → Type 0) (never : Type 0) (H : Heap) : Type 0 where
  pub right : Right H
  pub nils : P (known nil)
  pub truths : (b : Bool) → P (known (boolean b))
  pub numbers : (i : ℤ) → P (known (integer i))
  pub texts : (s : List ℕ) → length s ≤ greatest_string → P (known (string s))
  pub reads : (m : ℕ) (t : Table) → slice_get H.tables m ≡ Some t → Each (RowHas P) t.rows
  pub writes : (o key v : Value) → P o → P key → P v → SettledBy P Right never (set_raw H o key v)
  pub measures : (v : Value) → P v → SettledBy P Right never (raw_length H v)

module _ (P : Value → Type 0) (Right : Heap → Type 0) (never : Type 0) (H : Heap) (holds : Settles P Right never H) where
  abbrev SettledOk : Settled → Type 0
  SettledOk s = SettledBy P Right never s

  pub get_by : (o key : Value) → OptionOk P (raw_get H o key)
  get_by (object a_table m) key = from (slice_get H.tables m) refl
    where
      from : (o : Option Table) → slice_get H.tables m ≡ o → OptionOk P (bind o (λ t. Some (get table_values t.rows key)))
      from None e = tt
      from (Some t) e = get_has P holds.nils t.rows key (holds.reads m t e)
  get_by _ key = tt

  or_nil : (o : Option Value) → OptionOk P o → P (elim o [ None ↦ known nil | Some h ↦ h ])
  or_nil None k = holds.nils
  or_nil (Some v) k = k

  handler_by : (event : Event) (v : Value) → P (handler_in H event v)
  handler_by event v = from (metatable_of H v)
    where
      from : (o : Option ℕ) → P (elim (bind o (λ m. raw_get H (object a_table m) (known (string (event_name event))))) [ None ↦ known nil | Some h ↦ h ])
      from None = holds.nils
      from (Some m) = or_nil (raw_get H (object a_table m) (known (string (event_name event)))) (get_by (object a_table m) (known (string (event_name event))))

  abbrev two : (v w : Value) → P v → P w → Each P (v ∷ w ∷ [])
  two v w a b = each_cons P v (w ∷ []) a (each_one P w b)

  -- the handler that closes a variable, its value and the error
  pub closer_by : (v e : Value) → P v → P e → Each P (handler_in H of_close v ∷ v ∷ e ∷ [])
  closer_by v e a b = each_cons P (handler_in H of_close v) (v ∷ e ∷ []) (handler_by of_close v) (two v e a b)

  found_one : (v : Value) → P v → SettledOk (found H (v ∷ []))
  found_one v a = (holds.right, each_one P v a)

  pick_settled : (b : Bool) (s t : Settled) → SettledOk s → SettledOk t → SettledOk (cond b s t)
  pick_settled true s t a b = a
  pick_settled false s t a b = b

  indexed_ok : (o : Value) (raw : Option Value) (follow : Value → Settled) → OptionOk P raw → ((f : Value) → P f → SettledOk (follow f)) → SettledOk (indexed H o raw follow)
  indexed_ok o None follow r f = pick_settled (not (is_nil (handler_in H of_index o))) (follow (handler_in H of_index o)) _ (f (handler_in H of_index o) (handler_by of_index o)) tt
  indexed_ok o (Some v) follow r f =
      pick_settled (not (is_nil v)) (found H (v ∷ [])) _ (found_one v r)
      (pick_settled (not (is_nil (handler_in H of_index o))) (follow (handler_in H of_index o)) _ (f (handler_in H of_index o) (handler_by of_index o)) (found_one v r))

  index_ok : (links : ℕ) (o key : Value) → P o → P key → SettledOk (index_of links H o key)
  index_ok zero o key a b = indexed_ok o (raw_get H o key) (λ f. fault (codes "'__index' chain too long; possibly a loop")) (get_by o key) (λ f k. tt)
  index_ok (suc links) o key a b = indexed_ok o (raw_get H o key) _ (get_by o key) (λ f k. pick_settled (is_function f) (ask f (o ∷ key ∷ [])) (index_of links H f key) (k, two o key a b) (index_ok links f key k b))

  stored_ok : (o key v : Value) (raw : Option Value) (follow : Value → Settled) → P o → P key → P v → ((f : Value) → P f → SettledOk (follow f)) → SettledOk (stored H o key v raw follow)
  stored_ok o key v None follow d a b f =
      pick_settled (not (is_nil (handler_in H of_newindex o))) (follow (handler_in H of_newindex o)) _ (f (handler_in H of_newindex o) (handler_by of_newindex o)) (holds.writes o key v d a b)
  stored_ok o key v (Some w) follow d a b f =
      pick_settled (not (is_nil w)) (set_raw H o key v) _ (holds.writes o key v d a b)
      (pick_settled (not (is_nil (handler_in H of_newindex o))) (follow (handler_in H of_newindex o)) _ (f (handler_in H of_newindex o) (handler_by of_newindex o)) (holds.writes o key v d a b))

  store_ok : (links : ℕ) (o key v : Value) → P o → P key → P v → SettledOk (store_of links H o key v)
  store_ok zero o key v a b c = stored_ok o key v (raw_get H o key) (λ f. fault (codes "'__newindex' chain too long; possibly a loop")) a b c (λ f k. tt)
  store_ok (suc links) o key v a b c =
      stored_ok o key v (raw_get H o key) _ a b c (λ f k.
      pick_settled (is_function f) (ask f (o ∷ key ∷ v ∷ [])) (store_of links H f key v) (k, each_cons P o (key ∷ v ∷ []) a (two key v b c)) (store_ok links f key v k b c))

  -- calls

  pub callee_by : (links : ℕ) (f : Value) (vs : List Value) → P f → Each P vs → CalleeBy P (callee_of links H f vs)
  callee_by zero f vs a b = pick (is_function f) (is_nil (handler_in H of_call f)) refl
    where
      pick : (t u : Bool) → is_function f ≡ t → CalleeBy P (cond t (callee f vs) (cond u (not_callable (of_type (codes "call") f)) (not_callable (codes "stack overflow"))))
      pick true u e = (a, e, b)
      pick false true e = tt
      pick false false e = tt
  callee_by (suc links) f vs a b = pick (is_function f) (is_nil (handler_in H of_call f)) refl (callee_by links (handler_in H of_call f) (f ∷ vs) (handler_by of_call f) (each_cons P f vs a b))
    where
      pick : (t u : Bool) → is_function f ≡ t → CalleeBy P (callee_of links H (handler_in H of_call f) (f ∷ vs)) → CalleeBy P (cond t (callee f vs) (cond u (not_callable (of_type (codes "call") f)) (callee_of links H (handler_in H of_call f) (f ∷ vs))))
      pick true u e k = (a, e, b)
      pick false true e k = tt
      pick false false e k = k

  -- the other operators

  asked_ok : (o : Option Value) (vs : List Value) (s : Settled) → OptionOk P o → Each P vs → SettledOk s → SettledOk (asked o vs s)
  asked_ok None vs s a b c = c
  asked_ok (Some f) vs s a b c = (a, b)

  handler_of_ok : (event : Event) (l r : Value) → OptionOk P (handler_of H event l r)
  handler_of_ok event l r = pick (not (is_nil (handler_in H event l))) (not (is_nil (handler_in H event r)))
    where
      pick : (a b : Bool) → OptionOk P (cond a (Some (handler_in H event l)) (cond b (Some (handler_in H event r)) None))
      pick true b = handler_by event l
      pick false true = handler_by event r
      pick false false = tt

  asks_ok : (event : Event) (l r : Value) (s : Settled) → P l → P r → SettledOk s → SettledOk (asked (handler_of H event l r) (l ∷ r ∷ []) s)
  asks_ok event l r s a b c = asked_ok (handler_of H event l r) (l ∷ r ∷ []) s (handler_of_ok event l r) (two l r a b) c

  arithmetic_ok : (event : Event) (m k : Option ℤ) (l r : Value) → P l → P r → SettledOk (arithmetic_on event H m k l r)
  arithmetic_ok event (Some m) (Some k) l r a b = from (computed event m k)
    where
      from : (o : Option ℤ) → SettledOk (elim o [ None ↦ fault (by_zero event) | Some k ↦ found H (known (integer k) ∷ []) ])
      from None = tt
      from (Some j) = found_one (known (integer j)) (holds.numbers j)
  arithmetic_ok event None k l r a b = asks_ok event l r _ a b tt
  arithmetic_ok event (Some m) None l r a b = asks_ok event l r _ a b tt

  joined_ok : (text : List ℕ) → SettledOk (joined H text)
  joined_ok text = pick (nat_le (length text) greatest_string) refl
    where
      pick : (b : Bool) → nat_le (length text) greatest_string ≡ b → SettledOk (cond b (found H (known (string text) ∷ [])) (fault (codes "resulting string too large")))
      pick true e = found_one (known (string text)) (holds.texts text (le_of (length text) greatest_string e))
      pick false e = tt

  concat_ok : (s t : Option (List ℕ)) (l r : Value) → P l → P r → SettledOk (concat_on H s t l r)
  concat_ok (Some s) (Some t) l r a b = joined_ok (s ++ t)
  concat_ok None t l r a b = asks_ok of_concat l r _ a b tt
  concat_ok (Some s) None l r a b = asks_ok of_concat l r _ a b tt

  length_ok : (v : Value) → P v → SettledOk (length_on H v)
  length_ok (known (string s)) a = found_one (known (integer (pos (length s)))) (holds.numbers (pos (length s)))
  length_ok (known nil) a = asks_ok of_len (known nil) (known nil) (raw_length H (known nil)) a a (holds.measures (known nil) a)
  length_ok (known (boolean t)) a = asks_ok of_len (known (boolean t)) (known (boolean t)) (raw_length H (known (boolean t))) a a (holds.measures (known (boolean t)) a)
  length_ok (known (integer t)) a = asks_ok of_len (known (integer t)) (known (integer t)) (raw_length H (known (integer t))) a a (holds.measures (known (integer t)) a)
  length_ok (known (primitive t)) a = asks_ok of_len (known (primitive t)) (known (primitive t)) (raw_length H (known (primitive t))) a a (holds.measures (known (primitive t)) a)
  length_ok (object k m) a = asks_ok of_len (object k m) (object k m) (raw_length H (object k m)) a a (holds.measures (object k m) a)

  truth_ok : (b : Bool) → SettledOk (truth H b)
  truth_ok b = found_one (known (boolean b)) (holds.truths b)

  equal_ok : (l r : Value) → P l → P r → SettledOk (equal_on H l r)
  equal_ok (object a_table m) (object a_table k) a b = pick_settled _ (truth H true) _ (truth_ok true) (asks_ok of_eq (object a_table m) (object a_table k) _ a b (truth_ok false))
  equal_ok (object a_table m) (object a_function k) a b = truth_ok _
  equal_ok (object a_table m) (object a_coroutine k) a b = truth_ok _
  equal_ok (object a_table m) (known p) a b = truth_ok _
  equal_ok (object a_function m) r a b = truth_ok _
  equal_ok (object a_coroutine m) r a b = truth_ok _
  equal_ok (known p) r a b = truth_ok _

  ordered_ok : (event : Event) (f : ℤ → ℤ → Bool) (g : List ℕ → List ℕ → Bool) (l r : Value) → P l → P r → SettledOk (ordered event f g H l r)
  ordered_ok event f g (known (integer m)) (known (integer k)) a b = truth_ok (f m k)
  ordered_ok event f g (known (string m)) (known (string k)) a b = truth_ok (g m k)
  ordered_ok event f g l r a b = asks_ok event l r (fault (cannot_compare l r)) a b tt

  -- with another number of operands nothing is done
  pub does_by : (op : Operation) (vs : List Value) → Each P vs → ((length vs ≡ operands op → ⊥) → never) → SettledOk (does op vs H)
  does_by index (o ∷ key ∷ []) v other = index_ok greatest_chain o key (v 0 o refl) (v 1 key refl)
  does_by store (o ∷ key ∷ w ∷ []) v other = store_ok greatest_chain o key w (v 0 o refl) (v 1 key refl) (v 2 w refl)
  does_by (arithmetic event) (l ∷ r ∷ []) v other = arithmetic_ok event (number_in l) (number_in r) l r (v 0 l refl) (v 1 r refl)
  does_by concat (l ∷ r ∷ []) v other = concat_ok (text_of l) (text_of r) l r (v 0 l refl) (v 1 r refl)
  does_by length' (o ∷ []) v other = length_ok o (v 0 o refl)
  does_by equal (l ∷ r ∷ []) v other = equal_ok l r (v 0 l refl) (v 1 r refl)
  does_by less (l ∷ r ∷ []) v other = ordered_ok of_lt int_lt before l r (v 0 l refl) (v 1 r refl)
  does_by less_equal (l ∷ r ∷ []) v other = ordered_ok of_le int_le (λ s t. not (before t s)) l r (v 0 l refl) (v 1 r refl)
  does_by _ _ v other = other (λ e. absurd (cc))
