-- Operations on the same values over heaps that are the same come to the same.
use Rattle.std.proofs.Common.{ℕ, zero, suc, ◌≡◌, List, [], ◌∷◌, ◌++◌, Option, Some, None, refl, subst, ap, length, Bool, true, false, not}
use Rattle.std.specs.Prelude.{nat_eq, nat_le, slice_get, slice_set, ℤ, pos, int_lt, int_le, codes}
use Rattle.int_core.specs.Rows.{set, border}
use Rattle.int_core.specs.Value.{a_table, a_function, a_coroutine, same, is_nil, Value, nil, boolean, integer, string, primitive, known, object, table_values, greatest_string}
use Rattle.int_core.specs.Heap.{Table, Heap, raw_get, raw_set, metatable_of, filled, filled_table}
use Rattle.int_core.specs.Operations.{Event, of_concat, of_len, of_eq, of_lt, of_le, of_index, of_newindex, of_call, event_name, type_name, of_type, number_in, text_of, is_number, is_text, at_fault, computed, by_zero, before, handler_in, handler_of, is_function, Settled, found, ask, fault, cannot_arise, asked, greatest_chain, indexed, index_of, set_raw, stored, store_of, Callee, callee, not_callable, callee_of, wrong_operand, arithmetic_on, joined, concat_on, raw_length, length_on, truth, equal_on, cannot_compare, ordered, Operation, index, store, arithmetic, concat, length', equal, less, less_equal, does}
use Rattle.machine_alike.specs.Agree.{Pairs, SameNumber, Both, Each, SameValue, same_known, same_object, SameValues, SameTable, OneToOne}
use Rattle.machine_alike.proofs.Pairwise.{each_bind, both_each, both_set, cond_rel}
use Rattle.machine_alike.proofs.Same.{shape_same, value_or_nil}
use Rattle.machine_alike.proofs.Tables.{equal_same, nil_same, get_same, set_same, border_same, filled_same, nat_eq_same}

pub record SameHeap (p : Pairs) (H I : Heap) : Type 0 where
  pub one_to_one : OneToOne p
  pub tables : (i j : ℕ) → SameNumber p a_table i j → Both (SameTable p) (slice_get H.tables i) (slice_get I.tables j)
  pub string_metatable : Each (SameNumber p a_table) H.string_metatable I.string_metatable

pub data SameSettled (p : Pairs) : Settled → Settled → Type 0 where
  both_found : (H I : Heap) (vs ws : List Value) → SameHeap p H I → SameValues p vs ws → SameSettled p (found H vs) (found I ws)
  both_ask : (h g : Value) (vs ws : List Value) → SameValue p h g → SameValues p vs ws → SameSettled p (ask h vs) (ask g ws)
  both_fault : (text : List ℕ) → SameSettled p (fault text) (fault text)
  neither_arises : SameSettled p cannot_arise cannot_arise

pub data SameCallee (p : Pairs) : Callee → Callee → Type 0 where
  both_callee : (f g : Value) (vs ws : List Value) → SameValue p f g → SameValues p vs ws → SameCallee p (callee f vs) (callee g ws)
  both_not_callable : (text : List ℕ) → SameCallee p (not_callable text) (not_callable text)

-- two lists that are the same, as one
data SameList (p : Pairs) : List Value → List Value → Type 0 where
  ended : SameList p [] []
  item : (v w : Value) (vs ws : List Value) → SameValue p v w → SameList p vs ws → SameList p (v ∷ vs) (w ∷ ws)

as_one : (p : Pairs) (vs ws : List Value) → SameValues p vs ws → SameList p vs ws
as_one p [] [] h = ended
as_one p [] (w ∷ ws) h = absurd h
as_one p (v ∷ vs) [] h = absurd h
as_one p (v ∷ vs) (w ∷ ws) h = item v w vs ws h.0 (as_one p vs ws h.1)

-- what is told of values alone

of_type_same : (p : Pairs) (attempt : List ℕ) (v w : Value) → SameValue p v w → of_type attempt v ≡ of_type attempt w
of_type_same p attempt v w h = ap (λ s. codes "attempt to " ++ attempt ++ codes " a " ++ type_name s ++ codes " value") (shape_same p v w h)

number_same : (p : Pairs) (v w : Value) → SameValue p v w → number_in v ≡ number_in w
number_same p v w (same_known c) = refl
number_same p v w (same_object k i j h) = refl

text_same : (p : Pairs) (v w : Value) → SameValue p v w → text_of v ≡ text_of w
text_same p v w (same_known c) = refl
text_same p v w (same_object k i j h) = refl

pub function_test : (p : Pairs) (v w : Value) → SameValue p v w → is_function v ≡ is_function w
function_test p v w (same_known c) = refl
function_test p v w (same_object a_table i j h) = refl
function_test p v w (same_object a_function i j h) = refl
function_test p v w (same_object a_coroutine i j h) = refl

cannot_compare_same : (p : Pairs) (v w x y : Value) → SameValue p v w → SameValue p x y → cannot_compare v x ≡ cannot_compare w y
cannot_compare_same p v w x y h k = rw (shape_same p v w h, shape_same p x y k) refl

at_fault_same : (p : Pairs) (f : Value → Bool) → ((v w : Value) → SameValue p v w → f v ≡ f w) → (v w x y : Value) → SameValue p v w → SameValue p x y → SameValue p (at_fault f v x) (at_fault f w y)
at_fault_same p f g v w x y h k = cond_rel (SameValue p) (f v) (f w) x v y w (g v w h) k h

faults : (p : Pairs) (s t : List ℕ) → s ≡ t → SameSettled p (fault s) (fault t)
faults p s t e = subst (λ t. SameSettled p (fault s) (fault t)) e (both_fault s)

not_callable_so : (p : Pairs) (s t : List ℕ) → s ≡ t → SameCallee p (not_callable s) (not_callable t)
not_callable_so p s t e = subst (λ t. SameCallee p (not_callable s) (not_callable t)) e (both_not_callable s)

module _ (p : Pairs) where
  table_at : (H I : Heap) → SameHeap p H I → (i j : ℕ) → SameNumber p a_table i j → Each (SameTable p) (slice_get H.tables i) (slice_get I.tables j)
  table_at H I a i j h = both_each (SameTable p) (slice_get H.tables i) (slice_get I.tables j) (a.tables i j h)

  pub set_table_same : (H I : Heap) (i j : ℕ) (t u : Table) → SameHeap p H I → SameNumber p a_table i j → SameTable p t u
      → SameHeap p (record H { tables = slice_set H.tables i t }) (record I { tables = slice_set I.tables j u })
  set_table_same H I i j t u a h s = record {
    one_to_one = a.one_to_one;
    tables = both_set (SameTable p) (p.objects a_table) H.tables I.tables (a.one_to_one.objects a_table) a.tables i j t u h s;
    string_metatable = a.string_metatable;
  }

  raw_get_same : (H I : Heap) (o o' k k' : Value) → SameHeap p H I → SameValue p o o' → SameValue p k k' → Each (SameValue p) (raw_get H o k) (raw_get I o' k')
  raw_get_same H I o o' k k' a (same_object a_table i j h) t =
      each_bind (SameTable p) (SameValue p) _ _ (λ x y r. get_same p a.one_to_one x.rows y.rows k k' r.rows t) (slice_get H.tables i) (slice_get I.tables j) (table_at H I a i j h)
  raw_get_same H I o o' k k' a _ t = tt

  metatable_same : (H I : Heap) (v w : Value) → SameHeap p H I → SameValue p v w → Each (SameNumber p a_table) (metatable_of H v) (metatable_of I w)
  metatable_same H I v w a (same_known (string s)) = a.string_metatable
  metatable_same H I v w a (same_object a_table i j h) =
      each_bind (SameTable p) (SameNumber p a_table) _ _ (λ x y r. r.metatable) (slice_get H.tables i) (slice_get I.tables j) (table_at H I a i j h)
  metatable_same H I v w a _ = tt

  pub handler_same : (H I : Heap) (event : Event) (v w : Value) → SameHeap p H I → SameValue p v w → SameValue p (handler_in H event v) (handler_in I event w)
  handler_same H I event v w a s = value_or_nil p _ _
      (each_bind (SameNumber p a_table) (SameValue p) _ _
      (λ i j h. raw_get_same H I (object a_table i) (object a_table j) (known (string (event_name event))) (known (string (event_name event))) a (same_object a_table i j h) (same_known (string (event_name event))))
      (metatable_of H v) (metatable_of I w) (metatable_same H I v w a s))

  handler_of_same : (H I : Heap) (event : Event) (v w x y : Value) → SameHeap p H I → SameValue p v w → SameValue p x y → Each (SameValue p) (handler_of H event v x) (handler_of I event w y)
  handler_of_same H I event v w x y a s t =
      let l = handler_same H I event v w a s in
      let r = handler_same H I event x y a t in
      cond_rel (Each (SameValue p)) (not (is_nil (handler_in H event v))) (not (is_nil (handler_in I event w))) (Some (handler_in H event v)) _ (Some (handler_in I event w)) _ (ap not (nil_same p a.one_to_one _ _ l)) l
      (cond_rel (Each (SameValue p)) (not (is_nil (handler_in H event x))) (not (is_nil (handler_in I event y))) (Some (handler_in H event x)) None (Some (handler_in I event y)) None (ap not (nil_same p a.one_to_one _ _ r)) r tt)

  asked_same : (o o' : Option Value) (vs ws : List Value) (s t : Settled) → Each (SameValue p) o o' → SameValues p vs ws → SameSettled p s t → SameSettled p (asked o vs s) (asked o' ws t)
  asked_same None None vs ws s t h k e = e
  asked_same None (Some w) vs ws s t h k e = absurd h
  asked_same (Some v) None vs ws s t h k e = absurd h
  asked_same (Some v) (Some w) vs ws s t h k e = both_ask v w vs ws h k

  -- chains of handlers

  abbrev has_value : Option Value → Bool
  has_value raw = elim raw [ None ↦ false | Some v ↦ not (is_nil v) ]

  has_value_same : OneToOne p → (o o' : Option Value) → Each (SameValue p) o o' → has_value o ≡ has_value o'
  has_value_same one None None h = refl
  has_value_same one None (Some w) h = absurd h
  has_value_same one (Some v) None h = absurd h
  has_value_same one (Some v) (Some w) h = ap not (nil_same p one v w h)

  abbrev Follows : (Value → Settled) → (Value → Settled) → Type 0
  Follows f g = (v w : Value) → SameValue p v w → SameSettled p (f v) (g w)

  one_value : (o o' : Option Value) → Each (SameValue p) o o' → SameValues p (elim o [ None ↦ [] | Some v ↦ v ∷ [] ]) (elim o' [ None ↦ [] | Some v ↦ v ∷ [] ])
  one_value None None h = tt
  one_value None (Some w) h = absurd h
  one_value (Some v) None h = absurd h
  one_value (Some v) (Some w) h = (h, tt)

  unfound : (H I : Heap) (o o' : Value) (raw raw' : Option Value) → SameHeap p H I → SameValue p o o' → Each (SameValue p) raw raw'
      → SameSettled p (elim raw [ None ↦ fault (of_type (codes "index") o) | Some v ↦ found H (v ∷ []) ]) (elim raw' [ None ↦ fault (of_type (codes "index") o') | Some v ↦ found I (v ∷ []) ])
  unfound H I o o' None None a s h = faults p _ _ (of_type_same p (codes "index") o o' s)
  unfound H I o o' None (Some w) a s h = absurd h
  unfound H I o o' (Some v) None a s h = absurd h
  unfound H I o o' (Some v) (Some w) a s h = both_found H I (v ∷ []) (w ∷ []) a (h, tt)

  indexed_same : (H I : Heap) (o o' : Value) (raw raw' : Option Value) (f g : Value → Settled) → SameHeap p H I → SameValue p o o' → Each (SameValue p) raw raw' → Follows f g → SameSettled p (indexed H o raw f) (indexed I o' raw' g)
  indexed_same H I o o' raw raw' f g a s h k =
      let m = handler_same H I of_index o o' a s in
      cond_rel (SameSettled p) (has_value raw) (has_value raw') _ _ _ _ (has_value_same a.one_to_one raw raw' h) (both_found H I _ _ a (one_value raw raw' h))
      (cond_rel (SameSettled p) (not (is_nil (handler_in H of_index o))) (not (is_nil (handler_in I of_index o'))) _ _ _ _ (ap not (nil_same p a.one_to_one _ _ m)) (k _ _ m) (unfound H I o o' raw raw' a s h))

  index_same : (links : ℕ) (H I : Heap) (o o' k k' : Value) → SameHeap p H I → SameValue p o o' → SameValue p k k' → SameSettled p (index_of links H o k) (index_of links I o' k')
  index_same zero H I o o' k k' a s t = indexed_same H I o o' (raw_get H o k) (raw_get I o' k') _ _ a s (raw_get_same H I o o' k k' a s t) (λ v w h. both_fault _)
  index_same (suc links) H I o o' k k' a s t =
      indexed_same H I o o' (raw_get H o k) (raw_get I o' k') _ _ a s (raw_get_same H I o o' k k' a s t)
      (λ v w h. cond_rel (SameSettled p) (is_function v) (is_function w) _ _ _ _ (function_test p v w h) (both_ask v w (o ∷ k ∷ []) (o' ∷ k' ∷ []) h (s, (t, tt))) (index_same links H I v w k k' a h t))

  raw_set_same : (H I : Heap) (i j : ℕ) (k k' v w : Value) → SameHeap p H I → SameNumber p a_table i j → SameValue p k k' → SameValue p v w → SameHeap p (raw_set H i k v) (raw_set I j k' w)
  unfolding raw_set
  raw_set_same H I i j k k' v w a h s t = go (slice_get H.tables i) (slice_get I.tables j) (a.tables i j h)
    where
      go : (o o' : Option Table) → Both (SameTable p) o o' → SameHeap p
          (elim o [ None ↦ H | Some x ↦ record H { tables = slice_set H.tables i (record x { rows = set table_values x.rows k v }) } ])
          (elim o' [ None ↦ I | Some x ↦ record I { tables = slice_set I.tables j (record x { rows = set table_values x.rows k' w }) } ])
      go None o' r = absurd r
      go (Some x) None r = absurd r
      go (Some x) (Some y) r = set_table_same H I i j _ _ a h (record { rows = set_same p a.one_to_one x.rows y.rows k k' v w r.rows s t; metatable = r.metatable })

  set_raw_object : (H I : Heap) (i j : ℕ) (k k' v w : Value) → SameHeap p H I → SameNumber p a_table i j → SameValue p k k' → SameValue p v w → SameSettled p (set_raw H (object a_table i) k v) (set_raw I (object a_table j) k' w)
  set_raw_object H I i j k k' v w a h (same_known nil) t = both_fault _
  set_raw_object H I i j k k' v w a h (same_known (boolean b)) t = both_found _ _ [] [] (raw_set_same H I i j _ _ v w a h (same_known (boolean b)) t) tt
  set_raw_object H I i j k k' v w a h (same_known (integer n)) t = both_found _ _ [] [] (raw_set_same H I i j _ _ v w a h (same_known (integer n)) t) tt
  set_raw_object H I i j k k' v w a h (same_known (string s)) t = both_found _ _ [] [] (raw_set_same H I i j _ _ v w a h (same_known (string s)) t) tt
  set_raw_object H I i j k k' v w a h (same_known (primitive n)) t = both_found _ _ [] [] (raw_set_same H I i j _ _ v w a h (same_known (primitive n)) t) tt
  set_raw_object H I i j k k' v w a h (same_object kind m n g) t = both_found _ _ [] [] (raw_set_same H I i j _ _ v w a h (same_object kind m n g) t) tt

  set_raw_same : (H I : Heap) (o o' k k' v w : Value) → SameHeap p H I → SameValue p o o' → SameValue p k k' → SameValue p v w → SameSettled p (set_raw H o k v) (set_raw I o' k' w)
  set_raw_same H I o o' k k' v w a (same_object a_table i j h) s t = set_raw_object H I i j k k' v w a h s t
  set_raw_same H I o o' k k' v w a _ s t = both_fault _

  stored_same : (H I : Heap) (o o' k k' v w : Value) (raw raw' : Option Value) (f g : Value → Settled) → SameHeap p H I → SameValue p o o' → SameValue p k k' → SameValue p v w → Each (SameValue p) raw raw' → Follows f g
      → SameSettled p (stored H o k v raw f) (stored I o' k' w raw' g)
  stored_same H I o o' k k' v w raw raw' f g a s t u h follow =
      let m = handler_same H I of_newindex o o' a s in
      let r = set_raw_same H I o o' k k' v w a s t u in
      cond_rel (SameSettled p) (has_value raw) (has_value raw') _ _ _ _ (has_value_same a.one_to_one raw raw' h) r
      (cond_rel (SameSettled p) (not (is_nil (handler_in H of_newindex o))) (not (is_nil (handler_in I of_newindex o'))) _ _ _ _ (ap not (nil_same p a.one_to_one _ _ m)) (follow _ _ m) r)

  store_same : (links : ℕ) (H I : Heap) (o o' k k' v w : Value) → SameHeap p H I → SameValue p o o' → SameValue p k k' → SameValue p v w → SameSettled p (store_of links H o k v) (store_of links I o' k' w)
  store_same zero H I o o' k k' v w a s t u = stored_same H I o o' k k' v w (raw_get H o k) (raw_get I o' k') _ _ a s t u (raw_get_same H I o o' k k' a s t) (λ x y h. both_fault _)
  store_same (suc links) H I o o' k k' v w a s t u =
      stored_same H I o o' k k' v w (raw_get H o k) (raw_get I o' k') _ _ a s t u (raw_get_same H I o o' k k' a s t)
      (λ x y h. cond_rel (SameSettled p) (is_function x) (is_function y) _ _ _ _ (function_test p x y h) (both_ask x y (o ∷ k ∷ v ∷ []) (o' ∷ k' ∷ w ∷ []) h (s, (t, (u, tt)))) (store_same links H I x y k k' v w a h t u))

  pub callee_same : (links : ℕ) (H I : Heap) (f g : Value) (vs ws : List Value) → SameHeap p H I → SameValue p f g → SameValues p vs ws → SameCallee p (callee_of links H f vs) (callee_of links I g ws)
  callee_same zero H I f g vs ws a s h =
      let m = handler_same H I of_call f g a s in
      cond_rel (SameCallee p) (is_function f) (is_function g) _ _ _ _ (function_test p f g s) (both_callee f g vs ws s h)
      (cond_rel (SameCallee p) (is_nil (handler_in H of_call f)) (is_nil (handler_in I of_call g)) _ _ _ _ (nil_same p a.one_to_one _ _ m)
      (not_callable_so p _ _ (of_type_same p (codes "call") f g s)) (both_not_callable _))
  callee_same (suc links) H I f g vs ws a s h =
      let m = handler_same H I of_call f g a s in
      cond_rel (SameCallee p) (is_function f) (is_function g) _ _ _ _ (function_test p f g s) (both_callee f g vs ws s h)
      (cond_rel (SameCallee p) (is_nil (handler_in H of_call f)) (is_nil (handler_in I of_call g)) _ _ _ _ (nil_same p a.one_to_one _ _ m)
      (not_callable_so p _ _ (of_type_same p (codes "call") f g s)) (callee_same links H I _ _ (f ∷ vs) (g ∷ ws) a m (s, h)))

  -- the other operators

  is_number_same : (v w : Value) → SameValue p v w → is_number v ≡ is_number w
  is_number_same v w (same_known c) = refl
  is_number_same v w (same_object k i j h) = refl

  is_text_same : (v w : Value) → SameValue p v w → is_text v ≡ is_text w
  is_text_same v w (same_known c) = refl
  is_text_same v w (same_object k i j h) = refl

  handled_same : (H I : Heap) (event : Event) (attempt : List ℕ) (is_fit : Value → Bool) → ((v w : Value) → SameValue p v w → is_fit v ≡ is_fit w) → (v w x y : Value) → SameHeap p H I → SameValue p v w → SameValue p x y
      → SameSettled p (asked (handler_of H event v x) (v ∷ x ∷ []) (fault (of_type attempt (at_fault is_fit v x)))) (asked (handler_of I event w y) (w ∷ y ∷ []) (fault (of_type attempt (at_fault is_fit w y))))
  handled_same H I event attempt is_fit test v w x y a s t =
      asked_same (handler_of H event v x) (handler_of I event w y) (v ∷ x ∷ []) (w ∷ y ∷ []) _ _ (handler_of_same H I event v w x y a s t) (s, (t, tt))
      (faults p _ _ (of_type_same p attempt _ _ (at_fault_same p is_fit test v w x y s t)))

  computed_same : (H I : Heap) (event : Event) (k : Option ℤ) → SameHeap p H I → SameSettled p (elim k [ None ↦ fault (by_zero event) | Some n ↦ found H (known (integer n) ∷ []) ]) (elim k [ None ↦ fault (by_zero event) | Some n ↦ found I (known (integer n) ∷ []) ])
  computed_same H I event None a = both_fault _
  computed_same H I event (Some n) a = both_found H I (known (integer n) ∷ []) (known (integer n) ∷ []) a (same_known (integer n), tt)

  arithmetic_by : (H I : Heap) (event : Event) (m n : Option ℤ) (v w x y : Value) → SameHeap p H I → SameValue p v w → SameValue p x y → SameSettled p (arithmetic_on event H m n v x) (arithmetic_on event I m n w y)
  arithmetic_by H I event (Some m) (Some n) v w x y a s t = computed_same H I event (computed event m n) a
  arithmetic_by H I event None n v w x y a s t = handled_same H I event (wrong_operand event) is_number is_number_same v w x y a s t
  arithmetic_by H I event (Some m) None v w x y a s t = handled_same H I event (wrong_operand event) is_number is_number_same v w x y a s t

  arithmetic_same : (H I : Heap) (event : Event) (v w x y : Value) → SameHeap p H I → SameValue p v w → SameValue p x y → SameSettled p (arithmetic_on event H (number_in v) (number_in x) v x) (arithmetic_on event I (number_in w) (number_in y) w y)
  arithmetic_same H I event v w x y a s t =
      subst (λ m. SameSettled p (arithmetic_on event H (number_in v) (number_in x) v x) (arithmetic_on event I m (number_in y) w y)) (number_same p v w s)
      (subst (λ n. SameSettled p (arithmetic_on event H (number_in v) (number_in x) v x) (arithmetic_on event I (number_in v) n w y)) (number_same p x y t) (arithmetic_by H I event (number_in v) (number_in x) v w x y a s t))

  joined_same : (H I : Heap) (text : List ℕ) → SameHeap p H I → SameSettled p (joined H text) (joined I text)
  joined_same H I text a = cond_rel (SameSettled p) (nat_le (length text) greatest_string) (nat_le (length text) greatest_string) _ _ _ _ refl (both_found H I (known (string text) ∷ []) (known (string text) ∷ []) a (same_known (string text), tt)) (both_fault _)

  concat_by : (H I : Heap) (m n : Option (List ℕ)) (v w x y : Value) → SameHeap p H I → SameValue p v w → SameValue p x y → SameSettled p (concat_on H m n v x) (concat_on I m n w y)
  concat_by H I (Some m) (Some n) v w x y a s t = joined_same H I (m ++ n) a
  concat_by H I None n v w x y a s t = handled_same H I of_concat (codes "concatenate") is_text is_text_same v w x y a s t
  concat_by H I (Some m) None v w x y a s t = handled_same H I of_concat (codes "concatenate") is_text is_text_same v w x y a s t

  concat_same : (H I : Heap) (v w x y : Value) → SameHeap p H I → SameValue p v w → SameValue p x y → SameSettled p (concat_on H (text_of v) (text_of x) v x) (concat_on I (text_of w) (text_of y) w y)
  concat_same H I v w x y a s t =
      subst (λ m. SameSettled p (concat_on H (text_of v) (text_of x) v x) (concat_on I m (text_of y) w y)) (text_same p v w s)
      (subst (λ n. SameSettled p (concat_on H (text_of v) (text_of x) v x) (concat_on I (text_of v) n w y)) (text_same p x y t) (concat_by H I (text_of v) (text_of x) v w x y a s t))

  raw_length_same : (H I : Heap) (v w : Value) → SameHeap p H I → SameValue p v w → SameSettled p (raw_length H v) (raw_length I w)
  raw_length_same H I v w a (same_object a_table i j h) = go (slice_get H.tables i) (slice_get I.tables j) (a.tables i j h)
    where
      go : (o o' : Option Table) → Both (SameTable p) o o' → SameSettled p
          (elim o [ None ↦ cannot_arise | Some t ↦ found H (known (integer (pos (border table_values t.rows))) ∷ []) ])
          (elim o' [ None ↦ cannot_arise | Some t ↦ found I (known (integer (pos (border table_values t.rows))) ∷ []) ])
      go None o' r = absurd r
      go (Some x) None r = absurd r
      go (Some x) (Some y) r =
          let e = border_same p a.one_to_one x.rows y.rows r.rows in
          both_found H I _ _ a (subst (λ n. SameValue p (known (integer (pos (border table_values x.rows)))) (known (integer (pos n)))) e (same_known (integer (pos (border table_values x.rows)))), tt)
  raw_length_same H I v w a _ = both_fault _

  length_by : (H I : Heap) (v w : Value) → SameHeap p H I → SameValue p v w → SameSettled p (asked (handler_of H of_len v v) (v ∷ v ∷ []) (raw_length H v)) (asked (handler_of I of_len w w) (w ∷ w ∷ []) (raw_length I w))
  length_by H I v w a s = asked_same (handler_of H of_len v v) (handler_of I of_len w w) (v ∷ v ∷ []) (w ∷ w ∷ []) _ _ (handler_of_same H I of_len v w v w a s s) (s, (s, tt)) (raw_length_same H I v w a s)

  length_same : (H I : Heap) (v w : Value) → SameHeap p H I → SameValue p v w → SameSettled p (length_on H v) (length_on I w)
  length_same H I v w a (same_known (string s)) = both_found H I _ _ a (same_known (integer (pos (length s))), tt)
  length_same H I v w a (same_known nil) = length_by H I _ _ a (same_known nil)
  length_same H I v w a (same_known (boolean b)) = length_by H I _ _ a (same_known (boolean b))
  length_same H I v w a (same_known (integer n)) = length_by H I _ _ a (same_known (integer n))
  length_same H I v w a (same_known (primitive n)) = length_by H I _ _ a (same_known (primitive n))
  length_same H I v w a (same_object k i j h) = length_by H I _ _ a (same_object k i j h)

  truths : (H I : Heap) (b c : Bool) → SameHeap p H I → b ≡ c → SameSettled p (truth H b) (truth I c)
  truths H I b c a e = subst (λ c. SameSettled p (truth H b) (truth I c)) e (both_found H I (known (boolean b) ∷ []) (known (boolean b) ∷ []) a (same_known (boolean b), tt))

  equal_by : (H I : Heap) (v w x y : Value) → SameHeap p H I → SameValue p v w → SameValue p x y → SameSettled p (truth H (same v x)) (truth I (same w y))
  equal_by H I v w x y a s t = truths H I (same v x) (same w y) a (equal_same p a.one_to_one v x w y s t)

  equals_same : (H I : Heap) (v w x y : Value) → SameHeap p H I → SameValue p v w → SameValue p x y → SameSettled p (equal_on H v x) (equal_on I w y)
  equals_same H I v w x y a (same_known c) (same_known d) = equal_by H I _ _ _ _ a (same_known c) (same_known d)
  equals_same H I v w x y a (same_known c) (same_object k i j h) = equal_by H I _ _ _ _ a (same_known c) (same_object k i j h)
  equals_same H I v w x y a (same_object a_table i j h) (same_known c) = equal_by H I _ _ _ _ a (same_object a_table i j h) (same_known c)
  equals_same H I v w x y a (same_object a_function i j h) t = equal_by H I _ _ x y a (same_object a_function i j h) t
  equals_same H I v w x y a (same_object a_coroutine i j h) t = equal_by H I _ _ x y a (same_object a_coroutine i j h) t
  equals_same H I v w x y a (same_object a_table i j h) (same_object a_function m n g) = equal_by H I _ _ _ _ a (same_object a_table i j h) (same_object a_function m n g)
  equals_same H I v w x y a (same_object a_table i j h) (same_object a_coroutine m n g) = equal_by H I _ _ _ _ a (same_object a_table i j h) (same_object a_coroutine m n g)
  equals_same H I v w x y a (same_object a_table i j h) (same_object a_table m n g) =
      cond_rel (SameSettled p) (nat_eq i m) (nat_eq j n) _ _ _ _ (nat_eq_same (p.objects a_table) i m j n (a.one_to_one.objects a_table) h g) (truths H I true true a refl)
      (asked_same _ _ (object a_table i ∷ object a_table m ∷ []) (object a_table j ∷ object a_table n ∷ []) _ _ (handler_of_same H I of_eq _ _ _ _ a (same_object a_table i j h) (same_object a_table m n g)) (same_object a_table i j h, (same_object a_table m n g, tt)) (truths H I false false a refl))

  module _ (event : Event) (by_number : ℤ → ℤ → Bool) (by_bytes : List ℕ → List ℕ → Bool) where
    ordered_by : (H I : Heap) (v w x y : Value) → SameHeap p H I → SameValue p v w → SameValue p x y → SameSettled p (asked (handler_of H event v x) (v ∷ x ∷ []) (fault (cannot_compare v x))) (asked (handler_of I event w y) (w ∷ y ∷ []) (fault (cannot_compare w y)))
    ordered_by H I v w x y a s t = asked_same _ _ (v ∷ x ∷ []) (w ∷ y ∷ []) _ _ (handler_of_same H I event v w x y a s t) (s, (t, tt)) (faults p _ _ (cannot_compare_same p v w x y s t))

    ordered_same : (H I : Heap) (v w x y : Value) → SameHeap p H I → SameValue p v w → SameValue p x y → SameSettled p (ordered event by_number by_bytes H v x) (ordered event by_number by_bytes I w y)
    ordered_same H I v w x y a (same_known (integer m)) (same_known (integer n)) = truths H I _ _ a refl
    ordered_same H I v w x y a (same_known (string m)) (same_known (string n)) = truths H I _ _ a refl
    ordered_same H I v w x y a (same_known nil) t = ordered_by H I _ _ x y a (same_known nil) t
    ordered_same H I v w x y a (same_known (boolean b)) t = ordered_by H I _ _ x y a (same_known (boolean b)) t
    ordered_same H I v w x y a (same_known (primitive n)) t = ordered_by H I _ _ x y a (same_known (primitive n)) t
    ordered_same H I v w x y a (same_object k i j h) t = ordered_by H I _ _ x y a (same_object k i j h) t
    ordered_same H I v w x y a (same_known (integer m)) (same_known nil) = ordered_by H I _ _ _ _ a (same_known (integer m)) (same_known nil)
    ordered_same H I v w x y a (same_known (integer m)) (same_known (boolean b)) = ordered_by H I _ _ _ _ a (same_known (integer m)) (same_known (boolean b))
    ordered_same H I v w x y a (same_known (integer m)) (same_known (string s)) = ordered_by H I _ _ _ _ a (same_known (integer m)) (same_known (string s))
    ordered_same H I v w x y a (same_known (integer m)) (same_known (primitive n)) = ordered_by H I _ _ _ _ a (same_known (integer m)) (same_known (primitive n))
    ordered_same H I v w x y a (same_known (integer m)) (same_object k i j h) = ordered_by H I _ _ _ _ a (same_known (integer m)) (same_object k i j h)
    ordered_same H I v w x y a (same_known (string m)) (same_known nil) = ordered_by H I _ _ _ _ a (same_known (string m)) (same_known nil)
    ordered_same H I v w x y a (same_known (string m)) (same_known (boolean b)) = ordered_by H I _ _ _ _ a (same_known (string m)) (same_known (boolean b))
    ordered_same H I v w x y a (same_known (string m)) (same_known (integer n)) = ordered_by H I _ _ _ _ a (same_known (string m)) (same_known (integer n))
    ordered_same H I v w x y a (same_known (string m)) (same_known (primitive n)) = ordered_by H I _ _ _ _ a (same_known (string m)) (same_known (primitive n))
    ordered_same H I v w x y a (same_known (string m)) (same_object k i j h) = ordered_by H I _ _ _ _ a (same_known (string m)) (same_object k i j h)

  pub filled_table_same : (H I : Heap) (t u : Value) (last : ℕ) (vs ws : List Value) → SameHeap p H I → SameValue p t u → SameValues p vs ws → Each (SameHeap p) (filled_table H t last vs) (filled_table I u last ws)
  filled_table_same H I t u last vs ws a (same_object a_table i j g) h =
      each_bind (SameTable p) (SameHeap p) _ _
      (λ x y r. set_table_same H I i j (record x { rows = filled last vs x.rows }) (record y { rows = filled last ws y.rows }) a g (record { rows = filled_same p a.one_to_one last vs ws x.rows y.rows h r.rows; metatable = r.metatable }))
      (slice_get H.tables i) (slice_get I.tables j) (table_at H I a i j g)
  filled_table_same H I t u last vs ws a _ h = tt

  settles : (op : Operation) (H I : Heap) (vs ws : List Value) → SameHeap p H I → SameList p vs ws → SameSettled p (does op vs H) (does op ws I)
  settles index H I vs ws a (item o o' _ _ s (item k k' _ _ t ended)) = index_same greatest_chain H I o o' k k' a s t
  settles index H I vs ws a ended = neither_arises
  settles index H I vs ws a (item _ _ _ _ _ ended) = neither_arises
  settles index H I vs ws a (item _ _ _ _ _ (item _ _ _ _ _ (item _ _ _ _ _ _))) = neither_arises
  settles store H I vs ws a (item o o' _ _ s (item k k' _ _ t (item v w _ _ u ended))) = store_same greatest_chain H I o o' k k' v w a s t u
  settles store H I vs ws a ended = neither_arises
  settles store H I vs ws a (item _ _ _ _ _ ended) = neither_arises
  settles store H I vs ws a (item _ _ _ _ _ (item _ _ _ _ _ ended)) = neither_arises
  settles store H I vs ws a (item _ _ _ _ _ (item _ _ _ _ _ (item _ _ _ _ _ (item _ _ _ _ _ _)))) = neither_arises
  settles (arithmetic event) H I vs ws a (item v w _ _ s (item x y _ _ t ended)) = arithmetic_same H I event v w x y a s t
  settles (arithmetic event) H I vs ws a ended = neither_arises
  settles (arithmetic event) H I vs ws a (item _ _ _ _ _ ended) = neither_arises
  settles (arithmetic event) H I vs ws a (item _ _ _ _ _ (item _ _ _ _ _ (item _ _ _ _ _ _))) = neither_arises
  settles concat H I vs ws a (item v w _ _ s (item x y _ _ t ended)) = concat_same H I v w x y a s t
  settles concat H I vs ws a ended = neither_arises
  settles concat H I vs ws a (item _ _ _ _ _ ended) = neither_arises
  settles concat H I vs ws a (item _ _ _ _ _ (item _ _ _ _ _ (item _ _ _ _ _ _))) = neither_arises
  settles length' H I vs ws a (item v w _ _ s ended) = length_same H I v w a s
  settles length' H I vs ws a ended = neither_arises
  settles length' H I vs ws a (item _ _ _ _ _ (item _ _ _ _ _ _)) = neither_arises
  settles equal H I vs ws a (item v w _ _ s (item x y _ _ t ended)) = equals_same H I v w x y a s t
  settles equal H I vs ws a ended = neither_arises
  settles equal H I vs ws a (item _ _ _ _ _ ended) = neither_arises
  settles equal H I vs ws a (item _ _ _ _ _ (item _ _ _ _ _ (item _ _ _ _ _ _))) = neither_arises
  settles less H I vs ws a (item v w _ _ s (item x y _ _ t ended)) = ordered_same of_lt int_lt before H I v w x y a s t
  settles less H I vs ws a ended = neither_arises
  settles less H I vs ws a (item _ _ _ _ _ ended) = neither_arises
  settles less H I vs ws a (item _ _ _ _ _ (item _ _ _ _ _ (item _ _ _ _ _ _))) = neither_arises
  settles less_equal H I vs ws a (item v w _ _ s (item x y _ _ t ended)) = ordered_same of_le int_le (λ s t. not (before t s)) H I v w x y a s t
  settles less_equal H I vs ws a ended = neither_arises
  settles less_equal H I vs ws a (item _ _ _ _ _ ended) = neither_arises
  settles less_equal H I vs ws a (item _ _ _ _ _ (item _ _ _ _ _ (item _ _ _ _ _ _))) = neither_arises

  pub does_same : (op : Operation) (H I : Heap) (vs ws : List Value) → SameHeap p H I → SameValues p vs ws → SameSettled p (does op vs H) (does op ws I)
  does_same op H I vs ws a h = settles op H I vs ws a (as_one p vs ws h)
