-- Library rows that look at values and tables alone come to the same in worlds that agree: one lemma an operation, and none a row.
use Rattle.std.proofs.Common.{ℕ, suc, ◌≡◌, ◌+◌, ap₂, List, [], ◌∷◌, ◌++◌, Option, Some, None, refl, subst, ap, length, drop, not, cond}
use Rattle.std.specs.Prelude.{slice_get, slice_set, find, position, option_map, nat_lt}
use Rattle.std.specs.List.{prefix_len}
use Rattle.std.specs.List.{AllZip}
use Rattle.std.specs.Map.{keys_of}
use Rattle.int_core.specs.Rows.{get, set, border, next, rows_after, is_filled}
use Rattle.int_core.specs.Value.{nil, boolean, string, a_table, Value, known, is_known, same, table_values, nth, bind}
use Rattle.int_core.specs.Heap.{Table, Heap, raw_get, raw_set, metatable_of}
use Rattle.library_rows.specs.Look.{HeapOp, look, compare, read_field, write_field, read_metatable, write_metatable, border_of, row_after, make_table, Step, or_nil, table_or_nil, put_field, put_metatable, put_meta, border_told, border_in, row_step, row_in, does_op, Look, gives, gives_all, refuses, raises, count, does, Done, done as came, refused as was_refused, raised as was_raised, looked, arg, args_of}
use Rattle.machine_core.specs.World.{World}
use Rattle.machine_core.specs.Moves.{consult, LookShape, is_given, is_refused, is_raised, consulted}
use Rattle.machine_alike.specs.Agree.{Pairs, SameNumber, Each, SameValue, same_known, same_object, SameValues, SameRow, SameTable, OneToOne, objects_of, AgreeInTurn, Extends}
use Rattle.machine_alike.specs.Laws.{Alike, Keeps}
use Rattle.machine_alike.proofs.Pairwise.{each_bind, both_each, zip_append, zip_drop, zip_length, cond_rel}
use Rattle.machine_alike.proofs.Same.{extends_self, extends_on, values_on, shape_same, nth_same}
use Rattle.machine_alike.proofs.Tables.{equal_same, get_same, set_same, border_same}
use Rattle.machine_alike.proofs.Operations.{SameHeap, set_table_same}
use Rattle.machine_alike.proofs.Grow.{object_new, table_pair, extends_table, add_table_same}
use Rattle.machine_alike.proofs.Frames.{agree_grown, made_same, heap_of, heap_agrees}
use Rattle.machine_alike.proofs.OwnMoves.{arg_same, args_same}

module _ (p : Pairs) where
  -- the row after a key's row

  module _ (one : OneToOne p) where
    prefix_same : (xs ys : List (Value × Value)) (k l : Value) → AllZip (SameRow p) xs ys → SameValue p k l → prefix_len (λ x. not (same k x)) (keys_of xs) ≡ prefix_len (λ x. not (same l x)) (keys_of ys)
    prefix_same [] [] k l h s = refl
    prefix_same [] (y ∷ ys) k l h s = absurd h
    prefix_same (x ∷ xs) [] k l h s = absurd h
    prefix_same (x ∷ xs) (y ∷ ys) k l h s = rw (equal_same p one k x.0 l y.0 s h.0.0, prefix_same xs ys k l h.1 s) refl

    keys_length : (xs ys : List (Value × Value)) → AllZip (SameRow p) xs ys → length (keys_of xs) ≡ length (keys_of ys)
    keys_length [] [] h = refl
    keys_length [] (y ∷ ys) h = absurd h
    keys_length (x ∷ xs) [] h = absurd h
    keys_length (x ∷ xs) (y ∷ ys) h = ap suc (keys_length xs ys h.1)

    place_same : (xs ys : List (Value × Value)) (k l : Value) → AllZip (SameRow p) xs ys → SameValue p k l → position (same k) (keys_of xs) ≡ position (same l) (keys_of ys)
    place_same xs ys k l h s = ap₂ (λ i n. cond (nat_lt i n) (Some i) None) (prefix_same xs ys k l h s) (keys_length xs ys h)

    found_same : (xs ys : List (Value × Value)) → AllZip (SameRow p) xs ys → Each (SameRow p) (find (is_filled table_values) xs) (find (is_filled table_values) ys)
    found_same [] [] h = tt
    found_same [] (y ∷ ys) h = absurd h
    found_same (x ∷ xs) [] h = absurd h
    found_same (x ∷ xs) (y ∷ ys) h =
        cond_rel (Each (SameRow p)) (is_filled table_values x) (is_filled table_values y) (Some x) (find (is_filled table_values) xs) (Some y) (find (is_filled table_values) ys)
        (ap not (equal_same p one x.1 (known nil) y.1 (known nil) h.0.1 (same_known nil))) h.0 (found_same xs ys h.1)

    dropped_same : (xs ys : List (Value × Value)) → AllZip (SameRow p) xs ys → (o : Option ℕ) → Each (AllZip (SameRow p)) (option_map (λ at. drop (at + 1) xs) o) (option_map (λ at. drop (at + 1) ys) o)
    dropped_same xs ys h None = tt
    dropped_same xs ys h (Some at) = zip_drop (SameRow p) (at + 1) xs ys h

    after_same : (xs ys : List (Value × Value)) (k l : Value) → AllZip (SameRow p) xs ys → SameValue p k l → Each (AllZip (SameRow p)) (rows_after table_values xs k) (rows_after table_values ys l)
    after_same xs ys k l h s =
        cond_rel (Each (AllZip (SameRow p))) (same k (known nil)) (same l (known nil)) (Some xs) _ (Some ys) _ (equal_same p one k (known nil) l (known nil) s (same_known nil)) h
        (subst (λ o. Each (AllZip (SameRow p)) (option_map (λ at. drop (at + 1) xs) (position (same k) (keys_of xs))) (option_map (λ at. drop (at + 1) ys) o)) (place_same xs ys k l h s) (dropped_same xs ys h (position (same k) (keys_of xs))))

    filled_in : (o o' : Option (List (Value × Value))) → Each (AllZip (SameRow p)) o o' → Each (Each (SameRow p)) (option_map (find (is_filled table_values)) o) (option_map (find (is_filled table_values)) o')
    filled_in None None h = tt
    filled_in None (Some y) h = absurd h
    filled_in (Some x) None h = absurd h
    filled_in (Some x) (Some y) h = found_same x y h

    next_same : (xs ys : List (Value × Value)) (k l : Value) → AllZip (SameRow p) xs ys → SameValue p k l → Each (Each (SameRow p)) (next table_values xs k) (next table_values ys l)
    next_same xs ys k l h s = filled_in (rows_after table_values xs k) (rows_after table_values ys l) (after_same xs ys k l h s)

  -- tables

  at_table : (H I : Heap) → SameHeap p H I → (i j : ℕ) → SameNumber p a_table i j → Each (SameTable p) (slice_get H.tables i) (slice_get I.tables j)
  at_table H I a i j h = both_each (SameTable p) (slice_get H.tables i) (slice_get I.tables j) (a.tables i j h)

  read_same : (H I : Heap) (o o' k k' : Value) → SameHeap p H I → SameValue p o o' → SameValue p k k' → SameValue p (or_nil (raw_get H o k)) (or_nil (raw_get I o' k'))
  read_same H I o o' k k' a (same_object a_table i j h) t = by (slice_get H.tables i) (slice_get I.tables j) (at_table H I a i j h)
    where
      by : (x y : Option Table) → Each (SameTable p) x y → SameValue p (or_nil (bind x (λ t. Some (get table_values t.rows k)))) (or_nil (bind y (λ t. Some (get table_values t.rows k'))))
      by None None e = same_known nil
      by None (Some y) e = absurd e
      by (Some x) None e = absurd e
      by (Some x) (Some y) e = get_same p a.one_to_one x.rows y.rows k k' e.rows t
  read_same H I o o' k k' a _ t = same_known nil

  write_same : (H I : Heap) (o o' k k' v v' : Value) → SameHeap p H I → SameValue p o o' → SameValue p k k' → SameValue p v v' → SameHeap p (put_field H o k v) (put_field I o' k' v')
  unfolding raw_set
  write_same H I o o' k k' v v' a (same_object a_table i j h) t u = by (slice_get H.tables i) (slice_get I.tables j) (at_table H I a i j h)
    where
      by : (x y : Option Table) → Each (SameTable p) x y
          → SameHeap p (elim x [ None ↦ H | Some t ↦ record H { tables = slice_set H.tables i (record t { rows = set table_values t.rows k v }) } ]) (elim y [ None ↦ I | Some t ↦ record I { tables = slice_set I.tables j (record t { rows = set table_values t.rows k' v' }) } ])
      by None None e = a
      by None (Some y) e = absurd e
      by (Some x) None e = absurd e
      by (Some x) (Some y) e = set_table_same p H I i j _ _ a h (record { rows = set_same p a.one_to_one x.rows y.rows k k' v v' e.rows t u; metatable = e.metatable })
  write_same H I o o' k k' v v' a _ t u = a

  number_value : (x y : Option ℕ) → Each (SameNumber p a_table) x y → SameValue p (table_or_nil x) (table_or_nil y)
  number_value None None e = same_known nil
  number_value None (Some y) e = absurd e
  number_value (Some x) None e = absurd e
  number_value (Some x) (Some y) e = same_object a_table x y e

  metatable_same : (H I : Heap) (v w : Value) → SameHeap p H I → SameValue p v w → Each (SameNumber p a_table) (metatable_of H v) (metatable_of I w)
  metatable_same H I v w a (same_known (string s)) = a.string_metatable
  metatable_same H I v w a (same_object a_table i j h) =
      each_bind (SameTable p) (SameNumber p a_table) _ _ (λ x y r. r.metatable) (slice_get H.tables i) (slice_get I.tables j) (at_table H I a i j h)
  metatable_same H I v w a _ = tt

  put_same : (H I : Heap) (o o' : Value) (m n : Option ℕ) → SameHeap p H I → SameValue p o o' → Each (SameNumber p a_table) m n → SameHeap p (put_metatable H o m) (put_metatable I o' n)
  unfolding put_metatable
  put_same H I o o' m n a (same_object a_table i j h) t = by (slice_get H.tables i) (slice_get I.tables j) (at_table H I a i j h)
    where
      by : (x y : Option Table) → Each (SameTable p) x y → SameHeap p (elim x [ None ↦ H | Some t ↦ record H { tables = slice_set H.tables i (record t { metatable = m }) } ]) (elim y [ None ↦ I | Some t ↦ record I { tables = slice_set I.tables j (record t { metatable = n }) } ])
      by None None e = a
      by None (Some y) e = absurd e
      by (Some x) None e = absurd e
      by (Some x) (Some y) e = set_table_same p H I i j _ _ a h (record { rows = e.rows; metatable = t })
  put_same H I o o' m n a _ t = a

  meta_same : (H I : Heap) (o o' m m' : Value) → SameHeap p H I → SameValue p o o' → SameValue p m m' → SameHeap p (put_meta H o m) (put_meta I o' m')
  meta_same H I o o' m m' a s (same_object a_table i j h) = put_same H I o o' (Some i) (Some j) a s h
  meta_same H I o o' m m' a s _ = put_same H I o o' None None a s tt

  told_same : (H I : Heap) (o o' : Value) → SameHeap p H I → SameValue p o o' → border_in H o ≡ border_in I o'
  told_same H I o o' a (same_object a_table i j h) = by (slice_get H.tables i) (slice_get I.tables j) (at_table H I a i j h)
    where
      by : (x y : Option Table) → Each (SameTable p) x y → bind x (λ t. Some (border table_values t.rows)) ≡ bind y (λ t. Some (border table_values t.rows))
      by None None e = refl
      by None (Some y) e = absurd e
      by (Some x) None e = absurd e
      by (Some x) (Some y) e = ap Some (border_same p a.one_to_one x.rows y.rows e.rows)
  told_same H I o o' a _ = refl

  row_same : (H I : Heap) (o o' k k' : Value) → SameHeap p H I → SameValue p o o' → SameValue p k k' → Each (Each (SameRow p)) (row_in H o k) (row_in I o' k')
  row_same H I o o' k k' a (same_object a_table i j h) t =
      each_bind (SameTable p) (Each (SameRow p)) _ _ (λ x y r. next_same a.one_to_one x.rows y.rows k k' r.rows t) (slice_get H.tables i) (slice_get I.tables j) (at_table H I a i j h)
  row_same H I o o' k k' a _ t = tt

-- what an operation leaves in both worlds
pub record StepAlike (p : Pairs) (W X : World) (s t : Step) : Type 0 where
  pub now : Pairs
  pub more : Extends p now
  pub agree : AgreeInTurn now (record W { heap = s.heap }) (record X { heap = t.heap })
  pub values : SameValues now s.values t.values
  pub told : s.told ≡ t.told

-- no more objects are there
with_heap : (p : Pairs) (W X : World) (s t : Step) → AgreeInTurn p W X → SameHeap p s.heap t.heap → SameValues p s.values t.values → s.told ≡ t.told → StepAlike p W X s t
with_heap p W X s t a h v e = record { now = p; more = extends_self p; agree = heap_agrees p W X s.heap t.heap a h; values = v; told = e }

steps_same : (p : Pairs) (W X : World) → AgreeInTurn p W X → (x y : Option (Option (Value × Value))) → Each (Each (SameRow p)) x y → StepAlike p W X (row_step W.heap x) (row_step X.heap y)
steps_same p W X a None None e = with_heap p W X _ _ a (heap_of p W X a) tt refl
steps_same p W X a None (Some y) e = absurd e
steps_same p W X a (Some x) None e = absurd e
steps_same p W X a (Some None) (Some None) e = with_heap p W X _ _ a (heap_of p W X a) tt refl
steps_same p W X a (Some None) (Some (Some y)) e = absurd e
steps_same p W X a (Some (Some x)) (Some None) e = absurd e
steps_same p W X a (Some (Some x)) (Some (Some y)) e = with_heap p W X _ _ a (heap_of p W X a) (e.0, (e.1, tt)) refl

-- one lemma an operation
op_same : (p : Pairs) (W X : World) (op : HeapOp) (vs ws : List Value) → AgreeInTurn p W X → SameValues p vs ws → StepAlike p W X (does_op op W.heap vs) (does_op op X.heap ws)
op_same p W X look vs ws a s = with_heap p W X _ _ a (heap_of p W X a) tt (shape_same p (nth vs 0) (nth ws 0) (nth_same p vs ws 0 s))
op_same p W X compare vs ws a s =
    with_heap p W X _ _ a (heap_of p W X a) tt (ap (λ b. is_known (boolean b)) (equal_same p a.objects.one_to_one (nth vs 0) (nth vs 1) (nth ws 0) (nth ws 1) (nth_same p vs ws 0 s) (nth_same p vs ws 1 s)))
op_same p W X read_field vs ws a s =
    with_heap p W X _ _ a (heap_of p W X a) (read_same p W.heap X.heap (nth vs 0) (nth ws 0) (nth vs 1) (nth ws 1) (heap_of p W X a) (nth_same p vs ws 0 s) (nth_same p vs ws 1 s), tt) refl
op_same p W X write_field vs ws a s =
    with_heap p W X _ _ a (write_same p W.heap X.heap (nth vs 0) (nth ws 0) (nth vs 1) (nth ws 1) (nth vs 2) (nth ws 2) (heap_of p W X a) (nth_same p vs ws 0 s) (nth_same p vs ws 1 s) (nth_same p vs ws 2 s)) tt refl
op_same p W X read_metatable vs ws a s =
    with_heap p W X _ _ a (heap_of p W X a) (number_value p (metatable_of W.heap (nth vs 0)) (metatable_of X.heap (nth ws 0)) (metatable_same p W.heap X.heap (nth vs 0) (nth ws 0) (heap_of p W X a) (nth_same p vs ws 0 s)), tt) refl
op_same p W X write_metatable vs ws a s =
    with_heap p W X _ _ a (meta_same p W.heap X.heap (nth vs 0) (nth ws 0) (nth vs 1) (nth ws 1) (heap_of p W X a) (nth_same p vs ws 0 s) (nth_same p vs ws 1 s)) tt refl
op_same p W X border_of vs ws a s = with_heap p W X _ _ a (heap_of p W X a) tt (ap border_told (told_same p W.heap X.heap (nth vs 0) (nth ws 0) (heap_of p W X a) (nth_same p vs ws 0 s)))
op_same p W X row_after vs ws a s =
    steps_same p W X a (row_in W.heap (nth vs 0) (nth vs 1)) (row_in X.heap (nth ws 0) (nth ws 1)) (row_same p W.heap X.heap (nth vs 0) (nth ws 0) (nth vs 1) (nth ws 1) (heap_of p W X a) (nth_same p vs ws 0 s) (nth_same p vs ws 1 s))
op_same p W X make_table vs ws a s =
    let q = table_pair p (objects_of W) (objects_of X) a.objects in
    let e = extends_table p (objects_of W) (objects_of X) a.objects in
    record {
      now = q;
      more = e;
      agree = agree_grown p q W X _ _ e a (record { roots = refl; moving = refl; printed = refl; fuel = refl }) (record { roots = refl; moving = refl; printed = refl; fuel = refl })
          (add_table_same p (objects_of W) (objects_of X) a.objects (record { rows = []; metatable = None }) (record { rows = []; metatable = None }) (record { rows = tt; metatable = tt }));
      values = (same_object a_table _ _ (object_new p a_table (length W.heap.tables) (length X.heap.tables)), tt);
      told = refl;
    }

-- and none for a row
pub data DoneAlike (p : Pairs) (W X : World) : Done → Done → Type 0 where
  both_came : (q : Pairs) (H I : Heap) (vs ws : List Value) → Extends p q → AgreeInTurn q (record W { heap = H }) (record X { heap = I }) → SameValues q vs ws → DoneAlike p W X (came H vs) (came I ws)
  both_refused : (text : List ℕ) → DoneAlike p W X (was_refused text) (was_refused text)
  both_raised : (q : Pairs) (H I : Heap) (v w : Value) → Extends p q → AgreeInTurn q (record W { heap = H }) (record X { heap = I }) → SameValue q v w → DoneAlike p W X (was_raised H v) (was_raised I w)

later : (p q : Pairs) (W X : World) (K L : Heap) (d e : Done) → Extends p q → DoneAlike q (record W { heap = K }) (record X { heap = L }) d e → DoneAlike p W X d e
later p q W X K L d e m (both_came r H I vs ws n a s) = both_came r H I vs ws (extends_on p q r m n) a s
later p q W X K L d e m (both_refused text) = both_refused text
later p q W X K L d e m (both_raised r H I v w n a s) = both_raised r H I v w (extends_on p q r m n) a s

looked_same : (l : Look) (p : Pairs) (env other : List Value) (W X : World) → AgreeInTurn p W X → SameValues p env other → DoneAlike p W X (looked l env W.heap) (looked l other X.heap)
looked_same (gives xs) p env other W X a s = both_came p W.heap X.heap _ _ (extends_self p) a (args_same p env other xs s)
looked_same (gives_all xs slot) p env other W X a s =
    both_came p W.heap X.heap _ _ (extends_self p) a (zip_append (SameValue p) (args_of env xs) (args_of other xs) (drop slot env) (drop slot other) (args_same p env other xs s) (zip_drop (SameValue p) slot env other s))
looked_same (refuses text) p env other W X a s = both_refused text
looked_same (raises x) p env other W X a s = both_raised p W.heap X.heap _ _ (extends_self p) a (arg_same p env other x s)
looked_same (count slot k) p env other W X a s =
    subst (λ n. DoneAlike p W X (looked (k (length (drop slot env))) env W.heap) (looked (k n) other X.heap)) (zip_length (SameValue p) (drop slot env) (drop slot other) (zip_drop (SameValue p) slot env other s))
    (looked_same (k (length (drop slot env))) p env other W X a s)
looked_same (does op xs k) p env other W X a s =
    let d = does_op op W.heap (args_of env xs) in
    let e = does_op op X.heap (args_of other xs) in
    let o = op_same p W X op (args_of env xs) (args_of other xs) a (args_same p env other xs s) in
    subst (λ t. DoneAlike p W X (looked (k d.told) (d.values ++ env) d.heap) (looked (k t) (e.values ++ other) e.heap)) o.told
    (later p o.now W X d.heap e.heap _ _ o.more
    (looked_same (k d.told) o.now (d.values ++ env) (e.values ++ other) (record W { heap = d.heap }) (record X { heap = e.heap }) o.agree
    (zip_append (SameValue o.now) d.values e.values env other o.values (values_on p o.now o.more env other s))))

consulted_same : (p : Pairs) (W X : World) (d e : Done) → AgreeInTurn p W X → DoneAlike p W X d e → Alike p LookShape (consulted W d) (consulted X e)
consulted_same p W X d e g (both_came q H I vs ws m a s) = made_same p q LookShape _ _ vs ws is_given is_given m a s refl
consulted_same p W X d e g (both_refused text) = made_same p p LookShape W X [] [] (is_refused text) (is_refused text) (extends_self p) g tt refl
consulted_same p W X d e g (both_raised q H I v w m a s) = made_same p q LookShape _ _ (v ∷ []) (w ∷ []) is_raised is_raised m a (s, tt) refl

pub consult_keeps : (l : Look) (slot : ℕ) → Keeps (consult l slot)
consult_keeps l slot p env other W X s g = consulted_same p W X (looked l (drop slot env) W.heap) (looked l (drop slot other) X.heap) g (looked_same l p (drop slot env) (drop slot other) W X g (zip_drop (SameValue p) slot env other s))
