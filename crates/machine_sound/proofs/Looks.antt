-- Library rows that look at values and tables alone keep a world sound, and give valid values: one lemma an operation, and none a row.
use Rattle.std.proofs.Common.{ℕ, ◌+◌, ◌<◌, ◌≡◌, List, [], ◌∷◌, ◌++◌, Option, Some, None, refl, subst, ap, ◌∙◌, length, drop, Bool, true, false, cond}
use Rattle.std.specs.Prelude.{slice_get, slice_set, find, position, option_map}
use Rattle.std.specs.Map.{keys_of}
use Rattle.int_core.specs.Rows.{next, rows_after, is_filled}
use Rattle.int_core.specs.Value.{nil, string, a_table, Value, known, object, same, table_values, nth, bind}
use Rattle.int_core.specs.Heap.{Table, Heap, raw_get, metatable_of, add_table}
use Rattle.library_rows.specs.Look.{HeapOp, read_field, write_field, read_metatable, write_metatable, row_after, make_table, or_nil, table_or_nil, put_field, put_metatable, put_meta, row_step, row_in, does_op, Look, gives, gives_all, refuses, raises, count, does, Done, done as came, refused as was_refused, raised as was_raised, looked, arg, args_of}
use Rattle.machine_core.specs.World.{World}
use Rattle.machine_core.specs.Moves.{consult, consulted}
use Rattle.machine_sound.specs.Sound.{Each, sizes, Sizes, Valid, OptionOk, TableOk, Solid, StackWaits}
use Rattle.machine_sound.specs.Safe.{waiting, Is, LookOk, gave, refused_with, raised_with, MoveGood}
use Rattle.machine_sound.proofs.Lists.{each_none, each_cons, each_one, each_append, each_set, each_drop, each_tail, length_set}
use Rattle.machine_sound.proofs.Values.{nth_ok, arg_valid, args_valid}
use Rattle.machine_sound.proofs.Grow.{Grows, grows_self, grows_then, values_on, each_waits_on}
use Rattle.machine_sound.proofs.Heaps.{RowOk, HeapOk, HeapStays, stays_self, raw_get_ok, raw_set_ok}
use Rattle.machine_sound.proofs.Outside.{heap_of, outside_solid, stays_ok, more_tables, new_table_valid}
use Rattle.machine_sound.proofs.Moves.{made_so}
use Rattle.machine_sound.proofs.WaitingMoves.{WaitingGood, stays}
use Rattle.machine_sound.proofs.NewCoroutines.{same_under}

-- the row after a key's row is one of the table's

found_ok : (P : Value × Value → Type 0) (t : Value × Value → Bool) (rows : List (Value × Value)) (row : Value × Value) → Each P rows → find t rows ≡ Some row → P row
found_ok P t [] row h e = absurd (cc)
found_ok P t (x ∷ rows) row h e = pick (t x) e (found_ok P t rows row (each_tail P x rows h))
  where
    pick : (b : Bool) → cond b (Some x) (find t rows) ≡ Some row → (find t rows ≡ Some row → P row) → P row
    pick true e more = let k : x ≡ row = cc in subst P k (h 0 x refl)
    pick false e more = more e

after_ok : (P : Value × Value → Type 0) (rows after : List (Value × Value)) (key : Value) → Each P rows → rows_after table_values rows key ≡ Some after → Each P after
after_ok P rows after key h e = pick (same key (known nil)) e
  where
    from : (o : Option ℕ) → option_map (λ at. drop (at + 1) rows) o ≡ Some after → Each P after
    from None e = absurd (cc)
    from (Some at) e = let k : drop (at + 1) rows ≡ after = cc in subst (Each P) k (each_drop P (at + 1) rows h)

    pick : (b : Bool) → cond b (Some rows) (option_map (λ at. drop (at + 1) rows) (position (same key) (keys_of rows))) ≡ Some after → Each P after
    pick true e = let k : rows ≡ after = cc in subst (Each P) k h
    pick false e = from (position (same key) (keys_of rows)) e

pub next_ok : (P : Value × Value → Type 0) (rows : List (Value × Value)) (key : Value) (row : Value × Value) → Each P rows → next table_values rows key ≡ Some (Some row) → P row
next_ok P rows key row h e = from (rows_after table_values rows key) refl e
  where
    from : (o : Option (List (Value × Value))) → rows_after table_values rows key ≡ o → option_map (find (is_filled table_values)) o ≡ Some (Some row) → P row
    from None d e = absurd (cc)
    from (Some after) d e = let k : find (is_filled table_values) after ≡ Some row = cc in found_ok P (is_filled table_values) after row (after_ok P rows after key h d) k

-- tables

module _ (z : Sizes) where
  or_nil_ok : (o : Option Value) → OptionOk (Valid z) o → Valid z (or_nil o)
  or_nil_ok None k = tt
  or_nil_ok (Some v) k = k

  table_ok : (o : Option ℕ) → OptionOk (λ m. m < z.tables) o → Valid z (table_or_nil o)
  table_ok None k = tt
  table_ok (Some n) k = k

  module _ (H : Heap) (h : HeapOk z H) where
    metatable_ok : (v : Value) → OptionOk (λ m. m < z.tables) (metatable_of H v)
    metatable_ok (known (string s)) = h.metatable
    metatable_ok (object a_table n) = from (slice_get H.tables n) refl
      where
        from : (o : Option Table) → slice_get H.tables n ≡ o → OptionOk (λ m. m < z.tables) (bind o (λ t. t.metatable))
        from None e = tt
        from (Some t) e = (h.tables n t e).metatable
    metatable_ok _ = tt

    write_ok : (o k v : Value) → Valid z k → Valid z v → HeapStays z H (put_field H o k v)
    write_ok (object a_table n) k v a b = raw_set_ok z H h n k v a b
    write_ok _ k v a b = stays_self z H h

    put_ok : (o : Value) (m : Option ℕ) → OptionOk (λ m. m < z.tables) m → HeapStays z H (put_metatable H o m)
    unfolding put_metatable
    put_ok (object a_table n) m k = from (slice_get H.tables n) refl
      where
        from : (o : Option Table) → slice_get H.tables n ≡ o → HeapStays z H (elim o [ None ↦ H | Some t ↦ record H { tables = slice_set H.tables n (record t { metatable = m }) } ])
        from None e = stays_self z H h
        from (Some t) e = record {
          ok = record {
            tables = each_set (TableOk z) H.tables n (record t { metatable = m }) h.tables (record { rows = (h.tables n t e).rows; metatable = k });
            count = length_set H.tables n (record t { metatable = m }) ∙ h.count;
            metatable = h.metatable;
          };
          same_metatable = refl;
        }
    put_ok _ m k = stays_self z H h

    meta_ok : (o m : Value) → Valid z m → HeapStays z H (put_meta H o m)
    meta_ok o (object a_table m) k = put_ok o (Some m) k
    meta_ok o _ k = put_ok o None tt

    row_ok : (o key : Value) (row : Value × Value) → row_in H o key ≡ Some (Some row) → RowOk z row
    row_ok (object a_table n) key row e = from (slice_get H.tables n) refl e
      where
        from : (o : Option Table) → slice_get H.tables n ≡ o → bind o (λ t. next table_values t.rows key) ≡ Some (Some row) → RowOk z row
        from None d e = absurd (cc)
        from (Some t) d e = next_ok (RowOk z) t.rows key row (h.tables n t d).rows e
    row_ok _ key row e = absurd (cc)

-- a world with another heap, and values of it
pub record HeapNow (n : ℕ) (W : World) (K : Heap) (vs : List Value) : Type 0 where
  pub grows : Grows (sizes n W) (sizes n (record W { heap = K }))
  pub solid : Solid n (record W { heap = K })
  pub values : Each (Valid (sizes n (record W { heap = K }))) vs

stays_now : (n : ℕ) (W : World) (s : Solid n W) (K : Heap) (vs : List Value) → HeapStays (sizes n W) W.heap K → Each (Valid (sizes n W)) vs → HeapNow n W K vs
stays_now n W s K vs k v =
    let o = stays_ok n W K W.moving W.fuel s k s.moving in
    record { grows = o.grows; solid = outside_solid n W K W.functions W.moving W.fuel o s; values = values_on (sizes n W) (sizes n (record W { heap = K })) o.grows vs v }

same_now : (n : ℕ) (W : World) (s : Solid n W) (vs : List Value) → Each (Valid (sizes n W)) vs → HeapNow n W W.heap vs
same_now n W s vs v = record { grows = grows_self (sizes n W); solid = s; values = v }

rows_now : (n : ℕ) (W : World) (s : Solid n W) (x : Option (Option (Value × Value))) → ((row : Value × Value) → x ≡ Some (Some row) → RowOk (sizes n W) row) → HeapNow n W (row_step W.heap x).heap (row_step W.heap x).values
rows_now n W s None k = same_now n W s [] (each_none (Valid (sizes n W)))
rows_now n W s (Some None) k = same_now n W s [] (each_none (Valid (sizes n W)))
rows_now n W s (Some (Some row)) k = same_now n W s (row.0 ∷ row.1 ∷ []) (each_cons (Valid (sizes n W)) row.0 (row.1 ∷ []) (k row refl).0 (each_one (Valid (sizes n W)) row.1 (k row refl).1))

-- one lemma an operation
op_ok : (n : ℕ) (W : World) (s : Solid n W) (op : HeapOp) (vs : List Value) → Each (Valid (sizes n W)) vs → HeapNow n W (does_op op W.heap vs).heap (does_op op W.heap vs).values
op_ok n W s read_field vs v =
    let z = sizes n W in
    let o = raw_get W.heap (nth vs 0) (nth vs 1) in
    same_now n W s (or_nil o ∷ []) (each_one (Valid z) (or_nil o) (or_nil_ok z o (raw_get_ok z W.heap (heap_of n W s) (nth vs 0) (nth vs 1))))
op_ok n W s write_field vs v =
    let z = sizes n W in
    stays_now n W s (put_field W.heap (nth vs 0) (nth vs 1) (nth vs 2)) [] (write_ok z W.heap (heap_of n W s) (nth vs 0) (nth vs 1) (nth vs 2) (nth_ok (Valid z) tt vs 1 v) (nth_ok (Valid z) tt vs 2 v)) (each_none (Valid z))
op_ok n W s read_metatable vs v =
    let z = sizes n W in
    let o = metatable_of W.heap (nth vs 0) in
    same_now n W s (table_or_nil o ∷ []) (each_one (Valid z) (table_or_nil o) (table_ok z o (metatable_ok z W.heap (heap_of n W s) (nth vs 0))))
op_ok n W s write_metatable vs v =
    let z = sizes n W in
    stays_now n W s (put_meta W.heap (nth vs 0) (nth vs 1)) [] (meta_ok z W.heap (heap_of n W s) (nth vs 0) (nth vs 1) (nth_ok (Valid z) tt vs 1 v)) (each_none (Valid z))
op_ok n W s row_after vs v = rows_now n W s (row_in W.heap (nth vs 0) (nth vs 1)) (λ row e. row_ok (sizes n W) W.heap (heap_of n W s) (nth vs 0) (nth vs 1) row e)
op_ok n W s make_table vs v =
    let o = more_tables n W s in
    record { grows = o.grows; solid = outside_solid n W (add_table W.heap) W.functions W.moving W.fuel o s; values = new_table_valid n W }
op_ok n W s _ vs v = same_now n W s [] (each_none (Valid (sizes n W)))

-- and for a row what it writes out
abbrev pub DoneOk : ℕ → World → Done → Type 0
DoneOk n W (came K vs) = HeapNow n W K vs
DoneOk n W (was_refused text) = Unit {0}
DoneOk n W (was_raised K v) = HeapNow n W K (v ∷ [])

later : (n : ℕ) (W : World) (K : Heap) (d : Done) → Grows (sizes n W) (sizes n (record W { heap = K })) → DoneOk n (record W { heap = K }) d → DoneOk n W d
later n W K (came L vs) g x = record { grows = grows_then (sizes n W) (sizes n (record W { heap = K })) (sizes n (record W { heap = L })) g x.grows; solid = x.solid; values = x.values }
later n W K (was_refused text) g x = tt
later n W K (was_raised L v) g x = record { grows = grows_then (sizes n W) (sizes n (record W { heap = K })) (sizes n (record W { heap = L })) g x.grows; solid = x.solid; values = x.values }

looked_ok : (n : ℕ) (l : Look) → LookOk l → (env : List Value) (W : World) → Solid n W → Each (Valid (sizes n W)) env → DoneOk n W (looked l env W.heap)
looked_ok n (gives xs) k env W s v = same_now n W s (args_of env xs) (args_valid (sizes n W) env xs v k)
looked_ok n (gives_all xs slot) k env W s v =
    same_now n W s (args_of env xs ++ drop slot env) (each_append (Valid (sizes n W)) (args_of env xs) (drop slot env) (args_valid (sizes n W) env xs v k) (each_drop (Valid (sizes n W)) slot env v))
looked_ok n (refuses text) k env W s v = tt
looked_ok n (raises x) k env W s v = same_now n W s (arg env x ∷ []) (each_one (Valid (sizes n W)) (arg env x) (arg_valid (sizes n W) env x v k))
looked_ok n (count slot c) k env W s v = looked_ok n (c (length (drop slot env))) (k (length (drop slot env))) env W s v
looked_ok n (does op xs c) k env W s v =
    let t = does_op op W.heap (args_of env xs) in
    let o = op_ok n W s op (args_of env xs) (args_valid (sizes n W) env xs v k.0) in
    let V = record W { heap = t.heap } in
    later n W t.heap (looked (c t.told) (t.values ++ env) t.heap) o.grows
    (looked_ok n (c t.told) (k.1 t.told) (t.values ++ env) V o.solid (each_append (Valid (sizes n V)) t.values env o.values (values_on (sizes n W) (sizes n V) o.grows env v)))

pub consult_waits : (n : ℕ) (l : Look) (slot : ℕ) → WaitingGood n (consult l slot)
consult_waits n l slot s env W i r = from (looked l (drop slot env) W.heap) refl (looked_ok n l r (drop slot env) W i.solid (each_drop (Valid (sizes n W)) slot env i.valid))
  where
    still : (K : Heap) → Grows (sizes n W) (sizes n (record W { heap = K })) → StackWaits n (record W { heap = K })
    still K g =
        let h = i.phase.all in
        record { coroutine = h.coroutine; frames = h.frames; last = h.last; running = h.running; waits = each_waits_on (sizes n W) (sizes n (record W { heap = K })) g h.frames h.waits }

    goes : (K : Heap) (vs : List Value) → HeapNow n W K vs → Is n (waiting s) (env ++ vs) (record W { heap = K })
    goes K vs x = made_so n (waiting s) (waiting s) env vs W (record W { heap = K }) i x.grows x.solid (same_under n s W (record W { heap = K }) refl i.phase (still K x.grows) refl) x.values

    from : (d : Done) → looked l (drop slot env) W.heap ≡ d → DoneOk n W d → MoveGood n (waiting s) env (consult l slot) W
    from (came K vs) e x = record { event = gave vs; world = record W { heap = K }; is = ap (consulted W) e; holds = goes K vs x }
    from (was_refused text) e x = record { event = refused_with text; world = W; is = ap (consulted W) e; holds = stays n s env [] W i (each_none (Valid (sizes n W))) }
    from (was_raised K v) e x = record { event = raised_with v; world = record W { heap = K }; is = ap (consulted W) e; holds = goes K (v ∷ []) x }
