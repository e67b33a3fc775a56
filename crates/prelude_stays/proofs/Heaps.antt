-- What operations look at and leave: no value of tables that a script reaches is the environment, and its table is never written.
use Rattle.std.proofs.Common.{ℕ, zero, suc, ◌≡◌, ◌≢◌, List, [], ◌∷◌, Option, Some, None, refl, sym, subst, ◌∙◌, Bool, true, false, cond}
use Rattle.std.specs.Prelude.{pos, slice_get, slice_set, not, codes}
use Rattle.int_core.specs.Rows.{get, set, border}
use Rattle.int_core.specs.Value.{nil, integer, a_table, Value, known, object, is_nil, table_values}
use Rattle.int_core.specs.Heap.{Table, Heap, raw_get, raw_set}
use Rattle.int_core.specs.Operations.{Event, of_index, of_close, handler_in, is_function, Settled, found, ask, fault, cannot_arise, greatest_chain, indexed, index_of, set_raw, Callee, callee_of, raw_length, Operation, index, does}
use Rattle.machine_sound.specs.Sound.{Each, OptionOk}
use Rattle.machine_sound.proofs.Lists.{get_set_other, each_none, each_one, each_set}
use Rattle.machine_sound.proofs.TableRows.{get_has, set_has}
use Rattle.machine_sound.proofs.Settling.{SettledBy, CalleeBy, Settles, get_by, closer_by, callee_by, does_by}
use Rattle.prelude_stays.specs.Kept.{Home, Apart, TableOk, HeapOk}

module _ (y : Home) (H : Heap) (h : HeapOk y H) where
  -- another table than the environment becomes a new one
  pub put_table : (n : ℕ) (t u : Table) → n ≢ y.table → TableOk y.table u → HeapOk y (record H { tables = slice_set H.tables n u })
  put_table n t u d k = record {
    made = get_set_other H.tables n y.table u d ∙ h.made;
    bare = h.bare;
    tables = each_set (TableOk y.table) H.tables n u h.tables k;
    strings = h.strings;
  }

  pub raw_set_ok : (n : ℕ) (key v : Value) → n ≢ y.table → Apart y.table key → Apart y.table v → HeapOk y (raw_set H n key v)
  unfolding raw_set
  raw_set_ok n key v d k p = from (slice_get H.tables n) refl
    where
      from : (o : Option Table) → slice_get H.tables n ≡ o → HeapOk y (elim o [ None ↦ H | Some t ↦ record H { tables = slice_set H.tables n (record t { rows = set table_values t.rows key v }) } ])
      from None e = h
      from (Some t) e = put_table n t (record t { rows = set table_values t.rows key v }) d (record { rows = set_has (Apart y.table) t.rows key v k p (h.tables n t e).rows; metatable = (h.tables n t e).metatable })

  -- what became of an operation is right
  abbrev pub SettledOk : Settled → Type 0
  SettledOk s = SettledBy (Apart y.table) (HeapOk y) (Unit {0}) s

  found_one : (v : Value) → Apart y.table v → SettledOk (found H (v ∷ []))
  found_one v a = (h, each_one (Apart y.table) v a)

  pick_settled : (b : Bool) (s t : Settled) → SettledOk s → SettledOk t → SettledOk (cond b s t)
  pick_settled true s t a b = a
  pick_settled false s t a b = b

  set_raw_ok : (o key v : Value) → Apart y.table o → Apart y.table key → Apart y.table v → SettledOk (set_raw H o key v)
  set_raw_ok (object a_table m) (known nil) v d a b = tt
  set_raw_ok (object a_table m) key v d a b = (raw_set_ok m key v d a b, each_none (Apart y.table))
  set_raw_ok _ key v d a b = tt

  raw_length_ok : (v : Value) → Apart y.table v → SettledOk (raw_length H v)
  raw_length_ok (object a_table m) a = from (slice_get H.tables m)
    where
      from : (o : Option Table) → SettledOk (elim o [ None ↦ cannot_arise | Some t ↦ found H (known (integer (pos (border table_values t.rows))) ∷ []) ])
      from None = tt
      from (Some t) = found_one (known (integer (pos (border table_values t.rows)))) tt
  raw_length_ok _ a = tt

  settles : Settles (Apart y.table) (HeapOk y) (Unit {0}) H
  settles = record { right = h; nils = tt; truths = λ b. tt; numbers = λ i. tt; texts = λ s fits. tt; reads = λ m t e. (h.tables m t e).rows; writes = set_raw_ok; measures = raw_length_ok }

  pub raw_get_ok : (o key : Value) → OptionOk (Apart y.table) (raw_get H o key)
  raw_get_ok o key = get_by (Apart y.table) (HeapOk y) (Unit {0}) H settles o key

  pub closer_ok : (v e : Value) → Apart y.table v → Apart y.table e → Each (Apart y.table) (handler_in H of_close v ∷ v ∷ e ∷ [])
  closer_ok v e a b = closer_by (Apart y.table) (HeapOk y) (Unit {0}) H settles v e a b

  abbrev pub CalleeOk : Callee → Type 0
  CalleeOk c = CalleeBy (Apart y.table) c

  pub callee_ok : (links : ℕ) (f : Value) (vs : List Value) → Apart y.table f → Each (Apart y.table) vs → CalleeOk (callee_of links H f vs)
  callee_ok links f vs a b = callee_by (Apart y.table) (HeapOk y) (Unit {0}) H settles links f vs a b

  pub does_ok : (op : Operation) (vs : List Value) → Each (Apart y.table) vs → SettledOk (does op vs H)
  does_ok op vs v = does_by (Apart y.table) (HeapOk y) (Unit {0}) H settles op vs v (λ other. tt)

  -- a variable of the environment is read, and nothing else happens

  no_handler : (event : Event) → handler_in H event (object a_table y.table) ≡ known nil
  no_handler event = rw (h.made, h.bare, handler_in) refl

  bare_indexed : (o v : Value) (follow : Value → Settled) → handler_in H of_index o ≡ known nil → Apart y.table v → SettledOk (indexed H o (Some v) follow)
  bare_indexed o v follow e a = pick_settled (not (is_nil v)) (found H (v ∷ [])) _ (found_one v a) (by (handler_in H of_index o) e)
    where
      by : (w : Value) → w ≡ known nil → SettledOk (cond (not (is_nil w)) (follow w) (found H (v ∷ [])))
      by w e = subst (λ w. SettledOk (cond (not (is_nil w)) (follow w) (found H (v ∷ [])))) (sym e) (found_one v a)

  variable_index : (links : ℕ) (key : Value) → SettledOk (index_of links H (object a_table y.table) key)
  variable_index links key = by links
    where
      is : raw_get H (object a_table y.table) key ≡ Some (get table_values y.made.rows key)
      is = rw h.made refl

      apart : Apart y.table (get table_values y.made.rows key)
      apart = get_has (Apart y.table) tt y.made.rows key (h.tables y.table y.made h.made).rows

      with_raw : (follow : Value → Settled) → SettledOk (indexed H (object a_table y.table) (raw_get H (object a_table y.table) key) follow)
      with_raw follow = subst (λ raw. SettledOk (indexed H (object a_table y.table) raw follow)) (sym is) (bare_indexed (object a_table y.table) (get table_values y.made.rows key) follow (no_handler of_index) apart)

      by : (links : ℕ) → SettledOk (index_of links H (object a_table y.table) key)
      by zero = with_raw (λ f. fault (codes "'__index' chain too long; possibly a loop"))
      by (suc links) = with_raw (λ f. cond (is_function f) (ask f (object a_table y.table ∷ key ∷ [])) (index_of links H f key))

  pub variable_ok : (key : Value) → SettledOk (does index (object a_table y.table ∷ key ∷ []) H)
  variable_ok key = variable_index greatest_chain key
