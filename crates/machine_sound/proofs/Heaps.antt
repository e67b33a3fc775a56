-- What operations look at and leave: handlers, chains and values are valid, and the tables stay right.
use Rattle.std.proofs.Common.{ℕ, ◌<◌, ◌≡◌, List, [], ◌∷◌, Option, Some, None, refl, sym, subst, ◌∙◌, length}
use Rattle.std.specs.Prelude.{pos, slice_get, slice_set}
use Rattle.int_core.specs.Rows.{set, border}
use Rattle.int_core.specs.Value.{nil, integer, a_table, Value, known, object, table_values}
use Rattle.int_core.specs.Heap.{Table, Heap, raw_get, raw_set}
use Rattle.int_core.specs.Operations.{of_close, handler_in, Settled, found, cannot_arise, set_raw, Callee, callee_of, raw_length, Operation, operands, does}
use Rattle.machine_sound.specs.Sound.{Each, Sizes, Valid, OptionOk, TableOk}
use Rattle.machine_sound.proofs.Lists.{each_none, each_one, each_set, length_set, get_there}
use Rattle.machine_sound.proofs.TableRows.{set_has}
use Rattle.machine_sound.proofs.Settling.{SettledBy, CalleeBy, Settles, get_by, closer_by, callee_by, does_by}

abbrev pub RowOk : Sizes → Value × Value → Type 0
RowOk z row = Valid z row.0 × Valid z row.1

-- a heap whose tables are right
pub record HeapOk (z : Sizes) (H : Heap) : Type 0 where
  pub tables : Each (TableOk z) H.tables
  pub count : length H.tables ≡ z.tables
  pub metatable : OptionOk (λ m. m < z.tables) H.string_metatable

-- a heap behind another one
pub record HeapStays (z : Sizes) (H K : Heap) : Type 0 where
  pub ok : HeapOk z K
  pub same_metatable : H.string_metatable ≡ K.string_metatable

pub stays_self : (z : Sizes) (H : Heap) → HeapOk z H → HeapStays z H H
stays_self z H h = record { ok = h; same_metatable = refl }

module _ (z : Sizes) (H : Heap) (h : HeapOk z H) where
  pub raw_set_ok : (m : ℕ) (key v : Value) → Valid z key → Valid z v → HeapStays z H (raw_set H m key v)
  unfolding raw_set
  raw_set_ok m key v k p = from (slice_get H.tables m) refl
    where
      from : (o : Option Table) → slice_get H.tables m ≡ o → HeapStays z H (elim o [ None ↦ H | Some t ↦ record H { tables = slice_set H.tables m (record t { rows = set table_values t.rows key v }) } ])
      from None e = stays_self z H h
      from (Some t) e = record {
        ok = record {
          tables = each_set (TableOk z) H.tables m (record t { rows = set table_values t.rows key v }) h.tables (record { rows = set_has (Valid z) t.rows key v k p (h.tables m t e).rows; metatable = (h.tables m t e).metatable });
          count = length_set H.tables m (record t { rows = set table_values t.rows key v }) ∙ h.count;
          metatable = h.metatable;
        };
        same_metatable = refl;
      }

  -- what became of an operation is right
  abbrev pub SettledOk : Settled → Type 0
  SettledOk s = SettledBy (Valid z) (HeapStays z H) ⊥ s

  found_one : (v : Value) → Valid z v → SettledOk (found H (v ∷ []))
  found_one v a = (stays_self z H h, each_one (Valid z) v a)

  set_raw_ok : (o key v : Value) → Valid z o → Valid z key → Valid z v → SettledOk (set_raw H o key v)
  set_raw_ok (object a_table m) (known nil) v there a b = tt
  set_raw_ok (object a_table m) key v there a b = (raw_set_ok m key v a b, each_none (Valid z))
  set_raw_ok _ key v there a b = tt

  raw_length_ok : (v : Value) → Valid z v → SettledOk (raw_length H v)
  raw_length_ok (object a_table m) a = from (slice_get H.tables m) refl
    where
      from : (o : Option Table) → slice_get H.tables m ≡ o → SettledOk (elim o [ None ↦ cannot_arise | Some t ↦ found H (known (integer (pos (border table_values t.rows))) ∷ []) ])
      from None e = let (t, k) = get_there H.tables m (subst (λ n. m < n) (sym h.count) a) in absurd (cc)
      from (Some t) e = found_one (known (integer (pos (border table_values t.rows)))) tt
  raw_length_ok _ a = tt

  settles : Settles (Valid z) (HeapStays z H) ⊥ H
  settles = record {
    right = stays_self z H h;
    nils = tt;
    truths = λ b. tt;
    numbers = λ i. tt;
    texts = λ s fits. fits;
    reads = λ m t e. (h.tables m t e).rows;
    writes = set_raw_ok;
    measures = raw_length_ok;
  }

  pub raw_get_ok : (o key : Value) → OptionOk (Valid z) (raw_get H o key)
  raw_get_ok o key = get_by (Valid z) (HeapStays z H) ⊥ H settles o key

  pub closer_ok : (v e : Value) → Valid z v → Valid z e → Each (Valid z) (handler_in H of_close v ∷ v ∷ e ∷ [])
  closer_ok v e a b = closer_by (Valid z) (HeapStays z H) ⊥ H settles v e a b

  abbrev pub CalleeOk : Callee → Type 0
  CalleeOk c = CalleeBy (Valid z) c

  pub callee_ok : (links : ℕ) (f : Value) (vs : List Value) → Valid z f → Each (Valid z) vs → CalleeOk (callee_of links H f vs)
  callee_ok links f vs a b = callee_by (Valid z) (HeapStays z H) ⊥ H settles links f vs a b

  pub does_ok : (op : Operation) (vs : List Value) → Each (Valid z) vs → length vs ≡ operands op → SettledOk (does op vs H)
  does_ok op vs v e = does_by (Valid z) (HeapStays z H) ⊥ H settles op vs v (λ other. other e)
