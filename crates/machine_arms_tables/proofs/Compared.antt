-- Comparisons of two tables without a handler, and of two strings, whatever the metatable of strings is.
use Rattle.std.proofs.Common.{◌≡◌, ℕ, List, [], ◌∷◌, Option, Some, None, refl, ap, sym, ◌∙◌, subst, Bool, true, false}
use Rattle.std.specs.Prelude.{cond, nat_eq, not}
use Rattle.code_core.specs.declared.opcode.Opcode.{Opcode}
use Rattle.code_core.specs.declared.opcode.Opcode.TheVariants.{Lt}
use Rattle.int_core.specs.Heap.{Heap}
use Rattle.int_core.specs.Operations.{Settled, asked, before, does, equal, equal_on, handler_of, of_eq, truth}
use Rattle.int_core.specs.Value.{Value, a_table, object}
use Rattle.lua_heap.specs.Plain.{heap}
use Rattle.lua_heap.specs.Reading.{text_of, value}
use Rattle.meta_ops.specs.Outcome.{settled}
use Rattle.meta_ops.specs.declared.outcome.Outcome.{Outcome}
use Rattle.meta_ops.specs.declared.outcome.Outcome.TheVariants.{Found}
use Rattle.table_core.specs.Table.{Contents}
use Rattle.table_core.specs.declared.value.StrId.{StrId}
use Rattle.table_core.specs.declared.value.TableId.{TableId}
use Rattle.table_core.specs.declared.value.Value.{Value as Kept}
use Rattle.table_core.specs.declared.value.Value.TheVariants.{Bool as Boolean, Str, Table}
use Rattle.machine_arms_tables.specs.Fields.{Settles}
use Rattle.machine_arms_tables.specs.Orders.{order_of}

truth_any : (H K : Heap) (t b : Bool) → truth H t ≡ truth H b → truth K t ≡ truth K b
truth_any H K true true e = refl
truth_any H K true false e = absurd (cc)
truth_any H K false true e = absurd (cc)
truth_any H K false false e = refl

-- what is known of both values
pub of_both : (P : Kept → Kept → Type 0) {u v : Kept} (left right : Kept) → left ≡ u → right ≡ v → P u v → P left right
of_both P {u} left right e f x = subst (λ l. P l right) (sym e) (subst (λ r. P u r) (sym f) x)

-- an answer that is a truth
pub truth_found : {x : Settled} (texts : List (List ℕ)) (ts : List Contents) (right : Kept) {v : Kept} {o : Outcome} {b : Bool} → x ≡ settled texts (heap texts ts None) (value texts right ∷ []) o → o ≡ Found v → v ≡ Boolean b → x ≡ truth (heap texts ts None) b
truth_found texts ts right e f g = e ∙ ap (λ o. settled texts (heap texts ts None) (value texts right ∷ []) o) (f ∙ ap (λ v. Found v) g)

module _ (texts : List (List ℕ)) (ts : List Contents) where
  abbrev plain : Option ℕ → Heap
  plain meta = heap texts ts meta

  pub tables_settle : (m n : TableId) (b : Bool) → equal_on (heap texts ts None) (value texts (Table m)) (value texts (Table n)) ≡ truth (heap texts ts None) b → Settles texts equal (Table m ∷ Table n ∷ []) ts ts (Boolean b ∷ [])
  tables_settle m n b e = record { settled = λ meta apart short. by (plain meta) (nat_eq m.0 n.0) (handler_of (plain None) of_eq (object a_table m.0) (object a_table n.0)) e }
    where
      by : (H : Heap) (same : Bool) (h : Option Value) → cond same (truth (plain None) true) (asked h (object a_table m.0 ∷ object a_table n.0 ∷ []) (truth (plain None) false)) ≡ truth (plain None) b
          → cond same (truth H true) (asked h (object a_table m.0 ∷ object a_table n.0 ∷ []) (truth H false)) ≡ truth H b
      by H true h e = truth_any (plain None) H true b e
      by H false None e = truth_any (plain None) H false b e
      by H false (Some h) e = absurd (cc)

  pub order_settles : (op : Opcode) (s t : StrId) (b : Bool) → does (order_of op) (value texts (Str s) ∷ value texts (Str t) ∷ []) (heap texts ts None) ≡ truth (heap texts ts None) b → Settles texts (order_of op) (Str s ∷ Str t ∷ []) ts ts (Boolean b ∷ [])
  order_settles Lt s t b e = record { settled = λ meta apart short. truth_any (plain None) (plain meta) (before (text_of texts s.0) (text_of texts t.0)) b e }
  order_settles _ s t b e = record { settled = λ meta apart short. truth_any (plain None) (plain meta) (not (before (text_of texts t.0) (text_of texts s.0))) b e }
