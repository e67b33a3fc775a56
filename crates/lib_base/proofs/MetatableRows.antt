-- Rows of metatables over the values at hand.
use Rattle.std.proofs.Common.{◌≡◌, ℕ, List, [], ◌∷◌, ◌++◌, Option, Some, None, Ok, Bool, true, false, refl, ap, sym, ◌∙◌}
use Rattle.std.specs.Prelude.{codes}
use Rattle.int_core.specs.Value.{Value, known, string, Shape, shape, nth, object, a_table}
use Rattle.library_rows.specs.Arguments.{is_absent, is_table, wrong_type}
use Rattle.library_rows.specs.Base.{gets_metatable, is_table_or_nil, sets_metatable}
use Rattle.library_rows.specs.Look.{read, written, Step, does_op, no_word, Look, gives, refuses, does, Done, done, refused, looked, look, read_field, read_metatable, write_metatable}
use Rattle.table_core.specs.declared.value.TableId.{TableId}
use Rattle.table_core.specs.declared.value.Value.{Value as Kept}
use Rattle.table_core.specs.declared.value.Value.TheVariants.{Nil, Table}
use Rattle.lua_heap.specs.declared.world.World.{World as Memory}
use Rattle.lua_heap.specs.Reading.{value}
use Rattle.lib_base.specs.Raw.{Operates, table_or_nil}
use Rattle.pure_functions.specs.Answers.{heap_of}
use Rattle.lib_base.specs.Metatables.{field_or, IsMetatableArgument, IsNoMetatable}

pub present : (texts : List (List ℕ)) (v : Kept) → (v ≡ Nil → ⊥) → is_absent (shape (value texts v)) ≡ false
present texts Nil h = absurd (h refl)
present texts _ h = refl

pub no_metatable : (texts : List (List ℕ)) (v : Kept) → ((id : TableId) → v ≡ Table id → ⊥) → (v ≡ Nil → ⊥) → is_table_or_nil (shape (value texts v)) ≡ false
no_metatable texts Nil t h = absurd (h refl)
no_metatable texts (Table id) t h = absurd (t id refl)
no_metatable texts _ t h = refl

pub metatable_value : (texts : List (List ℕ)) (v : Value) (m : Option TableId) → IsMetatableArgument v (Ok m) → v ≡ value texts (table_or_nil m)
metatable_value texts v None h = h
metatable_value texts v (Some id) h = h

module _ (W : Memory) (vs : List Value) where
  -- the field `__metatable` of a value's metatable, and what is done then
  abbrev reads_field : (Shape → Look) → Look
  reads_field k = does read_metatable (read 0 ∷ []) (λ _. does read_field (read 0 ∷ written (string (codes "__metatable")) ∷ []) (λ _. does look (read 0 ∷ []) k))

  field_read : (k : Shape → Look) (a m n v : Kept) → nth vs 0 ≡ value W.strings a → value W.strings n ≡ known (string (codes "__metatable")) →
      Operates read_metatable W (a ∷ []) W (m ∷ []) no_word → Operates read_field W (m ∷ n ∷ []) W (v ∷ []) no_word →
      looked (reads_field k) vs (heap_of W) ≡ looked (k (shape (value W.strings v))) (value W.strings v ∷ value W.strings m ∷ vs) (heap_of W)
  field_read k a m n v e f o p =
      ap (λ v. after (does_op read_metatable (heap_of W) (v ∷ []))) e
      ∙ ap after o.does
      ∙ ap (λ k. then_field (does_op read_field (heap_of W) (value W.strings m ∷ k ∷ []))) (sym f)
      ∙ ap then_field p.does
    where
      after : Step → Done
      after s = looked (does read_field (read 0 ∷ written (string (codes "__metatable")) ∷ []) (λ _. does look (read 0 ∷ []) k)) (s.values ++ vs) s.heap

      then_field : Step → Done
      then_field s = looked (does look (read 0 ∷ []) k) (s.values ++ value W.strings m ∷ vs) s.heap

  abbrev field : Shape → Look
  field s = elim (is_absent s) [ true ↦ gives (read 1 ∷ []) | false ↦ gives (read 0 ∷ []) ]

  either_given : (m v : Kept) → looked (field (shape (value W.strings v))) (value W.strings v ∷ value W.strings m ∷ vs) (heap_of W) ≡ done (heap_of W) (value W.strings (field_or v m) ∷ [])
  either_given m Nil = refl
  either_given m _ = refl

  pub gets_metatable_is : (a m n v : Kept) → nth vs 0 ≡ value W.strings a → value W.strings n ≡ known (string (codes "__metatable")) →
      Operates read_metatable W (a ∷ []) W (m ∷ []) no_word → Operates read_field W (m ∷ n ∷ []) W (v ∷ []) no_word →
      looked gets_metatable vs (heap_of W) ≡ done (heap_of W) (value W.strings (field_or v m) ∷ [])
  gets_metatable_is a m n v e f o p = field_read field a m n v e f o p ∙ either_given m v

  -- `setmetatable`

  abbrev sets : Look
  sets = does write_metatable (read 2 ∷ read 3 ∷ []) (λ _. gives (read 2 ∷ []))

  abbrev unprotected : Shape → Look
  unprotected s = elim (is_absent s) [ false ↦ refuses (codes "cannot change a protected metatable") | true ↦ sets ]

  abbrev by_metatable : Bool → Shape → Look
  by_metatable b m = elim b [ false ↦ refuses (wrong_type 2 (codes "setmetatable") (codes "nil or table") m) | true ↦ reads_field unprotected ]

  abbrev by_table : Value → Look
  by_table t = elim (is_table (shape t)) [
    | true ↦ does look (read 1 ∷ []) (λ m. by_metatable (is_table_or_nil m) m)
    | false ↦ refuses (wrong_type 1 (codes "setmetatable") (codes "table") (shape t))
  ]

  given : (m : Option TableId) → is_table_or_nil (shape (value W.strings (table_or_nil m))) ≡ true
  given None = refl
  given (Some id) = refl

  module _ (id : TableId) (e : nth vs 0 ≡ object a_table id.0) where
    pub sets_no_metatable : IsNoMetatable (nth vs 1) → looked sets_metatable vs (heap_of W) ≡ refused (wrong_type 2 (codes "setmetatable") (codes "nil or table") (shape (nth vs 1)))
    sets_no_metatable h = ap (λ t. looked (by_table t) vs (heap_of W)) e ∙ ap (λ b. looked (by_metatable b (shape (nth vs 1))) vs (heap_of W)) h.none

    module _ (mt : Option TableId) (m n v : Kept) (g : nth vs 1 ≡ value W.strings (table_or_nil mt)) (f : value W.strings n ≡ known (string (codes "__metatable"))) (o : Operates read_metatable W (Table id ∷ []) W (m ∷ []) no_word) (p : Operates read_field W (m ∷ n ∷ []) W (v ∷ []) no_word) where
      to_field : looked sets_metatable vs (heap_of W) ≡ looked (unprotected (shape (value W.strings v))) (value W.strings v ∷ value W.strings m ∷ vs) (heap_of W)
      to_field =
          ap (λ t. looked (by_table t) vs (heap_of W)) e
          ∙ ap (λ b. looked (by_metatable b (shape (nth vs 1))) vs (heap_of W)) (ap (λ v. is_table_or_nil (shape v)) g ∙ given mt)
          ∙ field_read unprotected (Table id) m n v e f o p

      pub sets_protected : (v ≡ Nil → ⊥) → looked sets_metatable vs (heap_of W) ≡ refused (codes "cannot change a protected metatable")
      sets_protected h =
          to_field ∙ ap (λ b. looked (elim b [ false ↦ refuses (codes "cannot change a protected metatable") | true ↦ sets ]) (value W.strings v ∷ value W.strings m ∷ vs) (heap_of W)) (present W.strings v h)

      pub sets_metatable_is : (V : Memory) → v ≡ Nil → Operates write_metatable W (Table id ∷ table_or_nil mt ∷ []) V [] no_word → looked sets_metatable vs (heap_of W) ≡ done (heap_of V) (object a_table id.0 ∷ [])
      sets_metatable_is V h q =
          to_field
          ∙ ap (λ b. looked (elim b [ false ↦ refuses (codes "cannot change a protected metatable") | true ↦ sets ]) (value W.strings v ∷ value W.strings m ∷ vs) (heap_of W)) (ap (λ v. is_absent (shape (value W.strings v))) h)
          ∙ ap (λ t. after (does_op write_metatable (heap_of W) (t ∷ nth vs 1 ∷ []))) e
          ∙ ap (λ m. after (does_op write_metatable (heap_of W) (object a_table id.0 ∷ m ∷ []))) g
          ∙ ap after q.does
          ∙ ap (λ t. done (heap_of V) (t ∷ [])) e
        where
          after : Step → Done
          after s = looked (gives (read 2 ∷ [])) (s.values ++ value W.strings v ∷ value W.strings m ∷ vs) s.heap
