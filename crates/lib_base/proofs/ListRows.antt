-- Rows that read the items of a table.
use Rattle.std.proofs.Common.{◌≡◌, ℕ, zero, suc, ◌+◌, List, [], ◌∷◌, ◌++◌, map, length, Err, true, false, refl, ap, sym, subst, ◌∙◌, arith}
use Rattle.std.specs.Prelude.{pos, codes}
use Rattle.int_core.specs.Heap.{Heap, raw_get}
use Rattle.int_core.specs.Value.{Value, Shape, known, integer, shape, nth, object, a_table}
use Rattle.library_rows.specs.Arguments.{integer_argument, is_table, with_look, wrong_type}
use Rattle.library_rows.specs.Base.{newest, reads, spreads, with_number}
use Rattle.library_rows.specs.Look.{read, args_of, no_word, or_nil, Look, gives, refuses, does, done, refused, looked, look, read_field}
use Rattle.library_rows.specs.Searches.{natural}
use Rattle.library_arguments.specs.Refusals.{refusal_text}
use Rattle.library_arguments.specs.declared.refusal.Refusal.{Refusal}
use Rattle.table_core.specs.declared.value.TableId.{TableId}
use Rattle.table_core.specs.declared.value.Value.{Value as Kept}
use Rattle.table_core.specs.declared.value.Value.TheVariants.{Int, Table}
use Rattle.lua_heap.specs.declared.world.World.{World as Memory}
use Rattle.lua_heap.specs.Reading.{value}
use Rattle.lib_base.specs.Raw.{Operates}
use Rattle.pure_functions.specs.Answers.{heap_of}
use Rattle.lib_base.specs.Lists.{item, items_from, IsCounted}

-- the values at hand after some were read one after another
unfoldable pub pushed : List Value → List Value → List Value
pushed [] env = env
pushed (v ∷ vs) env = pushed vs (v ∷ env)

pub behind : (vs env : List Value) (j : ℕ) → nth (pushed vs env) (length vs + j) ≡ nth env j
unfolding pushed
behind [] env j = let e : zero + j ≡ j = omega arith in ap (nth env) e
behind (v ∷ vs) env j = let e : suc (length vs) + j ≡ length vs + suc j = omega arith in ap (nth (pushed vs (v ∷ env))) e ∙ behind vs (v ∷ env) (suc j)

newest_are : (vs env : List Value) → args_of (pushed vs env) (newest (length vs)) ≡ vs
unfolding pushed
newest_are [] env = refl
newest_are (v ∷ vs) env =
    let e : length vs + zero ≡ length vs = omega arith in
    ap (λ w. w ∷ args_of (pushed vs (v ∷ env)) (newest (length vs))) (sym (ap (nth (pushed vs (v ∷ env))) e) ∙ behind vs (v ∷ env) zero)
    ∙ ap (λ ws. v ∷ ws) (newest_are vs (v ∷ env))

module _ (H : Heap) (t : Value) where
  count_items : (many i : ℕ) → length (items_from H t many i) ≡ many
  count_items zero i = refl
  count_items (suc many) i = ap suc (count_items many (suc i))

  reads_are : (many i slot : ℕ) (k : Look) (env : List Value) → nth env slot ≡ t → looked (reads many i slot k) env H ≡ looked k (pushed (items_from H t many i) env) H
  unfolding pushed
  reads_are zero i slot k env e = refl
  reads_are (suc many) i slot k env e =
      ap (λ o. looked (reads many (suc i) (suc slot) k) (or_nil (raw_get H o (known (integer (pos i)))) ∷ env) H) e
      ∙ reads_are many (suc i) (suc slot) k (item H t i ∷ env) e

  gives_read : (many : ℕ) (env : List Value) → nth env 0 ≡ t → looked (reads many 1 0 (gives (newest many))) env H ≡ done H (items_from H t many 1)
  gives_read many env e =
      reads_are many 1 0 (gives (newest many)) env e
      ∙ ap (λ n. done H (args_of (pushed (items_from H t many 1) env) (newest n))) (sym (count_items many 1))
      ∙ ap (done H) (newest_are (items_from H t many 1) env)

  -- one item more
  one_more : (many i : ℕ) → items_from H t (suc many) i ≡ items_from H t many i ++ item H t (many + i) ∷ []
  one_more zero i = let e : i ≡ zero + i = omega arith in ap (λ n. item H t n ∷ []) e
  one_more (suc many) i = ap (λ vs. item H t i ∷ vs) (one_more many (suc i)) ∙ let e : many + suc i ≡ suc many + i = omega arith in ap (λ n. item H t i ∷ (items_from H t many (suc i) ++ item H t n ∷ [])) e

-- the number is the second argument
module _ (f : List ℕ) (k : ℕ → Look) (vs : List Value) (H : Heap) where
  abbrev numbered : Look
  numbered = does look (read 1 ∷ []) (λ n. with_look (integer_argument f 2 n) (λ many. k (natural many)))

  abbrev first : Value → Look
  first t = elim (is_table (shape t)) [ true ↦ numbered | false ↦ refuses (wrong_type 1 f (codes "table") (shape t)) ]

  pub with_count : (id : TableId) (many : ℕ) → nth vs 0 ≡ object a_table id.0 → IsCounted f (shape (nth vs 1)) many → looked (with_number f k) vs H ≡ looked (k many) vs H
  with_count id many e c =
      ap (λ t. looked (first t) vs H) e ∙ ap (λ r. looked (with_look r (λ many. k (natural many))) vs H) c.read ∙ ap (λ n. looked (k n) vs H) c.many_is

  pub with_no_count : (id : TableId) (why : Refusal) → nth vs 0 ≡ object a_table id.0 → integer_argument f 2 (shape (nth vs 1)) ≡ Err (refusal_text why) →
      looked (with_number f k) vs H ≡ refused (refusal_text why)
  with_no_count id why e c = ap (λ t. looked (first t) vs H) e ∙ ap (λ r. looked (with_look r (λ many. k (natural many))) vs H) c

pub spread_is : (vs : List Value) (H : Heap) (id : TableId) {many n : ℕ} {seen : Shape} → nth vs 0 ≡ object a_table id.0 → seen ≡ shape (nth vs 1) → IsCounted (codes "spread") seen many → many ≡ n →
    looked spreads vs H ≡ done H (items_from H (object a_table id.0) n 1)
spread_is vs H id {many = many} e is c q =
    with_count (codes "spread") (λ many. reads many 1 0 (gives (newest many))) vs H id many e (subst (λ s. IsCounted (codes "spread") s many) is c)
    ∙ gives_read H (object a_table id.0) many vs e
    ∙ ap (λ many. done H (items_from H (object a_table id.0) many 1)) q

-- an item that is read goes behind those that were
module _ (W : Memory) (id : TableId) where
  pub item_read : (i : ℕ) (v : Kept) → Operates read_field W (Table id ∷ Int (pos i) ∷ []) W (v ∷ []) no_word → item (heap_of W) (object a_table id.0) i ≡ value W.strings v
  item_read i v o = ap (λ s. nth s.values 0) o.does

  -- and its shape is that of what was read
  pub item_shape : (i : ℕ) (v : Kept) (s : Shape) → Operates read_field W (Table id ∷ Int (pos i) ∷ []) W (v ∷ []) no_word → s ≡ shape (value W.strings v) → shape (item (heap_of W) (object a_table id.0) i) ≡ s
  item_shape i v s o is = ap shape (item_read i v o) ∙ sym is

  pub next_item : (i : ℕ) (vs : List Kept) (v : Kept) → map (value W.strings) vs ≡ items_from (heap_of W) (object a_table id.0) i 1 → Operates read_field W (Table id ∷ Int (pos (i + 1)) ∷ []) W (v ∷ []) no_word →
      map (value W.strings) (vs ++ v ∷ []) ≡ items_from (heap_of W) (object a_table id.0) (i + 1) 1
  next_item i vs v e o =
      let more : i + 1 ≡ suc i = omega arith in
      map_more vs ∙ ap (λ ws. ws ++ value W.strings v ∷ []) e
      ∙ ap (λ w. items_from (heap_of W) (object a_table id.0) i 1 ++ w ∷ []) (sym (item_read (i + 1) v o))
      ∙ sym (one_more (heap_of W) (object a_table id.0) i 1) ∙ ap (λ n. items_from (heap_of W) (object a_table id.0) n 1) (sym more)
    where
      map_more : (vs : List Kept) → map (value W.strings) (vs ++ v ∷ []) ≡ map (value W.strings) vs ++ value W.strings v ∷ []
      map_more [] = refl
      map_more (w ∷ vs) = ap (λ ws. value W.strings w ∷ ws) (map_more vs)

-- the shapes of the items from 0 on, one item more
pub next_shape : (W : Memory) (id : TableId) (i : ℕ) (v : Kept) → Operates read_field W (Table id ∷ Int (pos i) ∷ []) W (v ∷ []) no_word →
    map shape (items_from (heap_of W) (object a_table id.0) (i + 1) 0) ≡ map shape (items_from (heap_of W) (object a_table id.0) i 0) ++ shape (value W.strings v) ∷ []
next_shape W id i v o =
    let H = heap_of W in
    let t = object a_table id.0 in
    let more : i + 1 ≡ suc i = omega arith in
    let from : i + 0 ≡ i = omega arith in
    ap (λ n. map shape (items_from H t n 0)) more
    ∙ ap (map shape) (one_more H t i 0 ∙ ap (λ n. items_from H t i 0 ++ item H t n ∷ []) from ∙ ap (λ w. items_from H t i 0 ++ w ∷ []) (item_read W id i v o))
    ∙ map_last (items_from H t i 0)
  where
    map_last : (vs : List Value) → map shape (vs ++ value W.strings v ∷ []) ≡ map shape vs ++ shape (value W.strings v) ∷ []
    map_last [] = refl
    map_last (w ∷ vs) = ap (λ ss. shape w ∷ ss) (map_last vs)
