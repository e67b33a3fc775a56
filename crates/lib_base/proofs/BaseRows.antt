-- Rows of the base library over the values at hand.
use Rattle.std.proofs.Common.{◌≡◌, ℕ, zero, suc, List, [], ◌∷◌, ◌++◌, map, length, drop, Option, Some, None, Ok, Bool, true, false, refl, ap, sym, ◌∙◌, arith}
use Rattle.std.specs.Prelude.{◌-◌, ℤ, pos, negsuc, nat_lt, codes}
use Rattle.std.proofs.lemmas.List.{length-map}
use Rattle.int_core.specs.Heap.{Heap}
use Rattle.int_core.specs.Value.{Value, known, nil, integer, string, holds, Shape, shape, nth, object, a_table}
use Rattle.library_rows.specs.Arguments.{bad_argument, integer_argument, is_absent, is_table, plain_of, with_look, wrong_type}
use Rattle.library_rows.specs.Base.{asserts, raw_length, raw_set, selects, selected, is_count, size_of}
use Rattle.library_rows.specs.Look.{read, written, Step, does_op, Look, gives, gives_all, refuses, raises, count, does, Done, done, refused, raised, looked, look, border_of, write_field}
use Rattle.table_core.specs.declared.value.TableId.{TableId}
use Rattle.table_core.specs.declared.value.StrId.{StrId}
use Rattle.table_core.specs.declared.value.Value.{Value as Kept}
use Rattle.table_core.specs.declared.value.Value.TheVariants.{Nil, Bool as Boolean, Int, Str, Prim, Table, Func, Coro}
use Rattle.lua_heap.specs.declared.world.World.{World as Memory}
use Rattle.lua_heap.specs.Reading.{value}
use Rattle.lib_base.specs.Raw.{Operates, told_border}
use Rattle.pure_functions.specs.Answers.{heap_of}
use Rattle.lib_base.specs.Select.{selected_place}

module _ (vs : List Value) (H : Heap) where
  pub raw_set_of_nil : (id : TableId) → nth vs 0 ≡ object a_table id.0 → nth vs 1 ≡ known nil → looked raw_set vs H ≡ refused (codes "table index is nil")
  raw_set_of_nil id e f = ap (λ t. looked (first t) vs H) e ∙ ap (λ k. looked (keyed (shape k)) vs H) f
    where
      keyed : Shape → Look
      keyed s = elim (is_absent s) [ true ↦ refuses (codes "table index is nil") | false ↦ does write_field (read 0 ∷ read 1 ∷ read 2 ∷ []) (λ _. gives (read 0 ∷ [])) ]

      first : Value → Look
      first t = elim (is_table (shape t)) [ true ↦ does look (read 1 ∷ []) keyed | false ↦ refuses (wrong_type 1 (codes "rawset") (codes "table") (shape t)) ]

  pub no_length : (texts : List (List ℕ)) (v : Kept) → nth vs 0 ≡ value texts v → ((id : TableId) → v ≡ Table id → ⊥) → ((id : StrId) → v ≡ Str id → ⊥) →
      looked raw_length vs H ≡ refused (wrong_type 1 (codes "rawlen") (codes "table or string") (shape (nth vs 0)))
  no_length texts v e t s = ap (λ v. looked (size_of (shape v)) vs H) e ∙ by v t s ∙ ap (λ v. refused (wrong_type 1 (codes "rawlen") (codes "table or string") (shape v))) (sym e)
    where
      by : (v : Kept) → ((id : TableId) → v ≡ Table id → ⊥) → ((id : StrId) → v ≡ Str id → ⊥) →
          looked (size_of (shape (value texts v))) vs H ≡ refused (wrong_type 1 (codes "rawlen") (codes "table or string") (shape (value texts v)))
      by Nil t s = refl
      by (Boolean b) t s = refl
      by (Int n) t s = refl
      by (Str id) t s = absurd (s id refl)
      by (Prim n) t s = refl
      by (Table id) t s = absurd (t id refl)
      by (Func id) t s = refl
      by (Coro id) t s = refl

  pub assert_fails : holds (shape (nth vs 0)) ≡ false → nth vs 1 ≡ known nil → looked asserts vs H ≡ raised H (known (string (codes "assertion failed!")))
  assert_fails e f = ap (λ b. looked (first b) vs H) e ∙ ap (λ v. looked (message (shape v)) vs H) f
    where
      message : Shape → Look
      message m = elim (is_absent m) [ true ↦ raises (written (string (codes "assertion failed!"))) | false ↦ raises (read 1) ]

      first : Bool → Look
      first b = elim b [ true ↦ gives_all [] 0 | false ↦ does look (read 1 ∷ []) message ]

  -- `select`

  abbrev counts : Look
  counts = count 1 (λ many. gives (written (integer (pos many)) ∷ []))

  abbrev asked : Bool → Look
  asked b = elim b [ true ↦ counts | false ↦ with_look (integer_argument (codes "select") 1 (shape (nth vs 0))) selected ]

  pub select_counts : is_count (shape (nth vs 0)) ≡ true → looked selects vs H ≡ done H (known (integer (pos (length (drop 1 vs)))) ∷ [])
  select_counts e = ap (λ b. looked (asked b) vs H) e

  pub selected_told : Option ℕ → Done
  selected_told None = refused (bad_argument 1 (codes "select") (codes "index out of range"))
  selected_told (Some at) = done H (drop at vs)

  selected_is : (n : ℤ) → looked (selected n) vs H ≡ selected_told (selected_place n (length (drop 1 vs)))
  unfolding selected_told
  selected_is (pos zero) = refl
  selected_is (pos (suc n)) = refl
  selected_is (negsuc n) = by (nat_lt n (length (drop 1 vs)))
    where
      by : (b : Bool) → looked (elim b [ true ↦ gives_all [] (length (drop 1 vs) - n) | false ↦ refuses (bad_argument 1 (codes "select") (codes "index out of range")) ]) vs H
          ≡ selected_told (elim b [ true ↦ Some (length (drop 1 vs) - n) | false ↦ None ])
      by true = refl
      by false = refl

  select_from : (n : ℤ) → is_count (shape (nth vs 0)) ≡ false → integer_argument (codes "select") 1 (shape (nth vs 0)) ≡ Ok n →
      looked selects vs H ≡ selected_told (selected_place n (length (drop 1 vs)))
  select_from n e f = ap (λ b. looked (asked b) vs H) e ∙ ap (λ r. looked (with_look r selected) vs H) f ∙ selected_is n

  pub select_none : (n : ℤ) → is_count (shape (nth vs 0)) ≡ false → integer_argument (codes "select") 1 (shape (nth vs 0)) ≡ Ok n → selected_place n (length (drop 1 vs)) ≡ None →
      looked selects vs H ≡ refused (bad_argument 1 (codes "select") (codes "index out of range"))
  unfolding selected_told
  select_none n e f g = select_from n e f ∙ ap selected_told g

  pub select_some : (n : ℤ) (at : ℕ) → is_count (shape (nth vs 0)) ≡ false → integer_argument (codes "select") 1 (shape (nth vs 0)) ≡ Ok n → selected_place n (length (drop 1 vs)) ≡ Some at →
      looked selects vs H ≡ done H (drop at vs)
  unfolding selected_told
  select_some n at e f g = select_from n e f ∙ ap selected_told g

pub behind_first : {A B : Type 0} (f : A → B) (xs : List A) → length (drop 1 (map f xs)) ≡ length xs - 1
behind_first f [] = refl
behind_first f (x ∷ xs) = let e = length-map xs f in omega (arith, e)

pub table_length : (W : Memory) (vs : List Value) (id : TableId) (n : Option ℤ) → nth vs 0 ≡ object a_table id.0 → Operates border_of W (Table id ∷ []) W [] (told_border n) →
    looked raw_length vs (heap_of W) ≡ done (heap_of W) (known (plain_of (told_border n)) ∷ [])
table_length W vs id n e o =
    ap (λ v. looked (size_of (shape v)) vs (heap_of W)) e ∙ ap (λ v. after (does_op border_of (heap_of W) (v ∷ []))) e ∙ ap after o.does
  where
    after : Step → Done
    after s = looked (gives (written (plain_of s.told) ∷ [])) (s.values ++ vs) s.heap
