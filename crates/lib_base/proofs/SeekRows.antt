-- The row that gives a match in a new table.
use Rattle.std.proofs.Common.{◌≡◌, ℕ, suc, ◌+◌, ◌-◌, ◌<◌, List, [], ◌∷◌, ◌++◌, length, map, Option, Some, None, refl, ap, sym, ◌∙◌, arith, Ok, Err}
use Rattle.std.specs.Prelude.{ℤ, pos, codes}
use Rattle.std.proofs.lemmas.List.{length-map}
use Rattle.int_core.specs.Heap.{Heap}
use Rattle.int_core.specs.Rows.{set}
use Rattle.int_core.specs.Value.{Plain, Value, known, integer, string, Shape, shape, object, a_table, table_values, nth}
use Rattle.library_rows.specs.Arguments.{argument}
use Rattle.library_rows.specs.Base.{seek}
use Rattle.library_rows.specs.Look.{Look, read, written, gives, Done, done, looked}
use Rattle.library_rows.specs.Searches.{match_rows, numbered, seeks, writes}
use Rattle.library_arguments.specs.declared.refusal.Fault.{Fault}
use Rattle.library_arguments.specs.declared.refusal.Fault.TheVariants.{Refused, Memory as NoMemory}
use Rattle.lib_string.specs.Searches.{gives_values, IsSought}
use Rattle.lib_string.specs.declared.seeking.Sought.{Sought}
use Rattle.table_core.specs.Table.{Contents}
use Rattle.table_core.specs.declared.value.TableId.{TableId}
use Rattle.table_core.specs.declared.value.Value.{Value as Kept}
use Rattle.lua_heap.specs.declared.world.World.{World as Memory}
use Rattle.lua_heap.specs.Changes.{AddsTable}
use Rattle.lua_heap.specs.Reading.{row, value}
use Rattle.pure_functions.specs.Answers.{Answers, heap_of}
use Rattle.pure_functions.proofs.QuickRows.{argument_is}
use Rattle.lib_base.specs.Numbering.{numbered_from, numbered_rows}
use Rattle.lib_base.proofs.PackRows.{added_rows, last, last_is, set_last, with_rows}

-- what the row sees of its first arguments is what its function takes from all of them

pub seek_sees : (vs : List Value) (H : Heap) → looked seek vs H ≡ looked (seeks (map shape vs)) vs H
seek_sees vs H =
    ap (λ a. by a (s 1) (s 2) (s 3) (s 4)) (sym (argument_is vs 0))
    ∙ ap (λ b. by (t 1) b (s 2) (s 3) (s 4)) (sym (argument_is vs 1))
    ∙ ap (λ c. by (t 1) (t 2) c (s 3) (s 4)) (sym (argument_is vs 2))
    ∙ ap (λ d. by (t 1) (t 2) (t 3) d (s 4)) (sym (argument_is vs 3))
    ∙ ap (λ e. by (t 1) (t 2) (t 3) (t 4) e) (sym (argument_is vs 4))
  where
    s : ℕ → Shape
    s i = shape (nth vs i)

    t : ℕ → Shape
    t i = argument (map shape vs) i

    by : Shape → Shape → Shape → Shape → Shape → Done
    by a b c d e = looked (seeks (a ∷ b ∷ c ∷ d ∷ e ∷ [])) vs H

-- it sees no more than the first five
pub seeks_first : (vs : List Value) (a b c d e : Shape) → a ≡ shape (nth vs 0) → b ≡ shape (nth vs 1) → c ≡ shape (nth vs 2) → d ≡ shape (nth vs 3) → e ≡ shape (nth vs 4)
    → seeks (a ∷ b ∷ c ∷ d ∷ e ∷ []) ≡ seeks (map shape vs)
seeks_first vs a b c d e p q r s t =
    ap (λ x. by x b c d e) (p ∙ sym (argument_is vs 0))
    ∙ ap (λ x. by (seen 1) x c d e) (q ∙ sym (argument_is vs 1))
    ∙ ap (λ x. by (seen 1) (seen 2) x d e) (r ∙ sym (argument_is vs 2))
    ∙ ap (λ x. by (seen 1) (seen 2) (seen 3) x e) (s ∙ sym (argument_is vs 3))
    ∙ ap (λ x. by (seen 1) (seen 2) (seen 3) (seen 4) x) (t ∙ sym (argument_is vs 4))
  where
    seen : ℕ → Shape
    seen i = argument (map shape vs) i

    by : Shape → Shape → Shape → Shape → Shape → Look
    by a b c d e = seeks (a ∷ b ∷ c ∷ d ∷ e ∷ [])

-- rows written into a new table

put : List (Plain × Plain) → List (Value × Value) → List (Value × Value)
put [] rows = rows
put (r ∷ rs) rows = put rs (set table_values rows (known r.0) (known r.1))

put_numbered : (ps : List Plain) (i : ℕ) (more : List (Plain × Plain)) (rows : List (Value × Value)) → put (numbered i ps ++ more) rows ≡ put more (numbered_from i (map known ps) rows)
unfolding put
put_numbered [] i more rows = refl
put_numbered (p ∷ ps) i more rows = put_numbered ps (suc i) more (set table_values rows (known (integer (pos i))) (known p))

put_match : (all : Plain) (ps : List Plain) → put (match_rows all ps) [] ≡ numbered_rows 0 (map known (all ∷ ps))
unfolding put
put_match all ps =
    let l = length-map ps known in
    let e : length ps ≡ length (known all ∷ map known ps) + 0 - 1 = omega (arith, l) in
    put_numbered ps 1 ((string (codes "n"), integer (pos (length ps))) ∷ []) (set table_values [] (known (integer (pos 0))) (known all))
    ∙ ap (λ n. set table_values (numbered_from 0 (map known (all ∷ ps)) []) (known (string (codes "n"))) (known (integer (pos n)))) e

module _ (H : Heap) where
  writes_are : (rs : List (Plain × Plain)) (rows : List (Value × Value)) (k : Look) (env : List Value) → looked (writes rs k) (last H ∷ env) (with_rows H rows) ≡ looked k (last H ∷ env) (with_rows H (put rs rows))
  unfolding put
  writes_are [] rows k env = refl
  writes_are (r ∷ rs) rows k env =
      ap (λ G. looked (writes rs k) (last H ∷ env) G) (set_last H rows (known r.0) (known r.1))
      ∙ writes_are rs (set table_values rows (known r.0) (known r.1)) k env

  gives_match : (start next : ℤ) (all : Plain) (ps : List Plain) (env : List Value) →
      looked (gives_values start next (all ∷ ps)) env H ≡ done (with_rows H (numbered_rows 0 (map known (all ∷ ps)))) (known (integer start) ∷ known (integer next) ∷ last H ∷ [])
  gives_match start next all ps env =
      writes_are (match_rows all ps) [] (gives (written (integer start) ∷ written (integer next) ∷ read 0 ∷ [])) env
      ∙ ap (λ rows. done (with_rows H rows) (known (integer start) ∷ known (integer next) ∷ last H ∷ [])) (put_match all ps)

pub match_told : (W V : Memory) (t : Contents) (id : TableId) (start next : ℤ) (ps : List Plain) → 0 < length ps → AddsTable W V t → id.0 ≡ length W.tables.objects →
    map (row W.strings) t.rows ≡ numbered_rows 0 (map known ps) → t.metatable ≡ None → (env : List Value) →
    looked (gives_values start next ps) env (heap_of W) ≡ done (heap_of V) (known (integer start) ∷ known (integer next) ∷ object a_table id.0 ∷ [])
match_told W V t id start next [] l added i r m env = absurd (omega (arith, l))
match_told W V t id start next (all ∷ ps) l added i r m env =
    gives_match (heap_of W) start next all ps env
    ∙ ap (λ v. done (with_rows (heap_of W) (numbered_rows 0 (map known (all ∷ ps)))) (known (integer start) ∷ known (integer next) ∷ v ∷ [])) (last_is W id i)
    ∙ ap (λ H. done H (known (integer start) ∷ known (integer next) ∷ object a_table id.0 ∷ [])) (sym (added_rows W V t (numbered_rows 0 (map known (all ∷ ps))) added r m))

-- what is no match

pub empty : {A : Type 0} (xs : List A) → length xs ≡ 0 → xs ≡ []
empty [] e = refl
empty (x ∷ xs) e = absurd (omega (arith, e))

pub no_hit : (row : Look) (o : Option Sought) → ((s : Sought) → o ≡ Some s → ⊥) → IsSought (Ok o) row → row ≡ gives []
no_hit row None h e = e
no_hit row (Some s) h e = absurd (h s refl)

pub seek_faults : (W V : Memory) (arguments : List Kept) (fault : Fault) → IsSought (Err fault) (seeks (map shape (map (value W.strings) arguments))) → Answers seek arguments W V (Err fault)
seek_faults W V arguments (Refused why) h =
    seek_sees (map (value W.strings) arguments) (heap_of W) ∙ ap (λ l. looked l (map (value W.strings) arguments) (heap_of W)) h
seek_faults W V arguments NoMemory h = tt
