-- The row of a replacement.
use Rattle.std.proofs.Common.{◌≡◌, ℕ, ◌-◌, ◌≤◌, List, [], ◌∷◌, ◌++◌, length, map, Result, Ok, Err, Bool, true, false, refl, ap, sym, ◌∙◌, arith}
use Rattle.std.specs.Prelude.{cond, codes, ◌==◌, ◌&&◌, nat_le}
use Rattle.std.specs.List.{list_all, list_any}
use Rattle.std.proofs.lemmas.Bool.{or_parts}
use Rattle.int_core.specs.Heap.{Heap}
use Rattle.int_core.specs.Value.{Value, known, string, Shape, shape, nth, object, a_table, greatest_string}
use Rattle.library_arguments.specs.Answers.{IsAnswer, AnswersAreDone, RefusalsAreDone, results_of}
use Rattle.library_arguments.specs.Refusals.{refusal_text}
use Rattle.library_arguments.specs.declared.refusal.Fault.{Fault}
use Rattle.library_arguments.specs.declared.refusal.Fault.TheVariants.{Refused, Memory}
use Rattle.library_arguments.specs.declared.results.Results.{Results}
use Rattle.library_rows.specs.Arguments.{is_table, one, text_argument, with, with_look, wrong_type}
use Rattle.library_rows.specs.Base.{expand, reads_shapes}
use Rattle.library_rows.specs.Look.{read, written, Look, look, gives, refuses, does, done, refused, looked}
use Rattle.library_rows.specs.Plainly.{Outcome, results, error, too_large, fits_length, told_as, done_as}
use Rattle.library_rows.specs.Formats.{onto, then_ok}
use Rattle.library_rows.specs.Searches.{expanded, expansion}
use Rattle.table_core.specs.declared.value.TableId.{TableId}
use Rattle.pure_functions.proofs.QuickRows.{by_limit, within}
use Rattle.lib_base.specs.Expanding.{IsExpanded, is_escape}
use Rattle.lib_base.specs.Lists.{items_from}
use Rattle.lib_base.proofs.JoinRows.{reads_shapes_are}
use Rattle.library_rows.proofs.Plain.{written_out}

told_is : (o : Outcome) (env : List Value) (H : Heap) → looked (told_as o) env H ≡ done_as H o
told_is (error text) env H = refl
told_is (results ps) env H = by (list_all fits_length ps)
  where
    by : (b : Bool) → looked (cond b (gives (map written ps)) (refuses too_large)) env H ≡ cond b (done H (map known ps)) (refused too_large)
    by true = ap (done H) (written_out env ps)
    by false = refl

-- A replacement without a `%` stands for itself.

abbrev Made : Type 0
Made = Result (List ℕ) (List ℕ)

unescaped : (ss : List Shape) (text : List ℕ) (room : ℕ) → list_any is_escape text ≡ false → length text ≤ room → expanded ss false text room ≡ Ok text
unescaped ss [] room none fits = refl
unescaped ss (b ∷ text) room none fits =
    let parts = or_parts (b == 37) (list_any is_escape text) none in
    let enough : nat_le 1 room ≡ true = within 1 room (omega (arith, fits)) in
    let rest : expanded ss false text (room - 1) ≡ Ok text = unescaped ss text (room - 1) parts.1 (omega (arith, fits)) in
    ap (λ t. elim t as (λ _. Made) [ true ↦ expanded ss true text room | false ↦ onto room (b ∷ []) (λ left. expanded ss false text left) ]) parts.0
    ∙ ap (λ t. elim t as (λ _. Made) [ true ↦ then_ok (expanded ss false text (room - 1)) (λ more. Ok ((b ∷ []) ++ more)) | false ↦ Err too_large ]) enough
    ∙ ap (λ r. then_ok {A = List ℕ} {B = List ℕ} r (λ more. Ok ((b ∷ []) ++ more))) rest

unescaped_expansion : (ss : List Shape) (text : List ℕ) → list_any is_escape text ≡ false → length text ≤ greatest_string → expansion text ss ≡ results (string text ∷ [])
unescaped_expansion ss text none short = ap (λ r. with r (λ bytes. one (string bytes))) (unescaped ss text greatest_string none short)

module _ (vs : List Value) (H : Heap) where
  abbrev with_table : List ℕ → Bool → Look
  with_table text b = elim b [
    | true ↦ reads_shapes 10 0 1 (λ ss. told_as (expansion text ss))
    | false ↦ refuses (wrong_type 2 (codes "expand") (codes "table") (shape (nth vs 1)))
  ]

  abbrev with_text : Result (List ℕ) (List ℕ) → Look
  with_text r = with_look r (λ text. does look (read 1 ∷ []) (λ c. elim (is_table c) [
    | true ↦ reads_shapes 10 0 1 (λ ss. told_as (expansion text ss))
    | false ↦ refuses (wrong_type 2 (codes "expand") (codes "table") c)
  ]))

  pub expand_no_text : (why : List ℕ) → text_argument (codes "expand") 1 (shape (nth vs 0)) ≡ Err why → looked expand vs H ≡ refused why
  expand_no_text why e = ap (λ r. looked (with_text r) vs H) e

  module _ (text : List ℕ) (e : text_argument (codes "expand") 1 (shape (nth vs 0)) ≡ Ok text) where
    pub expand_no_table : is_table (shape (nth vs 1)) ≡ false → looked expand vs H ≡ refused (wrong_type 2 (codes "expand") (codes "table") (shape (nth vs 1)))
    expand_no_table f = ap (λ r. looked (with_text r) vs H) e ∙ ap (λ b. looked (with_table text b) vs H) f

    module _ (id : TableId) (f : nth vs 1 ≡ object a_table id.0) where
      expand_is : looked expand vs H ≡ done_as H (expansion text (map shape (items_from H (object a_table id.0) 10 0)))
      expand_is =
          ap (λ r. looked (with_text r) vs H) e
          ∙ ap (λ c. looked (with_table text (is_table (shape c))) vs H) f
          ∙ reads_shapes_are H (object a_table id.0) 10 0 1 (λ ss. told_as (expansion text ss)) vs f
          ∙ told_is (expansion text (map shape (items_from H (object a_table id.0) 10 0))) _ H

      pub expanded_is : AnswersAreDone → RefusalsAreDone → (r : Result Results Fault) → IsAnswer r (expansion text (map shape (items_from H (object a_table id.0) 10 0))) → IsExpanded vs H r
      expanded_is answers refusals (Ok given) h = let a = answers (expansion text (map shape (items_from H (object a_table id.0) 10 0))) (results_of given) H h in (expand_is ∙ a.0, a.1)
      expanded_is answers refusals (Err (Refused why)) h = expand_is ∙ refusals (expansion text (map shape (items_from H (object a_table id.0) 10 0))) (refusal_text why) H h
      expanded_is answers refusals (Err Memory) h = tt

      pub unescaped_is : nth vs 0 ≡ known (string text) → list_any is_escape text ≡ false → length text ≤ greatest_string → looked expand vs H ≡ done H (nth vs 0 ∷ [])
      unescaped_is own none short =
          expand_is ∙ ap (done_as H) (unescaped_expansion (map shape (items_from H (object a_table id.0) 10 0)) text none short)
          ∙ ap (λ b. by_limit H (string text ∷ []) (b && true)) (within (length text) greatest_string short) ∙ ap (λ v. done H (v ∷ [])) (sym own)
