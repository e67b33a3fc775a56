-- The items of a table joined, one after another.
use Rattle.std.proofs.Common.{◌≡◌, ℕ, zero, suc, ◌+◌, ◌-◌, ◌<◌, ◌≤◌, List, [], ◌∷◌, ◌++◌, map, length, Result, Ok, Err, true, refl, ap, sym, subst, ◌∙◌, arith}
use Rattle.std.specs.Prelude.{pos, cond, codes, ◌&&◌, nat_le}
use Rattle.std.proofs.lemmas.Bool.Decides.{nat_tests}
use Rattle.int_core.specs.Heap.{Heap, raw_get}
use Rattle.int_core.specs.Value.{Value, known, integer, string, Shape, shape, nth, object, a_table, greatest_string}
use Rattle.library_rows.specs.Arguments.{one, text_argument, with}
use Rattle.library_rows.specs.Base.{joined, joined_text, joins, reads_shapes}
use Rattle.library_rows.specs.Formats.{onto, then_ok}
use Rattle.library_rows.specs.Look.{Look, or_nil, written, gives, refuses, Done, done, refused, looked}
use Rattle.library_rows.specs.Plainly.{told_as, too_large}
use Rattle.text_functions.proofs.Pieces.{IsSoFar, Made, after, at_first, piece_fits, piece_is_refused, all_there}
use Rattle.list_laws.proofs.Items.{some_same}
use Rattle.library_arguments.specs.Refusals.{refusal_text}
use Rattle.library_arguments.specs.declared.refusal.Fault.{Fault}
use Rattle.library_arguments.specs.declared.refusal.Fault.TheVariants.{Refused, Memory}
use Rattle.text_functions.specs.Made.{IsFaultOf as IsNoRoom}
use Rattle.text_functions.specs.declared.fault.StringFault.{StringFault}
use Rattle.text_functions.specs.declared.fault.StringFault.TheVariants.{TooLarge, Memory as NoMemory}
use Rattle.pure_functions.specs.Answers.{Answers, heap_of}
use Rattle.lib_base.specs.Lists.{item, items_from, IsCounted, IsFaultOf, IsText}
use Rattle.lib_base.proofs.ListRows.{pushed, with_count}
use Rattle.table_core.specs.declared.value.TableId.{TableId}
use Rattle.table_core.specs.declared.value.Value.{Value as Kept}
use Rattle.lua_heap.specs.declared.world.World.{World as InMemory}
use Rattle.lua_heap.specs.Reading.{value}

module _ (H : Heap) (t : Value) where
  abbrev shapes : ℕ → ℕ → List Shape
  shapes many i = map shape (items_from H t many i)

  -- what is joined of so many items, and what is left
  pub record IsJoined (many i : ℕ) (text : List ℕ) : Type 0 where
    pub within : i ≤ many
    pub so_far : IsSoFar (joined_text (shapes many 1) greatest_string) text (λ room. joined_text (shapes (many - i) (suc i)) room)

  pub none_joined : (many : ℕ) → IsJoined many 0 []
  none_joined many =
      let e : many ≡ many - 0 = omega arith in
      let so : IsSoFar (joined_text (shapes many 1) greatest_string) [] (λ room. joined_text (shapes many 1) room) = at_first (λ room. joined_text (shapes many 1) room) in
      record { within = omega arith; so_far = subst (λ n. IsSoFar (joined_text (shapes many 1) greatest_string) [] (λ room. joined_text (shapes n 1) room)) e so }

  module _ (many i : ℕ) (text : List ℕ) (j : IsJoined many i text) (h : i < many) where
    abbrev rest : ℕ
    rest = many - (i + 1)

    -- the next item, and those behind it
    next_is : IsSoFar (joined_text (shapes many 1) greatest_string) text (λ room. joined_text (shape (item H t (i + 1)) ∷ shapes rest (suc (i + 1))) room)
    next_is =
        let e : many - i ≡ suc rest = omega (arith, h) in
        let f : suc i ≡ i + 1 = omega arith in
        subst (λ n. IsSoFar (joined_text (shapes many 1) greatest_string) text (λ room. joined_text (shapes (suc rest) n) room)) f
        (subst (λ n. IsSoFar (joined_text (shapes many 1) greatest_string) text (λ room. joined_text (shapes n (suc i)) room)) e j.so_far)

    abbrev left_of : Result (List ℕ) (List ℕ) → Made
    left_of r = after text (then_ok r (λ piece. onto (greatest_string - length text) piece (λ left. joined_text (shapes rest (suc (i + 1))) left)))

    pub not_read : (why : List ℕ) → text_argument (codes "join") 1 (shape (item H t (i + 1))) ≡ Err why → joined_text (shapes many 1) greatest_string ≡ Err why
    not_read why e = next_is.whole_is ∙ ap left_of e

    with_piece : (piece : List ℕ) → text_argument (codes "join") 1 (shape (item H t (i + 1))) ≡ Ok piece →
        IsSoFar (joined_text (shapes many 1) greatest_string) text (λ room. onto room piece (λ left. joined_text (shapes rest (suc (i + 1))) left))
    with_piece piece e = record { short = next_is.short; whole_is = next_is.whole_is ∙ ap left_of e }

    pub piece_added : (piece : List ℕ) → text_argument (codes "join") 1 (shape (item H t (i + 1))) ≡ Ok piece → length text + length piece ≤ greatest_string → IsJoined many (i + 1) (text ++ piece)
    piece_added piece e fits = record { within = omega (arith, h); so_far = piece_fits _ text piece (λ room. joined_text (shapes rest (suc (i + 1))) room) (with_piece piece e) fits }

    pub no_room : (piece : List ℕ) → text_argument (codes "join") 1 (shape (item H t (i + 1))) ≡ Ok piece → greatest_string < length text + length piece → joined_text (shapes many 1) greatest_string ≡ Err too_large
    no_room piece e large = piece_is_refused _ text piece (λ room. joined_text (shapes rest (suc (i + 1))) room) (with_piece piece e) large

  pub all_joined : (many i : ℕ) (text : List ℕ) → IsJoined many i text → many ≤ i → joined_text (shapes many 1) greatest_string ≡ Ok text
  all_joined many i text j h =
      let w = j.within in
      let e : many - i ≡ zero = omega (arith, h, w) in
      all_there _ text (subst (λ n. IsSoFar (joined_text (shapes many 1) greatest_string) text (λ room. joined_text (shapes n (suc i)) room)) e j.so_far)

  -- the rows

  pub reads_shapes_are : (many i slot : ℕ) (k : List Shape → Look) (env : List Value) → nth env slot ≡ t →
      looked (reads_shapes many i slot k) env H ≡ looked (k (shapes many i)) (pushed (items_from H t many i) env) H
  unfolding pushed
  reads_shapes_are zero i slot k env e = refl
  reads_shapes_are (suc many) i slot k env e =
      ap (λ o. after_item (or_nil (raw_get H o (known (integer (pos i)))))) e
      ∙ reads_shapes_are many (suc i) (suc slot) (λ ss. k (shape (item H t i) ∷ ss)) (item H t i ∷ env) e
    where
      after_item : Value → Done
      after_item v = looked (reads_shapes many (suc i) (suc slot) (λ ss. k (shape v ∷ ss))) (v ∷ env) H

-- a piece that is not put behind the others
pub not_pushed : (why : StringFault) (fault : Fault) (len : ℕ) (told : Result (List ℕ) (List ℕ)) → IsFaultOf why fault → IsNoRoom len {A = Unit {0}} (Err why) → (greatest_string < len → told ≡ Err too_large) → IsText (Err fault) told
not_pushed TooLarge (Refused w) len told f h k = let e = some_same (refusal_text w) too_large f in k h ∙ ap (λ text. Err text) (sym e)
not_pushed TooLarge Memory len told f h k = tt
not_pushed NoMemory (Refused w) len told f h k = absurd (cc)
not_pushed NoMemory Memory len told f h k = tt

pub joined_told : (ss : List Shape) (text : List ℕ) (env : List Value) (H : Heap) → joined_text ss greatest_string ≡ Ok text → length text ≤ greatest_string → looked (told_as (joined ss)) env H ≡ done H (known (string text) ∷ [])
joined_told ss text env H e h =
    ap (λ r. looked (told_as (with r (λ text. one (string text)))) env H) e
    ∙ ap (λ b. looked (cond (b && true) (gives (written (string text) ∷ [])) (refuses too_large)) env H) (within (length text) greatest_string h)
  where
    within : (m n : ℕ) → m ≤ n → nat_le m n ≡ true
    within m n h = grind (arith, nat_tests)

module _ (vs : List Value) (H : Heap) (id : TableId) (many : ℕ) (e : nth vs 0 ≡ object a_table id.0) (c : IsCounted (codes "join") (shape (nth vs 1)) many) where
  to_items : looked joins vs H ≡ looked (told_as (joined (map shape (items_from H (object a_table id.0) many 1)))) (pushed (items_from H (object a_table id.0) many 1) vs) H
  to_items =
      with_count (codes "join") (λ many. reads_shapes many 1 0 (λ ss. told_as (joined ss))) vs H id many e c
      ∙ reads_shapes_are H (object a_table id.0) many 1 0 (λ ss. told_as (joined ss)) vs e

  pub join_is : (text : List ℕ) → joined_text (map shape (items_from H (object a_table id.0) many 1)) greatest_string ≡ Ok text → length text ≤ greatest_string → looked joins vs H ≡ done H (known (string text) ∷ [])
  join_is text f h = to_items ∙ joined_told (map shape (items_from H (object a_table id.0) many 1)) text (pushed (items_from H (object a_table id.0) many 1) vs) H f h

  pub join_fails : (why : List ℕ) → joined_text (map shape (items_from H (object a_table id.0) many 1)) greatest_string ≡ Err why → looked joins vs H ≡ refused why
  join_fails why f =
      to_items ∙ ap (λ r. looked (told_as (with r (λ text. one (string text)))) (pushed (items_from H (object a_table id.0) many 1) vs) H) f

pub join_faults : (W V : InMemory) (arguments : List Kept) (id : TableId) (many : ℕ) → nth (map (value W.strings) arguments) 0 ≡ object a_table id.0
    → IsCounted (codes "join") (shape (nth (map (value W.strings) arguments) 1)) many → (fault : Fault)
    → IsText (Err fault) (joined_text (map shape (items_from (heap_of W) (object a_table id.0) many 1)) greatest_string) → Answers joins arguments W V (Err fault)
join_faults W V arguments id many e c (Refused why) h = join_fails (map (value W.strings) arguments) (heap_of W) id many e c (refusal_text why) h
join_faults W V arguments id many e c Memory h = tt
