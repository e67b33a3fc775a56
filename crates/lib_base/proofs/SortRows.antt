-- The row that sorts, and what it sorts.
use Rattle.std.proofs.Common.{◌≡◌, ℕ, zero, suc, ◌+◌, ◌<◌, ◌≤◌, List, [], ◌∷◌, ◌++◌, map, length, take, drop, Bool, true, false, refl, ap, sym, subst, ◌∙◌, arith}
use Rattle.std.specs.Prelude.{pos, codes, ◌&&◌, nat_le, slice_get, unwrap_or, Some, Err}
use Rattle.std.specs.List.{AllByRecursion, list_all}
use Rattle.std.specs.List.Sorted.{IsPermutation, IsSortedBy}
use Rattle.std.specs.Cmp.Lexicographic.{slice_cmp}
use Rattle.std.specs.Ordering.{is_lt, int_cmp, nat_cmp}
use Rattle.std.proofs.lemmas.Bool.Decides.{nat_tests}
use Rattle.std.proofs.lemmas.List.{drop_all, length-map, take_all}
use Rattle.list_laws.proofs.Items.{append_nil}
use Rattle.std.proofs.lemmas.List.Elements.{All-from_recursion, recursion_from_All}
use Rattle.std.proofs.lemmas.List.Sorted.{All-permutation, IsPermutation-map}
use Rattle.int_core.specs.Heap.{Heap, raw_get}
use Rattle.int_core.specs.Value.{Plain, nil, integer, string, Value, known, object, a_table, a_coroutine, Shape, shape, nth, greatest_string}
use Rattle.library_rows.specs.Arguments.{bad_argument, is_absent, is_table, plain_of, wrong_type}
use Rattle.library_rows.specs.Base.{can_be_sorted, is_string, reads_shapes, sorted, sorts, sorts_shapes, told_number, writes_sorted}
use Rattle.library_rows.specs.Base as row
use Rattle.library_rows.specs.Look.{read, border_in, border_told, put_field, border_of, look, Look, refuses, does, done, refused, looked}
use Rattle.library_rows.specs.Plainly.{fits_length, too_large}
use Rattle.library_rows.specs.Searches.{if_fit}
use Rattle.library_arguments.specs.Refusals.{refusal_text}
use Rattle.library_arguments.specs.declared.refusal.Fault.{Fault}
use Rattle.library_arguments.specs.declared.refusal.Fault.TheVariants.{Refused, Memory as NoMemory}
use Rattle.machine_sound.proofs.Heaps.{raw_get_ok}
use Rattle.machine_sound.proofs.Outside.{heap_of as heap_ok}
use Rattle.machine_sound.specs.Sound.{Sizes, Valid, sizes}
use Rattle.table_core.specs.declared.value.TableId.{TableId}
use Rattle.table_core.specs.declared.value.Value.{Value as Kept}
use Rattle.table_core.specs.declared.value.Value.TheVariants.{Nil, Int, Str}
use Rattle.lua_heap.specs.Law.{StringsAreThere}
use Rattle.lua_heap.specs.Plain.{plain}
use Rattle.lua_heap.specs.Reading.{text_or, value}
use Rattle.lua_heap.specs.declared.world.World.{World as Memory}
use Rattle.pure_functions.specs.Answers.{Answers, Stands, heap_of}
use Rattle.lib_base.specs.Lists.{items_from}
use Rattle.pure_functions.specs.Shapes.{IsThere}
use Rattle.lib_base.specs.Sorting.{AreItems, AreSorted, AreThere, GoesInOrder, IsSortedOf, TableHasPlaces, bytes_of, fields_put, is_integer, is_text, item_shapes, items_in, number_of, refuses_items, shapes_in}
use Rattle.lib_base.proofs.JoinRows.{reads_shapes_are}
use Rattle.lib_base.proofs.ListRows.{behind, pushed}
use Rattle.lib_base.proofs.Seen.{or_nil_valid}
use Rattle.pure_functions.proofs.Seen.{there}
use Rattle.lib_base.proofs.Sorted.{at_most, integers_sorted, rises_map, rises_of, texts_sorted}
use Rattle.pure_functions.proofs.Meaning.{first_of, second_of}

-- what the row sees of values

integer_seen : (texts : List (List ℕ)) (v : Kept) → row.is_integer (shape (value texts v)) ≡ is_integer v
integer_seen texts Nil = refl
integer_seen texts _ = refl

text_seen : (texts : List (List ℕ)) (v : Kept) → is_string (shape (value texts v)) ≡ is_text v
text_seen texts Nil = refl
text_seen texts _ = refl

all_seen : (texts : List (List ℕ)) (f : Shape → Bool) (g : Kept → Bool) → ((v : Kept) → f (shape (value texts v)) ≡ g v) → (vs : List Kept) → list_all f (shapes_in texts vs) ≡ list_all g vs
all_seen texts f g h [] = refl
all_seen texts f g h (v ∷ vs) = ap (λ b. b && list_all f (shapes_in texts vs)) (h v) ∙ ap (λ b. g v && b) (all_seen texts f g h vs)

either : Bool → Bool → Bool
either b c = elim b [ true ↦ true | false ↦ c ]

can_by_kinds : (texts : List (List ℕ)) (vs : List Kept) → can_be_sorted (shapes_in texts vs) ≡ either (list_all is_integer vs) (list_all is_text vs)
unfolding either
can_by_kinds texts vs =
    ap (λ b. elim b as (λ _. Bool) [ true ↦ true | false ↦ list_all is_string (shapes_in texts vs) ]) (all_seen texts row.is_integer is_integer (integer_seen texts) vs)
    ∙ ap (λ c. elim (list_all is_integer vs) as (λ _. Bool) [ true ↦ true | false ↦ c ]) (all_seen texts is_string is_text (text_seen texts) vs)

pub integers_can : (texts : List (List ℕ)) (vs : List Kept) → list_all is_integer vs ≡ true → can_be_sorted (shapes_in texts vs) ≡ true
unfolding either
integers_can texts vs e = can_by_kinds texts vs ∙ ap (λ b. either b (list_all is_text vs)) e

pub texts_can : (texts : List (List ℕ)) (vs : List Kept) → list_all is_integer vs ≡ false → list_all is_text vs ≡ true → can_be_sorted (shapes_in texts vs) ≡ true
unfolding either
texts_can texts vs e f = can_by_kinds texts vs ∙ ap (λ b. either b (list_all is_text vs)) e ∙ f

pub others_cannot : (texts : List (List ℕ)) (vs : List Kept) → list_all is_integer vs ≡ false → list_all is_text vs ≡ false → can_be_sorted (shapes_in texts vs) ≡ false
unfolding either
others_cannot texts vs e f = can_by_kinds texts vs ∙ ap (λ b. either b (list_all is_text vs)) e ∙ f

-- values in another order, where each is known by a key

module _ (texts : List (List ℕ)) {K : Type 0} (key : Kept → K) (made : K → Plain) where
  abbrev pub IsMade : Kept → Type 0
  IsMade v = value texts v ≡ known (made (key v))

  plains : (vs : List Kept) → AllByRecursion IsMade vs → map plain_of (shapes_in texts vs) ≡ map made (map key vs)
  plains [] h = refl
  plains (v ∷ vs) h = ap (λ w. plain_of (shape w) ∷ map plain_of (shapes_in texts vs)) h.0 ∙ ap (λ ps. made (key v) ∷ ps) (plains vs h.1)

  values : (vs : List Kept) → AllByRecursion IsMade vs → map (value texts) vs ≡ map known (map made (map key vs))
  values [] h = refl
  values (v ∷ vs) h = ap (λ w. w ∷ map (value texts) vs) h.0 ∙ ap (λ ws. known (made (key v)) ∷ ws) (values vs h.1)

  pub in_order : (old new : List Kept) → AllByRecursion IsMade old → IsPermutation old new → sorted (map made (map key old)) ≡ map made (map key new) → IsSortedOf texts old new
  in_order old new h p s =
      values new (recursion_from_All IsMade new (All-permutation IsMade old new p (All-from_recursion IsMade old h)))
      ∙ ap (map known) (sym s ∙ ap sorted (sym (plains old h)))

integer_made : (texts : List (List ℕ)) (v : Kept) → is_integer v ≡ true → IsMade texts number_of integer v
integer_made texts (Int n) e = refl
integer_made texts _ e = absurd (cc)

integers_made : (texts : List (List ℕ)) (vs : List Kept) → list_all is_integer vs ≡ true → AllByRecursion (IsMade texts number_of integer) vs
integers_made texts [] e = tt
integers_made texts (v ∷ vs) e = (integer_made texts v (first_of (is_integer v) (list_all is_integer vs) e), integers_made texts vs (second_of (is_integer v) (list_all is_integer vs) e))

pub integers_in_order : (texts : List (List ℕ)) (old new : List Kept) → list_all is_integer old ≡ true → IsPermutation old new → IsSortedBy (λ a b. is_lt (int_cmp (number_of a) (number_of b))) new → IsSortedOf texts old new
integers_in_order texts old new e p s =
    in_order texts number_of integer old new (integers_made texts old e) p
    (integers_sorted (map number_of old) (map number_of new) (IsPermutation-map number_of old new p) (rises_map number_of (at_most int_cmp) new (rises_of (λ a b. int_cmp (number_of a) (number_of b)) new s)))

there_at : (texts : List (List ℕ)) (n : ℕ) → n < length texts → (t : List ℕ) × (slice_get texts n ≡ Some t)
there_at [] n h = absurd (omega (arith, h))
there_at (t ∷ texts) zero h = (t, refl)
there_at (t ∷ texts) (suc n) h = there_at texts n (omega (arith, h))

text_there : (texts : List (List ℕ)) (n : ℕ) → n < length texts → text_or n (slice_get texts n) ≡ unwrap_or (slice_get texts n) []
text_there texts n h = let t = there_at texts n h in ap (text_or n) t.1 ∙ sym (ap (λ o. unwrap_or o []) t.1)

text_made : (texts : List (List ℕ)) (v : Kept) → is_text v ≡ true → IsThere texts v → IsMade texts (bytes_of texts) string v
text_made texts (Str id) e h = ap (λ t. known (string t)) (text_there texts id.0 h)
text_made texts _ e h = absurd (cc)

texts_made : (texts : List (List ℕ)) (vs : List Kept) → list_all is_text vs ≡ true → AreThere texts vs → AllByRecursion (IsMade texts (bytes_of texts) string) vs
texts_made texts [] e h = tt
texts_made texts (v ∷ vs) e h = (text_made texts v (first_of (is_text v) (list_all is_text vs) e) h.0, texts_made texts vs (second_of (is_text v) (list_all is_text vs) e) h.1)

pub texts_in_order : (texts : List (List ℕ)) (old new : List Kept) → list_all is_text old ≡ true → AreThere texts old → IsPermutation old new
    → IsSortedBy (λ a b. is_lt (slice_cmp nat_cmp (bytes_of texts a) (bytes_of texts b))) new → IsSortedOf texts old new
texts_in_order texts old new e h p s =
    in_order texts (bytes_of texts) string old new (texts_made texts old e h) p
    (texts_sorted (map (bytes_of texts) old) (map (bytes_of texts) new) (IsPermutation-map (bytes_of texts) old new p)
    (rises_map (bytes_of texts) (at_most (slice_cmp nat_cmp)) new (rises_of (λ a b. slice_cmp nat_cmp (bytes_of texts a) (bytes_of texts b)) new s)))

-- the items of a table of a sound world are valid

abbrev AllValid : Sizes → List Value → Type 0
AllValid z vs = AllByRecursion (Valid z) vs

items_valid : (W : Memory) (arguments : List Kept) (s : Stands W arguments) (t : Value) (many i : ℕ) → AllValid (sizes s.primitives (plain W s.fuel)) (items_from (heap_of W) t many i)
items_valid W arguments s t zero i = tt
items_valid W arguments s t (suc many) i =
    let z = sizes s.primitives (plain W s.fuel) in (
      or_nil_valid z (raw_get (heap_of W) t (known (integer (pos i)))) (raw_get_ok z (plain W s.fuel).heap (heap_ok s.primitives (plain W s.fuel) s.sound.solid) t (known (integer (pos i)))),
      items_valid W arguments s t many (suc i),
    )

all_there : StringsAreThere → (z : Sizes) (texts : List (List ℕ)) (vs : List Kept) → AllValid z (map (value texts) vs) → AreThere texts vs
all_there law z texts [] h = tt
all_there law z texts (v ∷ vs) h = (there law z texts v h.0, all_there law z texts vs h.1)

pub items_there : StringsAreThere → (W : Memory) (arguments : List Kept) → Stands W arguments → (t : Value) (many : ℕ) (vs : List Kept) → map (value W.strings) vs ≡ items_from (heap_of W) t many 1 → AreThere W.strings vs
items_there law W arguments s t many vs e =
    all_there law (sizes s.primitives (plain W s.fuel)) W.strings vs (subst (AllValid (sizes s.primitives (plain W s.fuel))) (sym e) (items_valid W arguments s t many 1))

plain_fits : (z : Sizes) (v : Value) → Valid z v → fits_length (plain_of (shape v)) ≡ true
plain_fits z (known (string s)) h = within (length s) greatest_string h
  where
    within : (m n : ℕ) → m ≤ n → nat_le m n ≡ true
    within m n h = grind (arith, nat_tests)
plain_fits z (object a_coroutine n) h = refl
plain_fits z _ h = refl

all_fit : (z : Sizes) (vs : List Value) → AllValid z vs → list_all fits_length (map plain_of (map shape vs)) ≡ true
all_fit z [] h = refl
all_fit z (v ∷ vs) h = ap (λ b. b && list_all fits_length (map plain_of (map shape vs))) (plain_fits z v h.0) ∙ all_fit z vs h.1

pub items_fit : (W : Memory) (arguments : List Kept) → Stands W arguments → (t : Value) (many : ℕ) → list_all fits_length (map plain_of (map shape (items_from (heap_of W) t many 1))) ≡ true
items_fit W arguments s t many = all_fit (sizes s.primitives (plain W s.fuel)) (items_from (heap_of W) t many 1) (items_valid W arguments s t many 1)

count_items : (H : Heap) (t : Value) (many i : ℕ) → length (items_from H t many i) ≡ many
count_items H t zero i = refl
count_items H t (suc many) i = ap suc (count_items H t many (suc i))

pub items_count : (W : Memory) (t : Value) (many : ℕ) (vs : List Kept) → map (value W.strings) vs ≡ items_from (heap_of W) t many 1 → length vs ≡ many
items_count W t many vs e = sym (length-map vs (value W.strings)) ∙ ap length e ∙ count_items (heap_of W) t many 1

-- the row

abbrev from_border : Look
from_border = does border_of (read 0 ∷ []) (λ border. reads_shapes (told_number border) 1 0 sorts_shapes)

abbrev by_comparator : Bool → Look
by_comparator b = elim b [ false ↦ refuses (bad_argument 2 (codes "sort") (codes "comparator not supported")) | true ↦ from_border ]

abbrev by_table : Value → Look
by_table t = elim (is_table (shape t)) [ true ↦ does look (read 1 ∷ []) (λ f. by_comparator (is_absent f)) | false ↦ refuses (wrong_type 1 (codes "sort") (codes "table") (shape t)) ]

writes_are : (t : Value) (ps : List Plain) (i slot : ℕ) (env : List Value) (H : Heap) → nth env slot ≡ t → looked (writes_sorted slot i ps) env H ≡ done (fields_put H t i (map known ps)) []
writes_are t [] i slot env H e = refl
writes_are t (p ∷ ps) i slot env H e =
    ap (λ o. looked (writes_sorted slot (suc i) ps) env (put_field H o (known (integer (pos i))) (known p))) e
    ∙ writes_are t ps (suc i) slot env (put_field H t (known (integer (pos i))) (known p)) e

module _ (vs : List Value) (H : Heap) (id : TableId) (e : nth vs 0 ≡ object a_table id.0) where
  abbrev t : Value
  t = object a_table id.0

  abbrev items : List Value
  items = items_from H t (items_in H t) 1

  abbrev ss : List Shape
  ss = map shape items

  to_comparator : looked sorts vs H ≡ looked (by_comparator (is_absent (shape (nth vs 1)))) vs H
  to_comparator = ap (λ t. looked (by_table t) vs H) e

  pub sort_takes_none : (text : List ℕ) → is_absent (shape (nth vs 1)) ≡ false → text ≡ bad_argument 2 (codes "sort") (codes "comparator not supported") → looked sorts vs H ≡ refused text
  sort_takes_none text a f = to_comparator ∙ ap (λ b. looked (by_comparator b) vs H) a ∙ ap refused (sym f)

  to_items : nth vs 1 ≡ known nil → looked sorts vs H ≡ looked (sorts_shapes ss) (pushed items vs) H
  to_items a =
      to_comparator
      ∙ ap (λ f. looked (by_comparator (is_absent (shape f))) vs H) a
      ∙ ap (λ o. looked (reads_shapes (told_number (border_told (border_in H o))) 1 0 sorts_shapes) vs H) e
      ∙ reads_shapes_are H t (items_in H t) 1 0 sorts_shapes vs e

  abbrev by_kinds : Bool → Look
  by_kinds b = elim b [
    | false ↦ refuses refuses_items
    | true ↦ if_fit (map plain_of ss) (writes_sorted (length ss) 1 (sorted (map plain_of ss)))
  ]

  pub sort_refuses : (text : List ℕ) → nth vs 1 ≡ known nil → can_be_sorted ss ≡ false → text ≡ refuses_items → looked sorts vs H ≡ refused text
  sort_refuses text a c f = to_items a ∙ ap (λ b. looked (by_kinds b) (pushed items vs) H) c ∙ ap refused (sym f)

  pub sort_is : nth vs 1 ≡ known nil → can_be_sorted ss ≡ true → list_all fits_length (map plain_of ss) ≡ true → looked sorts vs H ≡ done (fields_put H t 1 (map known (sorted (map plain_of ss)))) []
  sort_is a c f =
      to_items a
      ∙ ap (λ b. looked (by_kinds b) (pushed items vs) H) c
      ∙ ap (λ b. looked (elim b as (λ _. Look) [ true ↦ writes_sorted (length ss) 1 (sorted (map plain_of ss)) | false ↦ refuses too_large ]) (pushed items vs) H) f
      ∙ writes_are t (sorted (map plain_of ss)) 1 (length ss) (pushed items vs) H slot
    where
      slot : nth (pushed items vs) (length ss) ≡ t
      slot =
          let n : length ss ≡ length items + zero = length-map items shape ∙ sym (plus_zero (length items)) in
          ap (nth (pushed items vs)) n ∙ behind items vs zero ∙ e
        where
          plus_zero : (n : ℕ) → n + zero ≡ n
          plus_zero n = omega arith

-- all of a list is put back
pub put_back_whole : {A : Type 0} (old new : List A) (n : ℕ) → length new ≡ length old → n ≡ length old → take n (new ++ drop (length new) old) ≡ new
put_back_whole old new n e f =
    ap (λ rest. take n (new ++ rest)) (drop_all (length new) old (omega (arith, e))) ∙ ap (take n) (append_nil new) ∙ take_all n new (omega (arith, e, f))

-- what was read and put in order is what the row sorts

module _ (W : Memory) (id : TableId) (many : ℕ) (old : List Kept) where
  same_shapes : many ≡ items_in (heap_of W) (object a_table id.0) → map (value W.strings) old ≡ items_from (heap_of W) (object a_table id.0) many 1 → shapes_in W.strings old ≡ item_shapes (heap_of W) (object a_table id.0)
  same_shapes m e = ap (map shape) (e ∙ ap (λ n. items_from (heap_of W) (object a_table id.0) n 1) m)

  module _ (m : many ≡ items_in (heap_of W) (object a_table id.0)) (e : map (value W.strings) old ≡ items_from (heap_of W) (object a_table id.0) many 1) where
    pub items_in_order : (arguments : List Kept) → Stands W arguments → TableHasPlaces W.tables.objects id many → (new : List Kept) → GoesInOrder W.strings old new → AreItems W id new
    items_in_order arguments s h new g = record {
      can = sym (ap can_be_sorted (same_shapes m e)) ∙ g.can;
      fit = items_fit W arguments s (object a_table id.0) (items_in (heap_of W) (object a_table id.0));
      are = g.are ∙ ap (λ ss. map known (sorted (map plain_of ss))) (same_shapes m e);
      there = subst (TableHasPlaces W.tables.objects id) (sym (g.len ∙ items_count W (object a_table id.0) many old e)) h;
    }

pub sort_faults : (W : Memory) (arguments : List Kept) (id : TableId) → nth (map (value W.strings) arguments) 0 ≡ object a_table id.0 → nth (map (value W.strings) arguments) 1 ≡ known nil
    → (fault : Fault) → AreSorted W id (Err fault) → Answers sorts arguments W W (Err fault)
sort_faults W arguments id e a (Refused why) h = sort_refuses (map (value W.strings) arguments) (heap_of W) id e (refusal_text why) a h.0 h.1
sort_faults W arguments id e a NoMemory h = tt

pub sort_answers : (W V : Memory) (arguments : List Kept) (id : TableId) (sorted : List Kept) → nth (map (value W.strings) arguments) 0 ≡ object a_table id.0 → nth (map (value W.strings) arguments) 1 ≡ known nil
    → AreItems W id sorted → heap_of V ≡ fields_put (heap_of W) (object a_table id.0) 1 (map (value W.strings) sorted) → looked sorts (map (value W.strings) arguments) (heap_of W) ≡ done (heap_of V) []
sort_answers W V arguments id sorted e a i h =
    sort_is (map (value W.strings) arguments) (heap_of W) id e a i.can i.fit
    ∙ ap (λ vs. done (fields_put (heap_of W) (object a_table id.0) 1 vs) []) (sym i.are)
    ∙ ap (λ H. done H []) (sym h)
