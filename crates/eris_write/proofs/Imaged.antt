-- The bytes that were drawn spell the image, where nothing was refused.
use Rattle.std.proofs.Common.{◌≡◌, ℕ, suc, ◌-◌, ◌<◌, ◌≤◌, List, [], ◌∷◌, ◌++◌, Option, Some, None, length, map, take, true, false, refl, sym, ap, ◌∙◌, arith}
use Rattle.std.specs.Prelude.{flat_map, min, nat_le, nat_lt, slice_get, unwrap_or, ◌&&◌}
use Rattle.std.proofs.lemmas.List.{length-map, length-take, take_all}
use Rattle.byteorder.specs.Endian.{little_bytes}
use Rattle.int_core.specs.Value.{primitive, Kind, a_table, a_function, a_coroutine, Value, known, object}
use Rattle.machine_core.specs.World.{World}
use Rattle.machine_sound.proofs.Lists.{get_map}
use Rattle.table_core.specs.declared.value.Value.{Value as Kept}
use Rattle.image_core.specs.Visit.{met, place, IsMet}
use Rattle.image_core.specs.Image.{Item, Record, table_record, function_record, closed_record, open_record, fresh_record, suspended_record, dead_record, failed_record, Image}
use Rattle.image_core.specs.Loading.{kind_in, is_cell}
use Rattle.image_core.specs.Records.{Part, Field, Naming, of_value, of_cell, of_coroutine, an_object, a_cell, same_part, fields, item, record_of, visited, is_reached, parts_in_order, naming, image_by}
use Rattle.image_core.proofs.Lists.{get_met}
use Rattle.image_core.proofs.Parts.{part_tells, part_self}
use Rattle.image_bytes.specs.Format.{Format, of_kind, byte, word, case, followed, tested, times, list_by, spell_all}
use Rattle.image_bytes.specs.Bytes.{Reader, item_format, record_format, spell_records, records_format, exactly, sorts_format, sort_byte, with_sorts, image_format}
use Rattle.image_load.specs.Loads.{IsWritten}
use Rattle.lua_heap.specs.declared.world.World.{World as Memory}
use Rattle.lua_heap.specs.Plain.{plain}
use Rattle.graph_core.specs.declared.object.Object.{Object}
use Rattle.graph_core.specs.declared.object.Sort.{Sort}
use Rattle.graph_core.specs.declared.object.Sort.TheVariants.{Table, Func, Cell, Coro}
use Rattle.graph_core.specs.Numbering.{IsNumbering}
use Rattle.graph_core.specs.Objects.{part, part_of}
use Rattle.graph_core.proofs.Meeting.{flat_twice, map_twice}
use Rattle.eris_write.specs.declared.output.Output.{Output}
use Rattle.eris_write.specs.declared.writer.Writer.{Writer}
use Rattle.eris_write.specs.Images.{all_bytes, fields_in, records_bytes, sort_code, IsDrawn}
use Rattle.eris_write.specs.Output.{Puts, most, put}
use Rattle.eris_write.specs.Refusals.{or_else, shown, unless_item, unnamed_refusal, field_refusal, first_refusal, all_fields}
use Rattle.eris_write.specs.Writing.{Writes, inside_in, name_in, naming_in, read_in}
use Rattle.eris_write.proofs.Putting.{writes_both}
use Rattle.eris_write.proofs.Written.{value_fields, value_bytes}

-- the parts of an image together

pub drawn : (w : Writer) (roots : List Kept) (fuel n : ℕ) (head sorts : List ℕ) (o a b c d e : Output) → o.bytes.items ≡ [] → o.refusal ≡ None → head ≡ 76 ∷ 85 ∷ 73 ∷ 77 ∷ 1 ∷ [] → n ≡ length roots
    → sorts ≡ little_bytes 4 (length w.numbering.now.order.keys) ++ map (λ (o : Object). sort_code o.sort) w.numbering.now.order.keys
    → Puts o a None (λ _. head) → Puts a b None (λ _. sorts) → Puts b c None (λ _. n ∷ []) → Writes w c d (value_fields w roots) (value_bytes w roots)
    → Writes w d e (flat_map (fields_in w fuel) w.numbering.now.order.keys) (records_bytes w fuel w.numbering.now.order.keys) → IsDrawn w roots fuel e
drawn w roots fuel n head sorts o a b c d e none unrefused hq nq sq h k l m r =
    let V = value_fields w roots in
    let F = flat_map (fields_in w fuel) w.numbering.now.order.keys in
    let X = λ (R : Reader). (n ∷ []) ++ value_bytes w roots R in
    let Y = λ (R : Reader). X R ++ records_bytes w fuel w.numbering.now.order.keys R in
    let Z = λ (R : Reader). sorts ++ Y R in
    let all = writes_both w [] (V ++ F) (λ _. head) Z h (writes_both w [] (V ++ F) (λ _. sorts) Y k (writes_both w V F X (records_bytes w fuel w.numbering.now.order.keys) (writes_both w [] V (λ _. n ∷ []) (value_bytes w roots) l m) r)) in
    record {
      bytes = λ R. all.grown R ∙ (ap (λ l. put l (head ++ Z R)) none ∙ (ap (λ l. put [] (l ++ Z R)) hq
          ∙ (ap (λ s. put [] (76 ∷ 85 ∷ 73 ∷ 77 ∷ 1 ∷ (s ++ Y R))) sq
          ∙ ap (λ n. put [] (76 ∷ 85 ∷ 73 ∷ 77 ∷ 1 ∷ ((little_bytes 4 (length w.numbering.now.order.keys) ++ map (λ (o : Object). sort_code o.sort) w.numbering.now.order.keys) ++ (((n ∷ []) ++ value_bytes w roots R) ++ records_bytes w fuel w.numbering.now.order.keys R)))) nq)));
      refusal = all.first ∙ ap (λ r. or_else (shown r) (first_refusal (plain w.world.now 0) (name_in w) (V ++ F))) unrefused;
    }

-- bytes that all had room

pub all_kept : (xs s : List ℕ) → xs ≡ put [] s → length xs < most → xs ≡ s
all_kept xs s e l =
    let k : most - 0 ≡ most = omega arith in
    let is : xs ≡ take most s = e ∙ ap (λ n. take n s) k in
    let m : length xs ≡ min most (length s) = ap length is ∙ length-take most s in
    let f : length s ≤ most = omega (arith, m, l) in
    is ∙ take_all most s f

pub too_many : (xs s : List ℕ) → xs ≡ put [] s → most ≤ length xs → 2147483647 < length s
too_many xs s e l =
    let k : most - 0 ≡ most = omega arith in
    let is : xs ≡ take most s = e ∙ ap (λ n. take n s) k in
    let m : length xs ≡ min most (length s) = ap length is ∙ length-take most s in
    omega (arith, m, l)

-- refusals do not turn on the budget

refusal_by_fuel : (W : Memory) (name : Value → Option Item) (fuel : ℕ) (f : Field) → field_refusal (plain W fuel) name f ≡ field_refusal (plain W 0) name f
refusal_by_fuel W name fuel (of_value v) = ap (unless_item (name v)) (go v)
  where
    go : (v : Value) → unnamed_refusal (plain W fuel) v ≡ unnamed_refusal (plain W 0) v
    go (known (primitive n)) = refl
    go (object a_coroutine n) = refl
    go _ = refl
refusal_by_fuel W name fuel (of_cell n) = refl
refusal_by_fuel W name fuel (of_coroutine n) = refl

pub first_by_fuel : (W : Memory) (name : Value → Option Item) (fuel : ℕ) (fs : List Field) → first_refusal (plain W fuel) name fs ≡ first_refusal (plain W 0) name fs
first_by_fuel W name fuel [] = refl
first_by_fuel W name fuel (f ∷ fs) = ap (λ r. or_else r (first_refusal (plain W fuel) name fs)) (refusal_by_fuel W name fuel f) ∙ ap (or_else (field_refusal (plain W 0) name f)) (first_by_fuel W name fuel fs)

-- sorts

abbrev code_of : Kind → ℕ
code_of a_table = 1
code_of a_function = 2
code_of a_coroutine = 4

sort_of_kind : (r : Record) (k : Kind) → kind_in r ≡ Some k → sort_byte r ≡ code_of k
sort_of_kind (table_record rows m) a_table h = refl
sort_of_kind (function_record c cs) a_function h = refl
sort_of_kind (fresh_record b) a_coroutine h = refl
sort_of_kind (suspended_record fs) a_coroutine h = refl
sort_of_kind dead_record a_coroutine h = refl
sort_of_kind (failed_record e ps) a_coroutine h = refl
sort_of_kind r k h = absurd (cc)

sort_of_cell : (r : Record) → is_cell r ≡ true → sort_byte r ≡ 3
sort_of_cell (closed_record i) h = refl
sort_of_cell (open_record co frame register) h = refl
sort_of_cell r h = absurd (cc)

abbrev sort_format : Format ℕ
sort_format = tested (λ s. nat_lt 0 s && nat_le s 4) (λ _. of_kind 5) byte

plain_bytes : (xs : List ℕ) → spell_all sort_format xs ≡ xs
unfolding tested byte
plain_bytes [] = refl
plain_bytes (x ∷ xs) = ap (λ l. x ∷ l) (plain_bytes xs)

sorts_same : (N : Naming) (W : World) (os : List Object) → ((i : ℕ) (o : Object) → slice_get os i ≡ Some o → sort_byte (record_of N W (part o)) ≡ sort_code o.sort)
    → map sort_byte (map (record_of N W) (map part os)) ≡ map (λ (o : Object). sort_code o.sort) os
sorts_same N W [] h = refl
sorts_same N W (o ∷ os) h = ap (λ s. s ∷ map sort_byte (map (record_of N W) (map part os))) (h 0 o refl) ∙ ap (λ l. sort_code o.sort ∷ l) (sorts_same N W os (λ i q g. h (suc i) q g))

records_same : (R : Reader) (N : Naming) (W : World) (os : List Object) → ((i : ℕ) (o : Object) → slice_get os i ≡ Some o → sort_byte (record_of N W (part o)) ≡ sort_code o.sort)
    → spell_records R (map sort_byte (map (record_of N W) (map part os))) (map (record_of N W) (map part os)) ≡ flat_map (λ (o : Object). (record_format R (sort_code o.sort)).spell (record_of N W (part o))) os
records_same R N W [] h = refl
records_same R N W (o ∷ os) h =
    let r = record_of N W (part o) in
    ap (λ s. (record_format R s).spell r ++ spell_records R (map sort_byte (map (record_of N W) (map part os))) (map (record_of N W) (map part os))) (h 0 o refl)
    ∙ ap (λ l. (record_format R (sort_code o.sort)).spell r ++ l) (records_same R N W os (λ i q g. h (suc i) q g))

image_spelled : (R : Reader) (count : ℕ) (I : Image) → (image_format R count).spell I
    ≡ 76 ∷ 85 ∷ 73 ∷ 77 ∷ 1 ∷ ((little_bytes 4 (length (map sort_byte I.records)) ++ spell_all sort_format (map sort_byte I.records))
    ++ ((length I.roots ∷ spell_all (item_format (with_sorts R (map sort_byte I.records))) I.roots) ++ spell_records (with_sorts R (map sort_byte I.records)) (map sort_byte I.records) I.records))
unfolding image_format case followed exactly tested byte sorts_format list_by word times records_format
image_spelled R count I = refl

-- the numbering is that of the definition

abbrev named_by : (Value → Option Item) → List Part → List Part → Naming
named_by name reached order = record {
  name = name;
  number = λ o. unwrap_or (place same_part order o) 0;
  inside = λ co. met same_part reached (an_object a_coroutine co);
}

module _ (w : Writer) (roots : List Kept) (n : IsNumbering w.world.now w.permanents.now roots w.numbering.now) (fuel : ℕ) where
  abbrev W : World
  W = plain w.world.now fuel

  abbrev Name : Value → Option Item
  Name = name_in w

  abbrev Roots : List Value
  Roots = map (read_in w) roots

  abbrev keys : List Object
  keys = w.numbering.now.order.keys

  pub fields_are : value_fields w roots ++ flat_map (fields_in w fuel) keys ≡ all_fields W Name Roots
  fields_are =
      ap (λ l. value_fields w roots ++ l)
      (sym (flat_twice (fields W (inside_in w)) part keys)
      ∙ (ap (λ (ps : List Part). flat_map (fields W (λ co. met same_part ps (an_object a_coroutine co))) (map part keys)) (n.reached fuel) ∙ ap (flat_map (fields W (is_reached W Name Roots))) (n.order fuel)))

  naming_is : naming_in w ≡ naming W Name Roots
  naming_is = ap (λ ps. named_by Name ps (map part keys)) (n.reached fuel) ∙ ap (λ ps. named_by Name (visited W Name (λ _. false) Roots) ps) (n.order fuel)

  abbrev N : Naming
  N = naming W Name Roots

  sort_is : (o : Object) → IsWritten W Name Roots (part o) → sort_byte (record_of N W (part o)) ≡ sort_code o.sort
  sort_is o h = go o.sort o.number h
    where
      go : (s : Sort) (m : ℕ) → IsWritten W Name Roots (part_of s m) → sort_byte (record_of N W (part_of s m)) ≡ sort_code s
      go Table m h = sort_of_kind (record_of N W (an_object a_table m)) a_table h
      go Func m h = sort_of_kind (record_of N W (an_object a_function m)) a_function h
      go Coro m h = sort_of_kind (record_of N W (an_object a_coroutine m)) a_coroutine h
      go Cell m h = sort_of_cell (record_of N W (a_cell m)) h

  abbrev Written : Type 0
  Written = (o : Part) → IsMet same_part (parts_in_order W Name Roots) o → IsWritten W Name Roots o

  each_sort : Written → (i : ℕ) (o : Object) → slice_get keys i ≡ Some o → sort_byte (record_of N W (part o)) ≡ sort_code o.sort
  each_sort h i o g =
      let there : slice_get (parts_in_order W Name Roots) i ≡ Some (part o) = ap (λ (ps : List Part). slice_get ps i) (sym (n.order fuel)) ∙ get_map part keys i o g in
      sort_is o (h (part o) (get_met same_part part_tells part_self (parts_in_order W Name Roots) (part o) i there))

  abbrev Records : List Part → List Record
  Records ps = map (record_of N W) ps

  abbrev Sorts : List Part → List ℕ
  Sorts ps = map sort_byte (Records ps)

  -- a reader that knows the sorts of the records
  abbrev pub Knows : Reader → Reader
  Knows R = with_sorts R (Sorts (map part keys))

  abbrev by_parts : Reader → (count : ℕ) → (sorts : List ℕ) → (roots_count : ℕ) → List Item → List ℕ → List ℕ
  by_parts R count sorts roots_count items records = 76 ∷ 85 ∷ 73 ∷ 77 ∷ 1 ∷ ((little_bytes 4 count ++ sorts) ++ ((roots_count ∷ spell_all (item_format R) items) ++ records))

  abbrev drawn_by : Reader → Naming → List ℕ
  drawn_by R M = by_parts R (length keys) (map (λ (o : Object). sort_code o.sort) keys) (length roots) (map (λ v. item M (read_in w v)) roots) (flat_map (λ (o : Object). (record_format R (sort_code o.sort)).spell (record_of M W (part o))) keys)

  abbrev spelled_by : Reader → List Part → List ℕ
  spelled_by R ps = by_parts (with_sorts R (Sorts ps)) (length (Sorts ps)) (spell_all sort_format (Sorts ps)) (length (map (item N) Roots)) (map (item N) Roots) (spell_records (with_sorts R (Sorts ps)) (Sorts ps) (Records ps))

  same_parts : Written → (R : Reader) → drawn_by (Knows R) N ≡ spelled_by R (map part keys)
  same_parts h R =
      let K = Knows R in
      let Q = Sorts (map part keys) in
      let codes = map (λ (o : Object). sort_code o.sort) keys in
      let q : Q ≡ codes = sorts_same N W keys (each_sort h) in
      let items = map (λ v. item N (read_in w v)) roots in
      let recs = flat_map (λ (o : Object). (record_format K (sort_code o.sort)).spell (record_of N W (part o))) keys in
      ap (λ c. by_parts K c codes (length roots) items recs) (sym (ap length q ∙ length-map keys (λ (o : Object). sort_code o.sort)))
      ∙ (ap (λ l. by_parts K (length Q) l (length roots) items recs) (sym (plain_bytes Q ∙ q))
      ∙ (ap (λ k. by_parts K (length Q) (spell_all sort_format Q) k items recs) (sym (length-map Roots (item N) ∙ length-map roots (read_in w)))
      ∙ (ap (λ l. by_parts K (length Q) (spell_all sort_format Q) (length (map (item N) Roots)) l recs) (sym (map_twice (item N) (read_in w) roots))
      ∙ ap (λ l. by_parts K (length Q) (spell_all sort_format Q) (length (map (item N) Roots)) (map (item N) Roots) l) (sym (records_same K N W keys (each_sort h))))))

  pub image_is : Written → (R : Reader) → all_bytes w roots fuel (Knows R) ≡ (image_format R (length roots)).spell (image_by W Name Roots)
  image_is h R =
      ap (drawn_by (Knows R)) naming_is ∙ (same_parts h R ∙ (ap (spelled_by R) (n.order fuel) ∙ sym (image_spelled R (length roots) (image_by W Name Roots))))
