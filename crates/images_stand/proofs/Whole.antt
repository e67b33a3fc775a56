-- Whole images.
use Rattle.std.proofs.Common.{arith, ℕ, ◌+◌, ◌<◌, ◌≤◌, ◌^◌, ◌≡◌, List, [], ◌∷◌, ◌++◌, Option, Some, None, refl, ap, ◌∙◌, length, map, Bool, true, cond, length-append}
use Rattle.std.specs.Prelude.{nat_le, nat_lt, ◌&&◌}
use Rattle.std.proofs.lemmas.List.{length-map}
use Rattle.int_core.specs.Value.{bind}
use Rattle.image_core.specs.Image.{Record, no_record, Image}
use Rattle.image_core.specs.Numbers.{walk, walk_records, item_numbers, items_numbers, record_numbers}
use Rattle.image_core.proofs.Lists.{Every}
use Rattle.image_bytes.specs.Format.{Format, of_kind, byte, word, followed, tested, case, spell_all, times, list_by}
use Rattle.image_bytes.specs.Bytes.{Reader, item_format, spell_records, records_format, sort_byte, exactly, sorts_format, with_sorts, image_format}
use Rattle.image_same.specs.Same.{InOrder}
use Rattle.images_stand.proofs.Records.{later, Stand, items_walk, RecordStands, records_after}
use Rattle.images_stand.proofs.Walks.{Walks, byte_walks, word_walks, tested_walks, byte_costs, tested_costs, fewer, times_walks, list_by_walks, quiet, walks_as}
use Rattle.list_laws.proofs.Tests.{eq_refl}

case_after : {A B : Type 0} (made : B → A) (of : A → Option B) (F : Format B) (x : A) (y : B) (met n : ℕ) → of x ≡ Some y → F.after met y ≡ Some n → (case made of F).after met x ≡ Some n
unfolding case
case_after made of F x y met n e h = ap (λ o. bind o (F.after met)) e ∙ h

after_then : {A B : Type 0} (F : Format A) (G : A → Format B) (x : A × B) (met m n : ℕ) → F.after met x.0 ≡ Some m → (G x.0).after m x.1 ≡ Some n → (followed F G).after met x ≡ Some n
unfolding followed
after_then F G x met m n e h = ap (λ o. bind o (λ m. (G x.0).after m x.1)) e ∙ h

-- sorts

abbrev is_sort_byte : ℕ → Bool
is_sort_byte s = nat_lt 0 s && nat_le s 4

module _ (R : Reader) where
  sort_is : (r : Record) → RecordStands R r → is_sort_byte (sort_byte r) ≡ true
  sort_is no_record h = absurd h
  sort_is _ h = refl

  sorts_walk : (rs : List Record) → Every (RecordStands R) rs → Every (λ s. Walks 0 (tested is_sort_byte (λ _. of_kind 5) byte) s []) (map sort_byte rs)
  sorts_walk [] h = tt
  sorts_walk (r ∷ rs) h = (tested_walks is_sort_byte (λ _. of_kind 5) (sort_byte r) [] (sort_is r h.0) (byte_walks (sort_byte r)), sorts_walk rs h.1)

  sorts_few : (sorts : List ℕ) → length sorts ≤ length (sorts_format.spell sorts)
  unfolding sorts_format list_by case followed times
  sorts_few sorts = later (length sorts) (word.spell (length sorts)) (spell_all (tested is_sort_byte (λ _. of_kind 5) byte) sorts) (fewer (tested is_sort_byte (λ _. of_kind 5) byte) (tested_costs is_sort_byte (λ _. of_kind 5) byte_costs) sorts)

  sorts_after : (rs : List Record) → Every (RecordStands R) rs → (met : ℕ) → length (sorts_format.spell (map sort_byte rs)) < 2 ^ 32 → sorts_format.after met (map sort_byte rs) ≡ Some met
  unfolding sorts_format
  sorts_after rs h met small =
      let few = sorts_few (map sort_byte rs) in
      (walks_as (quiet (map sort_byte rs)) (list_by_walks (tested is_sort_byte (λ _. of_kind 5) byte) (λ _. []) (map sort_byte rs) (word_walks {count = 0} (length (map sort_byte rs)) (omega (arith, few, small))) (sorts_walk rs h))).walks met small

module _ (R : Reader) (I : Image) where
  abbrev pub Read : Reader
  Read = with_sorts R (map sort_byte I.records)

  abbrev pub spelled_roots : List ℕ
  spelled_roots = length I.roots ∷ spell_all (item_format Read) I.roots

  abbrev pub spelled_records : List ℕ
  spelled_records = spell_records Read (map sort_byte I.records) I.records

  abbrev spelled_sorts : List ℕ
  spelled_sorts = sorts_format.spell (map sort_byte I.records)

  image_spelled : (image_format R (length I.roots)).spell I ≡ 76 ∷ 85 ∷ 73 ∷ 77 ∷ 1 ∷ (spelled_sorts ++ (spelled_roots ++ spelled_records))
  unfolding image_format case followed exactly tested byte times records_format
  image_spelled = refl

  pub record AreSmall : Type 0 where
    pub sorts : length spelled_sorts < 2 ^ 32
    pub roots : length (spell_all (item_format Read) I.roots) < 2 ^ 32
    pub records : length spelled_records < 2 ^ 32

  pub parts_small : length ((image_format R (length I.roots)).spell I) < 2 ^ 32 → AreSmall
  parts_small small =
      let e = ap length image_spelled in
      let l = length-append spelled_sorts (spelled_roots ++ spelled_records) in
      let k = length-append spelled_roots spelled_records in
      record { sorts = omega (arith, e, l, k, small); roots = omega (arith, e, l, k, small); records = omega (arith, e, l, k, small) }

  module _ (small : AreSmall) (roots : Stand Read I.roots) (records : Every (RecordStands Read) I.records) (order : InOrder I) where
    count : length (map sort_byte I.records) ≡ length I.records
    count = length-map I.records sort_byte

    roots_after : (times (length I.roots) (item_format Read)).after 0 I.roots ≡ Some order.met
    unfolding times
    roots_after =
        (times_walks (item_format Read) item_numbers I.roots (items_walk Read I.roots roots)).walks 0 small.roots
        ∙ (ap (λ n. walk n 0 (items_numbers I.roots)) count ∙ order.roots)

    all_records_after : (records_format Read).after order.met I.records ≡ Some (length I.records)
    unfolding records_format
    all_records_after =
        records_after Read I.records records 0 order.met small.records ∙ (ap (λ n. walk_records n 0 order.met (map record_numbers I.records)) count ∙ order.records)

    root_count_after : (exactly (length I.roots) 4).after 0 (length I.roots) ≡ Some 0
    unfolding exactly tested byte
    root_count_after = ap (λ b. cond b (Some 0) None) (eq_refl (length I.roots))

    pub image_after : (image_format R (length I.roots)).after 0 I ≡ Some (length I.records)
    unfolding image_format exactly tested byte
    image_after =
        case_after _ _ _ I _ 0 (length I.records) refl
        (after_then _ _ _ 0 0 (length I.records) refl
        (after_then _ _ _ 0 0 (length I.records) refl
        (after_then _ _ _ 0 0 (length I.records) refl
        (after_then _ _ _ 0 0 (length I.records) refl
        (after_then _ _ _ 0 0 (length I.records) refl
        (after_then _ _ _ 0 0 (length I.records) (sorts_after Read I.records records 0 small.sorts)
        (after_then _ _ _ 0 order.met (length I.records) (after_then _ _ _ 0 0 order.met root_count_after roots_after) all_records_after)))))))
