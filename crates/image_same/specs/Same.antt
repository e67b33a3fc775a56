-- Images of worlds that agree, and the order in which an image names its records.
use Rattle.std.specs.Prelude.{ℕ, ◌≡◌, List, [], map, Option, Some, None, length, slice_get}
use Rattle.std.specs.List.{AllZip}
use Rattle.int_core.specs.Value.{a_table, Value}
use Rattle.machine_core.specs.World.{World}
use Rattle.machine_alike.specs.Agree.{Pairs, SameNumber, SameValue, SameValues, objects_of, SameObjects}
use Rattle.image_core.specs.Visit.{greatest_count}
use Rattle.image_core.specs.Image.{Perm, Item, Image}
use Rattle.image_core.specs.Records.{parts_in_order, image_by, image_of}
use Rattle.image_core.specs.Numbers.{item_numbers, items_numbers, record_numbers, walk, walk_records}

pub record SamePerm (p : Pairs) (a b : Perm) : Type 0 where
  pub object : SameValue p a.object b.object
  pub key : a.key ≡ b.key

-- worlds that agree have the same images
abbrev pub ImagesSame : Type 0
ImagesSame = (p : Pairs) (W X : World) (ps qs : List Perm) (vs ws : List Value) → SameObjects p (objects_of W) (objects_of X) → SameNumber p a_table W.prelude_environment X.prelude_environment
    → AllZip (SamePerm p) ps qs → SameValues p vs ws → image_of W vs ps ≡ image_of X ws qs

-- each number that an image names, from its roots on, is one that was met or the next; each record is met before its place; and all are met
pub record InOrder (I : Image) : Type 0 where
  pub met : ℕ
  pub roots : walk (length I.records) 0 (items_numbers I.roots) ≡ Some met
  pub records : walk_records (length I.records) 0 met (map record_numbers I.records) ≡ Some (length I.records)

abbrev pub ImagesInOrder : Type 0
ImagesInOrder = (W : World) (name : Value → Option Item) (roots : List Value) → ((v : Value) (i : Item) → name v ≡ Some i → item_numbers i ≡ []) → slice_get (parts_in_order W name roots) greatest_count ≡ None → InOrder (image_by W name roots)
