-- That what is written as an image is read back: what is to hold of a world whose image is written, of its permanents, and of whoever reads it.
use Rattle.std.specs.Prelude.{ℕ, ◌≤◌, ◌≡◌, true, List, [], ◌++◌, flat_map, length, map, Option, Some, None, slice_get}
use Rattle.code_core.specs.Check.{IsChecked}
use Rattle.code_core.specs.Prototype.{Prototype}
use Rattle.code_core.specs.Writable.{signed_fits}
use Rattle.int_core.specs.Rows.{AreRows}
use Rattle.int_core.specs.Value.{integer, primitive, a_function, Plain, Value, known, object, greatest_string, table_values}
use Rattle.machine_core.specs.World.{Function, World}
use Rattle.machine_sound.specs.Sound.{Each}
use Rattle.image_core.specs.Visit.{greatest_count}
use Rattle.image_core.specs.Image.{PermKey, number_key, text_key, Perm, Item, plain, numbered, permanent, environment}
use Rattle.image_core.specs.Records.{Field, of_value, fields, is_reached, parts_in_order, image_of, named, sort_of}
use Rattle.image_bytes.specs.Format.{read}
use Rattle.image_bytes.specs.Bytes.{Reader, image_format}
use Rattle.image_sound.specs.Fitting.{reads}
use Rattle.image_sound.specs.Savable.{Savable}

-- permanents: functions of the libraries and objects, with keys that can be written, no two with one key

abbrev pub IsObject : Value → Type 0
IsObject (known (primitive n)) = Unit {0}
IsObject (known p) = ⊥
IsObject (object kind n) = Unit {0}

abbrev pub KeyFits : PermKey → Type 0
KeyFits (number_key n) = signed_fits 63 n ≡ true
KeyFits (text_key s) = length s ≤ greatest_string

pub record ArePermanents (perms : List Perm) : Type 0 where
  pub once : (i j : ℕ) (p q : Perm) → slice_get perms i ≡ Some p → slice_get perms j ≡ Some q → p.key ≡ q.key → i ≡ j
  pub objects : Each (λ p. IsObject p.object) perms
  pub keys : Each (λ p. KeyFits p.key) perms

-- values that an image holds as they are: integers of 64 bits, and no function of the libraries

abbrev pub PlainIsHeld : Plain → Type 0
PlainIsHeld (integer n) = signed_fits 63 n ≡ true
PlainIsHeld (primitive n) = ⊥
PlainIsHeld _ = Unit {0}

abbrev pub IsHeld : Value → Type 0
IsHeld (known p) = PlainIsHeld p
IsHeld (object kind n) = Unit {0}

-- a value with a name stands by that
abbrev pub FieldIsHeld : (Value → Option Item) → Field → Type 0
FieldIsHeld name (of_value v) = name v ≡ None → IsHeld v
FieldIsHeld name _ = Unit {0}

module _ (W : World) (perms : List Perm) (roots : List Value) where
  abbrev pub name : Value → Option Item
  name = named W.prelude_environment perms

  -- what an image names, in its order: its roots, then the fields of each record
  abbrev pub all_fields : List Field
  all_fields = map of_value roots ++ flat_map (fields W (is_reached W name roots)) (parts_in_order W name roots)

  -- all that the image names is there and is held, no key of a table stands twice or is nil, and there are fewer records than no image has
  pub record IsHeldWhole (primitives : ℕ) : Type 0 where
    pub savable : Savable primitives W name roots
    pub few : slice_get (parts_in_order W name roots) greatest_count ≡ None
    pub held : Each (FieldIsHeld name) all_fields
    pub rows : Each (λ t. AreRows table_values t.rows) W.heap.tables

-- what stands in images with these permanents
abbrev pub IsItem : (environment : ℕ) → List Perm → Item → Type 0
IsItem env perms (plain p) = PlainIsHeld p
IsItem env perms (numbered n) = Unit {0}
IsItem env perms (permanent kind key) = (v : Value) × (named env perms v ≡ Some (permanent kind key))
IsItem env perms environment = Unit {0}

-- a reader takes checked code for checked, knows the sort of each permanent, and takes no two items for one key
pub record Knows (env : ℕ) (perms : List Perm) (R : Reader) : Type 0 where
  pub checked : (p : Prototype) → IsChecked p → R.is_checked p ≡ true
  pub sorts : Each (λ p. R.sort_named p.key ≡ Some (sort_of p.object)) perms
  pub keys : (a b : Item) → IsItem env perms a → IsItem env perms b → R.same_key a b ≡ true → a ≡ b

-- an image of at most 2,147,483,647 bytes may stand in its format
abbrev pub WrittenImagesStand : Type 0
WrittenImagesStand =
    (primitives : ℕ) (W : World) (perms : List Perm) (roots : List Value) (R : Reader) → ArePermanents perms → IsHeldWhole W perms roots primitives → Knows W.prelude_environment perms R
    → length ((image_format R (length roots)).spell (image_of W roots perms)) ≤ 2147483647 → (met : ℕ) × ((image_format R (length roots)).after 0 (image_of W roots perms) ≡ Some met)

-- whoever reads has the code of each permanent that is a Lua function
pub record KnowsCode (W : World) (perms : List Perm) (code_named : PermKey → Option Prototype) : Type 0 where
  pub codes : (n : ℕ) (f : Function) (key : PermKey) → named W.prelude_environment perms (object a_function n) ≡ Some (permanent a_function key) → slice_get W.functions n ≡ Some f → code_named key ≡ Some f.code

-- and is accepted as that image then
abbrev pub WrittenImagesAccepted : Type 0
WrittenImagesAccepted =
    (primitives : ℕ) (W : World) (perms : List Perm) (roots : List Value) (R : Reader) (code_named : PermKey → Option Prototype) → ArePermanents perms → IsHeldWhole W perms roots primitives → Knows W.prelude_environment perms R
    → KnowsCode W perms code_named → length ((image_format R (length roots)).spell (image_of W roots perms)) ≤ 2147483647
    → (met : ℕ) × (reads R code_named (length roots) ((image_format R (length roots)).spell (image_of W roots perms)) ≡ read (image_of W roots perms) met [])
