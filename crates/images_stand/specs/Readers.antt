-- That a reader knows permanents where it goes by the objects that their keys stand for.
use Rattle.std.specs.Prelude.{ℕ, ◌≡◌, true, List, Option, Some, None}
use Rattle.code_core.specs.Check.{IsChecked}
use Rattle.code_core.specs.Prototype.{Prototype}
use Rattle.int_core.specs.Value.{primitive, Kind, a_table, a_function, Value, known, object}
use Rattle.image_core.specs.Image.{PermKey, Perm, Item, plain, numbered, permanent, environment}
use Rattle.image_bytes.specs.Bytes.{Reader}
use Rattle.image_saved.specs.Permanents.{object_named}
use Rattle.images_stand.specs.Standing.{ArePermanents, Knows}

-- which sort of object a value is; a function of the libraries counts as a function
abbrev pub object_sort : Value → Option Kind
object_sort (known (primitive n)) = Some a_function
object_sort (known p) = None
object_sort (object kind n) = Some kind

-- what an item becomes: a value, or the object of a record, which is none of the permanents
pub data Becomes : Type 0 where
  a_value : Value → Becomes
  a_record : ℕ → Becomes

abbrev pub becomes : (environment : ℕ) → List Perm → Item → Becomes
becomes env perms (plain p) = a_value (known p)
becomes env perms (numbered n) = a_record n
becomes env perms (permanent kind key) = a_value (object_named perms key)
becomes env perms environment = a_value (object a_table env)

-- a reader takes checked code for checked, a permanent for the sort of its object, and two items for one key only where they become the same
pub record GoesBy (env : ℕ) (perms : List Perm) (R : Reader) : Type 0 where
  pub checked : (p : Prototype) → IsChecked p → R.is_checked p ≡ true
  pub sorts : (key : PermKey) → R.sort_named key ≡ object_sort (object_named perms key)
  pub keys : (a b : Item) → R.same_key a b ≡ true → becomes env perms a ≡ becomes env perms b

abbrev pub ReadersKnow : Type 0
ReadersKnow = (env : ℕ) (perms : List Perm) (R : Reader) → ArePermanents perms → GoesBy env perms R → Knows env perms R
