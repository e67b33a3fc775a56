-- Permanents on both sides of an image: the keys by which objects are written, and what the keys stand for where it is read (Eris's manual, permanent values).
use Rattle.std.specs.Prelude.{ℕ, ◌≡◌, Bool, false, cond, List, [], ◌∷◌, length, Some, slice_get, bytes_eq}
use Rattle.int_core.specs.Value.{nil, Kind, a_table, Value, known, same_integer}
use Rattle.machine_core.specs.World.{World}
use Rattle.machine_alike.specs.Agree.{Pairs, SameNumber, SameValue}
use Rattle.image_core.specs.Image.{PermKey, number_key, text_key, Perm, Item, Record}
use Rattle.image_core.specs.Records.{named}
use Rattle.image_core.specs.Loading.{Target, value_made}

abbrev pub same_key : PermKey → PermKey → Bool
same_key (number_key m) (number_key n) = same_integer m n
same_key (text_key s) (text_key t) = bytes_eq s t
same_key _ _ = false

-- of several permanents with one key the first counts
abbrev pub object_named : List Perm → PermKey → Value
object_named [] key = known nil
object_named (p ∷ ps) key = cond (same_key p.key key) p.object (object_named ps key)

-- a world as an image is loaded into it, with these permanents
abbrev pub target : World → List Perm → Target
target V perms = record {
  tables = length V.heap.tables;
  functions = length V.functions;
  coroutines = length V.coroutines;
  cells = length V.cells;
  named = λ kind key. object_named perms key;
  environment = V.prelude_environment;
}

-- the permanents of the writer and those of the reader have the same keys, no key stands twice among the writer's, and the objects of one key are paired
pub record AreInverse (pairs : Pairs) (forth back : List Perm) : Type 0 where
  pub is_known : (i : ℕ) (p : Perm) → slice_get forth i ≡ Some p → (j : ℕ) × (q : Perm) × (slice_get back j ≡ Some q) × (q.key ≡ p.key)
  pub is_paired : (j : ℕ) (q : Perm) → slice_get back j ≡ Some q → (i : ℕ) × (p : Perm) × (slice_get forth i ≡ Some p) × (p.key ≡ q.key) × SameValue pairs p.object q.object
  pub once : (i j : ℕ) (p q : Perm) → slice_get forth i ≡ Some p → slice_get forth j ≡ Some q → p.key ≡ q.key → i ≡ j

-- what the reader puts in for keys and for the prelude's environment
pub record Reads (pairs : Pairs) (environment : ℕ) (T : Target) (back : List Perm) : Type 0 where
  pub named : (kind : Kind) (key : PermKey) → T.named kind key ≡ object_named back key
  pub environments : SameNumber pairs a_table environment T.environment

-- a value that is written by a name is the same as what is read for the name
abbrev pub NamesAreRead : Type 0
NamesAreRead = (pairs : Pairs) (environment : ℕ) (T : Target) (forth back : List Perm) → AreInverse pairs forth back → Reads pairs environment T back
    → (v : Value) (i : Item) → named environment forth v ≡ Some i → (records : List Record) → SameValue pairs v (value_made T records i)
