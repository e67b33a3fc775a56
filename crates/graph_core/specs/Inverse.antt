-- Permanents that are inverse to each other: by the ones an image is written, by the others it is read (Eris's manual, permanent values: the table that reading
-- takes is the inverse of the one that writing takes).
use Rattle.std.specs.Prelude.{◌≡◌, ◌<◌, ℕ, List, Some, slice_get}
use Rattle.image_core.specs.Image.{Perm}
use Rattle.image_core.specs.Records.{key_of}

-- no object stands twice
abbrev pub ObjectsAreOnce : List Perm → Type 0
ObjectsAreOnce ps = (i j : ℕ) (p q : Perm) → slice_get ps i ≡ Some p → slice_get ps j ≡ Some q → p.object ≡ q.object → i ≡ j

-- no two have one key
abbrev pub KeysAreOnce : List Perm → Type 0
KeysAreOnce ps = (i j : ℕ) (p q : Perm) → slice_get ps i ≡ Some p → slice_get ps j ≡ Some q → p.key ≡ q.key → i ≡ j

-- each of the ones is among the others, with the same key
abbrev pub AreAmong : List Perm → List Perm → Type 0
AreAmong ps qs = (i : ℕ) (p : Perm) → slice_get ps i ≡ Some p → (j : ℕ) × (slice_get qs j ≡ Some p)

-- both have the same pairs, and neither an object nor a key stands in two of them
pub record Inverse (forth back : List Perm) : Type 0 where
  pub objects : ObjectsAreOnce forth
  pub keys : KeysAreOnce forth
  pub written_is_read : AreAmong forth back
  pub read_is_written : AreAmong back forth

-- the key of the one at a place is that of one before it
pub record KeyIsBefore (ps : List Perm) (n : ℕ) : Type 0 where
  pub first : ℕ
  pub one : Perm
  pub other : Perm
  pub before : first < n
  pub is_one : slice_get ps first ≡ Some one
  pub is_other : slice_get ps n ≡ Some other
  pub equal : one.key ≡ other.key

-- the objects of the ones have the same keys among the others
abbrev pub HaveKeysAmong : List Perm → List Perm → Type 0
HaveKeysAmong ps qs = (i : ℕ) (p : Perm) → slice_get ps i ≡ Some p → key_of qs p.object ≡ Some p.key
