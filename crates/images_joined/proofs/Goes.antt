-- The reader goes by the objects of keys.
use Rattle.std.proofs.Common.{ℕ, ◌≡◌, true, List, refl, ap, ◌∙◌, sym, arith}
use Rattle.std.specs.Prelude.{nat_eq}
use Rattle.int_core.specs.Value.{primitive, Value, known}
use Rattle.int_core.proofs.Equality.{value_is}
use Rattle.chunk_check.proofs.Exact.{no_fault_in_checked}
use Rattle.image_core.specs.Image.{Perm, Item, plain, numbered, permanent, environment}
use Rattle.image_saved.specs.Permanents.{object_named}
use Rattle.images_stand.specs.Readers.{object_sort, Becomes, a_value, a_record, becomes, GoesBy, ReadersKnow}
use Rattle.images_stand.proofs.Session.{base_are}
use Rattle.image_records.specs.Names.{sort_of_object}
use Rattle.image_reading.specs.Reader.{RowKey, of_value, of_record, same_row_key, no_fault, row_key, reader}
use Rattle.lua_meaning.specs.Libraries.{environment_table}
use Rattle.session_images.specs.Permanents.{base_permanents}
use Rattle.images_joined.specs.Law.{ReaderKnows, SessionReaderKnows}
use Rattle.list_laws.proofs.Tests.{eq_true}

same_sort : (v : Value) → sort_of_object v ≡ object_sort v
same_sort (known (primitive n)) = refl
same_sort _ = refl

abbrev key_becomes : RowKey → Becomes
key_becomes (of_value v) = a_value v
key_becomes (of_record n) = a_record n

one_key : (x y : RowKey) → same_row_key x y ≡ true → key_becomes x ≡ key_becomes y
one_key (of_value v) (of_value w) e = ap a_value (value_is v w e)
one_key (of_record m) (of_record n) e = ap a_record (eq_true m n e)
one_key (of_value v) (of_record n) e = absurd (cc)
one_key (of_record m) (of_value w) e = absurd (cc)

module _ (env : ℕ) (perms : List Perm) where
  becomes_so : (i : Item) → becomes env perms i ≡ key_becomes (row_key perms env i)
  becomes_so (plain p) = refl
  becomes_so (numbered n) = refl
  becomes_so (permanent kind key) = refl
  becomes_so environment = refl

  goes : GoesBy env perms (reader perms env)
  goes = record {
    checked = λ p h. ap no_fault (no_fault_in_checked p h);
    sorts = λ key. same_sort (object_named perms key);
    keys = λ a b e. becomes_so a ∙ (one_key (row_key perms env a) (row_key perms env b) e ∙ sym (becomes_so b));
  }

pub reader_knows : ReadersKnow → ReaderKnows
reader_knows law env perms are = law env perms (reader perms env) are (goes env perms)

pub session_reader_knows : ReadersKnow → SessionReaderKnows
session_reader_knows law = reader_knows law environment_table base_permanents base_are
