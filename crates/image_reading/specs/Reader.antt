-- What a reader knows of permanents, of keys of rows and of code.
use Rattle.std.specs.Prelude.{ℕ, Bool, true, false, List, [], Option, Some, None, nat_eq}
use Rattle.chunk_check.specs.Faults.{first_fault}
use Rattle.int_core.specs.Value.{a_table, Value, known, object, same}
use Rattle.image_core.specs.Image.{Perm, Item, plain, numbered, permanent, environment}
use Rattle.image_bytes.specs.Bytes.{Reader}
use Rattle.image_saved.specs.Permanents.{object_named}
use Rattle.image_records.specs.declared.known.Known.{Known}
use Rattle.image_records.specs.Names.{environment_of, perms_of, sort_of_object}

-- what the key of a row becomes: a value, or the object of a record, which is no permanent
pub data RowKey : Type 0 where
  of_value : Value → RowKey
  of_record : ℕ → RowKey

abbrev pub same_row_key : RowKey → RowKey → Bool
same_row_key (of_value v) (of_value w) = same v w
same_row_key (of_record m) (of_record n) = nat_eq m n
same_row_key _ _ = false

abbrev pub no_fault : {A : Type 0} → Option A → Bool
no_fault None = true
no_fault (Some fault) = false

module _ (perms : List Perm) (env : ℕ) where
  abbrev pub row_key : Item → RowKey
  row_key (plain p) = of_value (known p)
  row_key (numbered n) = of_record n
  row_key (permanent kind name) = of_value (object_named perms name)
  row_key environment = of_value (object a_table env)

  -- permanents and the prelude's environment by what they are in the world that is read into
  abbrev pub reader : Reader
  reader = record {
    sorts = [];
    sort_named = λ name. sort_of_object (object_named perms name);
    same_key = λ a b. same_row_key (row_key a) (row_key b);
    is_checked = λ p. no_fault (first_fault p);
  }

abbrev pub reader_of : Known → Reader
reader_of k = reader (perms_of k) (environment_of k).0
