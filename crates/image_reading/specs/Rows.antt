-- The keys of rows, as they are kept while a table is read.
use Rattle.std.specs.Prelude.{◌≡◌, true, false, List, [], ◌∷◌, Option, Some, None, Result, Ok, Err}
use Rattle.std.specs.List.{list_any}
use Rattle.int_core.specs.Value.{nil, boolean, integer, string, primitive, a_table, a_function, a_coroutine, known, object}
use Rattle.image_core.specs.Image.{Item}
use Rattle.image_bytes.specs.Format.{of_kind}
use Rattle.image_bytes.specs.Bytes.{is_nil_item, is_new_key}
use Rattle.image_records.specs.declared.record.Item.{Item as Kept}
use Rattle.image_records.specs.declared.known.Known.{Known}
use Rattle.image_reading.specs.declared.rows.RowKey.{RowKey as Own}
use Rattle.image_reading.specs.declared.rows.RowKey.TheVariants.{Nil, Bool as Boolean, Int, Text, Numbered, Primitive, Table, Function, Coroutine}
use Rattle.image_reading.specs.declared.fault.ReadFault.{ReadFault}
use Rattle.image_reading.specs.declared.fault.ReadFault.TheVariants.{Refused, Memory}
use Rattle.image_records.specs.Names.{environment_of, perms_of}
use Rattle.image_reading.specs.Reader.{RowKey, of_value, of_record, same_row_key, row_key, reader_of}
use Rattle.image_records.specs.Views.{item}
use Rattle.image_reading.specs.Faults.{fault}

abbrev pub own_key : Own → RowKey
own_key Nil = of_value (known nil)
own_key (Boolean b) = of_value (known (boolean b))
own_key (Int n) = of_value (known (integer n))
own_key (Text text) = of_value (known (string text.now))
own_key (Numbered n) = of_record n
own_key (Primitive n) = of_value (known (primitive n))
own_key (Table n) = of_value (object a_table n)
own_key (Function n) = of_value (object a_function n)
own_key (Coroutine n) = of_value (object a_coroutine n)

abbrev pub key_in : Known → Item → RowKey
key_in k = row_key (perms_of k) (environment_of k).0

-- nil is no key of a row
abbrev pub IsRowKey : Known → Item → Option Own → Type 0
IsRowKey k i None = is_nil_item (reader_of k) i ≡ true
IsRowKey k i (Some own) = (is_nil_item (reader_of k) i ≡ false) × (own_key own ≡ key_in k i)

-- what is kept are the keys of the rows that were seen
pub record AreKeysOf (k : Known) (keys : List Own) (seen : List Item) : Type 0 where
  pub same : (x : RowKey) → list_any (λ own. same_row_key x (own_key own)) keys ≡ list_any (λ i. same_row_key x (key_in k i)) seen

-- a key is a new one and is kept, or it is refused
abbrev pub AddsKey : Known → List Own → List Item → Item → Result (Unit {0}) ReadFault → Type 0
AddsKey k keys seen i (Ok done) = (is_new_key (reader_of k) seen i ≡ true) × AreKeysOf k keys (i ∷ seen)
AddsKey k keys seen i (Err (Refused why)) = (is_new_key (reader_of k) seen i ≡ false) × (fault why ≡ of_kind 5)
AddsKey k keys seen i (Err Memory) = Unit {0}

abbrev pub KeyAdded : Known → List Own → List Item → Result (Kept × Kept) ReadFault → Type 0
KeyAdded k keys seen (Ok row) = AreKeysOf k keys (item row.0 ∷ seen)
KeyAdded k keys seen (Err fault) = Unit {0}

-- the keys behind some rows, the last one first
abbrev pub behind : List Item → List (Item × Item) → List Item
behind seen [] = seen
behind seen (row ∷ rows) = behind (row.0 ∷ seen) rows
