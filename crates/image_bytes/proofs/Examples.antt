-- Images whose bytes are computed.
use Rattle.std.proofs.Common.{◌≡◌, [], ◌∷◌, None, refl, false}
use Rattle.int_core.specs.Value.{nil}
use Rattle.image_core.specs.Image.{plain, numbered, table_record}
use Rattle.image_bytes.specs.Format.{case, followed, tested, byte, list_by, word, times, tagged, when, nothing}
use Rattle.image_bytes.specs.Bytes.{Reader, image_format, exactly, sorts_format, item_format, item_body, reference, records_format, record_format, table_format, rows_format, only}

-- the bytes of a graph of one empty table
reader : Reader
reader = record { sorts = []; sort_named = λ k. None; same_key = λ a b. false; is_checked = λ p. false }

one_table : (image_format reader 1).spell (record { roots = numbered 0 ∷ []; records = table_record [] (plain nil) ∷ [] }) ≡ 76 ∷ 85 ∷ 73 ∷ 77 ∷ 1 ∷ 1 ∷ 0 ∷ 0 ∷ 0 ∷ 1 ∷ 1 ∷ 5 ∷ 0 ∷ 0 ∷ 0 ∷ 0 ∷ 0 ∷ 0 ∷ 0 ∷ 0 ∷ 0 ∷ []
unfolding reader image_format case followed exactly tested byte sorts_format list_by word times item_format tagged item_body when reference records_format record_format table_format rows_format only nothing
one_table = refl
