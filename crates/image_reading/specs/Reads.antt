-- What the reading of a whole image answers.
use Rattle.std.specs.Prelude.{ℕ, ◌≡◌, List, [], Result, Ok, Err}
use Rattle.image_core.specs.Image.{Image as ImageShown}
use Rattle.image_bytes.specs.Format.{Got, read, refused, and_then, followed, times}
use Rattle.image_bytes.specs.Bytes.{Reader, exactly, item_format, records_format}
use Rattle.image_sound.specs.Fitting.{reads}
use Rattle.image_records.specs.declared.record.Image.{Image}
use Rattle.image_records.specs.declared.known.Known.{Known}
use Rattle.image_reading.specs.declared.fault.ReadFault.{ReadFault}
use Rattle.image_reading.specs.declared.fault.ReadFault.TheVariants.{Refused, Memory}
use Rattle.image_records.specs.Views.{image_read}
use Rattle.image_reading.specs.Faults.{fault}
use Rattle.image_records.specs.Names.{code_of}
use Rattle.image_reading.specs.Reader.{reader_of}

-- the image, or the first fault; nothing where memory was wanting
abbrev pub Reads : Known → (roots : ℕ) → List ℕ → Result Image ReadFault → Type 0
Reads k roots bytes (Ok I) = (met : ℕ) × (reads (reader_of k) (code_of k) roots bytes ≡ read (image_read I) met [])
Reads k roots bytes (Err (Refused why)) = reads (reader_of k) (code_of k) roots bytes ≡ refused (fault why)
Reads k roots bytes (Err Memory) = Unit {0}

-- the roots and the records, where the sorts were read
abbrev pub parts_scan : Reader → (roots met : ℕ) → List ℕ → Got ImageShown
parts_scan R roots met bytes =
    and_then ((followed (followed (exactly roots 4) (λ n. times n (item_format R))) (λ _. records_format R)).scan met bytes) (λ x m rest. read (record { roots = x.0.1; records = x.1 }) m rest)
