-- What was written is read back.
use Rattle.std.proofs.Common.{ℕ, ◌≡◌, ◌≤◌, List, [], length, map, Option, subst, sym, ap, ◌∙◌}
use Rattle.std.proofs.lemmas.List.{length-map}
use Rattle.code_core.specs.Prototype.{Prototype}
use Rattle.lua_heap.specs.Plain.{plain}
use Rattle.lua_heap.specs.Reading.{value}
use Rattle.image_core.specs.Image.{PermKey, Image}
use Rattle.image_core.specs.Records.{named}
use Rattle.image_bytes.specs.Format.{read}
use Rattle.image_bytes.specs.Bytes.{Reader, image_format}
use Rattle.image_sound.specs.Fitting.{reads}
use Rattle.graph_core.specs.Permanents.{permanents}
use Rattle.eris_write.specs.Law.{WrittenIsSavable}
use Rattle.eris_write.specs.Persisting.{image}
use Rattle.images_stand.specs.Standing.{ArePermanents, IsHeldWhole, all_fields, WrittenImagesAccepted}
use Rattle.images_stand.specs.Readers.{ReadersKnow}
use Rattle.image_reading.specs.Reader.{reader}
use Rattle.images_joined.specs.Law.{WrittenIsHeld, WrittenIsRead}
use Rattle.images_joined.proofs.Goes.{reader_knows}
use Rattle.images_joined.proofs.Held.{held_of}

pub written_is_held : WrittenIsHeld
written_is_held W roots ps bytes fuel w =
    held_of (plain W fuel) (named W.prelude.env.0 (permanents ps)) (all_fields (plain W fuel) (permanents ps) (map (value W.strings) roots)) (w.allowed.none.is fuel)

abbrev pub IsReadAs : Reader → (PermKey → Option Prototype) → List ℕ → Image → ℕ → Type 0
IsReadAs R code_named bytes I n = (met : ℕ) × (reads R code_named n bytes ≡ read I met [])

pub written_is_read : WrittenIsSavable → ReadersKnow → WrittenImagesAccepted → WrittenIsRead
written_is_read savable know law W roots ps bytes code_named c w objects keys rows codes = subst (IsReadAs R code_named bytes I) count here
  where
    R : Reader
    R = reader (permanents ps) W.prelude.env.0

    I : Image
    I = image W roots ps 0

    count : length (map (value W.strings) roots) ≡ length roots
    count = length-map roots (value W.strings)

    are : ArePermanents (permanents ps)
    are = record { once = w.allowed.once; objects = objects; keys = keys }

    held : IsHeldWhole (plain W 0) (permanents ps) (map (value W.strings) roots) c.primitives
    held = record { savable = savable W roots ps bytes 0 c w; few = w.few.written 0; held = written_is_held W roots ps bytes 0 w; rows = rows }

    spelled : bytes ≡ (image_format R (length (map (value W.strings) roots))).spell I
    spelled = subst (λ n. bytes ≡ (image_format R n).spell I) (sym count) (w.spells.is 0 R)

    here : IsReadAs R code_named bytes I (length (map (value W.strings) roots))
    here =
        let k = law c.primitives (plain W 0) (permanents ps) (map (value W.strings) roots) R code_named are held (reader_knows know W.prelude.env.0 (permanents ps) are) codes (subst (λ (b : List ℕ). length b ≤ 2147483647) spelled w.size) in
        (k.0, ap (reads R code_named (length (map (value W.strings) roots))) spelled ∙ k.1)
