-- That the reading of images knows the permanents that it was handed, and that what was written is read back.
use Rattle.std.specs.Prelude.{ℕ, ◌≡◌, List, [], length, map, Option}
use Rattle.code_core.specs.Prototype.{Prototype}
use Rattle.int_core.specs.Rows.{AreRows}
use Rattle.int_core.specs.Value.{table_values}
use Rattle.lua_meaning.specs.Libraries.{environment_table}
use Rattle.machine_alike.specs.Agree.{Pairs, SameValue}
use Rattle.machine_sound.specs.Sound.{Each}
use Rattle.table_core.specs.declared.value.Value.{Value as Kept}
use Rattle.lua_heap.specs.declared.world.World.{World as Memory}
use Rattle.lua_heap.specs.Plain.{plain}
use Rattle.lua_heap.specs.Reading.{value}
use Rattle.image_core.specs.Image.{PermKey, Perm}
use Rattle.image_core.specs.Records.{named}
use Rattle.image_bytes.specs.Format.{read}
use Rattle.image_sound.specs.Fitting.{reads}
use Rattle.image_saved.specs.Permanents.{AreInverse}
use Rattle.session_images.specs.Permanents.{base_permanents}
use Rattle.graph_core.specs.declared.permanents.Permanents.{Permanents}
use Rattle.graph_core.specs.Inverse.{Inverse}
use Rattle.graph_core.specs.Permanents.{permanents}
use Rattle.eris_write.specs.Persisting.{CanPersist, IsWritten, image}
use Rattle.images_stand.specs.Standing.{IsObject, KeyFits, ArePermanents, FieldIsHeld, all_fields, Knows, KnowsCode}
use Rattle.images_stand.specs.Sessions.{KnowsLibraries}
use Rattle.image_reading.specs.Reader.{reader}

abbrev pub ReaderKnows : Type 0
ReaderKnows = (env : ℕ) (perms : List Perm) → ArePermanents perms → Knows env perms (reader perms env)

abbrev pub SessionReaderKnows : Type 0
SessionReaderKnows = KnowsLibraries (reader base_permanents environment_table)

-- each field of what was written is held where it has no name
abbrev pub WrittenIsHeld : Type 0
WrittenIsHeld = (W : Memory) (roots : List Kept) (ps : Permanents) (bytes : List ℕ) (fuel : ℕ) → IsWritten W roots ps bytes
    → Each (FieldIsHeld (named W.prelude.env.0 (permanents ps))) (all_fields (plain W fuel) (permanents ps) (map (value W.strings) roots))

-- bytes that were written are read as the image that they were written of; the permanents are functions of the libraries and objects
abbrev pub WrittenIsRead : Type 0
WrittenIsRead = (W : Memory) (roots : List Kept) (ps : Permanents) (bytes : List ℕ) (code_named : PermKey → Option Prototype) → CanPersist W roots → IsWritten W roots ps bytes
    → Each (λ p. IsObject p.object) (permanents ps) → Each (λ p. KeyFits p.key) (permanents ps) → Each (λ t. AreRows table_values t.rows) (plain W 0).heap.tables → KnowsCode (plain W 0) (permanents ps) code_named
    → (met : ℕ) × (reads (reader (permanents ps) W.prelude.env.0) code_named (length roots) bytes ≡ read (image W roots ps 0) met [])

-- the same where the reader is handed permanents that are the inverse of the writer's
abbrev pub WrittenIsReadByInverse : Type 0
WrittenIsReadByInverse = (W : Memory) (roots : List Kept) (forth back : Permanents) (bytes : List ℕ) (code_named : PermKey → Option Prototype) → CanPersist W roots → IsWritten W roots forth bytes
    → Inverse (permanents forth) (permanents back)
    → Each (λ p. IsObject p.object) (permanents forth) → Each (λ p. KeyFits p.key) (permanents forth) → Each (λ t. AreRows table_values t.rows) (plain W 0).heap.tables → KnowsCode (plain W 0) (permanents forth) code_named
    → (met : ℕ) × (reads (reader (permanents back) W.prelude.env.0) code_named (length roots) bytes ≡ read (image W roots forth 0) met [])

-- inverse permanents are what loading into another world supposes, where each of their objects is paired with the one of its number there
abbrev pub InverseCanLoad : Type 0
InverseCanLoad = (pairs : Pairs) (forth back : List Perm) → Inverse forth back → Each (λ p. SameValue pairs p.object p.object) forth → AreInverse pairs forth back
