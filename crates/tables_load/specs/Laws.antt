-- That tables are tables in sessions that are loaded, and what that gives where they are saved.
use Rattle.std.specs.Prelude.{◌≡◌, ◌<◌, ◌≤◌, ℕ, List, [], length, Option}
use Rattle.int_core.specs.Value.{Kind, object}
use Rattle.code_core.specs.Prototype.{Prototype}
use Rattle.library_rows.specs.Library.{Entry}
use Rattle.lua_meaning.specs.Libraries.{environment_table}
use Rattle.machine_core.specs.World.{World}
use Rattle.machine_core.specs.Moves.{Row}
use Rattle.machine_core.specs.PrimitiveRows.{row_numbered}
use Rattle.machine_sound.specs.Sound.{Each}
use Rattle.machine_runs.specs.Opening.{opening, begun}
use Rattle.machine_runs.specs.Runs.{Run, CodeRun, CodeOnward}
use Rattle.image_core.specs.Image.{PermKey, Perm, Image}
use Rattle.image_core.specs.Loading.{Target, count_in, loaded}
use Rattle.image_bytes.specs.Format.{read}
use Rattle.image_load.specs.Session.{session_roots}
use Rattle.image_reading.specs.Reader.{reader}
use Rattle.image_saved.specs.Permanents.{object_named}
use Rattle.image_sound.specs.Fitting.{reads}
use Rattle.session_images.specs.Laws.{IsLibrary}
use Rattle.session_images.specs.Permanents.{base_permanents}
use Rattle.session_images.specs.Saved.{session_name}
use Rattle.session_images.specs.Stored.{IsWrittenAs, IsLoaded}
use Rattle.images_stand.specs.Standing.{FieldIsHeld, all_fields}
use Rattle.sessions_join.specs.Sessions.{IsSaved}
use Rattle.tables_stay.specs.Laws.{AreTables, RowKeeps}

-- what a reader was handed is what there is to load into: permanents, and the environment of the prelude
pub record IsHome (perms : List Perm) (env : ℕ) (T : Target) : Type 0 where
  pub named : (kind : Kind) (key : PermKey) → T.named kind key ≡ object_named perms key
  pub environment : T.environment ≡ env
  pub env_there : env < T.tables
  pub there : (key : PermKey) (kind : Kind) (n : ℕ) → object_named perms key ≡ object kind n → n < count_in T kind

-- whatever bytes are accepted, what is loaded into a world with tables has tables
abbrev pub AcceptedHasTables : Type 0
AcceptedHasTables =
    (perms : List Perm) (env : ℕ) (T : Target) (V : World) → IsHome perms env T → (code_named : PermKey → Option Prototype) (roots met : ℕ) (I : Image) (bytes : List ℕ)
    → reads (reader perms env) code_named roots bytes ≡ read I met [] → AreTables V.heap → AreTables (loaded T I.records V).heap

-- so has each session that is loaded, by a reader of sessions
abbrev pub SessionsHaveTables : Type 0
SessionsHaveTables =
    (prelude : List (Entry Prototype)) → IsLibrary prelude → AreTables (opening prelude).heap → (code_named : PermKey → Option Prototype) (image : List ℕ) (session : World)
    → IsLoaded (reader base_permanents environment_table) code_named prelude image session → AreTables session.heap

-- and whatever it comes to on further lines
abbrev pub OnwardHasTables : Type 0
OnwardHasTables =
    (build : Row) → RowKeeps build → (prelude : List (Entry Prototype)) → IsLibrary prelude → AreTables (opening prelude).heap → (code_named : PermKey → Option Prototype) (image : List ℕ) (session : World)
    → IsLoaded (reader base_permanents environment_table) code_named prelude image session → (lines : List (List ℕ)) (budget : ℕ) (run : Run) → CodeOnward (row_numbered build) session lines budget run → AreTables run.last.heap

-- The bytes are the image of the session in W, no more of them than an image may have, and integers in it have 64 bits; nothing is said of tables
pub record IsSpelled (prelude : List (Entry Prototype)) (W : World) (bytes : List ℕ) : Type 0 where
  pub written : IsWrittenAs prelude W bytes
  pub size : length bytes ≤ 2147483647
  pub held : Each (FieldIsHeld (session_name W)) (all_fields W base_permanents (session_roots W))

-- so the last world of a run of code is saved as these
abbrev pub RunIsSaved : Type 0
RunIsSaved =
    (build : Row) → RowKeeps build → (prelude : List (Entry Prototype)) → AreTables (opening prelude).heap → (code : Prototype) (lines : List (List ℕ)) (budget : ℕ) (run : Run)
    → CodeRun (row_numbered build) (begun (opening prelude) code) lines budget run → (bytes : List ℕ) → IsSpelled prelude run.last bytes → IsSaved prelude run.last bytes

-- and that of a session that was loaded
abbrev pub OnwardIsSaved : Type 0
OnwardIsSaved =
    (build : Row) → RowKeeps build → (prelude : List (Entry Prototype)) → IsLibrary prelude → AreTables (opening prelude).heap → (code_named : PermKey → Option Prototype) (image : List ℕ) (session : World)
    → IsLoaded (reader base_permanents environment_table) code_named prelude image session → (lines : List (List ℕ)) (budget : ℕ) (run : Run) → CodeOnward (row_numbered build) session lines budget run
    → (bytes : List ℕ) → IsSpelled prelude run.last bytes → IsSaved prelude run.last bytes
