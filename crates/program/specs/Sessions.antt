-- How a session ends that is fed with lines, and what is left of it: where it waits for a line, it is saved in the file that is named for that.
use Rattle.std.specs.Prelude.{◌≡◌, ◌≢◌, ◌<◌, ◌≤◌, ◌⊎◌, ℕ, List, ◌++◌, length, Option, Some, None, IsSome, IfSome, IsSomeAnd}
use Rattle.std.specs.Option.{option_map}
use Rattle.code_core.specs.Prototype.{Prototype, list_of}
use Rattle.library_rows.specs.Library.{Entry}
use Rattle.io_edge.specs.Content.{FileMap, with_file}
use Rattle.io_edge.specs.Lines.{lines_of}
use Rattle.lua_meaning.specs.Opening.{prelude_of}
use Rattle.machine_core.specs.World.{World}
use Rattle.machine_runs.specs.Runs.{Close, has_returned, has_failed, has_spent, is_suspended, Run}
use Rattle.image_bytes.specs.Bytes.{Reader, image_format}
use Rattle.session_images.specs.Prelude.{HasPrelude}
use Rattle.session_images.specs.Saved.{session_image}
use Rattle.session_images.specs.Stored.{root_count, IsWrittenAs}
use Rattle.images_stand.specs.Sessions.{IsKept as IsHeldWhole}
use Rattle.lua_feed.specs.Feeding.{IsLast, IsBrokenOff, IsCutOff}
use Rattle.lua_feed.specs.Limits.{usable_lines}
use Rattle.program.specs.declared.session.Session.{Session}
use Rattle.program.specs.declared.session.SessionState.{SessionState}
use Rattle.program.specs.declared.session.SessionState.TheVariants.{Suspended, Ended}
use Rattle.program.specs.Devices.{Device, RoseIn}

abbrev pub state_of : Close → SessionState
state_of has_returned = Ended
state_of has_failed = Ended
state_of is_suspended = Suspended
state_of has_spent = Ended

abbrev pub status_of_close : Close → ℕ
status_of_close has_returned = 0
status_of_close has_failed = 1
status_of_close is_suspended = 3
status_of_close has_spent = 4

-- the session that ran, as the run left it: its world is the last one of the run, but for what is left of a budget
pub record IsSessionOf (run : Run) (session : Session) : Type 0 where
  pub world : IsLast run.last session.world
  pub state : session.state ≡ state_of run.close

-- the functions of the prelude with this code, by their names
abbrev pub functions_of : Prototype → List (Entry Prototype)
functions_of prelude = prelude_of (list_of prelude.inner)

-- the session's image would have more bytes than an image may have
pub record IsTooLarge (W : World) : Type 0 where
  pub more : (R : Reader) → 2147483647 < length ((image_format R root_count).spell (session_image W))

-- the functions of the prelude or its environment are not as they were made, and no image holds them; no script gets there, but an image from elsewhere may
pub record HasChanged (prelude : Prototype) (W : World) : Type 0 where
  pub is : HasPrelude (functions_of prelude) W → ⊥

-- Where a run waits for a line and a file is named to save it in, that file holds the image of its session, which is as worlds in memory are, and the other
-- files are as before. Else all are
pub data IsKept (prelude : Prototype) (run : Run) (files : Device FileMap) : Option (List ℕ) → Type 0 where
  unnamed : files.content' ≡ files.content → IsKept prelude run files None
  ended : (image : List ℕ) → run.close ≢ is_suspended → files.content' ≡ files.content → IsKept prelude run files (Some image)
  saved : (image bytes : List ℕ) → run.close ≡ is_suspended → IsWrittenAs (functions_of prelude) run.last bytes → length bytes ≤ 2147483647 → IsHeldWhole run.last
      → files.content' ≡ option_map (λ held. with_file held image bytes) files.content → IsKept prelude run files (Some image)

-- what is left of a run: it is kept, or it waits for a line and is not saved, and why
pub data IsLeft (prelude : Prototype) (run : Run) (save : Option (List ℕ)) (files : Device FileMap) : (status : ℕ) → Type 0 where
  kept : IsKept prelude run files save → IsLeft prelude run save files (status_of_close run.close)
  too_large : IsSome save → run.close ≡ is_suspended → IsTooLarge run.last → IsLeft prelude run save files 7
  changed : IsSome save → run.close ≡ is_suspended → HasChanged prelude run.last → IsLeft prelude run save files 12
  unwritten : IsSome save → run.close ≡ is_suspended → RoseIn files → IsLeft prelude run save files 6
  no_memory : IsSome save → run.close ≡ is_suspended → IsLeft prelude run save files 9

-- Reading failed: some first lines of the text were taken, none of them past the limits, what is done on them waits for the next, and all that it prints is
-- written
pub record IsCutShort (Runs : List (List ℕ) → Run → Type 0) (text : List ℕ) (out : Device (List ℕ)) : Type 0 where
  pub lines : List (List ℕ)
  pub more : List (List ℕ)
  pub first : usable_lines 0 text ≡ lines ++ more
  pub run : Run
  pub runs : Runs lines run
  pub waits : run.close ≡ is_suspended
  pub written : out.content' ≡ option_map (λ before. before ++ run.printed) out.content

-- How a session ends, where `Runs` tells what it does on lines: it closes, all that it prints is written, so much is left of it, and it is handed back; or the
-- input failed where it waits for a line, or that line is past the limits, and all that it prints before is written; or the output failed, or there is no
-- memory. Where the input tells its bytes the lines are its lines
pub data Ends (prelude : Prototype) (Runs : List (List ℕ) → Run → Type 0) (save : Option (List ℕ)) (files : Device FileMap) (input out : Device (List ℕ)) (last : Option Session) (status : ℕ) : Type 0 where
  closed : (lines : List (List ℕ)) → IfSome input.content (λ text. lines ≡ lines_of text) → (run : Run) → Runs lines run
      → out.content' ≡ option_map (λ before. before ++ run.printed) out.content → IsLeft prelude run save files status → IsSomeAnd last (IsSessionOf run)
      → Ends prelude Runs save files input out last status
  failed : (RoseIn input × IsBrokenOff Runs 0 input.content out.content out.content') ⊎ RoseIn out → status ≡ 6 → Ends prelude Runs save files input out last status
  past_limits : IsCutOff Runs 0 input.content out.content out.content' → status ≡ 7 → Ends prelude Runs save files input out last status
  no_memory : status ≡ 9 → Ends prelude Runs save files input out last status
