-- Sessions of one script, one after another.
use Rattle.std.specs.Prelude.{◌≡◌, ◌≤◌, ℕ, List, [], ◌∷◌, ◌++◌, length, Option}
use Rattle.code_core.specs.Prototype.{Prototype}
use Rattle.library_rows.specs.Library.{Entry}
use Rattle.machine_core.specs.World.{World}
use Rattle.machine_core.specs.Moves.{Row}
use Rattle.machine_runs.specs.Opening.{opening, begun}
use Rattle.machine_runs.specs.Runs.{Close, is_suspended, Run, CodeRun, CodeOnward}
use Rattle.image_core.specs.Image.{PermKey}
use Rattle.image_bytes.specs.Bytes.{Reader}
use Rattle.session_images.specs.Stored.{IsWrittenAs, IsLoaded}
use Rattle.images_stand.specs.Sessions.{IsKept}

-- the bytes are the image of the session in W, no more of them than an image may have, and W is as worlds in memory are
pub record IsSaved (prelude : List (Entry Prototype)) (W : World) (bytes : List ℕ) : Type 0 where
  pub written : IsWrittenAs prelude W bytes
  pub size : length bytes ≤ 2147483647
  pub kept : IsKept W

module _ (R : Reader) (code_named : PermKey → Option Prototype) (prelude : List (Entry Prototype)) (rows : ℕ → Row) (budget : ℕ) where
  -- the sessions from an image on: the lines of each, what they print, and how the last one closes. Where one is not suspended there is no other behind it
  pub data GoOn : (image : List ℕ) → List (List (List ℕ)) → (printed : List ℕ) → Close → Type 0 where
    last_session : (image : List ℕ) (X : World) (lines : List (List ℕ)) (r : Run) → IsLoaded R code_named prelude image X → CodeOnward rows X lines budget r → GoOn image (lines ∷ []) r.printed r.close
    saved_session : (image : List ℕ) (X : World) (lines : List (List ℕ)) (r : Run) (next : List ℕ) (more : List (List (List ℕ))) (text : List ℕ) (close : Close)
        → IsLoaded R code_named prelude image X → CodeOnward rows X lines budget r → r.close ≡ is_suspended → IsSaved prelude r.last next → GoOn next more text close
        → GoOn image (lines ∷ more) (r.printed ++ text) close

  -- all sessions of a script, of which the first begins with its code
  pub data Sessions (code : Prototype) : List (List (List ℕ)) → (printed : List ℕ) → Close → Type 0 where
    only_session : (lines : List (List ℕ)) (r : Run) → CodeRun rows (begun (opening prelude) code) lines budget r → Sessions code (lines ∷ []) r.printed r.close
    first_session : (lines : List (List ℕ)) (r : Run) (next : List ℕ) (more : List (List (List ℕ))) (text : List ℕ) (close : Close)
        → CodeRun rows (begun (opening prelude) code) lines budget r → r.close ≡ is_suspended → IsSaved prelude r.last next → GoOn next more text close
        → Sessions code (lines ∷ more) (r.printed ++ text) close
