-- Calls of the program on one script, one after another: the first runs it, and each further one goes on with the session that the one before saved.
use Rattle.std.specs.Prelude.{◌≡◌, ℕ, true, List, [], ◌∷◌, ◌++◌, Option, Some}
use Rattle.io_edge.specs.Content.{FileMap}
use Rattle.source_builds.specs.Readings.{AsRead}
use Rattle.command_words.specs.Words.{Command, run, resume}
use Rattle.program.specs.Devices.{Device, Holds}
use Rattle.program.specs.Meaning.{has_ended}
use Rattle.program.specs.Program.{IsCall}
use Rattle.program.specs.declared.session.Session.{Session}

-- a call of the program whose devices tell: the file of the name holds the content, the input the text, and the printed bytes go after what the output held
pub record Called (command : Command) (name content text printed : List ℕ) (status : ℕ) : Type 0 where
  pub files : Device FileMap
  pub input : Device (List ℕ)
  pub out : Device (List ℕ)
  pub last : Option Session
  pub is_call : AsRead (λ builds. IsCall builds (Some command) files input out last status)
  pub holds : Holds files.content name content
  pub reads : input.content ≡ Some text
  pub before : List ℕ
  pub had : out.content ≡ Some before
  pub has : out.content' ≡ Some (before ++ printed)

module _ (budget : ℕ) where
  -- the calls from a saved session on: the text of each input, all that is written, and the last status. The files of a call may be others than those in which
  -- the session was saved, and so may its name; only the bytes are the same
  pub data Resumed : (session : List ℕ) → (texts : List (List ℕ)) → (printed : List ℕ) → (status : ℕ) → Type 0 where
    last_call : (session name text printed : List ℕ) (save : Option (List ℕ)) (status : ℕ)
        → Called (resume name budget save) name session text printed status → has_ended status ≡ true → Resumed session (text ∷ []) printed status
    saving_call : (session name text printed image next : List ℕ) (texts : List (List ℕ)) (more : List ℕ) (status : ℕ)
        → (call : Called (resume name budget (Some image)) name session text printed 3) → Holds call.files.content' image next → Resumed next texts more status
        → Resumed session (text ∷ texts) (printed ++ more) status

  -- all calls on the script in a file
  pub data Calls (name content : List ℕ) : (texts : List (List ℕ)) → (printed : List ℕ) → (status : ℕ) → Type 0 where
    only_call : (text printed : List ℕ) (save : Option (List ℕ)) (status : ℕ)
        → Called (run name budget save) name content text printed status → has_ended status ≡ true → Calls name content (text ∷ []) printed status
    first_call : (text printed image next : List ℕ) (texts : List (List ℕ)) (more : List ℕ) (status : ℕ)
        → (call : Called (run name budget (Some image)) name content text printed 3) → Holds call.files.content' image next → Resumed next texts more status
        → Calls name content (text ∷ texts) (printed ++ more) status

  -- calls on it up to one that saved its session
  pub data SavedCalls (name content : List ℕ) : (texts : List (List ℕ)) → (printed session : List ℕ) → Type 0 where
    first_saves : (text printed image session : List ℕ)
        → (call : Called (run name budget (Some image)) name content text printed 3) → Holds call.files.content' image session → SavedCalls name content (text ∷ []) printed session
    next_saves : (texts : List (List ℕ)) (printed session other text more image next : List ℕ)
        → SavedCalls name content texts printed session → (call : Called (resume other budget (Some image)) other session text more 3) → Holds call.files.content' image next
        → SavedCalls name content (texts ++ text ∷ []) (printed ++ more) next
