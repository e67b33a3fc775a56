-- What the program does with its arguments, its files, its input and what it writes.
use Rattle.std.specs.Prelude.{◌≡◌, ℕ, List, Option, Some, None}
use Rattle.load_rows.specs.Loading.{Builds}
use Rattle.tree_core.specs.Tree.{Body}
use Rattle.io_edge.specs.Content.{FileMap}
use Rattle.command_words.specs.Words.{Command, run, resume, check, compile, work}
use Rattle.program.specs.Devices.{Device, IsUntouched}
use Rattle.program.specs.Running.{IsRun}
use Rattle.program.specs.Resuming.{IsResume}
use Rattle.program.specs.Checking.{IsCheck}
use Rattle.program.specs.Compiling.{IsCompilation}
use Rattle.program.specs.Working.{IsWork}
use Rattle.program.specs.declared.session.Session.{Session}

-- wrong arguments have status 2, and nothing is read or written
pub record IsNoWork (files : Device FileMap) (out : Device (List ℕ)) (status : ℕ) : Type 0 where
  pub wrong_words : status ≡ 2
  pub files_same : IsUntouched files
  pub unwritten : IsUntouched out

abbrev pub IsCall : Builds Body → Option Command → Device FileMap → (input out : Device (List ℕ)) → (last : Option Session) → ℕ → Type 0
IsCall builds (Some (run file budget save)) files input out last status = IsRun builds file budget save files input out last status
IsCall builds (Some (resume image budget save)) files input out last status = IsResume builds image budget save files input out last status
IsCall builds (Some (check file)) files input out last status = IsCheck file files out status
IsCall builds (Some (compile script chunk strip)) files input out last status = IsCompilation script chunk strip files status × IsUntouched out
IsCall builds (Some (work count)) files input out last status = IsWork builds count out last status × IsUntouched files
IsCall builds None files input out last status = IsNoWork files out status

-- `run` and `resume` alone look at the input
abbrev pub IsUnread : {S : Type 0} → Option Command → (before now : S) → Type 0
IsUnread (Some (run file budget save)) before now = Unit {0}
IsUnread (Some (resume image budget save)) before now = Unit {0}
IsUnread (Some (check file)) before now = now ≡ before
IsUnread (Some (compile script chunk strip)) before now = now ≡ before
IsUnread (Some (work count)) before now = now ≡ before
IsUnread None before now = now ≡ before
