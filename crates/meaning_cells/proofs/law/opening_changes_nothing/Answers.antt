use Rattle.meaning_cells.proofs.Opened.{catches_up}
use Rattle.meaning_cells.proofs.law.opening_changes_nothing.Goals as goal

pub returns : goal.returns
returns c = catches_up
