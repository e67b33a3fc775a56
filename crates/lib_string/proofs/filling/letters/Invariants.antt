use Rattle.std.proofs.Common.{◌≡◌, ◌++◌, length}
use Rattle.library_rows.specs.Formats.{letters, pieces}
use Rattle.lib_string.proofs.filling.letters.Given as goal

abbrev pub invariant-loop-next : goal.invariant-loop-next
invariant-loop-next l = letters (pieces 0 l.format) ≡ l.text.items ++ letters (pieces 0 l.rest)

abbrev pub decreases-loop-next : goal.decreases-loop-next
decreases-loop-next l = length l.rest
