use Rattle.std.proofs.Common.{◌≡◌, ◌++◌, length}
use Rattle.library_rows.specs.Formats.{quoted_bytes}
use Rattle.text_format.proofs.quoting.append_quoted_bytes.Given as goal

abbrev pub invariant-loop-byte : goal.invariant-loop-byte
invariant-loop-byte l = l.out.items ++ quoted_bytes l.rest ≡ l.initial.out.items ++ quoted_bytes l.text

abbrev pub decreases-loop-byte : goal.decreases-loop-byte
decreases-loop-byte l = length l.rest
