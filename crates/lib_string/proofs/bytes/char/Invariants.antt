use Rattle.std.proofs.Common.{◌≡◌}
use Rattle.lib_string.proofs.Chars.{AreChars}
use Rattle.lib_string.proofs.bytes.char.Given as goal

abbrev pub invariant-loop-shape : goal.invariant-loop-shape
invariant-loop-shape l = (l.place ≡ l.shape-index) × AreChars l.shapes l.shape-index l.bytes.items
