use Rattle.std.proofs.Common.{◌≡◌, ◌<◌, ℕ, length, get_or}
use Rattle.lib_utf8.proofs.Encodings.{AreEncoded}
use Rattle.lib_utf8.proofs.characters.code_arguments.Given as goal

abbrev pub invariant-loop-shape : goal.invariant-loop-shape
invariant-loop-shape l = (l.place ≡ l.shape-index) × AreEncoded l.shapes l.shape-index l.codes.items × ((k : ℕ) → k < length l.codes.items → get_or l.codes.items k 0 < 2147483648)
