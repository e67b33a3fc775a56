use Rattle.std.proofs.Common.{◌≡◌, ◌≤◌, ◌-◌, length}
use Rattle.library_rows.specs.Codepoints.{sequences_back}
use Rattle.utf8_core.proofs.offsets.back.Given as goal

abbrev pub invariant-loop : goal.invariant-loop
invariant-loop l = (l.place ≤ length l.text) × (sequences_back l.text l.many l.at ≡ sequences_back l.text (l.many - l.counter) l.place)
