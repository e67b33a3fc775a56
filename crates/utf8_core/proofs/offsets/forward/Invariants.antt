use Rattle.std.proofs.Common.{◌≡◌, ◌≤◌, ◌-◌, length}
use Rattle.library_rows.specs.Codepoints.{sequences_on}
use Rattle.utf8_core.proofs.offsets.forward.Given as goal

abbrev pub invariant-loop : goal.invariant-loop
invariant-loop l = (l.place ≤ length l.text) × (sequences_on l.text l.many l.at ≡ sequences_on l.text (l.many - l.counter) l.place)
