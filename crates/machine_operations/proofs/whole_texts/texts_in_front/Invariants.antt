use Rattle.std.specs.Prelude.{◌≤◌}
use Rattle.machine_operations.specs.WholeTexts.{AreTexts}
use Rattle.machine_operations.proofs.whole_texts.texts_in_front.Given as goal

abbrev pub invariant-loop-below : goal.invariant-loop-below
invariant-loop-below l = (l.below ≤ l.count) × AreTexts l.world l.first l.below l.text.items
