use Rattle.std.proofs.Common.{◌≡◌, ◌-◌, ℕ, length}
use Rattle.image_made.specs.Stacks.{HasRoom, Lists}
use Rattle.image_made.proofs.stack.open_cells.Given as goal

abbrev pub invariant-open : goal.invariant-open
invariant-open l = record {
  frames : l.stack.frames ≡ l.initial.stack.frames;
  lists : (first : ℕ) → Lists l.own l.openings first l.from l.initial.stack.open_cells → Lists l.own l.openings first l.at l.stack.open_cells;
  room : HasRoom l.stack l.size;
}

abbrev pub decreases-open : goal.decreases-open
decreases-open l = length l.openings - l.at
