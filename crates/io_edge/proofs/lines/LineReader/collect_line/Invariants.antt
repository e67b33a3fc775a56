use Rattle.std.proofs.Common.{◌≡◌, ◌+◌, ◌-◌, ◌^◌, ◌⊎◌, ◌++◌, [], length}
use Rattle.std.specs.Option.{option_map}
use Rattle.io_edge.specs.Lines.{IsUnbroken, IsWithinLimits, ahead}
use Rattle.io_edge.proofs.lines.LineReader.collect_line.Given as goal

abbrev pub invariant-loop-self : goal.invariant-loop-self
invariant-loop-self g l = record {
  read : ahead l.initial.self (g.S.Source.left l.initial.source) ≡ option_map (λ text. l.line.items ++ text) (ahead l.self (g.S.Source.left l.source));
  unbroken : IsUnbroken l.line.items;
  within : (l.line.items ≡ []) ⊎ IsWithinLimits l.self.taken l.line.items;
  taken : l.self.taken ≡ l.initial.self.taken;
  faults : g.S.Source.faults l.source ≡ g.S.Source.faults l.initial.source;
}

abbrev pub decreases-loop-self : goal.decreases-loop-self
decreases-loop-self g l = 2 ^ 20 + 1 - length l.line.items
