use Rattle.std.proofs.Common.{◌≡◌, ℕ, List, ◌++◌, Option}
use Rattle.std.specs.Prelude.{flat_map}
use Rattle.std.specs.Option.{option_map}
use Rattle.io_edge.specs.Content.{GrowsByFront}
use Rattle.program.specs.Lines.{part_text}
use Rattle.program.proofs.Lines.{text_from}
use Rattle.program.proofs.reporting.write_parts.Given as goal

-- what comes of the parts that are left comes of all of them
abbrev pub invariant-loop-at : goal.invariant-loop-at
invariant-loop-at g l = record {
  same : g.E.Sink.faults l.err ≡ g.E.Sink.faults l.fn.err;
  written : (after : Option (List ℕ)) → after ≡ option_map (λ text. text ++ text_from l.parts l.at) (g.E.Sink.written l.err) → after ≡ option_map (λ text. text ++ flat_map part_text l.parts) (g.E.Sink.written l.fn.err);
  front : (after : Option (List ℕ)) → GrowsByFront (text_from l.parts l.at) (g.E.Sink.written l.err) after → GrowsByFront (flat_map part_text l.parts) (g.E.Sink.written l.fn.err) after;
}
