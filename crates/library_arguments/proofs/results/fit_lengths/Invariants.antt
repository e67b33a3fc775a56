use Rattle.std.proofs.Common.{◌≡◌}
use Rattle.std.specs.Prelude.{drop, map}
use Rattle.std.specs.List.{list_all}
use Rattle.library_rows.specs.Plainly.{fits_length}
use Rattle.library_arguments.specs.Shapes.{known_of}
use Rattle.library_arguments.proofs.results.fit_lengths.Given as goal

abbrev pub invariant-loop-value : goal.invariant-loop-value
invariant-loop-value l = list_all fits_length (map known_of (drop l.value-index l.values)) ≡ list_all fits_length (map known_of l.values)
