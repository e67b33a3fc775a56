use Rattle.std.proofs.Common.{◌≡◌, ◌++◌}
use Rattle.std.specs.Prelude.{drop, map}
use Rattle.library_rows.specs.Searches.{capture_value}
use Rattle.library_arguments.specs.Shapes.{known_of}
use Rattle.lib_string.proofs.matching.append_captures.Given as goal

abbrev pub invariant-loop-capture : goal.invariant-loop-capture
invariant-loop-capture l = map known_of l.values.items ++ map (capture_value l.subject) (drop l.capture-index l.hit.captures.items)
    ≡ map known_of l.initial.values.items ++ map (capture_value l.subject) l.hit.captures.items
