use Rattle.std.proofs.Common.{◌≡◌, ◌++◌}
use Rattle.std.specs.Prelude.{drop, map}
use Rattle.library_rows.specs.Strings.{codes_of}
use Rattle.library_arguments.specs.Shapes.{known_of}
use Rattle.lib_string.proofs.bytes.codes_of.Given as goal

abbrev pub invariant-loop-byte : goal.invariant-loop-byte
invariant-loop-byte l = map known_of l.values.items ++ codes_of (drop l.byte-index l.bytes) ≡ codes_of l.bytes
