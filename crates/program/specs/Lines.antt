-- The parts of which a line on standard error is written.
use Rattle.std.specs.Prelude.{ℕ, List, decimal}
use Rattle.program.specs.declared.reporting.Part.{Part}
use Rattle.program.specs.declared.reporting.Part.TheVariants.{Text, Number, Key}
use Rattle.program.specs.Report.{key_text}

abbrev pub part_text : Part → List ℕ
part_text (Text text) = text.now
part_text (Number number) = decimal number
part_text (Key key) = key_text key.now
