use Rattle.std.proofs.Common.{take}
use Rattle.graph_core.specs.Permanents.{permanents}
use Rattle.image_records.specs.Names.{entries_of}
use Rattle.eris_read.proofs.Knowing.{Alike}
use Rattle.eris_read.proofs.known.names_of.Given as goal

abbrev pub invariant-loop-at : goal.invariant-loop-at
invariant-loop-at l = Alike (entries_of l.known) (take l.at (permanents l.permanents))
