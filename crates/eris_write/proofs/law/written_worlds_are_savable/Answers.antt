use Rattle.std.proofs.Common.{map}
use Rattle.image_core.specs.Records.{named}
use Rattle.lua_heap.specs.Plain.{plain}
use Rattle.lua_heap.specs.Reading.{value}
use Rattle.graph_core.specs.Permanents.{permanents}
use Rattle.eris_write.proofs.Allowed.{allowed_savable}
use Rattle.eris_write.proofs.Persisted.{solid_by_fuel}
use Rattle.eris_write.proofs.law.written_worlds_are_savable.Goals as goal

pub returns : goal.returns
returns c W roots ps bytes fuel can w =
    allowed_savable can.primitives (plain W fuel) (named W.prelude.env.0 (permanents ps)) (map (value W.strings) roots) (solid_by_fuel can.primitives W fuel can.solid) can.roots_there (w.few.written fuel) (w.allowed.none.is fuel)
