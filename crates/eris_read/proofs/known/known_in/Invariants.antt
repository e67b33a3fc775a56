use Rattle.std.proofs.Common.{◌≡◌, take}
use Rattle.graph_core.specs.Permanents.{permanents}
use Rattle.image_records.specs.Names.{entries_of, environment_of}
use Rattle.lua_heap.specs.Plain.{plain}
use Rattle.eris_read.proofs.Knowing.{Alike, HaveCode}
use Rattle.eris_read.proofs.known.known_in.Given as goal

abbrev pub invariant-loop-at : goal.invariant-loop-at
invariant-loop-at l = record {
  objects : Alike (entries_of l.known) (take l.at (permanents l.permanents));
  codes : HaveCode (plain l.world 0) (entries_of l.known);
  environment : environment_of l.known ≡ l.world.prelude.env;
}
