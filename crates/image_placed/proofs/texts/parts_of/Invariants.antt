use Rattle.std.proofs.Common.{map}
use Rattle.lua_heap.specs.Codes.{functions, AreCodes}
use Rattle.image_records.specs.Views.{record_read}
use Rattle.image_placed.specs.Placing.{AddsMore, ArePartsOf}
use Rattle.image_placed.proofs.texts.parts_of.Given as goal

abbrev pub invariant-loop-record : goal.invariant-loop-record
invariant-loop-record l = record {
  added : AddsMore l.initial.world l.world;
  codes : AreCodes l.world.strings l.world.codes;
  parts : ArePartsOf (functions l.world.codes) l.parts.items (map record_read l.yielded);
}
