use Rattle.std.proofs.Common.{map}
use Rattle.image_core.specs.Loading.{Target}
use Rattle.image_records.specs.Views.{record_read}
use Rattle.image_made.specs.Places.{AreFirstPlaces, IsNext, Starts}
use Rattle.image_made.proofs.place.places_of.Given as goal

abbrev pub invariant-loop-record : goal.invariant-loop-record
invariant-loop-record l = record {
  next : (T : Target) → Starts T l.world → IsNext T (map record_read l.records) l.record-index l.next;
  places : (T : Target) → Starts T l.world → AreFirstPlaces T (map record_read l.records) l.record-index l.places.items;
}
