use Rattle.std.proofs.Common.{◌≡◌, ◌≤◌, map, drop, length, true}
use Rattle.image_sound.specs.Fitting.{opened_once}
use Rattle.image_records.specs.Fits.{HoldsPlaces}
use Rattle.image_records.specs.Views.{record_read}
use Rattle.image_records.proofs.fitting.opened_once.Given as goal

abbrev pub invariant-back : goal.invariant-back
invariant-back l = record {
  within : l.left ≤ length l.records;
  once : opened_once (map record_read (drop l.left l.records)) ≡ true;
  holds : HoldsPlaces l.places.keys (map record_read (drop l.left l.records));
}

abbrev pub decreases-back : goal.decreases-back
decreases-back l = l.left
