use Rattle.std.proofs.Common.{◌≡◌, ◌<◌, ◌≤◌, [], map, length, sym, subst, arith, rules}
use Rattle.image_records.specs.Views.{record_read}
use Rattle.image_made.specs.Places.{AreFirstPlaces}
use Rattle.image_made.proofs.Ranks.{next_first, no_places, next_more, places_more, record_there, all_placed}
use Rattle.image_made.proofs.place.places_of.Goals as goal

pub loop-record-init : goal.loop-record-init
loop-record-init c = record {
  next = λ T s. next_first T c.args.world.now (map record_read c.args.records.now) _ s c.len.ensures c.len-2.ensures c.len-3.ensures c.len-4.ensures;
  places = λ T s.
      let none : c.new-places.result.items ≡ [] = search rules in
      subst (λ places. AreFirstPlaces T (map record_read c.args.records.now) 0 places) (sym none) (no_places T (map record_read c.args.records.now));
}

pub loop-record-preserved : goal.loop-record-preserved
loop-record-preserved c =
    let lt : c.loop-record.record-index < length c.args.records.now = omega arith in
    let there = record_there record_read c.args.records.now c.loop-record.record-index c.record-item.result lt c.record-item.is in
    let numbers = c.in_ok-place.ensures in
    record {
      next = λ T s.
          next_more T (map record_read c.args.records.now) c.loop-record.record-index (record_read c.record-item.result) there c.loop-record.next c.place.new.self c.in_ok-place.place (c.loop-record.invariant.next T s) numbers;
      places = λ T s.
          places_more T (map record_read c.args.records.now) c.loop-record.record-index (record_read c.record-item.result) there c.loop-record.places.items _ c.in_ok-place.place (c.loop-record.invariant.places T s)
          (numbers.value T (map record_read c.args.records.now) c.loop-record.record-index (c.loop-record.invariant.next T s)) c.in_ok-push.ensures.items;
    }

pub returns : goal.returns
returns c T s =
    let ended : length c.args.records.now ≤ c.loop-record.record-index = omega arith in
    let within : c.loop-record.record-index ≤ length c.args.records.now = omega arith in
    all_placed record_read T c.args.records.now c.loop-record.record-index c.loop-record.places.items within ended (c.loop-record.invariant.places T s)
