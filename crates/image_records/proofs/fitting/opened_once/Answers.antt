use Rattle.std.proofs.Common.{◌≡◌, ◌<◌, ◌≤◌, length, map, drop, true, false, sym, subst, arith, rules}
use Rattle.image_records.specs.Fits.{HoldsPlaces}
use Rattle.image_records.specs.Views.{record_read}
use Rattle.image_records.proofs.Fitted.{all_once, back_once, back_twice, drop_back}
use Rattle.image_records.proofs.fitting.opened_once.Goals as goal

pub back-preserved : goal.back-preserved
back-preserved c =
    let more : 0 < c.back.left = search rules in
    let most : c.back.left ≤ length c.args.records.now = c.back.invariant.within in
    let t : c.in_ok-opens_anew.field-0 ≡ true = search rules in
    let opened = c.in_ok-opens_anew.ensures (map record_read (drop c.back.left c.args.records.now)) c.back.invariant.holds in
    record {
      within = omega (arith, most);
      once = back_once record_read c.args.records.now c.back.left c.record_at.result.now _ more c.record_at.ensures opened.told c.back.invariant.once t;
      holds = subst (λ rs. HoldsPlaces c.opens_anew.new.places.keys rs) (sym (drop_back record_read c.args.records.now c.back.left c.record_at.result.now more c.record_at.ensures)) opened.holds;
    }

pub returns-then-not-branch : goal.returns-then-not-branch
returns-then-not-branch c =
    let more : 0 < c.back.left = search rules in
    let f : c.in_ok-opens_anew.field-0 ≡ false = search rules in
    let opened = c.in_ok-opens_anew.ensures (map record_read (drop c.back.left c.args.records.now)) c.back.invariant.holds in
    back_twice record_read c.args.records.now c.back.left c.record_at.result.now _ more c.record_at.ensures opened.told c.back.invariant.once f

pub returns : goal.returns
returns c =
    let none : c.back.left ≤ 0 = search rules in
    all_once record_read c.args.records.now c.back.left none c.back.invariant.once
