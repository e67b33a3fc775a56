use Rattle.std.proofs.Common.{◌≡◌, ◌<◌, ◌≤◌, length, map, true, false, sym, ◌∙◌, arith, rules}
use Rattle.image_sound.specs.Fitting.{record_fits}
use Rattle.image_records.specs.Names.{code_of}
use Rattle.image_records.specs.Views.{record_read}
use Rattle.image_records.proofs.Fitted.{passed, missed, all_passed}
use Rattle.image_records.proofs.fitting.each_fits.Goals as goal

pub loop-record-preserved : goal.loop-record-preserved
loop-record-preserved c =
    let P = record_fits (code_of c.args.known.now) (map record_read c.args.records.now) in
    let lt : c.loop-record.record-index < length c.args.records.now = omega arith in
    let t : c.record_fits.result ≡ true = search rules in
    passed record_read P c.args.records.now c.loop-record.record-index c.record-item.result lt c.record-item.is (sym c.record_fits.ensures ∙ t) ∙ c.loop-record.invariant

pub returns-then-not-record_fits : goal.returns-then-not-record_fits
returns-then-not-record_fits c =
    let P = record_fits (code_of c.args.known.now) (map record_read c.args.records.now) in
    let lt : c.loop-record.record-index < length c.args.records.now = omega arith in
    let f : c.record_fits.result ≡ false = search rules in
    sym (missed record_read P c.args.records.now c.loop-record.record-index c.record-item.result lt c.record-item.is (sym c.record_fits.ensures ∙ f)) ∙ c.loop-record.invariant

pub returns : goal.returns
returns c =
    let P = record_fits (code_of c.args.known.now) (map record_read c.args.records.now) in
    let ended : length c.args.records.now ≤ c.loop-record.record-index = omega arith in
    sym (all_passed record_read P c.args.records.now c.loop-record.record-index ended) ∙ c.loop-record.invariant
