use Rattle.std.proofs.Common.{◌≡◌, ◌≤◌, length, map, true, false, sym, ◌∙◌, arith, rules}
use Rattle.image_sound.specs.Fitting.{frame_fits}
use Rattle.image_records.specs.Names.{code_of}
use Rattle.image_records.specs.Views.{frame, record_read}
use Rattle.image_records.proofs.Fitted.{passed, missed, all_passed}
use Rattle.image_records.proofs.fitting.frames_fit.Goals as goal

pub loop-frame-preserved : goal.loop-frame-preserved
loop-frame-preserved c =
    let P = frame_fits (code_of c.args.known.now) (map record_read c.args.records.now) in
    let t : c.frame_fits.result ≡ true = search rules in
    passed frame P c.args.frames.now c.loop-frame.frame-index c.frame-item.result (omega arith) c.frame-item.is (sym c.frame_fits.ensures ∙ t) ∙ c.loop-frame.invariant

pub returns-then-not-frame_fits : goal.returns-then-not-frame_fits
returns-then-not-frame_fits c =
    let P = frame_fits (code_of c.args.known.now) (map record_read c.args.records.now) in
    let f : c.frame_fits.result ≡ false = search rules in
    sym (missed frame P c.args.frames.now c.loop-frame.frame-index c.frame-item.result (omega arith) c.frame-item.is (sym c.frame_fits.ensures ∙ f)) ∙ c.loop-frame.invariant

pub returns : goal.returns
returns c =
    let P = frame_fits (code_of c.args.known.now) (map record_read c.args.records.now) in
    let ended : length c.args.frames.now ≤ c.loop-frame.frame-index = omega arith in
    sym (all_passed frame P c.args.frames.now c.loop-frame.frame-index ended) ∙ c.loop-frame.invariant
