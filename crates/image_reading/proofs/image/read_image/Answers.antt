use Rattle.std.proofs.Common.{◌≡◌, ◌<◌, ◌≤◌, length, map, true, false, Err, sym, ap, ◌∙◌, arith, rules}
use Rattle.image_sound.specs.Fitting.{all_fit}
use Rattle.image_records.specs.Names.{code_of}
use Rattle.image_records.specs.Views.{record_read}
use Rattle.image_reading.proofs.Wholes.{image_stopped, left_over, image_unfit, image_fits}
use Rattle.image_reading.proofs.image.read_image.Goals as goal

pub returns-in_err-image : goal.returns-in_err-image
returns-in_err-image c =
    let is : c.from_residual.result ≡ Err c.in_err-image.field-0.0 = search rules in
    rw is (image_stopped c.args.known.now c.args.roots c.args.bytes.now c.new-input.result c.new-input.ensures c.in_err-image.field-0.0 c.image.new.self c.in_err-image.ensures.reads)

pub returns-then-left-gt0 : goal.returns-then-left-gt0
returns-then-left-gt0 c =
    let some : 0 < length c.image.new.self.bytes = omega arith in
    left_over c.args.known.now c.args.roots c.args.bytes.now c.new-input.result c.new-input.ensures c.in_ok-image.image c.image.new.self c.in_ok-image.ensures.reads some

pub returns-then-not-fits : goal.returns-then-not-fits
returns-then-not-fits c =
    let none : length c.image.new.self.bytes ≤ 0 = omega arith in
    let f : c.in_ok-fits.fits ≡ false = search rules in
    let told = ap (λ rs. all_fit (code_of c.args.known.now) (map record_read rs)) (sym c.deref.ensures.value) ∙ (sym c.in_ok-fits.ensures ∙ f) in
    image_unfit c.args.known.now c.args.roots c.args.bytes.now c.new-input.result c.new-input.ensures c.in_ok-image.image c.image.new.self c.in_ok-image.ensures.reads none told

pub returns : goal.returns
returns c =
    let none : length c.image.new.self.bytes ≤ 0 = omega arith in
    let t : c.in_ok-fits.fits ≡ true = search rules in
    let told = ap (λ rs. all_fit (code_of c.args.known.now) (map record_read rs)) (sym c.deref.ensures.value) ∙ (sym c.in_ok-fits.ensures ∙ t) in
    image_fits c.args.known.now c.args.roots c.args.bytes.now c.new-input.result c.new-input.ensures c.in_ok-image.image c.image.new.self c.in_ok-image.ensures.reads none told
