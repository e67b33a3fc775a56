use Rattle.std.proofs.Common.{◌≡◌, map, Err, sym, ap, subst, ◌∙◌, rules}
use Rattle.image_bytes.specs.Bytes.{with_sorts}
use Rattle.image_reading.specs.Reader.{reader_of}
use Rattle.image_reading.specs.Reads.{parts_scan}
use Rattle.image_reading.specs.Says.{Says}
use Rattle.image_records.specs.Views.{image_read, sort}
use Rattle.image_reading.proofs.Wholes.{image_scanned}
use Rattle.image_reading.proofs.input.Input.image.Goals as goal

pub returns-in_err-image : goal.returns-in_err-image
returns-in_err-image c =
    let R = reader_of c.args.known.now in
    let is : c.from_residual-in_err-image.result ≡ Err c.in_err-image.field-0.0 = search rules in
    let scanned =
    image_scanned R c.args.roots _ _ _ _ _ _ _ _ _ _ _ _ _ _ _ _ _ _ _ _ c.in_ok-exactly.ensures.reads c.in_ok-exactly-2.ensures.reads c.in_ok-exactly-3.ensures.reads c.in_ok-exactly-4.ensures.reads
    c.in_ok-exactly-5.ensures.reads c.in_ok-sorts.ensures.reads
    ∙ ap (λ ss. parts_scan (with_sorts R (map sort ss)) c.args.roots c.sorts.new.self.met c.sorts.new.self.bytes) (sym c.deref.ensures.value) in
    record { reads = rw is (subst (λ got. Says image_read got (Err c.in_err-image.field-0.0) c.parts.new.self) (sym scanned) c.in_err-image.ensures.reads) }

pub returns : goal.returns
returns c =
    let R = reader_of c.args.known.now in
    record {
      reads =
          image_scanned R c.args.roots _ _ _ _ _ _ _ _ _ _ _ _ _ _ _ _ _ _ _ _ c.in_ok-exactly.ensures.reads c.in_ok-exactly-2.ensures.reads c.in_ok-exactly-3.ensures.reads c.in_ok-exactly-4.ensures.reads
          c.in_ok-exactly-5.ensures.reads c.in_ok-sorts.ensures.reads
          ∙ (ap (λ ss. parts_scan (with_sorts R (map sort ss)) c.args.roots c.sorts.new.self.met c.sorts.new.self.bytes) (sym c.deref.ensures.value) ∙ c.in_ok-image.ensures.reads);
    }
