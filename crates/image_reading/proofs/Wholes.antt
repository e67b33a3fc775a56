-- Whole images: what is left over, and what fits.
use Rattle.std.proofs.Common.{◌≡◌, ℕ, ◌<◌, ◌≤◌, List, [], ◌∷◌, Bool, true, false, cond, Ok, Err, refl, ap, sym, ◌∙◌, length, arith}
use Rattle.std.specs.Prelude.{nat_eq}
use Rattle.image_core.specs.Image.{Item, Record, Image}
use Rattle.image_bytes.specs.Format.{Got, read, refused, of_kind, and_then, Format, byte, tested, case, followed}
use Rattle.image_bytes.specs.Bytes.{Reader, exactly, sorts_format, image_made, image_format, with_sorts, whole}
use Rattle.image_sound.specs.Fitting.{all_fit, with_fits, reads}
use Rattle.image_records.specs.declared.known.Known.{Known}
use Rattle.image_records.specs.declared.record.Image.{Image as Kept}
use Rattle.image_reading.specs.declared.fault.ReadFault.{ReadFault}
use Rattle.image_reading.specs.declared.fault.ReadFault.TheVariants.{Refused, Memory}
use Rattle.image_records.specs.Views.{image_read}
use Rattle.image_records.specs.Names.{code_of}
use Rattle.image_reading.specs.Reader.{reader_of}
use Rattle.image_reading.specs.Reads.{Reads, parts_scan}
use Rattle.image_reading.specs.Says.{Place, Says}

module _ (k : Known) (roots : ℕ) (bytes : List ℕ) (start : Place) (is : start ≡ record { met = 0; bytes = bytes }) where
  scan : Got Image
  scan = (image_format (reader_of k) roots).scan 0 bytes

  moved : (got : Got Image) → (image_format (reader_of k) roots).scan start.met start.bytes ≡ got → scan ≡ got
  unfolding scan
  moved got e = ap (λ (p : Place). (image_format (reader_of k) roots).scan p.met p.bytes) (sym is) ∙ e

  pub image_stopped : (why : ReadFault) (now : Place) → Says image_read ((image_format (reader_of k) roots).scan start.met start.bytes) (Err why) now → Reads k roots bytes (Err why)
  unfolding scan
  image_stopped (Refused why) now e = ap (λ got. with_fits (code_of k) (whole got)) (moved _ e)
  image_stopped Memory now e = tt

  module _ (I : Kept) (now : Place) (e : (image_format (reader_of k) roots).scan start.met start.bytes ≡ read (image_read I) now.met now.bytes) where
    reads_is : reads (reader_of k) (code_of k) roots bytes ≡ with_fits (code_of k) (whole (read (image_read I) now.met now.bytes))
    unfolding scan
    reads_is = ap (λ got. with_fits (code_of k) (whole got)) (moved _ e)

    pub left_over : 0 < length now.bytes → reads (reader_of k) (code_of k) roots bytes ≡ refused (of_kind 10)
    left_over h = reads_is ∙ by now.bytes h
      where
        by : (rest : List ℕ) → 0 < length rest → with_fits (code_of k) (whole (read (image_read I) now.met rest)) ≡ refused (of_kind 10)
        by [] h = absurd (omega (arith, h))
        by (b ∷ rest) h = refl

    fitted : (b : Bool) → length now.bytes ≤ 0 → all_fit (code_of k) (image_read I).records ≡ b → reads (reader_of k) (code_of k) roots bytes ≡ cond b (read (image_read I) now.met []) (refused (of_kind 9))
    fitted b h t = reads_is ∙ by now.bytes h
      where
        by : (rest : List ℕ) → length rest ≤ 0 → with_fits (code_of k) (whole (read (image_read I) now.met rest)) ≡ cond b (read (image_read I) now.met []) (refused (of_kind 9))
        by [] h = ap (λ b. cond b (read (image_read I) now.met []) (refused (of_kind 9))) t
        by (x ∷ rest) h = absurd (omega (arith, h))

    pub image_unfit : length now.bytes ≤ 0 → all_fit (code_of k) (image_read I).records ≡ false → reads (reader_of k) (code_of k) roots bytes ≡ refused (of_kind 9)
    image_unfit h t = fitted false h t

    pub image_fits : length now.bytes ≤ 0 → all_fit (code_of k) (image_read I).records ≡ true → Reads k roots bytes (Ok I)
    image_fits h t = (now.met, fitted true h t)

-- what stands in front of the roots

nested : (t1 t2 t3 t4 t5 : ℕ) (ss : List ℕ) (X : Got ((ℕ × List Item) × List Record)) →
    and_then (and_then (and_then (and_then (and_then (and_then (and_then X (λ b n left. read (ss, b) n left)) (λ b n left. read (t5, b) n left)) (λ b n left. read (t4, b) n left))
    (λ b n left. read (t3, b) n left)) (λ b n left. read (t2, b) n left)) (λ b n left. read (t1, b) n left)) (λ y m rest. read (image_made y) m rest)
    ≡ and_then X (λ x m rest. read (record { roots = x.0.1; records = x.1 }) m rest)
nested t1 t2 t3 t4 t5 ss (read x m rest) = refl
nested t1 t2 t3 t4 t5 ss (refused f) = refl

abbrev pub this : ℕ → (kind : ℕ) → Format ℕ
this n kind = tested (nat_eq n) (λ _. of_kind kind) byte

pub image_scanned : (R : Reader) (roots : ℕ) (t1 t2 t3 t4 t5 m0 m1 m2 m3 m4 m5 m6 : ℕ) (b0 b1 b2 b3 b4 b5 b6 ss : List ℕ)
    → (this 76 1).scan m0 b0 ≡ read t1 m1 b1 → (this 85 1).scan m1 b1 ≡ read t2 m2 b2 → (this 73 1).scan m2 b2 ≡ read t3 m3 b3 → (this 77 1).scan m3 b3 ≡ read t4 m4 b4
    → (this 1 2).scan m4 b4 ≡ read t5 m5 b5 → sorts_format.scan m5 b5 ≡ read ss m6 b6 → (image_format R roots).scan m0 b0 ≡ parts_scan (with_sorts R ss) roots m6 b6
unfolding image_format exactly case followed
image_scanned R roots t1 t2 t3 t4 t5 m0 m1 m2 m3 m4 m5 m6 b0 b1 b2 b3 b4 b5 b6 ss e1 e2 e3 e4 e5 e6 = rw (e1, e2, e3, e4, e5, e6) (nested t1 t2 t3 t4 t5 ss _)
