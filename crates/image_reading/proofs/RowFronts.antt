-- Rows of which the first were read.
use Rattle.std.proofs.Common.{◌≡◌, ℕ, zero, suc, ◌+◌, ◌-◌, ◌<◌, List, [], ◌∷◌, ◌++◌, map, Err, refl, sym, ap, subst, ◌∙◌, arith}
use Rattle.image_core.specs.Image.{Item}
use Rattle.image_bytes.specs.Format.{Got, read}
use Rattle.image_bytes.specs.Bytes.{Reader, row_after, scan_rows}
use Rattle.image_records.specs.declared.record.Item.{Item as Kept}
use Rattle.image_reading.specs.declared.rows.RowKey.{RowKey as Own}
use Rattle.image_records.specs.declared.known.Known.{Known}
use Rattle.image_reading.specs.declared.fault.ReadFault.{ReadFault}
use Rattle.image_reading.specs.declared.fault.ReadFault.TheVariants.{Refused, Memory}
use Rattle.image_records.specs.Views.{row, item}
use Rattle.image_reading.specs.Rows.{behind, AreKeysOf}
use Rattle.image_reading.specs.Says.{Place, Says}
use Rattle.image_reading.proofs.Fronts.{with_front, with_front-more, map_last}

behind_last : (seen : List Item) (rows : List (Item × Item)) (r : Item × Item) → behind seen (rows ++ r ∷ []) ≡ r.0 ∷ behind seen rows
behind_last seen [] r = refl
behind_last seen (x ∷ rows) r = behind_last (x.0 ∷ seen) rows r

-- the keys behind some rows and another
pub behind_more : (rows new : List (Kept × Kept)) (x : Kept × Kept) → new ≡ rows ++ x ∷ [] → behind [] (map row new) ≡ item x.0 ∷ behind [] (map row rows)
behind_more rows new x is = ap (λ rs. behind [] (map row rs)) is ∙ (ap (behind []) (map_last row rows x) ∙ behind_last [] (map row rows) (row x))

pub keys_behind : (k : Known) (keys : List Own) (rows new : List (Kept × Kept)) (x : Kept × Kept) → new ≡ rows ++ x ∷ [] → AreKeysOf k keys (item x.0 ∷ behind [] (map row rows)) → AreKeysOf k keys (behind [] (map row new))
keys_behind k keys rows new x is are = subst (AreKeysOf k keys) (sym (behind_more rows new x is)) are

module _ (R : Reader) where
  rows_step : (n : ℕ) (seen : List Item) (front : List (Item × Item)) (r : Item × Item) (met : ℕ) (bytes : List ℕ) (m : ℕ) (rest : List ℕ) → 0 < n → (row_after R seen).scan met bytes ≡ read r m rest →
      with_front front (scan_rows R n seen met bytes) ≡ with_front (front ++ r ∷ []) (scan_rows R (n - 1) (r.0 ∷ seen) m rest)
  rows_step zero seen front r met bytes m rest h e = absurd (omega arith)
  rows_step (suc n) seen front r met bytes m rest h e =
      let less : suc n - 1 ≡ n = omega arith in
      rw (e, less) (with_front-more front r (scan_rows R n (r.0 ∷ seen) m rest))

  pub one_more_row : (count counter : ℕ) (rows new : List (Kept × Kept)) (x : Kept × Kept) (met : ℕ) (bytes : List ℕ) (m : ℕ) (rest : List ℕ) (whole : Got (List (Item × Item))) →
      counter < count → (row_after R (behind [] (map row rows))).scan met bytes ≡ read (row x) m rest → new ≡ rows ++ x ∷ [] →
      with_front (map row rows) (scan_rows R (count - counter) (behind [] (map row rows)) met bytes) ≡ whole →
      with_front (map row new) (scan_rows R (count - (counter + 1)) (behind [] (map row new)) m rest) ≡ whole
  one_more_row count counter rows new x met bytes m rest whole lt e is h =
      let left : 0 < count - counter = omega arith in
      let less : count - (counter + 1) ≡ count - counter - 1 = omega arith in
      let seen = behind [] (map row rows) in
      ap (λ xs. with_front xs (scan_rows R (count - (counter + 1)) (behind [] (map row new)) m rest)) (ap (map row) is ∙ map_last row rows x)
      ∙ (ap (λ s. with_front (map row rows ++ row x ∷ []) (scan_rows R (count - (counter + 1)) s m rest)) (behind_more rows new x is)
      ∙ (ap (λ n. with_front (map row rows ++ row x ∷ []) (scan_rows R n (item x.0 ∷ seen) m rest)) less
      ∙ (sym (rows_step (count - counter) seen (map row rows) (row x) met bytes m rest left e) ∙ h)))

  rows_stopped : {C : Type 0} (all : C → List (Item × Item)) (n : ℕ) (seen : List Item) (front : List (Item × Item)) (fault : ReadFault) (met : ℕ) (bytes : List ℕ) (now later : Place) →
      0 < n → Says row ((row_after R seen).scan met bytes) (Err fault) now → Says all (with_front front (scan_rows R n seen met bytes)) (Err fault) later
  rows_stopped all zero seen front fault met bytes now later h says = absurd (omega arith)
  rows_stopped all (suc n) seen front (Refused why) met bytes now later h says = rw says refl
  rows_stopped all (suc n) seen front Memory met bytes now later h says = tt

  pub row_failed : {C : Type 0} (all : C → List (Item × Item)) (count counter : ℕ) (seen : List Item) (front : List (Item × Item)) (fault : ReadFault) (met : ℕ) (bytes : List ℕ) (now later : Place) (whole : Got (List (Item × Item))) →
      counter < count → Says row ((row_after R seen).scan met bytes) (Err fault) now → with_front front (scan_rows R (count - counter) seen met bytes) ≡ whole → Says all whole (Err fault) later
  row_failed all count counter seen front fault met bytes now later whole lt says h =
      let left : 0 < count - counter = omega arith in
      subst (λ got. Says all got (Err fault) later) h (rows_stopped all (count - counter) seen front fault met bytes now later left says)
