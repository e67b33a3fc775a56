-- The sorts of records by their places, and records of which the first were read.
use Rattle.std.proofs.Common.{◌≡◌, ℕ, zero, suc, ◌+◌, ◌<◌, List, [], ◌∷◌, ◌++◌, map, drop, length, Bool, true, false, cond, Err, refl, sym, ap, ◌∙◌, arith}
use Rattle.std.specs.Prelude.{nat_eq, nat_lt, slice_get, Option, Some, None, ◌||◌}
use Rattle.std.specs.List.{list_any}
use Rattle.image_core.specs.Image.{Record}
use Rattle.image_bytes.specs.Format.{Got, read, refused, of_kind, and_then}
use Rattle.image_bytes.specs.Bytes.{Reader, record_format, scan_records, sort_at}
use Rattle.image_records.specs.declared.record.Sort.{Sort}
use Rattle.image_records.specs.declared.record.Sort.TheVariants as kept
use Rattle.image_records.specs.contracts.record.SortPartialEq.TheImpl as sort_impl
use Rattle.image_records.specs.declared.record.Record.{Record as Kept}
use Rattle.image_reading.specs.declared.fault.ReadFault.{ReadFault}
use Rattle.image_reading.specs.declared.fault.ReadFault.TheVariants.{Refused, Memory}
use Rattle.image_records.specs.Views.{sort, record_read}
use Rattle.image_reading.specs.Says.{Place, Says, record_scan}
use Rattle.image_reading.proofs.Fronts.{with_front, with_front-more, map_last}

-- the number of a sort, where there is one
abbrev pub number_of : Option Sort → ℕ
number_of None = 0
number_of (Some s) = sort s

pub sort_there : (sorts : List Sort) (n : ℕ) → sort_at (map sort sorts) n ≡ number_of (slice_get sorts n)
sort_there [] n = refl
sort_there (s ∷ sorts) zero = refl
sort_there (s ∷ sorts) (suc n) = sort_there sorts n

pub sort_is : (sorts : List Sort) (n : ℕ) (s : Sort) → slice_get sorts n ≡ Some s → sort_at (map sort sorts) n ≡ sort s
sort_is sorts n s e = sort_there sorts n ∙ ap number_of e

abbrev pub sort_eq : Sort → Sort → Bool
sort_eq = (sort_impl.ghosts).eq

told_apart : (s t : Sort) → sort_eq t s ≡ nat_eq (sort s) (sort t)
told_apart kept.Table kept.Table = refl
told_apart kept.Function kept.Table = refl
told_apart kept.Cell kept.Table = refl
told_apart kept.Coroutine kept.Table = refl
told_apart _ _ = refl

-- whether the sort at a place is one of some
pub one_among : (sorts wanted : List Sort) (n : ℕ) (s : Sort) → Some s ≡ slice_get sorts n → list_any (λ t. sort_eq t s) wanted ≡ list_any (nat_eq (sort_at (map sort sorts) n)) (map sort wanted)
one_among sorts wanted n s e = by wanted ∙ ap (λ k. list_any (nat_eq k) (map sort wanted)) (sym (sort_is sorts n s (sym e)))
  where
    by : (ts : List Sort) → list_any (λ t. sort_eq t s) ts ≡ list_any (nat_eq (sort s)) (map sort ts)
    by [] = refl
    by (t ∷ ts) = ap (λ b. b || list_any (λ t. sort_eq t s) ts) (told_apart s t) ∙ ap (λ b. nat_eq (sort s) (sort t) || b) (by ts)

pub none_among : (sorts wanted : List Sort) (n : ℕ) → None ≡ slice_get sorts n → false ≡ list_any (nat_eq (sort_at (map sort sorts) n)) (map sort wanted)
none_among sorts wanted n e = by wanted ∙ ap (λ k. list_any (nat_eq k) (map sort wanted)) (sym (sort_there sorts n ∙ ap number_of (sym e)))
  where
    by : (ts : List Sort) → false ≡ list_any (nat_eq 0) (map sort ts)
    by [] = refl
    by (kept.Table ∷ ts) = by ts
    by (kept.Function ∷ ts) = by ts
    by (kept.Cell ∷ ts) = by ts
    by (kept.Coroutine ∷ ts) = by ts

dropped : (sorts : List ℕ) (at : ℕ) → at < length sorts → drop at sorts ≡ sort_at sorts at ∷ drop (suc at) sorts
dropped [] at h = absurd (omega (arith, h))
dropped (s ∷ sorts) zero h = refl
dropped (s ∷ sorts) (suc at) h = dropped sorts at (omega (arith, h))

module _ (R : Reader) where
  abbrev pub more : (at : ℕ) → Record → ℕ → List ℕ → Got (List Record)
  more at r m rest = and_then (scan_records R (suc at) (drop (suc at) R.sorts) m rest) (λ rs k left. read (r ∷ rs) k left)

  scanned : (at met : ℕ) (bytes : List ℕ) → at < length R.sorts → scan_records R at (drop at R.sorts) met bytes ≡ and_then (record_scan R at met bytes) (more at)
  scanned at met bytes h = ap (λ ss. scan_records R at ss met bytes) (dropped R.sorts at h) ∙ by (nat_lt at met)
    where
      by : (b : Bool) → cond b (and_then ((record_format R (sort_at R.sorts at)).scan met bytes) (more at)) (refused (of_kind 4))
          ≡ and_then (cond b ((record_format R (sort_at R.sorts at)).scan met bytes) (refused (of_kind 4))) (more at)
      by true = refl
      by false = refl

  -- another record was read
  pub one_more_record : (at : ℕ) (records new : List Kept) (x : Kept) (met : ℕ) (bytes : List ℕ) (m : ℕ) (rest : List ℕ) (whole : Got (List Record)) →
      at < length R.sorts → record_scan R at met bytes ≡ read (record_read x) m rest → new ≡ records ++ x ∷ [] →
      with_front (map record_read records) (scan_records R at (drop at R.sorts) met bytes) ≡ whole →
      with_front (map record_read new) (scan_records R (at + 1) (drop (at + 1) R.sorts) m rest) ≡ whole
  one_more_record at records new x met bytes m rest whole lt e is h =
      let on : at + 1 ≡ suc at = omega arith in
      let front = map record_read records in
      ap (λ xs. with_front xs (scan_records R (at + 1) (drop (at + 1) R.sorts) m rest)) (ap (map record_read) is ∙ map_last record_read records x)
      ∙ (ap (λ n. with_front (front ++ record_read x ∷ []) (scan_records R n (drop n R.sorts) m rest)) on
      ∙ (sym (ap (with_front front) (scanned at met bytes lt ∙ ap (λ got. and_then got (more at)) e) ∙ with_front-more front (record_read x) (scan_records R (suc at) (drop (suc at) R.sorts) m rest)) ∙ h))

  -- a record was refused
  pub record_failed : {C : Type 0} (all : C → List Record) (at : ℕ) (front : List Record) (fault : ReadFault) (met : ℕ) (bytes : List ℕ) (now later : Place) (whole : Got (List Record)) →
      at < length R.sorts → Says record_read (record_scan R at met bytes) (Err fault) now → with_front front (scan_records R at (drop at R.sorts) met bytes) ≡ whole → Says all whole (Err fault) later
  record_failed all at front (Refused why) met bytes now later whole lt says h = sym h ∙ ap (with_front front) (scanned at met bytes lt ∙ ap (λ got. and_then got (more at)) says)
  record_failed all at front Memory met bytes now later whole lt says h = tt

  pub records_ended : (at : ℕ) (front : List Record) (met : ℕ) (bytes : List ℕ) → length R.sorts ≡ at → with_front front (scan_records R at (drop at R.sorts) met bytes) ≡ read front met bytes
  records_ended at front met bytes e = ap (λ ss. with_front front (scan_records R at ss met bytes)) (none R.sorts at e) ∙ ap (λ ys. read ys met bytes) (nothing front)
    where
      none : (ss : List ℕ) (at : ℕ) → length ss ≡ at → drop at ss ≡ []
      none [] zero e = refl
      none [] (suc at) e = refl
      none (s ∷ ss) zero e = absurd (omega (arith, e))
      none (s ∷ ss) (suc at) e = none ss at (omega (arith, e))

      nothing : {A : Type 0} (xs : List A) → xs ++ [] ≡ xs
      nothing [] = refl
      nothing (x ∷ xs) = ap (λ ys. x ∷ ys) (nothing xs)
