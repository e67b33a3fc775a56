-- Lists of which the front was read.
use Rattle.std.proofs.Common.{◌≡◌, ℕ, zero, suc, ◌+◌, ◌-◌, ◌<◌, map, List, [], ◌∷◌, ◌++◌, Err, refl, sym, ap, subst, ◌∙◌, append_assoc, append-nil, arith}
use Rattle.image_bytes.specs.Format.{Got, read, refused, and_then, Format, scan_times}
use Rattle.image_reading.specs.declared.fault.ReadFault.{ReadFault}
use Rattle.image_reading.specs.declared.fault.ReadFault.TheVariants.{Refused, Memory}
use Rattle.image_reading.specs.Says.{Place, Says}

abbrev pub with_front : {A : Type 0} → List A → Got (List A) → Got (List A)
with_front front got = and_then got (λ xs m rest. read (front ++ xs) m rest)

pub with_no_front : {A : Type 0} (got : Got (List A)) → with_front [] got ≡ got
with_no_front (read xs m rest) = refl
with_no_front (refused fault) = refl

pub with_front-more : {A : Type 0} (front : List A) (x : A) (got : Got (List A)) →
    with_front front (and_then got (λ xs m rest. read (x ∷ xs) m rest)) ≡ with_front (front ++ x ∷ []) got
with_front-more front x (read xs m rest) = ap (λ ys. read ys m rest) (sym (append_assoc front (x ∷ []) xs))
with_front-more front x (refused fault) = refl

module _ {A : Type 0} (F : Format A) where
  pub times_step : (n : ℕ) (front : List A) (x : A) (met : ℕ) (bytes : List ℕ) (m : ℕ) (rest : List ℕ) → 0 < n → F.scan met bytes ≡ read x m rest →
      with_front front (scan_times F n met bytes) ≡ with_front (front ++ x ∷ []) (scan_times F (n - 1) m rest)
  times_step zero front x met bytes m rest h e = absurd (omega arith)
  times_step (suc n) front x met bytes m rest h e =
      let less : suc n - 1 ≡ n = omega arith in
      rw (e, less) (with_front-more front x (scan_times F n m rest))

  pub times_failed : {B C : Type 0} (view : B → A) (all : C → List A) (n : ℕ) (front : List A) (fault : ReadFault) (met : ℕ) (bytes : List ℕ) (now then_now : Place) →
      0 < n → Says view (F.scan met bytes) (Err fault) now → Says all (with_front front (scan_times F n met bytes)) (Err fault) then_now
  times_failed view all zero front fault met bytes now then_now h says = absurd (omega arith)
  times_failed view all (suc n) front (Refused why) met bytes now then_now h says = rw says refl
  times_failed view all (suc n) front Memory met bytes now then_now h says = tt

  pub times_ended : (front : List A) (met : ℕ) (bytes : List ℕ) → with_front front (scan_times F 0 met bytes) ≡ read front met bytes
  times_ended front met bytes = ap (λ ys. read ys met bytes) (append-nil front)

pub map_last : {A B : Type 0} (f : A → B) (xs : List A) (x : A) → map f (xs ++ x ∷ []) ≡ map f xs ++ f x ∷ []
map_last f [] x = refl
map_last f (y ∷ xs) x = ap (λ ys. f y ∷ ys) (map_last f xs x)

-- another item was read behind some, of which so many were to come
pub one_more : {A B : Type 0} (F : Format A) (view : B → A) (count counter : ℕ) (items new : List B) (x : B) (met : ℕ) (bytes : List ℕ) (m : ℕ) (rest : List ℕ) (whole : Got (List A)) →
    counter < count → F.scan met bytes ≡ read (view x) m rest → new ≡ items ++ x ∷ [] →
    with_front (map view items) (scan_times F (count - counter) met bytes) ≡ whole → with_front (map view new) (scan_times F (count - (counter + 1)) m rest) ≡ whole
one_more F view count counter items new x met bytes m rest whole lt e is h =
    let left : 0 < count - counter = omega arith in
    let less : count - (counter + 1) ≡ count - counter - 1 = omega arith in
    ap (λ xs. with_front xs (scan_times F (count - (counter + 1)) m rest)) (ap (map view) is ∙ map_last view items x)
    ∙ (ap (λ n. with_front (map view items ++ view x ∷ []) (scan_times F n m rest)) less
    ∙ (sym (times_step F (count - counter) (map view items) (view x) met bytes m rest left e) ∙ h))

pub one_more_number : (F : Format ℕ) (count counter : ℕ) (items new : List ℕ) (x : ℕ) (met : ℕ) (bytes : List ℕ) (m : ℕ) (rest : List ℕ) (whole : Got (List ℕ)) →
    counter < count → F.scan met bytes ≡ read x m rest → new ≡ items ++ x ∷ [] →
    with_front items (scan_times F (count - counter) met bytes) ≡ whole → with_front new (scan_times F (count - (counter + 1)) m rest) ≡ whole
one_more_number F count counter items new x met bytes m rest whole lt e is h =
    let left : 0 < count - counter = omega arith in
    let less : count - (counter + 1) ≡ count - counter - 1 = omega arith in
    ap (λ xs. with_front xs (scan_times F (count - (counter + 1)) m rest)) is
    ∙ (ap (λ n. with_front (items ++ x ∷ []) (scan_times F n m rest)) less
    ∙ (sym (times_step F (count - counter) items x met bytes m rest left e) ∙ h))

-- an item was refused behind some, of which so many were to come
pub failed : {A B C : Type 0} (F : Format A) (view : B → A) (all : C → List A) (count counter : ℕ) (front : List A) (fault : ReadFault) (met : ℕ) (bytes : List ℕ) (now later : Place) (whole : Got (List A)) →
    counter < count → Says view (F.scan met bytes) (Err fault) now → with_front front (scan_times F (count - counter) met bytes) ≡ whole → Says all whole (Err fault) later
failed F view all count counter front fault met bytes now later whole lt says h =
    let left : 0 < count - counter = omega arith in
    subst (λ got. Says all got (Err fault) later) h (times_failed F view all (count - counter) front fault met bytes now later left says)
