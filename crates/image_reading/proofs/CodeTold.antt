-- What is told of the bytes of a function, and what the format of code says of them.
use Rattle.std.proofs.Common.{◌≡◌, ℕ, List, [], ◌∷◌, Option, Some, None, Err, Bool, true, false, cond, refl, sym, ap, ◌∙◌, length, length-append, arith}
use Rattle.code_core.specs.Prototype.{Prototype}
use Rattle.code_core.specs.Check.{IsChecked}
use Rattle.chunk_check.specs.Faults.{Fault, first_fault}
use Rattle.chunk_check.proofs.Exact.{no_fault_in_checked}
use Rattle.chunk_format.specs.Grammar.{WholeOf, BeginsWith}
use Rattle.chunk_format.specs.Reading as chunk
use Rattle.chunk_format.proofs.Chunks.{exact_whole}
use Rattle.image_bytes.specs.Format.{read, refused, of_kind, and_then}
use Rattle.image_bytes.specs.Bytes.{blob, code_told, code_read, code_format}
use Rattle.image_reading.specs.declared.item.Context.{Context}
use Rattle.image_reading.specs.Reader.{no_fault}
use Rattle.image_reading.specs.declared.fault.ReadFault.{ReadFault}
use Rattle.image_reading.specs.declared.fault.ReadFault.TheVariants.{Refused, Memory}
use Rattle.image_reading.specs.Faults.{fault}
use Rattle.image_reading.specs.Says.{Place, Says, shown, reader_in}
use Rattle.image_reading.specs.Code.{whole, if_checked, checked, own, TellsCode}

module _ (bytes : List ℕ) (p : Prototype) (n : ℕ) (b : BeginsWith WholeOf p n bytes) where
  is_read : chunk.read_whole bytes ≡ chunk.read p b.rest
  is_read = ap chunk.read_whole b.whole ∙ exact_whole.complete p b.front b.rest b.spells

  pub told_whole : n ≡ length bytes → whole (chunk.read_whole bytes) ≡ Some p
  told_whole e =
      let counted = b.counted in
      let none : length b.rest ≡ 0 = omega (arith, ap length b.whole, length-append b.front b.rest, counted, e) in
      ap whole is_read ∙ empty b.rest none
    where
      empty : (rest : List ℕ) → length rest ≡ 0 → whole (chunk.read p rest) ≡ Some p
      empty [] h = refl
      empty (x ∷ rest) h = absurd (omega (arith, h))

  pub told_left : (n ≡ length bytes → ⊥) → whole (chunk.read_whole bytes) ≡ None
  told_left e = ap whole is_read ∙ left b.rest (λ h. e (all h))
    where
      all : length b.rest ≡ 0 → n ≡ length bytes
      all h = let counted = b.counted in omega (arith, ap length b.whole, length-append b.front b.rest, counted, h)

      left : (rest : List ℕ) → (length rest ≡ 0 → ⊥) → whole (chunk.read p rest) ≡ None
      left [] h = absurd (h refl)
      left (x ∷ rest) h = refl

pub told_kind : (bytes : List ℕ) (k : ℕ) → chunk.function_kind bytes ≡ Some k → whole (chunk.read_whole bytes) ≡ None
told_kind bytes k e = by (chunk.read_whole bytes) e
  where
    by : (got : chunk.Got Prototype) → chunk.kind_of got ≡ Some k → whole got ≡ None
    by (chunk.read p rest) e = absurd (cc)
    by (chunk.refused m) e = refl

pub told_checked : (o : Option Prototype) (p code : Prototype) → o ≡ Some p → code ≡ p → IsChecked code → checked o ≡ Some code
told_checked o p code e is h = ap checked e ∙ (ap if_checked (sym is) ∙ ap (λ f. cond (no_fault f) (Some code) None) (no_fault_in_checked code h))

pub told_broken : (o : Option Prototype) (p : Prototype) (f : Fault) → o ≡ Some p → first_fault p ≡ Some f → checked o ≡ None
told_broken o p f e h = ap checked e ∙ ap (λ f. cond (no_fault f) (Some p) None) h

pub told_none : (o : Option Prototype) → o ≡ None → checked o ≡ None
told_none o e = ap checked e

-- the format of code

module _ (k : Context) (met : ℕ) (rest : List ℕ) where
  pub code_is_read : (got : chunk.Got Prototype) (p : Prototype) → checked (whole got) ≡ Some p → code_read (reader_in k) got met rest ≡ read p met rest
  code_is_read (chunk.refused n) p e = absurd (cc)
  code_is_read (chunk.read q (x ∷ xs)) p e = absurd (cc)
  code_is_read (chunk.read q []) p e = by (no_fault (first_fault q)) e
    where
      by : (b : Bool) → cond b (Some q) None ≡ Some p → code_told (reader_in k) b q [] met rest ≡ read p met rest
      by true e = let is : q ≡ p = cc in ap (λ q. read q met rest) is
      by false e = absurd (cc)

  pub code_is_refused : (got : chunk.Got Prototype) → checked (whole got) ≡ None → code_read (reader_in k) got met rest ≡ refused (of_kind 6)
  code_is_refused (chunk.refused n) e = refl
  code_is_refused (chunk.read q (x ∷ xs)) e = by (no_fault (first_fault q))
    where
      by : (b : Bool) → code_told (reader_in k) b q (x ∷ xs) met rest ≡ refused (of_kind 6)
      by true = refl
      by false = refl
  code_is_refused (chunk.read q []) e = by (no_fault (first_fault q)) e
    where
      by : (b : Bool) → cond b (Some q) None ≡ None → code_told (reader_in k) b q [] met rest ≡ refused (of_kind 6)
      by true e = absurd (cc)
      by false e = refl

module _ (k : Context) (met : ℕ) (bytes : List ℕ) where
  pub code_scanned : (s : List ℕ) (m : ℕ) (rest : List ℕ) (p : Prototype) → (blob (reader_in k)).scan met bytes ≡ read s m rest → checked (whole (chunk.read_whole s)) ≡ Some p
      → (code_format (reader_in k)).scan met bytes ≡ read p m rest
  unfolding code_format
  code_scanned s m rest p e h = ap (λ got. and_then got (λ s m rest. code_read (reader_in k) (chunk.read_whole s) m rest)) e ∙ code_is_read k m rest (chunk.read_whole s) p h

  pub code_stopped : (s : List ℕ) (m : ℕ) (rest : List ℕ) (why : ReadFault) (later : Place) → (blob (reader_in k)).scan met bytes ≡ read s m rest → TellsCode (chunk.read_whole s) (Err why)
      → Says own ((code_format (reader_in k)).scan met bytes) (Err why) later
  unfolding code_format
  code_stopped s m rest (Refused why) later e h =
      ap (λ got. and_then got (λ s m rest. code_read (reader_in k) (chunk.read_whole s) m rest)) e
      ∙ (code_is_refused k m rest (chunk.read_whole s) h.0 ∙ ap (λ w. refused (fault w)) (sym h.1))
  code_stopped s m rest Memory later e h = tt

  pub code_unread : (why : ReadFault) (now later : Place) → Says shown ((blob (reader_in k)).scan met bytes) (Err why) now → Says own ((code_format (reader_in k)).scan met bytes) (Err why) later
  unfolding code_format
  code_unread (Refused why) now later e = ap (λ got. and_then got (λ s m rest. code_read (reader_in k) (chunk.read_whole s) m rest)) e
  code_unread Memory now later e = tt
