-- What a function that reads says of the bytes in front of which it stood.
use Rattle.std.specs.Prelude.{ℕ, ◌≡◌, ◌≤◌, true, false, cond, nat_lt, List, map, Option, Some, None, Result, Ok, Err, refl}
use Rattle.std.specs.Coded.{Coded, code_by, coded×, coded_ℕ, coded_list}
use Rattle.std.specs.Borrow.{Bor}
use Rattle.std.specs.declared.vec.Vec.{Vec}
use Rattle.std.specs.declared.alloc.Global.{Global}
use Rattle.image_bytes.specs.Format.{Got, read, refused, of_kind}
use Rattle.image_core.specs.Image.{Record}
use Rattle.image_bytes.specs.Bytes.{Reader, record_format, sort_at, with_sorts}
use Rattle.image_reading.specs.declared.fault.ReadFault.{ReadFault}
use Rattle.image_reading.specs.declared.fault.ReadFault.TheVariants.{Refused, Memory}
use Rattle.image_reading.specs.declared.item.Context.{Context}
use Rattle.image_records.specs.Views.{sort}
use Rattle.image_reading.specs.Faults.{fault}
use Rattle.image_reading.specs.Reader.{reader_of}

-- where a reader stands: how many records were met, and the bytes that are left
pub record Place : Type 0 where
  pub met : ℕ
  pub bytes : List ℕ

abbrev pub place_code : Coded Place
place_code = code_by (ℕ × List ℕ) (coded× coded_ℕ (coded_list coded_ℕ)) (λ p. (p.met, p.bytes)) (λ p. record { met = p.0; bytes = p.1 }) (λ _. refl)

-- what was read, seen by `view`, or the first fault; nothing where memory was wanting
abbrev pub Says : {A B : Type 0} → (B → A) → Got A → Result B ReadFault → Place → Type 0
Says view got (Ok x) now = got ≡ read (view x) now.met now.bytes
Says view got (Err (Refused why)) now = got ≡ refused (fault why)
Says view got (Err Memory) now = Unit {0}

abbrev pub itself : ℕ → ℕ
itself n = n

abbrev pub shown : Bor (List ℕ) → List ℕ
shown s = s.now

abbrev pub items_of : {A B : Type 0} → (B → A) → Vec B Global → List A
items_of view v = map view v.items

abbrev pub numbers_of : Vec ℕ Global → List ℕ
numbers_of v = v.items

-- the next number of records that were met, or the fault of a number that is neither met nor the next
abbrev pub Meets : Option ℕ → Result (Unit {0}) ReadFault → ℕ → Type 0
Meets o (Ok u) met = o ≡ Some met
Meets o (Err (Refused why)) met = (o ≡ None) × (fault why ≡ of_kind 4)
Meets o (Err Memory) met = ⊥

-- so many bytes are left, or the fault of bytes that end too early
abbrev pub Needs : (count left : ℕ) → Result (Unit {0}) ReadFault → Type 0
Needs count left (Ok u) = (nat_lt left count ≡ false) × (count ≤ left)
Needs count left (Err (Refused why)) = (nat_lt left count ≡ true) × (fault why ≡ of_kind 3)
Needs count left (Err Memory) = ⊥

-- the record at a place, which is to have been met
abbrev pub record_scan : Reader → (at met : ℕ) → List ℕ → Got Record
record_scan R at met bytes = cond (nat_lt at met) ((record_format R (sort_at R.sorts at)).scan met bytes) (refused (of_kind 4))

-- what is known where a value is read
abbrev pub reader_in : Context → Reader
reader_in c = with_sorts (reader_of c.known.now) (map sort c.sorts.now)
