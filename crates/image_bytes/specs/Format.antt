-- Formats: how a value is spelled as bytes, and read again from the beginning of some bytes. While an image is read, the number of records that were
-- met so far is carried along, since each record is to be named before its place, and in the order of first visit.
use Rattle.std.specs.Prelude.{ℕ, zero, suc, ◌^◌, ◌≡◌, ℤ, Bool, cond, List, [], ◌∷◌, ◌++◌, length, take, drop, Option, Some, None, nat_eq, nat_lt}
use Rattle.std.specs.Int.{w64, cast_signed, cast_unsigned}
use Rattle.byteorder.specs.Endian.{little_number, little_bytes}
use Rattle.code_core.specs.Writable.{signed_fits}
use Rattle.int_core.specs.Value.{bind}
use Rattle.image_core.specs.Image.{PermKey}

pub record Fault : Type 0 where
  pub kind : ℕ
  pub key : Option PermKey

abbrev pub of_kind : ℕ → Fault
of_kind n = record { kind = n; key = None }

-- what was read, how many records were met then, and the bytes that are left; or the first fault in the order of the bytes
pub data Got (A : Type 0) : Type 0 where
  read : A → (met : ℕ) → (rest : List ℕ) → Got A
  refused : Fault → Got A

abbrev pub and_then : {A B : Type 0} → Got A → (A → ℕ → List ℕ → Got B) → Got B
and_then (read x met rest) more = more x met rest
and_then (refused fault) more = refused fault

-- `after` is how many records are met after a value that may stand where so many were met; none where it may not stand there
pub record Format (A : Type 0) : Type 0 where
  pub spell : A → List ℕ
  pub scan : ℕ → List ℕ → Got A
  pub after : ℕ → A → Option ℕ

-- what was spelled is read again, whatever follows it
pub record IsReadBack {A : Type 0} (F : Format A) : Type 0 where
  pub back : (met more : ℕ) (x : A) (rest : List ℕ) → F.after met x ≡ Some more → F.scan met (F.spell x ++ rest) ≡ read x more rest

abbrev pub allowed : Bool → ℕ → Option ℕ
allowed b n = cond b (Some n) None

-- the smallest things

unfoldable pub byte : Format ℕ
byte = record {
  spell = λ n. n ∷ [];
  scan = λ met bytes. elim bytes [ [] ↦ refused (of_kind 3) | b ∷ rest ↦ read b met rest ];
  after = λ met n. Some met;
}

unfoldable pub word : Format ℕ
word = record {
  spell = λ n. little_bytes 4 n;
  scan = λ met bytes. cond (nat_lt (length bytes) 4) (refused (of_kind 3)) (read (little_number 4 bytes) met (drop 4 bytes));
  after = λ met n. allowed (nat_lt n (2 ^ 32)) met;
}

unfoldable pub integer_of : Format ℤ
integer_of = record {
  spell = λ n. little_bytes 8 (cast_unsigned w64 n);
  scan = λ met bytes. cond (nat_lt (length bytes) 8) (refused (of_kind 3)) (read (cast_signed w64 (little_number 8 bytes)) met (drop 8 bytes));
  after = λ met n. allowed (signed_fits 63 n) met;
}

-- so many bytes as they are
unfoldable pub raw : ℕ → Format (List ℕ)
raw n = record {
  spell = λ bytes. bytes;
  scan = λ met bytes. cond (nat_lt (length bytes) n) (refused (of_kind 3)) (read (take n bytes) met (drop n bytes));
  after = λ met bytes. allowed (nat_eq (length bytes) n) met;
}

-- how formats are joined

unfoldable pub nothing : Format (Unit {0})
nothing = record { spell = λ x. []; scan = λ met bytes. read tt met bytes; after = λ met x. Some met }

-- no value may stand here
unfoldable pub wrong : {A : Type 0} → ℕ → Format A
wrong kind = record { spell = λ x. []; scan = λ met bytes. refused (of_kind kind); after = λ met x. None }

-- a value and another, whose format may turn on it
unfoldable pub followed : {A B : Type 0} → Format A → (A → Format B) → Format (A × B)
followed F G = record {
  spell = λ x. F.spell x.0 ++ (G x.0).spell x.1;
  scan = λ met bytes. and_then (F.scan met bytes) (λ a m rest. and_then ((G a).scan m rest) (λ b n left. read (a, b) n left));
  after = λ met x. bind (F.after met x.0) (λ m. (G x.0).after m x.1);
}

-- a value that passes a test, else a fault
unfoldable pub tested : {A : Type 0} → (A → Bool) → (A → Fault) → Format A → Format A
tested ok fault F = record {
  spell = F.spell;
  scan = λ met bytes. and_then (F.scan met bytes) (λ a m rest. cond (ok a) (read a m rest) (refused (fault a)));
  after = λ met x. cond (ok x) (F.after met x) None;
}

-- the values of one case
abbrev pub spell_case : {B : Type 0} → Format B → Option B → List ℕ
spell_case F None = []
spell_case F (Some y) = F.spell y

unfoldable pub case : {A B : Type 0} → (B → A) → (A → Option B) → Format B → Format A
case made of F = record {
  spell = λ x. spell_case F (of x);
  scan = λ met bytes. and_then (F.scan met bytes) (λ y m rest. read (made y) m rest);
  after = λ met x. bind (of x) (F.after met);
}

-- the case that a byte tells
unfoldable pub tagged : {A : Type 0} → (A → ℕ) → (ℕ → Format A) → Format A
tagged tag body = record {
  spell = λ x. byte.spell (tag x) ++ (body (tag x)).spell x;
  scan = λ met bytes. and_then (byte.scan met bytes) (λ t m rest. (body t).scan m rest);
  after = λ met x. bind (byte.after met (tag x)) (λ m. (body (tag x)).after m x);
}

unfoldable pub when : {A : Type 0} → ℕ → ℕ → Format A → Format A → Format A
when t n F G = cond (nat_eq t n) F G

-- so many items, one after another
abbrev pub spell_all : {A : Type 0} → Format A → List A → List ℕ
spell_all F [] = []
spell_all F (x ∷ xs) = F.spell x ++ spell_all F xs

abbrev pub scan_times : {A : Type 0} → Format A → ℕ → ℕ → List ℕ → Got (List A)
scan_times F zero met bytes = read [] met bytes
scan_times F (suc n) met bytes = and_then (F.scan met bytes) (λ x m rest. and_then (scan_times F n m rest) (λ xs k left. read (x ∷ xs) k left))

abbrev pub after_times : {A : Type 0} → Format A → ℕ → ℕ → List A → Option ℕ
after_times F zero met [] = Some met
after_times F zero met (x ∷ xs) = None
after_times F (suc n) met [] = None
after_times F (suc n) met (x ∷ xs) = bind (F.after met x) (λ m. after_times F n m xs)

unfoldable pub times : {A : Type 0} → ℕ → Format A → Format (List A)
times n F = record { spell = spell_all F; scan = scan_times F n; after = after_times F n }

abbrev pub counted : {A : Type 0} → List A → Option (ℕ × List A)
counted xs = Some (length xs, xs)

abbrev pub second : {A B : Type 0} → A × B → B
second x = x.1

-- a count, which the format tells, and so many items
unfoldable pub list_by : {A : Type 0} → Format ℕ → Format A → Format (List A)
list_by count F = case second counted (followed count (λ n. times n F))

unfoldable pub list : {A : Type 0} → Format A → Format (List A)
list F = list_by word F
