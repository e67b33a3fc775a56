-- The smallest readings follow the grammar.
use Rattle.std.proofs.Common.{◌≡◌, ℕ, ◌+◌, ◌*◌, ◌%◌, ◌^◌, ◌<◌, ◌≤◌, Bool, true, false, List, [], ◌∷◌, ◌++◌, refl, sym, ap, ◌∙◌, arith, inl, inr}
use Rattle.std.specs.Prelude.{◌==◌, nat_lt, nat_le, if◌then◌else◌, ◌⊎◌}
use Rattle.std.proofs.lemmas.Bool.Decides.{nat_tests, Decides-ltb, Decides-eqb}
use Rattle.chunk_format.specs.Spelling.{flag}
use Rattle.chunk_format.specs.Reading.{Got, read, refused, read_byte, read_groups, read_number, read_flag, read_kind}
use Rattle.chunk_format.specs.Grammar.{IsGroups, value_from, NumberOf, ByteOf, FlagOf, KindOf}
use Rattle.chunk_format.proofs.Exact.{Spelled, Exact}

-- bytes

sound_byte : (bytes rest : List ℕ) (x : ℕ) → read_byte bytes ≡ read x rest → Spelled ByteOf x bytes rest
sound_byte [] rest x e = absurd (cc)
sound_byte (byte ∷ bytes) rest x e =
    let same : byte ≡ x = cc in
    let behind : bytes ≡ rest = cc in
    record { front = x ∷ []; whole = rw (same, behind) refl; spells = refl }

pub exact_byte : Exact ByteOf read_byte
exact_byte = record { sound = sound_byte; complete = λ x front rest h. rw h refl }

-- flags

flag_read : (is_zero is_one : Bool) (byte : ℕ) (bytes rest : List ℕ) (x : Bool) → (is_zero ≡ true → byte ≡ 0) → (is_one ≡ true → byte ≡ 1) →
    (if is_zero then read false bytes else if is_one then read true bytes else refused 8) ≡ read x rest → (byte ≡ flag x) × (bytes ≡ rest)
flag_read true is_one byte bytes rest x zero_is one_is e = let f : false ≡ x = cc in (rw (← f) (zero_is refl), cc)
flag_read false true byte bytes rest x zero_is one_is e = let f : true ≡ x = cc in (rw (← f) (one_is refl), cc)
flag_read false false byte bytes rest x zero_is one_is e = absurd (cc)

sound_flag : (bytes rest : List ℕ) (x : Bool) → read_flag bytes ≡ read x rest → Spelled FlagOf x bytes rest
sound_flag [] rest x e = absurd (cc)
sound_flag (byte ∷ bytes) rest x e =
    let h = flag_read (byte == 0) (byte == 1) byte bytes rest x (Decides-eqb byte 0).0 (Decides-eqb byte 1).0 e in
    record { front = flag x ∷ []; whole = rw (h.0, h.1) refl; spells = refl }

complete_flag : (x : Bool) (front rest : List ℕ) → FlagOf x front → read_flag (front ++ rest) ≡ read x rest
complete_flag true front rest h = rw h refl
complete_flag false front rest h = rw h refl

pub exact_flag : Exact FlagOf read_flag
exact_flag = record { sound = sound_flag; complete = complete_flag }

-- kinds of upvalues

kind_read : (test : Bool) (byte : ℕ) (bytes rest : List ℕ) (x : ℕ) → (if test then read byte bytes else refused 8) ≡ read x rest → (test ≡ true) × (byte ≡ x) × (bytes ≡ rest)
kind_read true byte bytes rest x e = (refl, cc, cc)
kind_read false byte bytes rest x e = absurd (cc)

sound_kind : (bytes rest : List ℕ) (x : ℕ) → read_kind bytes ≡ read x rest → Spelled KindOf x bytes rest
sound_kind [] rest x e = absurd (cc)
sound_kind (byte ∷ bytes) rest x e =
    let h = kind_read (nat_le byte 3) byte bytes rest x e in
    let at_most : nat_le byte 3 ≡ true = h.0 in
    let same : byte ≡ x = h.1 in
    let small : x ≤ 3 = grind (arith, nat_tests) in
    record { front = x ∷ []; whole = rw (same, h.2) refl; spells = (refl, small) }

complete_kind : (x : ℕ) (front rest : List ℕ) → KindOf x front → read_kind (front ++ rest) ≡ read x rest
complete_kind x front rest h =
    let small : x ≤ 3 = h.1 in
    let test : nat_le x 3 ≡ true = grind (arith, nat_tests) in
    rw (h.0, test) refl

pub exact_kind : Exact KindOf read_kind
exact_kind = record { sound = sound_kind; complete = complete_kind }

-- numbers

pub value_from-grows : (so_far : ℕ) (bytes : List ℕ) → so_far ≤ value_from so_far bytes
value_from-grows so_far [] = omega arith
value_from-grows so_far (byte ∷ bytes) = let h = value_from-grows (so_far * 128 + byte % 128) bytes in omega arith

abbrev next_group : ℕ → ℕ → ℕ
next_group so_far byte = so_far * 128 + byte % 128

pub record Groups (so_far n : ℕ) (bytes rest : List ℕ) : Type 0 where
  pub front : List ℕ
  pub whole : bytes ≡ front ++ rest
  pub groups : IsGroups front
  pub value : n ≡ value_from so_far front
  pub fits : n < 2 ^ 31

-- how a group was read: it fits, and it is the last one or not
group_read : (fits low : Bool) (value : ℕ) (more : Got ℕ) (bytes rest : List ℕ) (n : ℕ) →
    (if fits then (if low then more else read value bytes) else refused 7) ≡ read n rest →
    (fits ≡ true) × (((low ≡ true) × (more ≡ read n rest)) ⊎ ((low ≡ false) × (value ≡ n) × (bytes ≡ rest)))
group_read true true value more bytes rest n e = (refl, inl (refl, e))
group_read true false value more bytes rest n e = (refl, inr (refl, cc, cc))
group_read false low value more bytes rest n e = absurd (cc)

one_more : (so_far n byte : ℕ) (bytes rest : List ℕ) → byte < 128 → Groups (next_group so_far byte) n bytes rest → Groups so_far n (byte ∷ bytes) rest
one_more so_far n byte bytes rest low g = go g.front g.whole g.groups g.value
  where
    go : (front : List ℕ) → bytes ≡ front ++ rest → IsGroups front → n ≡ value_from (next_group so_far byte) front → Groups so_far n (byte ∷ bytes) rest
    go [] whole groups value = absurd groups
    go (next ∷ front) whole groups value =
        record { front = byte ∷ next ∷ front; whole = rw whole refl; groups = (low, groups); value = value; fits = g.fits }

sound_groups : (so_far : ℕ) (bytes rest : List ℕ) (n : ℕ) → read_groups so_far bytes ≡ read n rest → Groups so_far n bytes rest
sound_groups so_far [] rest n e = absurd (cc)
sound_groups so_far (byte ∷ bytes) rest n e = go (group_read (nat_lt (next_group so_far byte) (2 ^ 31)) (nat_lt byte 128) (next_group so_far byte) (read_groups (next_group so_far byte) bytes) bytes rest n e)
    (λ h. sound_groups (next_group so_far byte) bytes rest n h)
  where
    go : (nat_lt (next_group so_far byte) (2 ^ 31) ≡ true)
        × (((nat_lt byte 128 ≡ true) × (read_groups (next_group so_far byte) bytes ≡ read n rest)) ⊎ ((nat_lt byte 128 ≡ false) × (next_group so_far byte ≡ n) × (bytes ≡ rest)))
        → (read_groups (next_group so_far byte) bytes ≡ read n rest → Groups (next_group so_far byte) n bytes rest)
        → Groups so_far n (byte ∷ bytes) rest
    go (fits, inl (low, more)) again = one_more so_far n byte bytes rest ((Decides-ltb byte 128).0 low) (again more)
    go (fits, inr (high, value, behind)) again =
        let small : next_group so_far byte < 2 ^ 31 = (Decides-ltb (next_group so_far byte) (2 ^ 31)).0 fits in
        let last : 128 ≤ byte = grind (arith, nat_tests) in
        record { front = byte ∷ []; whole = rw behind refl; groups = last; value = sym value; fits = omega arith }

complete_groups : (so_far : ℕ) (front rest : List ℕ) → IsGroups front → value_from so_far front < 2 ^ 31 → read_groups so_far (front ++ rest) ≡ read (value_from so_far front) rest
complete_groups so_far [] rest groups fits = absurd groups
complete_groups so_far (byte ∷ []) rest groups fits =
    let high : nat_lt byte 128 ≡ false = grind (arith, nat_tests) in
    let small : nat_lt (next_group so_far byte) (2 ^ 31) ≡ true = (Decides-ltb (next_group so_far byte) (2 ^ 31)).1 fits in
    rw (small, high) refl
complete_groups so_far (byte ∷ (next ∷ front)) rest groups fits =
    let low : nat_lt byte 128 ≡ true = (Decides-ltb byte 128).1 groups.0 in
    let grows = value_from-grows (next_group so_far byte) (next ∷ front) in
    let below : next_group so_far byte < 2 ^ 31 = omega arith in
    let small : nat_lt (next_group so_far byte) (2 ^ 31) ≡ true = (Decides-ltb (next_group so_far byte) (2 ^ 31)).1 below in
    let again = complete_groups (next_group so_far byte) (next ∷ front) rest groups.1 fits in
    rw (small, low) again

sound_number : (bytes rest : List ℕ) (n : ℕ) → read_number bytes ≡ read n rest → Spelled NumberOf n bytes rest
sound_number bytes rest n e =
    let g = sound_groups 0 bytes rest n e in
    record { front = g.front; whole = g.whole; spells = record { groups = g.groups; value = g.value; fits = g.fits } }

complete_number : (n : ℕ) (front rest : List ℕ) → NumberOf n front → read_number (front ++ rest) ≡ read n rest
complete_number n front rest h =
    let below : value_from 0 front < 2 ^ 31 = rw h.value at h.fits in
    complete_groups 0 front rest h.groups below ∙ ap (λ m. read m rest) (sym h.value)

pub exact_number : Exact NumberOf read_number
exact_number = record { sound = sound_number; complete = complete_number }
