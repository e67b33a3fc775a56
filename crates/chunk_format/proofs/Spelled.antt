-- What the writer spells is in the grammar.
use Rattle.std.proofs.Common.{◌≡◌, ℕ, ◌+◌, ◌*◌, ◌/◌, ◌%◌, ◌^◌, ◌<◌, ◌≤◌, Bool, true, false, List, [], ◌∷◌, ◌++◌, Option, Some, None, refl, sym, ap, ◌∙◌, arith, inl, inr, length, append-nil}
use Rattle.std.specs.Prelude.{◌==◌, ℤ, pos, negsuc, nat_le, if◌then◌else◌, ◌⊎◌, ◌≢◌}
use Rattle.std.specs.Int.{w8, w64, cast_signed, cast_unsigned}
use Rattle.std.specs.List.{list_all, flat_map}
use Rattle.std.proofs.lemmas.Bool.Decides.{nat_tests, Decides-ltb, eqb_tells}
use Rattle.byteorder.specs.Endian.{little_number, little_bytes}
use Rattle.byteorder.specs.Numbers.{little_number-reads_back, length-bytes_low_first}
use Rattle.code_core.proofs.CheckedLemmas.{rest_of, first_of_two}
use Rattle.int_core.specs.Value.{greatest_string}
use Rattle.int_core.specs.Limits.{string_fits}
use Rattle.code_core.specs.Writable.{number_fits, name_fits, constant_fits, upvalue_fits, line_fits, local_fits, word_fits, change_fits, byte_fits, signed_fits}
use Rattle.code_core.specs.declared.instruction.Instruction.{Instruction}
use Rattle.code_core.specs.declared.proto.Const.{Const}
use Rattle.code_core.specs.declared.proto.Const.TheVariants.{Nil, False, True, Int, Str}
use Rattle.code_core.specs.declared.proto.UpDesc.{UpDesc}
use Rattle.code_core.specs.declared.proto.AbsLine.{AbsLine}
use Rattle.code_core.specs.declared.proto.LocVar.{LocVar}
use Rattle.chunk_format.specs.Spelling as spelled
use Rattle.chunk_format.specs.Spelling.{group, number}
use Rattle.chunk_format.specs.Grammar.{Then, Gives, IsGroups, value_from, NumberOf, WordOf, IntegerOf, NameOf, InstructionOf, ConstantOf, UpvalueOf, ChangeOf, AbsLineOf, LocalOf, TimesOf, ListOf}

-- building by the grammar's rules

pub then_rest : {A B : Type 0} {First : A → List ℕ → Type 0} {Rest : A → B → List ℕ → Type 0} {y : B} (x : A) (front back : List ℕ) →
    First x front → Rest x y back → Then First Rest y (front ++ back)
then_rest x front back a b = record { first = x; front = front; back = back; whole = refl; spells_first = a; spells_rest = b }

pub then_last : {A B : Type 0} {First : A → List ℕ → Type 0} {Rest : A → B → List ℕ → Type 0} {y : B} (x : A) (front : List ℕ) →
    First x front → Rest x y [] → Then First Rest y front
then_last x front a b = record { first = x; front = front; back = []; whole = sym (append-nil front); spells_first = a; spells_rest = b }

pub gives : {A : Type 0} (x : A) → Gives x x []
gives x = record { value = refl; nothing = refl }

-- numbers

IsGroups-more : (byte : ℕ) (rest : List ℕ) → byte < 128 → IsGroups rest → IsGroups (byte ∷ rest)
IsGroups-more byte [] low groups = absurd groups
IsGroups-more byte (next ∷ rest) low groups = (low, groups)

group_tells : (low n : ℕ) → ((group low n ≡ []) × (n / 2 ^ low ≡ 0)) ⊎ (group low n ≡ n / 2 ^ low % 128 ∷ [])
group_tells low n = go (eqb_tells (n / 2 ^ low) 0)
  where
    go : (((n / 2 ^ low == 0) ≡ true) × (n / 2 ^ low ≡ 0)) ⊎ (((n / 2 ^ low == 0) ≡ false) × (n / 2 ^ low ≢ 0)) → ((group low n ≡ []) × (n / 2 ^ low ≡ 0)) ⊎ (group low n ≡ n / 2 ^ low % 128 ∷ [])
    go (inl h) = inl (rw h.0 refl, h.1)
    go (inr h) = inr (rw h.0 refl)

IsGroups-group : (low n : ℕ) (rest : List ℕ) → IsGroups rest → IsGroups (group low n ++ rest)
IsGroups-group low n rest groups = go (group_tells low n)
  where
    go : ((group low n ≡ []) × (n / 2 ^ low ≡ 0)) ⊎ (group low n ≡ n / 2 ^ low % 128 ∷ []) → IsGroups (group low n ++ rest)
    go (inl h) = rw h.0 groups
    go (inr h) = let below : n / 2 ^ low % 128 < 128 = omega arith in rw h (IsGroups-more (n / 2 ^ low % 128) rest below groups)

value_from-group : (low n so_far : ℕ) (rest : List ℕ) → so_far * 128 + n / 2 ^ low % 128 ≡ n / 2 ^ low → value_from so_far (group low n ++ rest) ≡ value_from (n / 2 ^ low) rest
value_from-group low n so_far rest h = go (group_tells low n)
  where
    go : ((group low n ≡ []) × (n / 2 ^ low ≡ 0)) ⊎ (group low n ≡ n / 2 ^ low % 128 ∷ []) → value_from so_far (group low n ++ rest) ≡ value_from (n / 2 ^ low) rest
    go (inl g) =
        let is_zero : n / 2 ^ low ≡ 0 = g.1 in
        let same : so_far ≡ n / 2 ^ low = omega arith in
        rw g.0 (ap (λ s. value_from s rest) same)
    go (inr g) =
        let same : so_far * 128 + n / 2 ^ low % 128 % 128 ≡ n / 2 ^ low = omega arith in
        rw g (ap (λ s. value_from s rest) same)

last_group : ℕ → List ℕ
last_group n = (n % 128 + 128) ∷ []

number_value : (n : ℕ) → n < 2 ^ 31 → value_from 0 (number n) ≡ n
number_value n h =
    let a : 0 * 128 + n / 2 ^ 28 % 128 ≡ n / 2 ^ 28 = omega arith in
    let b : n / 2 ^ 28 * 128 + n / 2 ^ 21 % 128 ≡ n / 2 ^ 21 = omega arith in
    let c : n / 2 ^ 21 * 128 + n / 2 ^ 14 % 128 ≡ n / 2 ^ 14 = omega arith in
    let d : n / 2 ^ 14 * 128 + n / 2 ^ 7 % 128 ≡ n / 2 ^ 7 = omega arith in
    let e : n / 2 ^ 7 * 128 + (n % 128 + 128) % 128 ≡ n = omega arith in
    value_from-group 28 n 0 _ a ∙ (value_from-group 21 n _ _ b ∙ (value_from-group 14 n _ _ c ∙ (value_from-group 7 n _ _ d ∙ e)))

pub number_spelled : (n : ℕ) → n < 2 ^ 31 → NumberOf n (number n)
number_spelled n h =
    let last : 128 ≤ n % 128 + 128 = omega arith in
    record {
      groups = IsGroups-group 28 n _ (IsGroups-group 21 n _ (IsGroups-group 14 n _ (IsGroups-group 7 n ((n % 128 + 128) ∷ []) last)));
      value = sym (number_value n h);
      fits = h;
    }

pub number_of_fitting : (n : ℕ) → number_fits n ≡ true → NumberOf n (number n)
number_of_fitting n h = number_spelled n ((Decides-ltb n (2 ^ 31)).0 h)

-- fixed widths

word_spelled : (n : ℕ) → n < 2 ^ 32 → WordOf n (little_bytes 4 n)
word_spelled n h =
    let below : n < 256 ^ 4 = omega arith in
    (length-bytes_low_first 0 4 n, sym (ap (little_number 4) (sym (append-nil (little_bytes 4 n))) ∙ little_number-reads_back 4 n [] below))

integer_spelled : (n : ℤ) → signed_fits 63 n ≡ true → IntegerOf n (little_bytes 8 (cast_unsigned w64 n))
integer_spelled n h =
    let below : cast_unsigned w64 n < 256 ^ 8 = unsigned_below n h in (
      length-bytes_low_first 0 8 (cast_unsigned w64 n),
      sym (ap (cast_signed w64) (ap (little_number 8) (sym (append-nil (little_bytes 8 (cast_unsigned w64 n)))) ∙ little_number-reads_back 8 (cast_unsigned w64 n) [] below) ∙ back n h),
    )
  where
    unsigned_below : (n : ℤ) → signed_fits 63 n ≡ true → cast_unsigned w64 n < 256 ^ 8
    unsigned_below (pos n) h = let small : n < 2 ^ 63 = (Decides-ltb n (2 ^ 63)).0 h in omega arith
    unsigned_below (negsuc n) h = let small : n < 2 ^ 63 = (Decides-ltb n (2 ^ 63)).0 h in omega arith

    back : (n : ℤ) → signed_fits 63 n ≡ true → cast_signed w64 (cast_unsigned w64 n) ≡ n
    back (pos n) h = let small : n < 2 ^ 63 = (Decides-ltb n (2 ^ 63)).0 h in grind (arith, nat_tests)
    back (negsuc n) h = let small : n < 2 ^ 63 = (Decides-ltb n (2 ^ 63)).0 h in grind (arith, nat_tests)

change_back : (n : ℤ) → change_fits n ≡ true → cast_signed w8 (cast_unsigned w8 n) ≡ n
change_back (pos n) h = let small : n < 2 ^ 7 = (Decides-ltb n (2 ^ 7)).0 h in grind (arith, nat_tests)
change_back (negsuc n) h = let small : n < 2 ^ 7 = (Decides-ltb n (2 ^ 7)).0 h in grind (arith, nat_tests)

-- strings

text_number : (text : List ℕ) → string_fits text ≡ true → NumberOf (length text + 1) (number (length text + 1))
text_number text h =
    let small : length text ≤ greatest_string = grind (arith, nat_tests) in
    number_spelled (length text + 1) (omega arith)

pub text_spelled : (text : List ℕ) → string_fits text ≡ true → NameOf (Some text) (spelled.name (Some text))
text_spelled text h =
    let small : length text ≤ greatest_string = grind (arith, nat_tests) in
    then_rest _ _ _ (text_number text h) (refl, refl, small)

pub name_spelled : (name : Option (List ℕ)) → name_fits name ≡ true → NameOf name (spelled.name name)
name_spelled None h = then_last _ _ (number_spelled 0 (omega arith)) (refl, refl)
name_spelled (Some text) h = text_spelled text h

-- entries of lists

pub instruction_spelled : (w : Instruction) → word_fits w ≡ true → InstructionOf w (spelled.instruction w)
instruction_spelled w h = then_last _ _ (word_spelled w.0 ((Decides-ltb w.0 (2 ^ 32)).0 h)) (gives w)

pub constant_spelled : (c : Const) → constant_fits c ≡ true → ConstantOf c (spelled.constant c)
constant_spelled Nil h = then_rest 0 (0 ∷ []) _ refl (refl, refl)
constant_spelled False h = then_rest 1 (1 ∷ []) _ refl (refl, refl)
constant_spelled True h = then_rest 17 (17 ∷ []) _ refl (refl, refl)
constant_spelled (Int n) h = then_rest 3 (3 ∷ []) _ refl (refl, integer_spelled n h)
constant_spelled (Str text) h = go (nat_le (length text) 40)
  where
    go : (short : Bool) → ConstantOf (Str text) ((if short then 4 else 20) ∷ spelled.name (Some text))
    go true = then_rest 4 (4 ∷ []) _ refl (inl refl, text_spelled text h)
    go false = then_rest 20 (20 ∷ []) _ refl (inr refl, text_spelled text h)

pub upvalue_spelled : (u : UpDesc) → upvalue_fits u ≡ true → UpvalueOf u (spelled.upvalue u)
upvalue_spelled u h =
    let test = rest_of (byte_fits u.index) h in
    let small : u.kind ≤ 3 = grind (arith, nat_tests) in
    then_rest u.in_stack (spelled.flag u.in_stack ∷ []) _ refl (then_rest u.index (u.index ∷ []) _ refl (then_last u.kind (u.kind ∷ []) (refl, small) (gives u)))

pub change_spelled : (n : ℤ) → change_fits n ≡ true → ChangeOf n (spelled.change n)
change_spelled n h = then_last _ _ refl (record { value = sym (change_back n h); nothing = refl })

pub abs_line_spelled : (l : AbsLine) → line_fits l ≡ true → AbsLineOf l (spelled.abs_line l)
abs_line_spelled l h =
    then_rest _ _ _ (number_of_fitting l.pc (first_of_two (number_fits l.pc) _ h)) (then_last _ _ (number_of_fitting l.line (rest_of (number_fits l.pc) h)) (gives l))

pub local_spelled : (v : LocVar) → local_fits v ≡ true → LocalOf v (spelled.local_variable v)
local_spelled v h =
    let numbers = rest_of (name_fits v.name) h in
    then_rest _ _ _ (name_spelled v.name (first_of_two (name_fits v.name) _ h))
    (then_rest _ _ _ (number_of_fitting v.start (first_of_two (number_fits v.start) _ numbers)) (then_last _ _ (number_of_fitting v.end (rest_of (number_fits v.start) numbers)) (gives v)))

-- lists

module _ {A : Type 0} (Item : A → List ℕ → Type 0) (fits : A → Bool) (item : A → List ℕ) (item_spelled : (x : A) → fits x ≡ true → Item x (item x)) where
  times_spelled : (xs : List A) → list_all fits xs ≡ true → TimesOf Item (length xs) xs (flat_map item xs)
  times_spelled [] h = gives []
  times_spelled (x ∷ xs) h =
      then_rest _ _ _ (item_spelled x (first_of_two (fits x) _ h)) (then_last _ _ (times_spelled xs (rest_of (fits x) h)) (gives (x ∷ xs)))

  pub list_spelled : (xs : List A) → number_fits (length xs) ≡ true → list_all fits xs ≡ true → ListOf Item xs (spelled.spelled_list item xs)
  list_spelled xs short h = then_rest _ _ _ (number_of_fitting (length xs) short) (times_spelled xs h)
