-- Readings of fixed width, of strings, of the entries of lists and of lists follow the grammar.
use Rattle.std.proofs.Common.{◌≡◌, ℕ, zero, suc, ◌+◌, ◌-◌, ◌<◌, ◌≤◌, Bool, true, false, List, [], ◌∷◌, ◌++◌, Option, Some, None, refl, sym, ap, ◌∙◌, arith, inl, inr, length, take, drop, length-take, length-append}
use Rattle.std.specs.Prelude.{◌==◌, ℤ, nat_lt, if◌then◌else◌, ◌⊎◌}
use Rattle.std.specs.Int.{w8, w64, cast_signed}
use Rattle.std.proofs.lemmas.List.{take-append-drop}
use Rattle.std.proofs.Math.Seq.{take-append_seam, drop-append_seam}
use Rattle.std.proofs.lemmas.Bool.Decides.{nat_tests, Decides-eqb}
use Rattle.byteorder.specs.Endian.{little_number}
use Rattle.byteorder.specs.Numbers.{little_from-append}
use Rattle.int_core.specs.Value.{greatest_string}
use Rattle.chunk_format.specs.Reading.{Got, read, refused, read_word, read_integer, read_text, read_name, read_instruction, read_upvalue, read_change, read_abs_line, read_local, read_times, read_list}
use Rattle.chunk_format.specs.Grammar.{WordOf, IntegerOf, TextOf, NameOf, InstructionOf, UpvalueOf, ChangeOf, AbsLineOf, LocalOf, TimesOf, ListOf}
use Rattle.chunk_format.proofs.Exact.{Spelled, Exact, exact_then, exact_gives}
use Rattle.chunk_format.proofs.Bases.{exact_byte, exact_flag, exact_kind, exact_number}

-- numbers of a fixed width

width_read : {A : Type 0} (short : Bool) (value x : A) (behind rest : List ℕ) → (if short then refused 6 else read value behind) ≡ read x rest → (short ≡ false) × (value ≡ x) × (behind ≡ rest)
width_read true value x behind rest e = absurd (cc)
width_read false value x behind rest e = (refl, cc, cc)

little_number-take : (n : ℕ) (bytes : List ℕ) → n ≤ length bytes → little_number n bytes ≡ little_number n (take n bytes)
little_number-take n bytes h =
    let enough : n ≤ length (take n bytes) = omega (arith, length-take n bytes) in
    ap (little_number n) (sym (take-append-drop n bytes)) ∙ little_from-append n (take n bytes) (drop n bytes) enough

-- a number of a width in front of a rest: it is not cut short, and the rest stands behind it
record Wide (width : ℕ) (front rest : List ℕ) : Type 0 where
  enough : width ≤ length front
  long : nat_lt (length (front ++ rest)) width ≡ false
  behind : drop width (front ++ rest) ≡ rest

wide : (width : ℕ) (front rest : List ℕ) → length front ≡ width → Wide width front rest
wide width front rest is =
    let not_less : width ≤ length (front ++ rest) = omega (arith, is, length-append front rest) in
    let long : nat_lt (length (front ++ rest)) width ≡ false = grind (arith, nat_tests) in
    record { enough = omega (arith, is); long = long; behind = rw (← is) (drop-append_seam front rest) }

-- the bytes of a number of a width that is not cut short
record Cut (width : ℕ) (bytes : List ℕ) : Type 0 where
  size : length (take width bytes) ≡ width
  same : little_number width bytes ≡ little_number width (take width bytes)

cut : (width : ℕ) (bytes : List ℕ) → nat_lt (length bytes) width ≡ false → Cut width bytes
cut width bytes long =
    let enough : width ≤ length bytes = grind (arith, nat_tests) in
    record { size = omega (arith, enough, length-take width bytes); same = little_number-take width bytes enough }

sound_word : (bytes rest : List ℕ) (x : ℕ) → read_word bytes ≡ read x rest → Spelled WordOf x bytes rest
sound_word bytes rest x e =
    let h = width_read (nat_lt (length bytes) 4) (little_number 4 bytes) x (drop 4 bytes) rest e in
    let c = cut 4 bytes h.0 in
    record { front = take 4 bytes; whole = sym (take-append-drop 4 bytes) ∙ ap (λ s. take 4 bytes ++ s) h.2; spells = (c.size, sym h.1 ∙ c.same) }

complete_word : (x : ℕ) (front rest : List ℕ) → WordOf x front → read_word (front ++ rest) ≡ read x rest
complete_word x front rest h = let w = wide 4 front rest h.0 in rw (w.long, little_from-append 4 front rest w.enough, w.behind, sym h.1) refl

exact_word : Exact WordOf read_word
exact_word = record { sound = sound_word; complete = complete_word }

sound_integer : (bytes rest : List ℕ) (x : ℤ) → read_integer bytes ≡ read x rest → Spelled IntegerOf x bytes rest
sound_integer bytes rest x e =
    let h = width_read (nat_lt (length bytes) 8) (cast_signed w64 (little_number 8 bytes)) x (drop 8 bytes) rest e in
    let c = cut 8 bytes h.0 in
    record { front = take 8 bytes; whole = sym (take-append-drop 8 bytes) ∙ ap (λ s. take 8 bytes ++ s) h.2; spells = (c.size, sym h.1 ∙ ap (cast_signed w64) c.same) }

complete_integer : (x : ℤ) (front rest : List ℕ) → IntegerOf x front → read_integer (front ++ rest) ≡ read x rest
complete_integer x front rest h = let w = wide 8 front rest h.0 in rw (w.long, little_from-append 8 front rest w.enough, w.behind, sym h.1) refl

pub exact_integer : Exact IntegerOf read_integer
exact_integer = record { sound = sound_integer; complete = complete_integer }

-- strings

text_read : (is_none over short : Bool) (bytes behind rest : List ℕ) (text : List ℕ) (x : Option (List ℕ)) →
    (if is_none then read None bytes else if over then refused 7 else if short then refused 6 else read (Some text) behind) ≡ read x rest →
    ((is_none ≡ true) × (x ≡ None) × (bytes ≡ rest)) ⊎ ((is_none ≡ false) × (over ≡ false) × (short ≡ false) × (x ≡ Some text) × (behind ≡ rest))
text_read true over short bytes behind rest text x e = inl (refl, cc, cc)
text_read false true short bytes behind rest text x e = absurd (cc)
text_read false false true bytes behind rest text x e = absurd (cc)
text_read false false false bytes behind rest text x e = inr (refl, refl, refl, cc, cc)

sound_text : (number : ℕ) (bytes rest : List ℕ) (x : Option (List ℕ)) → read_text number bytes ≡ read x rest → Spelled (TextOf number) x bytes rest
sound_text number bytes rest x e =
    go (text_read (number == 0) (nat_lt (greatest_string + 1) number) (nat_lt (length bytes) (number - 1)) bytes (drop (number - 1) bytes) rest (take (number - 1) bytes) x e)
  where
    go : ((number == 0 ≡ true) × (x ≡ None) × (bytes ≡ rest))
        ⊎ ((number == 0 ≡ false) × (nat_lt (greatest_string + 1) number ≡ false) × (nat_lt (length bytes) (number - 1) ≡ false) × (x ≡ Some (take (number - 1) bytes)) × (drop (number - 1) bytes ≡ rest))
        → Spelled (TextOf number) x bytes rest
    go (inl (zero_is, is_none, behind)) =
        record { front = []; whole = behind; spells = rw is_none ((Decides-eqb number 0).0 zero_is, refl) }
    go (inr (not_zero, not_over, not_short, is_some, behind)) =
        let some : 0 < number = grind (arith, nat_tests) in
        let few : number ≤ greatest_string + 1 = grind (arith, nat_tests) in
        let enough : number - 1 ≤ length bytes = grind (arith, nat_tests) in
        let counted : length (take (number - 1) bytes) ≡ number - 1 = omega (arith, length-take (number - 1) bytes) in
        let is_number : number ≡ length (take (number - 1) bytes) + 1 = omega arith in
        let small : length (take (number - 1) bytes) ≤ greatest_string = omega arith in
        record {
          front = take (number - 1) bytes;
          whole = sym (take-append-drop (number - 1) bytes) ∙ ap (λ s. take (number - 1) bytes ++ s) behind;
          spells = rw is_some (is_number, refl, small);
        }

complete_text : (number : ℕ) (x : Option (List ℕ)) (front rest : List ℕ) → TextOf number x front → read_text number (front ++ rest) ≡ read x rest
complete_text number None front rest h = rw (h.0, h.1) refl
complete_text number (Some text) front rest h =
    let some : length text + 1 == 0 ≡ false = grind (arith, nat_tests) in
    let small : length text ≤ greatest_string = h.2 in
    let few : nat_lt (greatest_string + 1) (length text + 1) ≡ false = grind (arith, nat_tests) in
    let less : length text + 1 - 1 ≡ length text = omega arith in
    let not_less : length text ≤ length (text ++ rest) = omega (arith, length-append text rest) in
    let enough : nat_lt (length (text ++ rest)) (length text) ≡ false = grind (arith, nat_tests) in
    rw (h.0, h.1, some, few, less, enough, take-append_seam text rest, drop-append_seam text rest) refl

exact_text : (number : ℕ) → Exact (TextOf number) (read_text number)
exact_text number = record { sound = sound_text number; complete = complete_text number }

pub exact_name : Exact NameOf read_name
exact_name = exact_then exact_number exact_text

-- entries of lists

pub exact_instruction : Exact InstructionOf read_instruction
exact_instruction = exact_then exact_word (λ word. exact_gives (record { 0 = word }))

pub exact_upvalue : Exact UpvalueOf read_upvalue
exact_upvalue = exact_then exact_flag (λ in_stack. exact_then exact_byte (λ index. exact_then exact_kind (λ kind. exact_gives _)))

pub exact_change : Exact ChangeOf read_change
exact_change = exact_then exact_byte (λ byte. exact_gives (cast_signed w8 byte))

pub exact_abs_line : Exact AbsLineOf read_abs_line
exact_abs_line = exact_then exact_number (λ pc. exact_then exact_number (λ line. exact_gives _))

pub exact_local : Exact LocalOf read_local
exact_local = exact_then exact_name (λ name. exact_then exact_number (λ start. exact_then exact_number (λ end. exact_gives _)))

-- lists

exact_times : {A : Type 0} {Item : A → List ℕ → Type 0} {item : List ℕ → Got A} → Exact Item item → (n : ℕ) → Exact (TimesOf Item n) (read_times item n)
exact_times exact_item zero = exact_gives []
exact_times exact_item (suc n) = exact_then exact_item (λ x. exact_then (exact_times exact_item n) (λ xs. exact_gives (x ∷ xs)))

pub exact_list : {A : Type 0} {Item : A → List ℕ → Type 0} {item : List ℕ → Got A} → Exact Item item → Exact (ListOf Item) (read_list item)
exact_list exact_item = exact_then exact_number (exact_times exact_item)
