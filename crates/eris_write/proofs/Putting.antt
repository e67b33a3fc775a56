-- What is put in parts is put at once: bytes up to those that an image has room for, and the first refusal.
use Rattle.std.proofs.Common.{◌≡◌, ℕ, zero, suc, ◌+◌, ◌-◌, List, [], ◌∷◌, ◌++◌, Option, Some, None, length, take, refl, sym, ap, ◌∙◌, subst, arith, append_assoc, length-append, length-take, Result, Ok, Err, OnOk}
use Rattle.std.specs.Prelude.{min}
use Rattle.list_laws.proofs.Items.{append_nil}
use Rattle.image_core.specs.Image.{Item}
use Rattle.image_core.specs.Records.{Field}
use Rattle.int_core.specs.Value.{Value}
use Rattle.machine_core.specs.World.{World}
use Rattle.image_bytes.specs.Bytes.{Reader}
use Rattle.eris_write.specs.declared.output.Output.{Output}
use Rattle.eris_write.specs.declared.writer.Writer.{Writer}
use Rattle.eris_write.specs.Output.{Puts, most, put}
use Rattle.eris_write.specs.Refusals.{Cause, field_refusal, first_refusal, or_else, shown}
use Rattle.eris_write.specs.Writing.{Writes, name_in}
use Rattle.lua_heap.specs.Plain.{plain}

take_more : {A : Type 0} (k : ℕ) (xs ys : List A) → take k (xs ++ ys) ≡ take k xs ++ take (k - length xs) ys
take_more zero xs ys = let e : zero - length xs ≡ zero = omega arith in sym (ap (λ n. take n ys) e)
take_more (suc k) [] ys = let e : suc k - 0 ≡ suc k = omega arith in sym (ap (λ n. take n ys) e)
take_more (suc k) (x ∷ xs) ys = let e : suc k - suc (length xs) ≡ k - length xs = omega arith in ap (λ l. x ∷ l) (take_more k xs ys) ∙ sym (ap (λ n. x ∷ (take k xs ++ take n ys)) e)

left_over : (m o s : ℕ) → m - (o + min (m - o) s) ≡ m - o - s
left_over m o s = omega arith

put_both : (o s t : List ℕ) → put (put o s) t ≡ put o (s ++ t)
put_both o s t =
    let k = most - length o in
    let n : most - length (o ++ take k s) ≡ k - length s = ap (λ n. most - n) (length-append o (take k s) ∙ ap (λ n. length o + n) (length-take k s)) ∙ left_over most (length o) (length s) in
    append_assoc o (take k s) (take (most - length (o ++ take k s)) t) ∙ ap (λ n. o ++ (take k s ++ take n t)) n ∙ sym (ap (λ l. o ++ l) (take_more k s t))

pub or_none : (r : Option Cause) → or_else r None ≡ r
or_none None = refl
or_none (Some r) = refl

or_both : (a b c : Option Cause) → or_else (or_else a b) c ≡ or_else a (or_else b c)
or_both None b c = refl
or_both (Some a) b c = refl

pub first_of_both : (W : World) (name : Value → Option Item) (fs gs : List Field) → first_refusal W name (fs ++ gs) ≡ or_else (first_refusal W name fs) (first_refusal W name gs)
first_of_both W name [] gs = refl
first_of_both W name (f ∷ fs) gs = ap (or_else (field_refusal W name f)) (first_of_both W name fs gs) ∙ sym (or_both (field_refusal W name f) (first_refusal W name fs) (first_refusal W name gs))

pub puts_both : {a b c : Output} {r q : Option Cause} {s t : Reader → List ℕ} → Puts a b r s → Puts b c q t → Puts a c (or_else r q) (λ R. s R ++ t R)
puts_both {a} {b} {c} {r} {q} {s} {t} h k = record {
  grown = λ R. k.grown R ∙ (ap (λ o. put o (t R)) (h.grown R) ∙ put_both a.bytes.items (s R) (t R));
  first = k.first ∙ (ap (λ o. or_else o q) h.first ∙ or_both (shown a.refusal) r q);
}

-- bytes alone come after, or before
pub puts_then : {a b c : Output} {r : Option Cause} {s t : Reader → List ℕ} → Puts a b r s → Puts b c None t → Puts a c r (λ R. s R ++ t R)
puts_then {a} {b} {c} {r} {s} {t} h k = subst (λ o. Puts a c o (λ R. s R ++ t R)) (or_none r) (puts_both h k)

pub puts_as : (a b : Output) (r : Option Cause) (s t : Reader → List ℕ) → ((R : Reader) → s R ≡ t R) → Puts a b r s → Puts a b r t
puts_as a b r s t e h = record { grown = λ R. h.grown R ∙ ap (put a.bytes.items) (e R); first = h.first }

pub writes_both : (w : Writer) {a b c : Output} (fs gs : List Field) (s t : Reader → List ℕ) → Writes w a b fs s → Writes w b c gs t → Writes w a c (fs ++ gs) (λ R. s R ++ t R)
writes_both w {a} {b} {c} fs gs s t h k = subst (λ o. Puts a c o (λ R. s R ++ t R)) (sym (first_of_both (plain w.world.now 0) (name_in w) fs gs)) (puts_both h k)

pub writes_as : (w : Writer) (a b : Output) (fs gs : List Field) (s t : Reader → List ℕ) → fs ≡ gs → ((R : Reader) → s R ≡ t R) → Writes w a b fs s → Writes w a b gs t
writes_as w a b fs gs s t e f h = subst (λ l. Writes w a b l t) e (puts_as a b (first_refusal (plain w.world.now 0) (name_in w) fs) s t f h)

pub on_ok : {B E : Type 0} {P Q : Type 0} (o : Result B E) → OnOk o P → (P → Q) → OnOk o Q
on_ok (Ok b) p f = f p
on_ok (Err e) p f = tt

pub puts_is : (a b : Output) (r : Option Cause) (xs ys : List ℕ) → xs ≡ ys → Puts a b r (λ _. xs) → Puts a b r (λ _. ys)
puts_is a b r xs ys e h = puts_as a b r (λ _. xs) (λ _. ys) (λ _. e) h

abbrev no_bytes : List ℕ
no_bytes = []

none_taken : (n : ℕ) → take n no_bytes ≡ no_bytes
none_taken zero = refl
none_taken (suc n) = refl

nothing_put : (o : List ℕ) → put o [] ≡ o
nothing_put o = ap (λ s. o ++ s) (none_taken (most - length o)) ∙ append_nil o

pub puts_nothing : (a : Output) → Puts a a None (λ _. [])
puts_nothing a = record { grown = λ R. sym (nothing_put a.bytes.items); first = sym (or_none (shown a.refusal)) }
