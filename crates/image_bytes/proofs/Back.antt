-- What formats spell is read again.
use Rattle.std.proofs.Common.{arith, ℕ, zero, suc, ◌<◌, ◌^◌, ◌≡◌, List, [], ◌∷◌, ◌++◌, Option, Some, None, refl, sym, ap, length, take, drop, Bool, true, false, cond, append_assoc, length-append}
use Rattle.std.specs.Prelude.{nat_eq, nat_lt}
use Rattle.byteorder.specs.Endian.{little_bytes}
use Rattle.byteorder.specs.Numbers.{little_number-reads_back, length-bytes_low_first}
use Rattle.machine_alike.proofs.Pairwise.{bind_some}
use Rattle.image_bytes.specs.Format.{Fault, read, refused, and_then, Format, IsReadBack, allowed, byte, word, raw, nothing, wrong, followed, tested, spell_case, case, tagged, when, spell_all, scan_times, after_times, times, second, list_by, list}

pub allowed_so : (b : Bool) (n m : ℕ) → allowed b n ≡ Some m → (b ≡ true) × (n ≡ m)
allowed_so true n m h = (refl, cc)
allowed_so false n m h = absurd (cc)

pub byte_back : IsReadBack byte
unfolding byte
byte_back = record { back = λ met more x rest h. let e : met ≡ more = cc in rw e refl }

pub drop_front : {A : Type 0} (xs ys : List A) (n : ℕ) → length xs ≡ n → drop n (xs ++ ys) ≡ ys
drop_front [] ys n h = rw (sym h) refl
drop_front (x ∷ xs) ys zero h = absurd (omega (arith, h))
drop_front (x ∷ xs) ys (suc n) h = drop_front xs ys n (omega (arith, h))

take_front : {A : Type 0} (xs ys : List A) (n : ℕ) → length xs ≡ n → take n (xs ++ ys) ≡ xs
take_front [] ys n h = rw (sym h) refl
take_front (x ∷ xs) ys zero h = absurd (omega (arith, h))
take_front (x ∷ xs) ys (suc n) h = ap (λ zs. x ∷ zs) (take_front xs ys n (omega (arith, h)))

pub long_enough : {A : Type 0} (xs ys : List A) (n : ℕ) → length xs ≡ n → nat_lt (length (xs ++ ys)) n ≡ false
long_enough xs ys n h = let l = length-append xs ys in search (arith, h, l)

pub below_true : (a b : ℕ) → nat_lt a b ≡ true → a < b
below_true a b h = search (arith, h)

pub equal_true : (a b : ℕ) → nat_eq a b ≡ true → a ≡ b
equal_true a b h = search (arith, h)

pub raw_back : (n : ℕ) → IsReadBack (raw n)
unfolding raw
raw_back n = record {
  back = λ met more x rest h.
      let a = allowed_so (nat_eq (length x) n) met more h in
      let e = equal_true (length x) n a.0 in
      rw (long_enough x rest n e, take_front x rest n e, drop_front x rest n e, a.1) refl;
}

pub word_back : IsReadBack word
unfolding word
word_back = record {
  back = λ met more x rest h.
      let a = allowed_so (nat_lt x (2 ^ 32)) met more h in
      let l = length-bytes_low_first 0 4 x in
      let under : x < 256 ^ 4 = let b = below_true x (2 ^ 32) a.0 in omega (arith, b) in
      rw (long_enough (little_bytes 4 x) rest 4 l, little_number-reads_back 4 x rest under, drop_front (little_bytes 4 x) rest 4 l, a.1) refl;
}

pub nothing_back : IsReadBack nothing
unfolding nothing
nothing_back = record { back = λ met more x rest h. let e : met ≡ more = cc in rw e refl }

pub wrong_back : {A : Type 0} (kind : ℕ) → IsReadBack {A = A} (wrong kind)
unfolding wrong
wrong_back kind = record { back = λ met more x rest h. absurd (cc) }

pub followed_back : {A B : Type 0} {F : Format A} {G : A → Format B} → IsReadBack F → ((a : A) → IsReadBack (G a)) → IsReadBack (followed F G)
unfolding followed
followed_back {F = F} {G = G} f g = record {
  back = λ met more x rest h.
      let m = bind_some (F.after met x.0) (λ m. (G x.0).after m x.1) more h in
      rw (append_assoc (F.spell x.0) ((G x.0).spell x.1) rest, f.back met m.0 x.0 ((G x.0).spell x.1 ++ rest) m.1, (g x.0).back m.0 more x.1 rest m.2) refl;
}

pub tested_back : {A : Type 0} (ok : A → Bool) (fault : A → Fault) {F : Format A} → IsReadBack F → IsReadBack (tested ok fault F)
unfolding tested
tested_back ok fault {F = F} f = record { back = λ met more x rest h. go met more x rest (ok x) refl h }
  where
    go : (met more : ℕ) (x : _) (rest : List ℕ) (b : Bool) → ok x ≡ b → cond b (F.after met x) None ≡ Some more → and_then (F.scan met (F.spell x ++ rest)) (λ a m rest. cond (ok a) (read a m rest) (refused (fault a))) ≡ read x more rest
    go met more x rest true e h = rw (f.back met more x rest h, e) refl
    go met more x rest false e h = absurd (cc)

pub case_back : {A B : Type 0} {made : B → A} {of : A → Option B} {F : Format B} → ((x : A) (y : B) → of x ≡ Some y → made y ≡ x) → IsReadBack F → IsReadBack (case made of F)
unfolding case
case_back {made = made} {of = of} {F = F} law f = record {
  back = λ met more x rest h.
      let y = bind_some (of x) (F.after met) more h in
      rw (ap (λ o. spell_case F o) y.1, f.back met more y.0 rest y.2, law x y.0 y.1) refl;
}

pub tagged_back : {A : Type 0} (tag : A → ℕ) {body : ℕ → Format A} → ((t : ℕ) → IsReadBack (body t)) → IsReadBack (tagged tag body)
unfolding byte tagged
tagged_back tag {body = body} f = record { back = λ met more x rest h. (f (tag x)).back met more x rest h }

pub when_back : {A : Type 0} (t n : ℕ) {F G : Format A} → IsReadBack F → IsReadBack G → IsReadBack (when t n F G)
unfolding when
when_back t n {F = F} {G = G} f g = go (nat_eq t n)
  where
    go : (b : Bool) → IsReadBack (cond b F G)
    go true = f
    go false = g

all_back : {A : Type 0} (F : Format A) → IsReadBack F → (n met more : ℕ) (xs : List A) (rest : List ℕ) → after_times F n met xs ≡ Some more → scan_times F n met (spell_all F xs ++ rest) ≡ read xs more rest
all_back F f zero met more [] rest h = let e : met ≡ more = cc in rw e refl
all_back F f zero met more (x ∷ xs) rest h = absurd (cc)
all_back F f (suc n) met more [] rest h = absurd (cc)
all_back F f (suc n) met more (x ∷ xs) rest h =
    let m = bind_some (F.after met x) (λ m. after_times F n m xs) more h in
    rw (append_assoc (F.spell x) (spell_all F xs) rest, f.back met m.0 x (spell_all F xs ++ rest) m.1, all_back F f n m.0 more xs rest m.2) refl

pub times_back : {A : Type 0} (n : ℕ) {F : Format A} → IsReadBack F → IsReadBack (times n F)
unfolding times
times_back n {F = F} f = record { back = all_back F f n }

pub some_so : {A : Type 0} {x y : A} → Some x ≡ Some y → x ≡ y
some_so h = cc

pub list_by_back : {A : Type 0} {count : Format ℕ} {F : Format A} → IsReadBack count → IsReadBack F → IsReadBack (list_by count F)
unfolding list_by
list_by_back c f = case_back (λ x y e. ap second (sym (some_so e))) (followed_back c (λ n. times_back n f))

pub list_back : {A : Type 0} {F : Format A} → IsReadBack F → IsReadBack (list F)
unfolding list
list_back f = list_by_back word_back f
