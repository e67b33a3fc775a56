-- Where values stand as they should, how many records are met after them is told by the numbers that they name; if their bytes are not too many.
use Rattle.std.proofs.Common.{arith, ℕ, ◌+◌, ◌<◌, ◌≤◌, ◌^◌, ◌≡◌, ℤ, List, [], ◌∷◌, ◌++◌, Option, Some, None, refl, subst, sym, ap, ◌∙◌, length, Bool, true, cond, length-append}
use Rattle.std.specs.Prelude.{flat_map, nat_eq, nat_lt}
use Rattle.byteorder.specs.Endian.{little_bytes}
use Rattle.byteorder.specs.Numbers.{length-bytes_low_first}
use Rattle.code_core.specs.Writable.{signed_fits}
use Rattle.int_core.specs.Value.{bind}
use Rattle.image_core.specs.Numbers.{meeting, walk}
use Rattle.image_core.proofs.Lists.{Every}
use Rattle.image_bytes.specs.Format.{Fault, Format, allowed, byte, word, integer_of, raw, nothing, followed, tested, spell_case, case, tagged, spell_all, after_times, times, list_by, list}
use Rattle.list_laws.proofs.Tests.{eq_refl}
use Rattle.machine_sound.proofs.Values.{lt_true}

pub bind_same : {A B : Type 0} (o : Option A) (f g : A → Option B) → ((a : A) → f a ≡ g a) → bind o f ≡ bind o g
bind_same None f g h = refl
bind_same (Some a) f g h = h a

pub walk_append : (count met : ℕ) (ms ns : List ℕ) → walk count met (ms ++ ns) ≡ bind (walk count met ms) (λ m. walk count m ns)
walk_append count met [] ns = refl
walk_append count met (n ∷ ms) ns = by (meeting count met n) (λ m. walk_append count m ms ns)
  where
    by : (o : Option ℕ) → ((m : ℕ) → walk count m (ms ++ ns) ≡ bind (walk count m ms) (λ m. walk count m ns)) → bind o (λ m. walk count m (ms ++ ns)) ≡ bind (bind o (λ m. walk count m ms)) (λ m. walk count m ns)
    by None again = refl
    by (Some m) again = again m

pub record Walks {A : Type 0} (count : ℕ) (F : Format A) (x : A) (ns : List ℕ) : Type 0 where
  pub walks : (met : ℕ) → length (F.spell x) < 2 ^ 32 → F.after met x ≡ walk count met ns

-- the smallest things

pub byte_walks : {count : ℕ} (n : ℕ) → Walks count byte n []
unfolding byte
byte_walks n = record { walks = λ met small. refl }

pub word_walks : {count : ℕ} (n : ℕ) → n < 2 ^ 32 → Walks count word n []
unfolding word
word_walks n h = record { walks = λ met small. ap (λ b. allowed b met) (lt_true n (2 ^ 32) h) }

pub integer_walks : {count : ℕ} (n : ℤ) → signed_fits 63 n ≡ true → Walks count integer_of n []
unfolding integer_of
integer_walks n h = record { walks = λ met small. ap (λ b. allowed b met) h }

pub raw_walks : {count : ℕ} (s : List ℕ) → Walks count (raw (length s)) s []
unfolding raw
raw_walks s = record { walks = λ met small. ap (λ b. allowed b met) (eq_refl (length s)) }

pub nothing_walks : {count : ℕ} (x : Unit {0}) → Walks count nothing x []
unfolding nothing
nothing_walks x = record { walks = λ met small. refl }

-- how formats are joined

pub followed_walks : {A B : Type 0} {count : ℕ} {F : Format A} (G : A → Format B) (x : A × B) (ms ns : List ℕ) → Walks count F x.0 ms → Walks count (G x.0) x.1 ns → Walks count (followed F G) x (ms ++ ns)
unfolding followed
followed_walks {count = count} {F = F} G x ms ns f g = record {
  walks = λ met small.
      let l = length-append (F.spell x.0) ((G x.0).spell x.1) in
      ap (λ o. bind o (λ m. (G x.0).after m x.1)) (f.walks met (omega (arith, l, small)))
      ∙ (bind_same (walk count met ms) (λ m. (G x.0).after m x.1) (λ m. walk count m ns) (λ m. g.walks m (omega (arith, l, small))) ∙ sym (walk_append count met ms ns));
}

pub tested_walks : {A : Type 0} {count : ℕ} (ok : A → Bool) (fault : A → Fault) {F : Format A} (x : A) (ns : List ℕ) → ok x ≡ true → Walks count F x ns → Walks count (tested ok fault F) x ns
unfolding tested
tested_walks ok fault {F = F} x ns e f = record { walks = λ met small. ap (λ b. cond b (F.after met x) None) e ∙ f.walks met small }

pub case_walks : {A B : Type 0} {count : ℕ} (made : B → A) (of : A → Option B) {F : Format B} (x : A) (y : B) (ns : List ℕ) → of x ≡ Some y → Walks count F y ns → Walks count (case made of F) x ns
unfolding case
case_walks made of {F = F} x y ns e f = record { walks = λ met small. ap (λ o. bind o (F.after met)) e ∙ f.walks met (subst (λ o. length (spell_case F o) < 2 ^ 32) e small) }

pub tagged_walks : {A : Type 0} {count : ℕ} (tag : A → ℕ) (body : ℕ → Format A) (x : A) (ns : List ℕ) → Walks count (body (tag x)) x ns → Walks count (tagged tag body) x ns
unfolding byte tagged
tagged_walks tag body x ns f = record { walks = λ met small. f.walks met (omega (arith, small)) }

-- lists

-- each value has a byte
pub record Costs {A : Type 0} (F : Format A) : Type 0 where
  pub costs : (x : A) → 1 ≤ length (F.spell x)

pub byte_costs : Costs byte
unfolding byte
byte_costs = record { costs = λ n. omega arith }

pub word_costs : Costs word
unfolding word
word_costs = record { costs = λ n. let l = length-bytes_low_first 0 4 n in omega (arith, l) }

pub tested_costs : {A : Type 0} (ok : A → Bool) (fault : A → Fault) {F : Format A} → Costs F → Costs (tested ok fault F)
unfolding tested
tested_costs ok fault c = record { costs = c.costs }

pub tagged_costs : {A : Type 0} (tag : A → ℕ) (body : ℕ → Format A) → Costs (tagged tag body)
unfolding byte tagged
tagged_costs tag body = record { costs = λ x. omega arith }

pub fewer : {A : Type 0} (F : Format A) → Costs F → (xs : List A) → length xs ≤ length (spell_all F xs)
fewer F c [] = omega arith
fewer F c (x ∷ xs) = let l = length-append (F.spell x) (spell_all F xs) in let one = c.costs x in let more = fewer F c xs in omega (arith, l, one, more)

all_after : {A : Type 0} (count : ℕ) (F : Format A) (ns : A → List ℕ) (xs : List A) → Every (λ x. Walks count F x (ns x)) xs → (met : ℕ) → length (spell_all F xs) < 2 ^ 32
    → after_times F (length xs) met xs ≡ walk count met (flat_map ns xs)
all_after count F ns [] h met small = refl
all_after count F ns (x ∷ xs) h met small =
    let l = length-append (F.spell x) (spell_all F xs) in
    let front : length (F.spell x) < 2 ^ 32 = omega (arith, l, small) in
    let behind : length (spell_all F xs) < 2 ^ 32 = omega (arith, l, small) in
    ap (λ o. bind o (λ m. after_times F (length xs) m xs)) (h.0.walks met front)
    ∙ (bind_same (walk count met (ns x)) (λ m. after_times F (length xs) m xs) (λ m. walk count m (flat_map ns xs)) (λ m. all_after count F ns xs h.1 m behind) ∙ sym (walk_append count met (ns x) (flat_map ns xs)))

pub times_walks : {A : Type 0} {count : ℕ} (F : Format A) (ns : A → List ℕ) (xs : List A) → Every (λ x. Walks count F x (ns x)) xs → Walks count (times (length xs) F) xs (flat_map ns xs)
unfolding times
times_walks {count = count} F ns xs h = record { walks = λ met small. all_after count F ns xs h met small }

-- the bytes of a list are those of its count and those of its items
pub spelled_list : {A : Type 0} (F : Format A) (xs : List A) → length ((list F).spell xs) ≡ 4 + length (spell_all F xs)
unfolding list list_by case followed word times
spelled_list F xs =
    let l = length-append (little_bytes 4 (length xs)) (spell_all F xs) in
    let w = length-bytes_low_first 0 4 (length xs) in
    omega (arith, l, w)

pub list_by_walks : {A : Type 0} {count : ℕ} {C : Format ℕ} (F : Format A) (ns : A → List ℕ) (xs : List A) → Walks count C (length xs) [] → Every (λ x. Walks count F x (ns x)) xs → Walks count (list_by C F) xs (flat_map ns xs)
unfolding list_by
list_by_walks F ns xs c h = case_walks _ _ xs (length xs, xs) (flat_map ns xs) refl (followed_walks (λ n. times n F) (length xs, xs) [] (flat_map ns xs) c (times_walks F ns xs h))

pub list_walks : {A : Type 0} {count : ℕ} (F : Format A) (ns : A → List ℕ) (xs : List A) → Costs F → Every (λ x. Walks count F x (ns x)) xs → Walks count (list F) xs (flat_map ns xs)
unfolding list
list_walks F ns xs c h = record {
  walks = λ met small.
      let l = spelled_list F xs in
      let few = fewer F c xs in
      (list_by_walks F ns xs (word_walks (length xs) (omega (arith, l, few, small))) h).walks met small;
}

pub quiet : {A : Type 0} (xs : List A) → flat_map {A = ℕ} (λ _. []) xs ≡ []
quiet [] = refl
quiet (x ∷ xs) = quiet xs

pub walks_as : {A : Type 0} {count : ℕ} {F : Format A} {x : A} {ms ns : List ℕ} → ms ≡ ns → Walks count F x ms → Walks count F x ns
walks_as {count = count} {F = F} {x = x} e f = subst (λ ns. Walks count F x ns) e f
