-- Lists of values as registers: what holds of each value, and how many there are.
use Rattle.std.proofs.Common.{ℕ, zero, suc, ◌+◌, ◌-◌, ◌<◌, ◌≤◌, ◌≡◌, List, [], ◌∷◌, Option, Some, None, refl, ap, length, take, arith, Bool, true, false}
use Rattle.std.specs.Prelude.{cond, max, nat_lt, nat_le, IsTrue, ◌&&◌}
use Rattle.std.specs.List.{list_all}
use Rattle.std.proofs.lemmas.Bool.Decides.{nat_tests}
use Rattle.int_core.specs.Value.{Value, known, nil, nth, range, write, write_all, Plain, string, primitive, fitted}
use Rattle.machine_core.specs.Text.{Arg, read, written, arg, args_of, blanked, nils, list_values, value_if}
use Rattle.machine_sound.specs.Sound.{Each, Sizes, Valid}
use Rattle.machine_sound.specs.Safe.{WrittenOk, ArgOk, ArgsOk}
use Rattle.machine_sound.proofs.Lists.{each_none, each_cons, each_tail, each_one}

pub lt_true : (a b : ℕ) → a < b → nat_lt a b ≡ true
lt_true a b h = grind (arith, nat_tests)

pub le_true : (a b : ℕ) → a ≤ b → nat_le a b ≡ true
le_true a b h = grind (arith, nat_tests)

pub lt_of : (a b : ℕ) → IsTrue (nat_lt a b) → a < b
lt_of a b h = grind (arith, nat_tests)

pub le_of : (a b : ℕ) → IsTrue (nat_le a b) → a ≤ b
le_of a b h = grind (arith, nat_tests)

module _ (P : Value → Type 0) (nil_ok : P (known nil)) where
  pub nth_ok : (vs : List Value) (n : ℕ) → Each P vs → P (nth vs n)
  nth_ok [] n h = nil_ok
  nth_ok (v ∷ vs) zero h = h zero v refl
  nth_ok (v ∷ vs) (suc n) h = nth_ok vs n (each_tail P v vs h)

  pub each_range : (from count : ℕ) (vs : List Value) → Each P vs → Each P (range from count vs)
  each_range from zero vs h = each_none P
  each_range from (suc count) vs h = each_cons P (nth vs from) (range (suc from) count vs) (nth_ok vs from h) (each_range (suc from) count vs h)

  pub each_write : (n : ℕ) (v : Value) (vs : List Value) → P v → Each P vs → Each P (write n v vs)
  each_write zero v [] p h = each_one P v p
  each_write zero v (w ∷ vs) p h = each_cons P v vs p (each_tail P w vs h)
  each_write (suc n) v [] p h = each_cons P (known nil) (write n v []) nil_ok (each_write n v [] p h)
  each_write (suc n) v (w ∷ vs) p h = each_cons P w (write n v vs) (h zero w refl) (each_write n v vs p (each_tail P w vs h))

  pub each_write_all : (at : ℕ) (ws vs : List Value) → Each P ws → Each P vs → Each P (write_all at ws vs)
  each_write_all at [] vs k h = h
  each_write_all at (w ∷ ws) vs k h = each_write_all (suc at) ws (write at w vs) (each_tail P w ws k) (each_write at w vs (k zero w refl) h)

  pub each_nils : (count : ℕ) → Each P (nils count)
  each_nils zero = each_none P
  each_nils (suc count) = each_cons P (known nil) (nils count) nil_ok (each_nils count)

  pub each_blanked : (keeps : ℕ → Bool) (i count : ℕ) (vs : List Value) → Each P vs → Each P (blanked keeps i count vs)
  each_blanked keeps i zero vs h = each_none P
  each_blanked keeps i (suc count) vs h = each_cons P _ (blanked keeps (suc i) count vs) (pick (keeps i)) (each_blanked keeps (suc i) count vs h)
    where
      pick : (b : Bool) → P (cond b (nth vs i) (known nil))
      pick true = nth_ok vs i h
      pick false = nil_ok

  pub each_fitted : (n : ℕ) (vs : List Value) → Each P vs → Each P (fitted n vs)
  each_fitted zero vs h = each_none P
  each_fitted (suc n) [] h = each_cons P (known nil) (fitted n []) nil_ok (each_fitted n [] h)
  each_fitted (suc n) (v ∷ vs) h = each_cons P v (fitted n vs) (h zero v refl) (each_fitted n vs (each_tail P v vs h))

  pub each_list : (from : ℕ) (vs : List Value) (end : Option ℕ) → Each P vs → Each P (list_values from vs end)
  each_list from vs None h = each_none P
  each_list from vs (Some end) h = each_range from (end - from) vs h

  pub each_value_if : (vs : List Value) (o : Option ℕ) → Each P vs → Each P (value_if vs o)
  each_value_if vs None h = each_none P
  each_value_if vs (Some r) h = each_one P (nth vs r) (nth_ok vs r h)

pub length_range : (from count : ℕ) (vs : List Value) → length (range from count vs) ≡ count
length_range from zero vs = refl
length_range from (suc count) vs = ap suc (length_range (suc from) count vs)

pub length_write : (n : ℕ) (v : Value) (vs : List Value) → length (write n v vs) ≡ max (suc n) (length vs)
length_write zero v [] = omega arith
length_write zero v (w ∷ vs) = omega arith
length_write (suc n) v [] = let k = length_write n v [] in omega arith
length_write (suc n) v (w ∷ vs) = let k = length_write n v vs in omega arith

pub length_write_all : (at : ℕ) (ws vs : List Value) → at ≤ length vs → length (write_all at ws vs) ≡ max (length vs) (at + length ws)
length_write_all at [] vs h = omega arith
length_write_all at (w ∷ ws) vs h =
    let l = length_write at w vs in
    let k = length_write_all (suc at) ws (write at w vs) (omega arith) in
    omega arith

pub length_nils : (count : ℕ) → length (nils count) ≡ count
length_nils zero = refl
length_nils (suc count) = ap suc (length_nils count)

pub length_blanked : (keeps : ℕ → Bool) (i count : ℕ) (vs : List Value) → length (blanked keeps i count vs) ≡ count
length_blanked keeps i zero vs = refl
length_blanked keeps i (suc count) vs = ap suc (length_blanked keeps (suc i) count vs)

pub length_front : {A : Type 0} (n : ℕ) (vs : List A) → n ≤ length vs → length (take n vs) ≡ n
length_front zero vs h = refl
length_front (suc n) [] h = absurd (omega arith)
length_front (suc n) (v ∷ vs) h = ap suc (length_front n vs (omega arith))

pub both_of : (a b : Bool) → IsTrue (a && b) → IsTrue a × IsTrue b
both_of true b h = (refl, h)
both_of false b h = absurd (cc)

-- values that a row names

pub written_valid : (z : Sizes) (p : Plain) → WrittenOk p → Valid z (known p)
written_valid z (string bytes) h = h
written_valid z (primitive k) h = absurd h
written_valid z _ h = tt

pub arg_valid : (z : Sizes) (env : List Value) (x : Arg) → Each (Valid z) env → ArgOk x → Valid z (arg env x)
arg_valid z env (read n) h k = nth_ok (Valid z) tt env n h
arg_valid z env (written p) h k = written_valid z p k

pub args_valid : (z : Sizes) (env : List Value) (xs : List Arg) → Each (Valid z) env → ArgsOk xs → Each (Valid z) (args_of env xs)
args_valid z env [] h k = each_none (Valid z)
args_valid z env (x ∷ xs) h k = each_cons (Valid z) (arg env x) (args_of env xs) (arg_valid z env x h k.0) (args_valid z env xs h k.1)

pub count_args : (env : List Value) (xs : List Arg) → length (args_of env xs) ≡ length xs
count_args env [] = refl
count_args env (x ∷ xs) = ap suc (count_args env xs)

-- a test that holds of all items holds of each
pub all_get : {A : Type 0} (test : A → Bool) (xs : List A) → IsTrue (list_all test xs) → Each (λ x. IsTrue (test x)) xs
all_get test [] h = each_none (λ x. IsTrue (test x))
all_get test (x ∷ xs) h = let b = both_of (test x) (list_all test xs) h in each_cons (λ x. IsTrue (test x)) x xs b.0 (all_get test xs b.1)
