-- The values of a script: strings by their bytes, tables, functions and coroutines by number; and lists of values (Lua 5.4 manual, 2.1).
use Rattle.std.specs.Prelude.{ℕ, zero, suc, ◌-◌, ℤ, pos, negsuc, Bool, true, false, ◌&&◌, not, List, [], ◌∷◌, length, take, Option, Some, None, nat_eq, slice_get, bytes_eq}
use Rattle.int_core.specs.Rows.{Values}

-- what is known of a value without an object; a primitive is named by its number
pub data Plain : Type 0 where
  nil : Plain
  boolean : Bool → Plain
  integer : ℤ → Plain
  string : List ℕ → Plain
  primitive : ℕ → Plain

pub data Kind : Type 0 where
  a_table : Kind
  a_function : Kind
  a_coroutine : Kind

pub data Value : Type 0 where
  known : Plain → Value
  object : Kind → ℕ → Value

-- all that a row may see of a value
pub data Shape : Type 0 where
  is_known : Plain → Shape
  is_object : Kind → Shape

abbrev pub shape : Value → Shape
shape (known p) = is_known p
shape (object kind n) = is_object kind

abbrev pub same_integer : ℤ → ℤ → Bool
same_integer (pos m) (pos n) = nat_eq m n
same_integer (negsuc m) (negsuc n) = nat_eq m n
same_integer _ _ = false

abbrev pub same_truth : Bool → Bool → Bool
same_truth true b = b
same_truth false b = not b

abbrev pub same_plain : Plain → Plain → Bool
same_plain nil nil = true
same_plain (boolean a) (boolean b) = same_truth a b
same_plain (integer m) (integer n) = same_integer m n
same_plain (string s) (string t) = bytes_eq s t
same_plain (primitive m) (primitive n) = nat_eq m n
same_plain _ _ = false

abbrev pub same_kind : Kind → Kind → Bool
same_kind a_table a_table = true
same_kind a_function a_function = true
same_kind a_coroutine a_coroutine = true
same_kind _ _ = false

-- raw equality
abbrev pub same : Value → Value → Bool
same (known p) (known q) = same_plain p q
same (object k m) (object l n) = same_kind k l && nat_eq m n
same _ _ = false

abbrev pub is_nil : Value → Bool
is_nil (known nil) = true
is_nil _ = false

-- nil and false are false
abbrev pub holds : Shape → Bool
holds (is_known nil) = false
holds (is_known (boolean b)) = b
holds _ = true

-- where there is no error, nil stands for it
abbrev pub error_or_nil : Option Value → Value
error_or_nil None = known nil
error_or_nil (Some e) = e

-- what tables ask of these values
abbrev pub table_values : Values Value
table_values = record { same = same; nil = known nil; integer = λ n. known (integer n) }

-- lists of values are nil past their end

abbrev pub nth : List Value → ℕ → Value
nth vs n = elim (slice_get vs n) [ None ↦ known nil | Some v ↦ v ]

-- exactly n values
abbrev pub fitted : ℕ → List Value → List Value
fitted zero vs = []
fitted (suc n) [] = known nil ∷ fitted n []
fitted (suc n) (v ∷ vs) = v ∷ fitted n vs

abbrev pub range : ℕ → ℕ → List Value → List Value
range from zero vs = []
range from (suc count) vs = nth vs from ∷ range (suc from) count vs

abbrev pub write : ℕ → Value → List Value → List Value
write zero v [] = v ∷ []
write zero v (_ ∷ vs) = v ∷ vs
write (suc n) v [] = known nil ∷ write n v []
write (suc n) v (w ∷ vs) = w ∷ write n v vs

abbrev pub write_all : ℕ → List Value → List Value → List Value
write_all at [] vs = vs
write_all at (w ∷ ws) vs = write_all (suc at) ws (write at w vs)

-- the most bytes of a string
abbrev pub greatest_string : ℕ
greatest_string = 16777216

-- what may be missing

abbrev pub bind : {A B : Type 0} → Option A → (A → Option B) → Option B
bind None f = None
bind (Some x) f = f x

abbrev pub last : {A : Type 0} → List A → Option A
last [] = None
last (x ∷ xs) = slice_get (x ∷ xs) (length xs)

abbrev pub without_last : {A : Type 0} → List A → List A
without_last xs = take (length xs - 1) xs
