-- One more than the last register that code names, and how it comes together of pieces.
use Rattle.std.proofs.Common.{◌≡◌, ℕ, zero, suc, ◌+◌, ◌-◌, ◌<◌, ◌≤◌, ◌^◌, max, Bool, true, false, if◌then◌else◌, ◌==◌, List, [], ◌∷◌, ◌++◌, Option, Some, None, refl, ap, ◌∙◌, sym, subst, lit<, arith}
use Rattle.std.specs.Prelude.{nat_lt}
use Rattle.code_core.specs.declared.opcode.Opcode.{Opcode}
use Rattle.code_core.specs.declared.opcode.Opcode.TheVariants.{LoadNil, SetTabUp, SetTable, SetI, SetField, OpSelf, Concat, Call, TailCall, Return, TForCall, VarArg}
use Rattle.code_core.specs.declared.instruction.Instruction.{Instruction}
use Rattle.code_core.specs.Instruction.{abc, abx, op_ax, opcode_of, a_of, b_of, c_of, bits_from}
use Rattle.code_core.specs.Fields.{registers, last_of, register_or_constant}
use Rattle.code_core.proofs.Opcodes.{number_below}
use Rattle.code_core.proofs.FieldLemmas.{opcode_of-abc, opcode_of-abx, opcode_of-ax, a_of-abc, b_of-abc, c_of-abc, a_of-abx}
use Rattle.std.proofs.lemmas.Bool.{eqb-true, eqb-false}
use Rattle.code_of.specs.Coded.{Coded, words}
use Rattle.code_of.specs.CodeOf.{named_by, room_for, room}
use Rattle.code_of.specs.Rooms.{room_of_values}

abbrev pub top : List Coded → ℕ
top code = room (words code) 0

-- of one instruction
abbrev pub one : Instruction → ℕ
one w = room_for (named_by w) 0

pub room_for_max : (rs : List ℕ) (n : ℕ) → room_for rs n ≡ max n (room_for rs 0)
room_for_max [] n = omega arith
room_for_max (r ∷ rs) n =
    let a = room_for_max rs (max n (r + 1)) in
    let b = room_for_max rs (max 0 (r + 1)) in
    omega (arith, a, b)

pub room_max : (ws : List Instruction) (n : ℕ) → room ws n ≡ max n (room ws 0)
room_max [] n = omega arith
room_max (w ∷ ws) n =
    let a = room_max ws (room_for (named_by w) n) in
    let b = room_max ws (room_for (named_by w) 0) in
    let c = room_for_max (named_by w) n in
    omega (arith, a, b, c)

pub top_more : (x : Coded) (xs : List Coded) → top (x ∷ xs) ≡ max (one x.0) (top xs)
top_more x xs = room_max (words xs) (one x.0)

pub top_append : (xs ys : List Coded) → top (xs ++ ys) ≡ max (top xs) (top ys)
top_append [] ys = omega arith
top_append (x ∷ xs) ys =
    let a = top_more x (xs ++ ys) in
    let b = top_more x xs in
    let c = top_append xs ys in
    omega (arith, a, b, c)

-- the registers that a made word names

abbrev by_opcode : Option Opcode → Instruction → List ℕ
by_opcode None w = []
by_opcode (Some op) w = registers op w

named_as : (o : Option Opcode) (w : Instruction) → elim o [ None ↦ [] | Some op ↦ registers op w ] ≡ by_opcode o w
named_as None w = refl
named_as (Some op) w = refl

one_is : (w : Instruction) (op : Opcode) (rs : List ℕ) → opcode_of w ≡ Some op → registers op w ≡ rs → one w ≡ room_for rs 0
one_is w op rs is shape = ap (λ l. room_for l 0) (named_as (opcode_of w) w ∙ ap (λ o. by_opcode o w) is ∙ shape)

pub abc_is : (op : Opcode) (a b c : ℕ) (k : Bool) (rs : List ℕ) → registers op (abc op a b c k) ≡ rs → one (abc op a b c k) ≡ room_for rs 0
abc_is op a b c k rs shape = one_is (abc op a b c k) op rs (opcode_of-abc op a b c k) shape

pub abx_is : (op : Opcode) (a bx : ℕ) (rs : List ℕ) → registers op (abx op a bx) ≡ rs → one (abx op a bx) ≡ room_for rs 0
abx_is op a bx rs shape = one_is (abx op a bx) op rs (opcode_of-abx op a bx) shape

pub ax_is : (op : Opcode) (ax : ℕ) → registers op (op_ax op ax) ≡ [] → one (op_ax op ax) ≡ 0
ax_is op ax shape = one_is (op_ax op ax) op [] (opcode_of-ax op ax) shape

-- by the form of what is named

pub one_a : (op : Opcode) (a b c : ℕ) (k : Bool) → registers op (abc op a b c k) ≡ a_of (abc op a b c k) ∷ [] → a < 2 ^ 8 → one (abc op a b c k) ≡ a + 1
one_a op a b c k shape a_fits =
    let e = abc_is op a b c k (a_of (abc op a b c k) ∷ []) shape in
    let f = a_of-abc op a b c k a_fits in
    by (a_of (abc op a b c k)) e f
  where
    by : (x : ℕ) → one (abc op a b c k) ≡ room_for (x ∷ []) 0 → x ≡ a → one (abc op a b c k) ≡ a + 1
    by x e f = omega arith

pub one_ab : (op : Opcode) (a b c : ℕ) (k : Bool) → registers op (abc op a b c k) ≡ a_of (abc op a b c k) ∷ b_of (abc op a b c k) ∷ [] → a < 2 ^ 8 → b < 2 ^ 8 →
    one (abc op a b c k) ≡ max (a + 1) (b + 1)
one_ab op a b c k shape a_fits b_fits =
    let w = abc op a b c k in
    by (a_of w) (b_of w) (abc_is op a b c k (a_of w ∷ b_of w ∷ []) shape) (a_of-abc op a b c k a_fits) (b_of-abc op a b c k a_fits b_fits)
  where
    by : (x y : ℕ) → one (abc op a b c k) ≡ room_for (x ∷ y ∷ []) 0 → x ≡ a → y ≡ b → one (abc op a b c k) ≡ max (a + 1) (b + 1)
    by x y e f g = omega arith

pub one_abc : (op : Opcode) (a b c : ℕ) (k : Bool) → registers op (abc op a b c k) ≡ a_of (abc op a b c k) ∷ b_of (abc op a b c k) ∷ c_of (abc op a b c k) ∷ [] →
    a < 2 ^ 8 → b < 2 ^ 8 → c < 2 ^ 8 → one (abc op a b c k) ≡ max (max (a + 1) (b + 1)) (c + 1)
one_abc op a b c k shape a_fits b_fits c_fits =
    let w = abc op a b c k in
    by (a_of w) (b_of w) (c_of w) (abc_is op a b c k (a_of w ∷ b_of w ∷ c_of w ∷ []) shape) (a_of-abc op a b c k a_fits) (b_of-abc op a b c k a_fits b_fits)
    (c_of-abc op a b c k a_fits b_fits c_fits)
  where
    by : (x y z : ℕ) → one (abc op a b c k) ≡ room_for (x ∷ y ∷ z ∷ []) 0 → x ≡ a → y ≡ b → z ≡ c → one (abc op a b c k) ≡ max (max (a + 1) (b + 1)) (c + 1)
    by x y z e f g h = omega arith

pub one_ax : (op : Opcode) (a bx : ℕ) → registers op (abx op a bx) ≡ a_of (abx op a bx) ∷ [] → a < 2 ^ 8 → one (abx op a bx) ≡ a + 1
one_ax op a bx shape a_fits = by (a_of (abx op a bx)) (abx_is op a bx (a_of (abx op a bx) ∷ []) shape) (a_of-abx op a bx a_fits)
  where
    by : (x : ℕ) → one (abx op a bx) ≡ room_for (x ∷ []) 0 → x ≡ a → one (abx op a bx) ≡ a + 1
    by x e f = omega arith

-- some registers behind A
pub one_behind : (op : Opcode) (a bx n : ℕ) → registers op (abx op a bx) ≡ (a_of (abx op a bx) + n) ∷ [] → a < 2 ^ 8 → one (abx op a bx) ≡ a + n + 1
one_behind op a bx n shape a_fits = by (a_of (abx op a bx)) (abx_is op a bx ((a_of (abx op a bx) + n) ∷ []) shape) (a_of-abx op a bx a_fits)
  where
    by : (x : ℕ) → one (abx op a bx) ≡ room_for ((x + n) ∷ []) 0 → x ≡ a → one (abx op a bx) ≡ a + n + 1
    by x e f = omega arith

-- the register that is B registers behind A
pub one_sum : (op : Opcode) (a b c : ℕ) (k : Bool) → registers op (abc op a b c k) ≡ (a_of (abc op a b c k) + b_of (abc op a b c k)) ∷ [] → a < 2 ^ 8 → b < 2 ^ 8 →
    one (abc op a b c k) ≡ a + b + 1
one_sum op a b c k shape a_fits b_fits =
    let w = abc op a b c k in
    by (a_of w) (b_of w) (abc_is op a b c k ((a_of w + b_of w) ∷ []) shape) (a_of-abc op a b c k a_fits) (b_of-abc op a b c k a_fits b_fits)
  where
    by : (x y : ℕ) → one (abc op a b c k) ≡ room_for ((x + y) ∷ []) 0 → x ≡ a → y ≡ b → one (abc op a b c k) ≡ a + b + 1
    by x y e f g = omega arith

pub one_nil : (a n line : ℕ) → a < 2 ^ 8 → n < 2 ^ 8 → one (abc LoadNil a n 0 false) ≡ a + n + 1
one_nil a n line a_fits n_fits = one_sum LoadNil a n 0 false refl a_fits n_fits

-- the flag k

flag_is : (op : Opcode) (a b c : ℕ) → a < 2 ^ 8 → bits_from 15 1 (abc op a b c false) ≡ 0
flag_is op a b c a_fits = let small = number_below op in omega arith

unset : (n : ℕ) → n ≡ 0 → (n == 1) ≡ false
unset n e = subst (λ m. (m == 1) ≡ false) (sym e) refl

third_is : (op : Opcode) (a b c : ℕ) → a < 2 ^ 8 → register_or_constant (abc op a b c false) ≡ c_of (abc op a b c false) ∷ []
third_is op a b c a_fits =
    ap (λ flag. if flag then [] else c_of (abc op a b c false) ∷ []) (unset (bits_from 15 1 (abc op a b c false)) (flag_is op a b c a_fits))

-- one that names A and C, and no constant in C
one_ac : (op : Opcode) (a b c : ℕ) → registers op (abc op a b c false) ≡ a_of (abc op a b c false) ∷ register_or_constant (abc op a b c false) → a < 2 ^ 8 → b < 2 ^ 8 → c < 2 ^ 8 → one (abc op a b c false) ≡ max (a + 1) (c + 1)
one_ac op a b c shape a_fits b_fits c_fits =
    let w = abc op a b c false in
    by (a_of w) (c_of w) (abc_is op a b c false (a_of w ∷ c_of w ∷ []) (shape ∙ ap (λ l. a_of w ∷ l) (third_is op a b c a_fits))) (a_of-abc op a b c false a_fits) (c_of-abc op a b c false a_fits b_fits c_fits)
  where
    by : (x z : ℕ) → one (abc op a b c false) ≡ room_for (x ∷ z ∷ []) 0 → x ≡ a → z ≡ c → one (abc op a b c false) ≡ max (a + 1) (c + 1)
    by x z e f g = omega arith

-- one that names C alone
pub one_store_global : (u b c : ℕ) → u < 2 ^ 8 → b < 2 ^ 8 → c < 2 ^ 8 → one (abc SetTabUp u b c false) ≡ c + 1
one_store_global u b c u_fits b_fits c_fits =
    let w = abc SetTabUp u b c false in
    by (c_of w) (abc_is SetTabUp u b c false (c_of w ∷ []) (third_is SetTabUp u b c u_fits)) (c_of-abc SetTabUp u b c false u_fits b_fits c_fits)
  where
    by : (z : ℕ) → one (abc SetTabUp u b c false) ≡ room_for (z ∷ []) 0 → z ≡ c → one (abc SetTabUp u b c false) ≡ c + 1
    by z e f = omega arith

pub one_store_index : (a b c : ℕ) → a < 2 ^ 8 → b < 2 ^ 8 → c < 2 ^ 8 → one (abc SetI a b c false) ≡ max (a + 1) (c + 1)
one_store_index a b c a_fits b_fits c_fits = one_ac SetI a b c refl a_fits b_fits c_fits

pub one_store_name : (a b c : ℕ) → a < 2 ^ 8 → b < 2 ^ 8 → c < 2 ^ 8 → one (abc SetField a b c false) ≡ max (a + 1) (c + 1)
one_store_name a b c a_fits b_fits c_fits = one_ac SetField a b c refl a_fits b_fits c_fits

pub one_store : (a b c : ℕ) → a < 2 ^ 8 → b < 2 ^ 8 → c < 2 ^ 8 → one (abc SetTable a b c false) ≡ max (max (a + 1) (b + 1)) (c + 1)
one_store a b c a_fits b_fits c_fits =
    let w = abc SetTable a b c false in
    one_abc SetTable a b c false (ap (λ l. a_of w ∷ b_of w ∷ l) (third_is SetTable a b c a_fits)) a_fits b_fits c_fits

pub one_self : (t x y : ℕ) → t < 2 ^ 8 → x < 2 ^ 8 → y < 2 ^ 8 → one (abc OpSelf t x y false) ≡ max (max (t + 2) (x + 1)) (y + 1)
one_self t x y small x_fits fits =
    let w = abc OpSelf t x y false in
    let e = abc_is OpSelf t x y false ((a_of w + 1) ∷ b_of w ∷ c_of w ∷ []) (ap (λ l. (a_of w + 1) ∷ b_of w ∷ l) (third_is OpSelf t x y small)) in
    by (a_of w) (b_of w) (c_of w) e (a_of-abc OpSelf t x y false small) (b_of-abc OpSelf t x y false small x_fits) (c_of-abc OpSelf t x y false small x_fits fits)
  where
    by : (a b c : ℕ) → one (abc OpSelf t x y false) ≡ room_for ((a + 1) ∷ b ∷ c ∷ []) 0 → a ≡ t → b ≡ x → c ≡ y → one (abc OpSelf t x y false) ≡ max (max (t + 2) (x + 1)) (y + 1)
    by a b c e f g h = omega arith

-- where the third operand is a constant
flag_set : (op : Opcode) (a b c : ℕ) → a < 2 ^ 8 → bits_from 15 1 (abc op a b c true) ≡ 1
flag_set op a b c a_fits = let small = number_below op in omega arith

no_third : (op : Opcode) (a b c : ℕ) → a < 2 ^ 8 → register_or_constant (abc op a b c true) ≡ []
no_third op a b c a_fits = ap (λ n. if n == 1 then [] else c_of (abc op a b c true) ∷ []) (flag_set op a b c a_fits)

-- stores, of which field C may be a constant

abbrev pub third_room : (constant : Bool) → (c : ℕ) → ℕ
third_room true c = 0
third_room false c = c + 1

one_first : (op : Opcode) (a b c : ℕ) → registers op (abc op a b c true) ≡ a_of (abc op a b c true) ∷ register_or_constant (abc op a b c true) → a < 2 ^ 8 → one (abc op a b c true) ≡ a + 1
one_first op a b c shape a_fits = one_a op a b c true (shape ∙ ap (λ l. a_of (abc op a b c true) ∷ l) (no_third op a b c a_fits)) a_fits

pub any_store_global : (constant : Bool) (u b c : ℕ) → u < 2 ^ 8 → b < 2 ^ 8 → c < 2 ^ 8 → one (abc SetTabUp u b c constant) ≡ third_room constant c
any_store_global false u b c u_fits b_fits c_fits = one_store_global u b c u_fits b_fits c_fits
any_store_global true u b c u_fits b_fits c_fits = abc_is SetTabUp u b c true [] (no_third SetTabUp u b c u_fits)

pub any_store_index : (constant : Bool) (a b c : ℕ) → a < 2 ^ 8 → b < 2 ^ 8 → c < 2 ^ 8 → one (abc SetI a b c constant) ≡ max (a + 1) (third_room constant c)
any_store_index false a b c a_fits b_fits c_fits = one_store_index a b c a_fits b_fits c_fits
any_store_index true a b c a_fits b_fits c_fits = let e = one_first SetI a b c refl a_fits in omega (arith, e)

pub any_store_name : (constant : Bool) (a b c : ℕ) → a < 2 ^ 8 → b < 2 ^ 8 → c < 2 ^ 8 → one (abc SetField a b c constant) ≡ max (a + 1) (third_room constant c)
any_store_name false a b c a_fits b_fits c_fits = one_store_name a b c a_fits b_fits c_fits
any_store_name true a b c a_fits b_fits c_fits = let e = one_first SetField a b c refl a_fits in omega (arith, e)

pub any_store : (constant : Bool) (a b c : ℕ) → a < 2 ^ 8 → b < 2 ^ 8 → c < 2 ^ 8 → one (abc SetTable a b c constant) ≡ max (max (a + 1) (b + 1)) (third_room constant c)
any_store false a b c a_fits b_fits c_fits = one_store a b c a_fits b_fits c_fits
any_store true a b c a_fits b_fits c_fits =
    let w = abc SetTable a b c true in
    let e = one_ab SetTable a b c true (ap (λ l. a_of w ∷ b_of w ∷ l) (no_third SetTable a b c a_fits)) a_fits b_fits in
    omega (arith, e)

pub one_self_key : (t x n : ℕ) → t < 2 ^ 8 → x < 2 ^ 8 → one (abc OpSelf t x n true) ≡ max (t + 2) (x + 1)
one_self_key t x n small x_fits =
    let w = abc OpSelf t x n true in
    let e = abc_is OpSelf t x n true ((a_of w + 1) ∷ b_of w ∷ []) (ap (λ l. (a_of w + 1) ∷ b_of w ∷ l) (no_third OpSelf t x n small)) in
    by (a_of w) (b_of w) e (a_of-abc OpSelf t x n true small) (b_of-abc OpSelf t x n true small x_fits)
  where
    by : (a b : ℕ) → one (abc OpSelf t x n true) ≡ room_for ((a + 1) ∷ b ∷ []) 0 → a ≡ t → b ≡ x → one (abc OpSelf t x n true) ≡ max (t + 2) (x + 1)
    by a b e f g = omega arith

-- lists of registers whose number is a field

pub room_for_append : (xs ys : List ℕ) → room_for (xs ++ ys) 0 ≡ max (room_for xs 0) (room_for ys 0)
room_for_append [] ys = omega arith
room_for_append (x ∷ xs) ys =
    let a = room_for_max (xs ++ ys) (max 0 (x + 1)) in
    let b = room_for_max xs (max 0 (x + 1)) in
    let c = room_for_append xs ys in
    omega (arith, a, b, c)

last_below_by : (a n : ℕ) (b : Bool) → (n == 0) ≡ b → room_for (if b then [] else (a + (n - 1)) ∷ []) 0 ≤ a + n
last_below_by a n true e = omega arith
last_below_by a n false e = let some : n ≡ 0 → ⊥ = eqb-false n 0 e in omega (arith, some)

last_above_by : (a n : ℕ) (b : Bool) → (n == 0) ≡ b → a + n ≤ max a (room_for (if b then [] else (a + (n - 1)) ∷ []) 0)
last_above_by a n true e = let nothing : n ≡ 0 = eqb-true n 0 e in omega arith
last_above_by a n false e = omega arith

pub last_below : (a n : ℕ) → room_for (last_of a n) 0 ≤ a + n
last_below a n = last_below_by a n (n == 0) refl

pub last_above : (a n : ℕ) → a + n ≤ max a (room_for (last_of a n) 0)
last_above a n = last_above_by a n (n == 0) refl

call_room : (a b c : ℕ) → room_for (a ∷ (last_of a b ++ last_of a (c - 1))) 0 ≡ max (a + 1) (max (a + b) (a + (c - 1)))
call_room a b c =
    let e = room_for_max (last_of a b ++ last_of a (c - 1)) (max 0 (a + 1)) in
    let f = room_for_append (last_of a b) (last_of a (c - 1)) in
    let b_below = last_below a b in
    let b_above = last_above a b in
    let c_below = last_below a (c - 1) in
    let c_above = last_above a (c - 1) in
    by (room_for (a ∷ (last_of a b ++ last_of a (c - 1))) 0) (room_for (last_of a b) 0) (room_for (last_of a (c - 1)) 0) (c - 1) (omega (arith, e, f)) b_below b_above c_below c_above
  where
    by : (all x y n : ℕ) → all ≡ max (a + 1) (max x y) → x ≤ a + b → a + b ≤ max a x → y ≤ a + n → a + n ≤ max a y → all ≡ max (a + 1) (max (a + b) (a + n))
    by all x y n is b_below b_above c_below c_above = omega arith

pub one_call : (t b c : ℕ) → t < 2 ^ 8 → b < 2 ^ 8 → c < 2 ^ 8 → one (abc Call t b c false) ≡ max (t + 1) (max (t + b) (t + (c - 1)))
one_call t b c t_fits b_fits c_fits =
    let w = abc Call t b c false in
    by (a_of w) (b_of w) (c_of w) (abc_is Call t b c false (a_of w ∷ (last_of (a_of w) (b_of w) ++ last_of (a_of w) (c_of w - 1))) refl ∙ call_room (a_of w) (b_of w) (c_of w))
    (a_of-abc Call t b c false t_fits) (b_of-abc Call t b c false t_fits b_fits) (c_of-abc Call t b c false t_fits b_fits c_fits)
  where
    by : (x y z : ℕ) → one (abc Call t b c false) ≡ max (x + 1) (max (x + y) (x + (z - 1))) → x ≡ t → y ≡ b → z ≡ c → one (abc Call t b c false) ≡ max (t + 1) (max (t + b) (t + (c - 1)))
    by x y z e f g h = omega arith

row_room : (a b : ℕ) → room_for (a ∷ last_of a b) 0 ≡ max (a + 1) (a + b)
row_room a b =
    let e = room_for_max (last_of a b) (max 0 (a + 1)) in
    let below = last_below a b in
    let above = last_above a b in
    omega (arith, e, below, above)

-- A and the registers behind it up to a number of B
one_row : (op : Opcode) (t b c : ℕ) (k : Bool) → registers op (abc op t b c k) ≡ a_of (abc op t b c k) ∷ last_of (a_of (abc op t b c k)) (b_of (abc op t b c k)) →
    t < 2 ^ 8 → b < 2 ^ 8 → one (abc op t b c k) ≡ max (t + 1) (t + b)
one_row op t b c k shape t_fits b_fits =
    let w = abc op t b c k in
    by (a_of w) (b_of w) (abc_is op t b c k (a_of w ∷ last_of (a_of w) (b_of w)) shape ∙ row_room (a_of w) (b_of w)) (a_of-abc op t b c k t_fits) (b_of-abc op t b c k t_fits b_fits)
  where
    by : (x y : ℕ) → one (abc op t b c k) ≡ max (x + 1) (x + y) → x ≡ t → y ≡ b → one (abc op t b c k) ≡ max (t + 1) (t + b)
    by x y e f g = omega arith

pub one_tail : (t b back : ℕ) → t < 2 ^ 8 → b < 2 ^ 8 → one (abc TailCall t b back (nat_lt 0 t)) ≡ max (t + 1) (t + b)
one_tail t b back t_fits b_fits = one_row TailCall t b back (nat_lt 0 t) refl t_fits b_fits

pub one_join : (t : ℕ) → t < 2 ^ 8 → one (abc Concat t 2 0 false) ≡ t + 2
one_join t t_fits = let e = one_row Concat t 2 0 false refl t_fits (lit< tt) in omega (arith, e)

-- of any number of registers
pub one_chain : (t b : ℕ) → t < 2 ^ 8 → b < 2 ^ 8 → one (abc Concat t b 0 false) ≡ max (t + 1) (t + b)
one_chain t b t_fits b_fits = one_row Concat t b 0 false refl t_fits b_fits

pub any_return : (flag : Bool) (t b c : ℕ) → t < 2 ^ 8 → b < 2 ^ 8 → one (abc Return t b c flag) ≤ t + (b - 1)
any_return flag t b c t_fits b_fits =
    let w = abc Return t b c flag in
    by (a_of w) (b_of w) (abc_is Return t b c flag (last_of (a_of w) (b_of w - 1)) refl) (last_below (a_of w) (b_of w - 1)) (a_of-abc Return t b c flag t_fits) (b_of-abc Return t b c flag t_fits b_fits)
  where
    by : (x y : ℕ) → one (abc Return t b c flag) ≡ room_for (last_of x (y - 1)) 0 → room_for (last_of x (y - 1)) 0 ≤ x + (y - 1) → x ≡ t → y ≡ b → one (abc Return t b c flag) ≤ t + (b - 1)
    by x y e below f g = omega arith

pub one_return : (t b c : ℕ) → t < 2 ^ 8 → b < 2 ^ 8 → one (abc Return t b c (nat_lt 0 t)) ≤ t + (b - 1)
one_return t b c t_fits b_fits = any_return (nat_lt 0 t) t b c t_fits b_fits

pub one_iterate : (t n : ℕ) → t < 2 ^ 8 → n < 2 ^ 8 → one (abc TForCall t 0 n false) ≡ max (t + 7) (t + 4 + n)
one_iterate t n t_fits n_fits =
    let w = abc TForCall t 0 n false in
    by (a_of w) (c_of w) (abc_is TForCall t 0 n false ((a_of w + 6) ∷ (a_of w + 3 + c_of w) ∷ []) refl) (a_of-abc TForCall t 0 n false t_fits) (c_of-abc TForCall t 0 n false t_fits (lit< tt) n_fits)
  where
    by : (x z : ℕ) → one (abc TForCall t 0 n false) ≡ room_for ((x + 6) ∷ (x + 3 + z) ∷ []) 0 → x ≡ t → z ≡ n → one (abc TForCall t 0 n false) ≡ max (t + 7) (t + 4 + n)
    by x z e f g = omega arith

-- `...` with its number of values

rest_by : (t c : ℕ) (b : Bool) → (c == 0) ≡ b
    → (room_for (if b then t ∷ [] else last_of t (c - 1)) 0 ≤ t + room_of_values c) × (t + room_of_values c ≤ max t (room_for (if b then t ∷ [] else last_of t (c - 1)) 0))
rest_by t zero true e = (omega arith, omega arith)
rest_by t zero false e = absurd (cc)
rest_by t (suc n) true e = let nothing : suc n ≡ 0 = eqb-true (suc n) 0 e in absurd (omega (arith, nothing))
rest_by t (suc n) false e =
    let less : suc n - 1 ≡ n = omega arith in
    let below = last_below t (suc n - 1) in
    let above = last_above t (suc n - 1) in
    (omega (arith, below, less), omega (arith, above, less))

rest_is : (t c : ℕ) → t < 2 ^ 8 → c < 2 ^ 8 → one (abc VarArg t 0 c false) ≡ room_for (if c == 0 then t ∷ [] else last_of t (c - 1)) 0
rest_is t c t_fits c_fits =
    let w = abc VarArg t 0 c false in
    let small : 0 < 2 ^ 8 = lit< tt in
    abc_is VarArg t 0 c false (if c_of w == 0 then a_of w ∷ [] else last_of (a_of w) (c_of w - 1)) refl
    ∙ ap (λ x. room_for (if c_of w == 0 then x ∷ [] else last_of x (c_of w - 1)) 0) (a_of-abc VarArg t 0 c false t_fits)
    ∙ ap (λ z. room_for (if z == 0 then t ∷ [] else last_of t (z - 1)) 0) (c_of-abc VarArg t 0 c false t_fits small c_fits)

pub rest_below : (t c : ℕ) → t < 2 ^ 8 → c < 2 ^ 8 → one (abc VarArg t 0 c false) ≤ t + room_of_values c
rest_below t c t_fits c_fits = let e = rest_is t c t_fits c_fits in let below = (rest_by t c (c == 0) refl).0 in omega (arith, e, below)

pub rest_above : (t c : ℕ) → t < 2 ^ 8 → c < 2 ^ 8 → t + room_of_values c ≤ max t (one (abc VarArg t 0 c false))
rest_above t c t_fits c_fits = let e = rest_is t c t_fits c_fits in let above = (rest_by t c (c == 0) refl).1 in omega (arith, e, above)
