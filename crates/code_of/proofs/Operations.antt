-- Constants as second operands, and how long the code of an operator between two operands is and how many registers it takes.
use Rattle.std.proofs.Common.{◌≡◌, ltb-true, ℕ, suc, ◌+◌, ◌<◌, ◌≤◌, max, ℤ, ◌⊎◌, inl, inr, Bool, true, false, cond, List, [], ◌∷◌, ◌++◌, length, slice_get, Option, Some, None, refl, sym, ap, ◌∙◌, arith, length-append}
use Rattle.std.specs.Prelude.{nat_lt}
use Rattle.tree_core.specs.declared.operator.BinOp.{BinOp}
use Rattle.tree_core.specs.declared.operator.BinOp.TheVariants.{Add as Plus, Shl as ShiftLeft, Shr as ShiftRight, Concat as Join, Eq as Equal, Ne, Lt as Less, Le as AtMost, Gt, Ge}
use Rattle.tree_core.specs.Tree.{Exp, Nil, True, False, Int, Str}
use Rattle.code_core.specs.declared.proto.Const.{Const}
use Rattle.code_core.specs.declared.proto.Const.TheVariants.{Int as IntConst}
use Rattle.code_of.specs.Coded.{Coded}
use Rattle.code_of.specs.Constants.{same_constant, number_in}
use Rattle.code_of.specs.ConstantOperands.{integer_constant, any_constant, constant_by, unless_numeral, constant_of}
use Rattle.code_of.specs.Expressions.{made_by}
use Rattle.code_of.specs.Operands.{local_of, computes, second_of, first_of, seat, unless, operand_numeral}
use Rattle.code_of.specs.Operations.{short_of, constant_in, constant_code, operation_by, operation_room}
use Rattle.code_of.specs.FieldReads.{object_room}
use Rattle.code_of.specs.Stores.{short_number}
use Rattle.code_of.proofs.Constants.{same_is}
use Rattle.code_of.proofs.Operands.{operands_sized, operands_short, some_operands, few_operands, operands_less}
use Rattle.code_of.proofs.Stores.{short_is}

-- a number below the length of the table is that of the constant itself

number_behind : (c x : Const) (cs : List Const) → (number_in cs x < length cs → slice_get cs (number_in cs x) ≡ Some x) → (b : Bool) → same_constant c x ≡ b
    → number_in (c ∷ cs) x < length (c ∷ cs) → slice_get (c ∷ cs) (number_in (c ∷ cs) x) ≡ Some x
number_behind c x cs rest true e h = ap (λ b. slice_get (c ∷ cs) (cond b 0 (suc (number_in cs x)))) e ∙ ap Some (same_is c x e)
number_behind c x cs rest false e h =
    let n : number_in (c ∷ cs) x ≡ suc (number_in cs x) = ap (λ b. cond b 0 (suc (number_in cs x))) e in
    ap (slice_get (c ∷ cs)) n ∙ rest (omega (arith, h, n))

pub number_there : (x : Const) (cs : List Const) → number_in cs x < length cs → slice_get cs (number_in cs x) ≡ Some x
number_there x [] h = absurd (omega arith)
number_there x (c ∷ cs) h = number_behind c x cs (number_there x cs) (same_constant c x) refl h

-- the constant that is a second operand

pub record IsOperand (cs : List Const) (op : BinOp) (d : Exp) (number : ℕ) : Type 0 where
  pub value : Const
  pub is : constant_of op d ≡ Some value
  pub same : number_in cs value ≡ number
  pub below : number_in cs value < length cs
  pub there : slice_get cs number ≡ Some value
  pub short : number < 256

pub constant_is : (cs : List Const) (op : BinOp) (d : Exp) (number : ℕ) → constant_in cs op d ≡ Some number → IsOperand cs op d number
constant_is cs op d number h = by (constant_of op d) refl h
  where
    found : (x : Const) → constant_of op d ≡ Some x → (b : Bool) → nat_lt (number_in cs x) (length cs) ≡ b → cond b (short_number (number_in cs x)) None ≡ Some number → IsOperand cs op d number
    found x is true inside h =
        let short = short_is (number_in cs x) number h in
        let below = ltb-true (number_in cs x) (length cs) inside in
        record { value = x; is = is; same = sym short.0; below = below; there = ap (slice_get cs) short.0 ∙ number_there x cs below; short = short.1 }
    found x is false inside h = absurd (cc)

    by : (o : Option Const) → constant_of op d ≡ o → short_of cs o ≡ Some number → IsOperand cs op d number
    by (Some x) is h = found x is (nat_lt (number_in cs x) (length cs)) refl h
    by None is h = absurd (cc)

form_is : (o : Option ℕ) (q : Option Const) (x : Const) → unless_numeral o q ≡ Some x → q ≡ Some x
form_is None q x h = h
form_is (Some n) q x h = absurd (cc)

pub operand_form : (op : BinOp) (d : Exp) (x : Const) → constant_of op d ≡ Some x → constant_by op d ≡ Some x
operand_form op d x h = form_is (operand_numeral op d) (constant_by op d) x h

-- arithmetic takes integers alone

abbrev pub IntegerOf : Const → Type 0
IntegerOf x = (z : ℤ) × (x ≡ IntConst z)

integer_is : (d : Exp) (x : Const) → integer_constant d ≡ Some x → IntegerOf x
integer_is (Int line z) x h = (z, sym (ap (λ o. elim o as (λ _. Const) [ None ↦ IntConst z | Some k ↦ k ]) h))
integer_is _ x h = absurd (cc)

-- the form that an operator's constant has
abbrev IsTaken : BinOp → Exp → Const → Type 0
IsTaken op d x = (integer_constant d ≡ Some x) ⊎ ((computes op ≡ false) × (any_constant d ≡ Some x))

is_taken : (op : BinOp) (d : Exp) (x : Const) → constant_by op d ≡ Some x → IsTaken op d x
is_taken Equal d x h = inr (refl, h)
is_taken Ne d x h = inr (refl, h)
is_taken ShiftLeft d x h = absurd (cc)
is_taken ShiftRight d x h = absurd (cc)
is_taken Join d x h = absurd (cc)
is_taken Less d x h = absurd (cc)
is_taken AtMost d x h = absurd (cc)
is_taken Gt d x h = absurd (cc)
is_taken Ge d x h = absurd (cc)
is_taken _ d x h = inl h

pub arithmetic_integer : (op : BinOp) (d : Exp) (x : Const) → computes op ≡ true → constant_by op d ≡ Some x → IntegerOf x
arithmetic_integer op d x is h = by (is_taken op d x h)
  where
    by : IsTaken op d x → IntegerOf x
    by (inl integer) = integer_is d x integer
    by (inr other) = let no : computes op ≡ false = other.0 in absurd (cc)

-- each is written out in the source

integer_any : (d : Exp) (x : Const) → integer_constant d ≡ Some x → any_constant d ≡ Some x
integer_any (Int line z) x h = h
integer_any _ x h = absurd (cc)

pub operand_literal : (op : BinOp) (d : Exp) (x : Const) → constant_by op d ≡ Some x → any_constant d ≡ Some x
operand_literal op d x h = by (is_taken op d x h)
  where
    by : IsTaken op d x → any_constant d ≡ Some x
    by (inl integer) = integer_any d x integer
    by (inr other) = other.1

-- so it makes no function
pub literal_makes : (d : Exp) (x : Const) → any_constant d ≡ Some x → made_by d ≡ 0
literal_makes (Nil line) x h = refl
literal_makes (True line) x h = refl
literal_makes (False line) x h = refl
literal_makes (Int line z) x h = refl
literal_makes (Str line bytes) x h = refl
literal_makes _ x h = absurd (cc)

pub operand_makes : (cs : List Const) (op : BinOp) (d : Exp) (number : ℕ) → constant_in cs op d ≡ Some number → made_by d ≡ 0
operand_makes cs op d number h =
    let f = constant_is cs op d number h in
    literal_makes d f.value (operand_literal op d f.value (operand_form op d f.value f.is))

-- the instruction is there

pub constant_some : (op : BinOp) (d : Exp) (v : Const) → constant_by op d ≡ Some v → (x n t line : ℕ) → 1 ≤ length (constant_code op x n t line)
constant_some ShiftLeft d v h x n t line = absurd (cc)
constant_some ShiftRight d v h x n t line = absurd (cc)
constant_some Join d v h x n t line = absurd (cc)
constant_some Less d v h x n t line = absurd (cc)
constant_some AtMost d v h x n t line = absurd (cc)
constant_some Gt d v h x n t line = absurd (cc)
constant_some Ge d v h x n t line = absurd (cc)
constant_some _ d v h x n t line = omega arith

pub constant_short : (op : BinOp) (x n t line : ℕ) → length (constant_code op x n t line) ≤ 4
constant_short Plus x n t line = omega arith
constant_short _ x n t line = omega arith

-- sizes

behind_sized : (at : Option ℕ) (first xs ys : List Coded) → length xs ≡ length ys → length (unless at first ++ xs) ≡ length (unless at first ++ ys)
behind_sized at first xs ys e = length-append (unless at first) xs ∙ ap (λ n. length (unless at first) + n) e ∙ sym (length-append (unless at first) ys)

pub operation_sized : (o : Option ℕ) (op : BinOp) (e d : Exp) (first second : List Coded) (t : ℕ) (con con' by by' num num' : (x y : ℕ) → List Coded)
    → ((x n : ℕ) → length (con x n) ≡ length (con' x n)) → ((x y : ℕ) → length (by x y) ≡ length (by' x y)) → ((x n : ℕ) → length (num x n) ≡ length (num' x n))
    → length (operation_by o op e d first second t con by num) ≡ length (operation_by o op e d first second t con' by' num')
operation_sized (Some n) op e d first second t con con' by by' num num' c h k = behind_sized (local_of e) first (con (seat (local_of e) t) n) (con' (seat (local_of e) t) n) (c (seat (local_of e) t) n)
operation_sized None op e d first second t con con' by by' num num' c h k = operands_sized (second_of op d) (first_of (second_of op d) e) first second t by by' num num' h k

pub operation_short : (o : Option ℕ) (op : BinOp) (e d : Exp) (first second : List Coded) (t : ℕ) (con by num : (x y : ℕ) → List Coded) (m : ℕ)
    → ((x n : ℕ) → length (con x n) ≤ m) → ((x y : ℕ) → length (by x y) ≤ m) → ((x n : ℕ) → length (num x n) ≤ m)
    → length (operation_by o op e d first second t con by num) ≤ length first + (length second + m)
operation_short (Some n) op e d first second t con by num m c h k = by_local (local_of e)
  where
    by_local : (at : Option ℕ) → length (unless at first ++ con (seat at t) n) ≤ length first + (length second + m)
    by_local None = let a = length-append first (con t n) in let f = c t n in omega (arith, a, f)
    by_local (Some x) = let f = c x n in omega (arith, f)
operation_short None op e d first second t con by num m c h k = operands_short (second_of op d) (first_of (second_of op d) e) first second t by num m h k

-- registers

pub some_operation : (o : Option ℕ) (op : BinOp) (e d : Exp) (first second : ℕ) → 1 ≤ first → 1 ≤ operation_room 1 o op e d first second
some_operation (Some n) op e d first second some = by (local_of e)
  where
    by : (at : Option ℕ) → 1 ≤ object_room 1 at first
    by None = some
    by (Some x) = omega arith
some_operation None op e d first second some = some_operands (second_of op d) (first_of (second_of op d) e) first second some

pub few_operation : (own : ℕ) (o : Option ℕ) (op : BinOp) (e d : Exp) (first second : ℕ) → own ≤ 1 → operation_room own o op e d first second ≤ max first (1 + second)
few_operation own (Some n) op e d first second few = by (local_of e)
  where
    by : (at : Option ℕ) → object_room own at first ≤ max first (1 + second)
    by None = omega arith
    by (Some x) = omega (arith, few)
few_operation own None op e d first second few = few_operands own (second_of op d) (first_of (second_of op d) e) first second few

pub operation_less : (o : Option ℕ) (op : BinOp) (e d : Exp) (first second : ℕ) → operation_room 0 o op e d first second ≤ operation_room 1 o op e d first second
operation_less (Some n) op e d first second = by (local_of e)
  where
    by : (at : Option ℕ) → object_room 0 at first ≤ object_room 1 at first
    by None = omega arith
    by (Some x) = omega arith
operation_less None op e d first second = operands_less (second_of op d) (first_of (second_of op d) e) first second
