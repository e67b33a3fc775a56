-- What operands are, by where they stand.
use Rattle.std.proofs.Common.{leb-true, ◌≡◌, ℕ, zero, suc, ◌+◌, ◌≤◌, max, pos, negsuc, Bool, true, false, cond, List, ◌++◌, length, Option, Some, None, refl, sym, ap, ◌∙◌, arith, length-append}
use Rattle.std.specs.Prelude.{nat_le, not, ◌||◌}
use Rattle.tree_core.specs.declared.operator.BinOp.{BinOp}
use Rattle.tree_core.specs.declared.operator.BinOp.TheVariants.{Sub as Minus, Mul as Times, Mod as Modulo, Idiv, Band, Bor, Bxor, Shl as ShiftLeft, Concat as Join}
use Rattle.tree_core.specs.declared.name.Name.{Name}
use Rattle.tree_core.specs.declared.name.Place.{Place}
use Rattle.tree_core.specs.declared.name.Place.TheVariants.{Local as LocalPlace}
use Rattle.tree_core.specs.Tree.{Exp, Nil, True, False, Int, Str, Vararg, Var, Unary, Binary, And, Or, Paren, Table, Exps, EndExps, MoreExps}
use Rattle.code_of.specs.Coded.{Coded}
use Rattle.code_of.specs.Truths.{is_compared}
use Rattle.code_of.specs.Expressions.{made_by}
use Rattle.code_of.specs.Operands.{local_at, local_of, lone_local, computes, is_direct, target_local, assigned, numeral_of, from_one, operand_numeral, joins, Second, a_number, a_local, made, second_by, second_of, key_operand, first_of, unless, seat, operand_code, second_code, operands_code, operands_room, second_assigned}

-- a numeral, and a local

number_by : (number local : Option ℕ) (n : ℕ) → second_by number local ≡ a_number n → number ≡ Some n
number_by (Some m) local n e = cc
number_by None (Some r) n e = cc
number_by None None n e = cc

local_by : (number local : Option ℕ) (r : ℕ) → second_by number local ≡ a_local r → local ≡ Some r
local_by (Some m) local r e = cc
local_by None (Some q) r e = cc
local_by None None r e = cc

pub second_number : (op : BinOp) (d : Exp) (n : ℕ) → second_of op d ≡ a_number n → operand_numeral op d ≡ Some n
second_number op d n e = by (joins op) e
  where
    by : (b : Bool) → cond b made (second_by (operand_numeral op d) (local_of d)) ≡ a_number n → operand_numeral op d ≡ Some n
    by true e = cc
    by false e = number_by (operand_numeral op d) (local_of d) n e

pub second_local : (op : BinOp) (d : Exp) (r : ℕ) → second_of op d ≡ a_local r → local_of d ≡ Some r
second_local op d r e = by (joins op) e
  where
    by : (b : Bool) → cond b made (second_by (operand_numeral op d) (local_of d)) ≡ a_local r → local_of d ≡ Some r
    by true e = cc
    by false e = local_by (operand_numeral op d) (local_of d) r e

pub record IsNumeral (d : Exp) (n most : ℕ) : Type 0 where
  pub line : ℕ
  pub is : d ≡ Int line (pos n)
  pub small : n ≤ most

pub some_is : (m n : ℕ) → Some m ≡ Some n → m ≡ n
some_is m n e = ap (λ o. elim o as (λ _. ℕ) [ None ↦ m | Some k ↦ k ]) e

pub numeral_is : (d : Exp) (most n : ℕ) → numeral_of d (Some most) ≡ Some n → IsNumeral d n most
numeral_is (Int line (pos m)) most n e = by (nat_le m most) refl e
  where
    by : (b : Bool) → nat_le m most ≡ b → cond b (Some m) None ≡ Some n → IsNumeral (Int line (pos m)) n most
    by true le e = let same = some_is m n e in let below = leb-true m most le in record { line = line; is = ap (λ k. Int line (pos k)) same; small = omega (arith, same, below) }
    by false le e = absurd (cc)
numeral_is (Int line (negsuc m)) most n e = absurd (cc)
numeral_is (Unary line op e) most n h = absurd (cc)
numeral_is (Binary line op e d) most n h = absurd (cc)
numeral_is (And line e d) most n h = absurd (cc)
numeral_is (Or line e d) most n h = absurd (cc)
numeral_is (Paren line e) most n h = absurd (cc)
numeral_is (Table line fs) most n h = absurd (cc)
numeral_is _ most n e = absurd (cc)

-- some operators have none
pub numeral_none : (d : Exp) (n : ℕ) → numeral_of d None ≡ Some n → ⊥
numeral_none (Unary line op e) n h = absurd (cc)
numeral_none (Binary line op e d) n h = absurd (cc)
numeral_none (And line e d) n h = absurd (cc)
numeral_none (Or line e d) n h = absurd (cc)
numeral_none (Paren line e) n h = absurd (cc)
numeral_none (Table line fs) n h = absurd (cc)
numeral_none _ n e = absurd (cc)

-- that of `<<` is not 0
pub shift_is : (d : Exp) (n : ℕ) → operand_numeral ShiftLeft d ≡ Some n → IsNumeral d n 127 × (1 ≤ n)
shift_is d n e = by (numeral_of d (Some 127)) refl e
  where
    by : (o : Option ℕ) → numeral_of d (Some 127) ≡ o → from_one o ≡ Some n → IsNumeral d n 127 × (1 ≤ n)
    by (Some (suc m)) is e = (numeral_is d 127 n (is ∙ e), (let same = some_is (suc m) n e in omega (arith, same)))
    by (Some zero) is e = absurd (cc)
    by None is e = absurd (cc)

-- no operator takes a greater one than its field holds
pub numeral_form : (op : BinOp) (d : Exp) (n : ℕ) → operand_numeral op d ≡ Some n → IsNumeral d n 128
numeral_form Minus d n e = let h = numeral_is d 127 n e in let le = h.small in record { line = h.line; is = h.is; small = omega (arith, le) }
numeral_form ShiftLeft d n e = let h = (shift_is d n e).0 in let le = h.small in record { line = h.line; is = h.is; small = omega (arith, le) }
numeral_form Times d n e = absurd (numeral_none d n e)
numeral_form Modulo d n e = absurd (numeral_none d n e)
numeral_form Idiv d n e = absurd (numeral_none d n e)
numeral_form Band d n e = absurd (numeral_none d n e)
numeral_form Bor d n e = absurd (numeral_none d n e)
numeral_form Bxor d n e = absurd (numeral_none d n e)
numeral_form Join d n e = absurd (numeral_none d n e)
numeral_form _ d n e = numeral_is d 128 n e

-- the operands of `..` are made

pub local_not_made : (r : ℕ) → a_local r ≡ made → ⊥
local_not_made r e = cc

pub number_not_made : (n : ℕ) → a_number n ≡ made → ⊥
number_not_made n e = cc

pub joins_made : (op : BinOp) (d : Exp) → joins op ≡ true → second_of op d ≡ made
joins_made op d joined = ap (λ b. cond b made (second_by (operand_numeral op d) (local_of d))) joined

pub local_no_join : (op : BinOp) (d : Exp) (r : ℕ) → second_of op d ≡ a_local r → joins op ≡ true → ⊥
local_no_join op d r e joined = local_not_made r (sym e ∙ joins_made op d joined)

pub number_no_join : (op : BinOp) (d : Exp) (n : ℕ) → second_of op d ≡ a_number n → joins op ≡ true → ⊥
number_no_join op d n e joined = number_not_made n (sym e ∙ joins_made op d joined)

-- an operator that computes a value joins nothing
pub computes_no_join : (op : BinOp) → computes op ≡ true → joins op ≡ false
computes_no_join op e = by (joins op) (is_compared op) e
  where
    by : (a b : Bool) → not (a || b) ≡ true → a ≡ false
    by true b e = absurd (cc)
    by false b e = refl

-- where a local is assigned a value straight into its register

pub record IsAssigned (targets es : Exps) (r : ℕ) : Type 0 where
  pub line : ℕ
  pub name : Name
  pub value : Exp
  pub target : targets ≡ MoreExps (Var line name) EndExps
  pub values : es ≡ MoreExps value EndExps
  pub place : name.place ≡ LocalPlace r
  pub direct : is_direct value ≡ true

place_is : (p : Place) (r : ℕ) → local_at p ≡ Some r → p ≡ LocalPlace r
place_is (LocalPlace q) r e = ap LocalPlace (some_is q r e)
place_is _ r e = absurd (cc)

target_is : (x e : Exp) (r : ℕ) → is_direct e ≡ true → target_local x ≡ Some r → IsAssigned (MoreExps x EndExps) (MoreExps e EndExps) r
target_is (Var line name) e r is h = record { line = line; name = name; value = e; target = refl; values = refl; place = place_is name.place r h; direct = is }
target_is _ e r is h = absurd (cc)

pub assigned_is : (targets es : Exps) (r : ℕ) → assigned targets es ≡ Some r → IsAssigned targets es r
assigned_is EndExps es r h = absurd (cc)
assigned_is (MoreExps x (MoreExps y targets)) es r h = absurd (cc)
assigned_is (MoreExps x EndExps) EndExps r h = absurd (cc)
assigned_is (MoreExps x EndExps) (MoreExps e (MoreExps d es)) r h = absurd (cc)
assigned_is (MoreExps x EndExps) (MoreExps e EndExps) r h = by (is_direct e) refl h
  where
    by : (b : Bool) → is_direct e ≡ b → cond b (target_local x) None ≡ Some r → IsAssigned (MoreExps x EndExps) (MoreExps e EndExps) r
    by true is h = target_is x e r is h
    by false is h = absurd (cc)

-- where the second one of two values goes straight to a local's register

pub record IsSecond (targets es : Exps) (r : ℕ) : Type 0 where
  pub target : Exp
  pub line : ℕ
  pub name : Name
  pub first : Exp
  pub second : Exp
  pub targets_are : targets ≡ MoreExps target (MoreExps (Var line name) EndExps)
  pub values : es ≡ MoreExps first (MoreExps second EndExps)
  pub place : name.place ≡ LocalPlace r
  pub direct : is_direct second ≡ true

second_target_is : (x y e d : Exp) (r : ℕ) → is_direct d ≡ true → target_local y ≡ Some r → IsSecond (MoreExps x (MoreExps y EndExps)) (MoreExps e (MoreExps d EndExps)) r
second_target_is x (Var line name) e d r is h = record { target = x; line = line; name = name; first = e; second = d; targets_are = refl; values = refl; place = place_is name.place r h; direct = is }
second_target_is x _ e d r is h = absurd (cc)

pub second_is : (targets es : Exps) (r : ℕ) → second_assigned targets es ≡ Some r → IsSecond targets es r
second_is EndExps es r h = absurd (cc)
second_is (MoreExps x EndExps) es r h = absurd (cc)
second_is (MoreExps x (MoreExps y (MoreExps z targets))) es r h = absurd (cc)
second_is (MoreExps x (MoreExps y EndExps)) EndExps r h = absurd (cc)
second_is (MoreExps x (MoreExps y EndExps)) (MoreExps e EndExps) r h = absurd (cc)
second_is (MoreExps x (MoreExps y EndExps)) (MoreExps e (MoreExps d (MoreExps c es))) r h = absurd (cc)
second_is (MoreExps x (MoreExps y EndExps)) (MoreExps e (MoreExps d EndExps)) r h = by (is_direct d) refl h
  where
    by : (b : Bool) → is_direct d ≡ b → cond b (target_local y) None ≡ Some r → IsSecond (MoreExps x (MoreExps y EndExps)) (MoreExps e (MoreExps d EndExps)) r
    by true is h = second_target_is x y e d r is h
    by false is h = absurd (cc)

-- an operand that stands so is that local, or that numeral
pub record Stands (s : Second) (d : Exp) (most : ℕ) : Type 0 where
  pub local : (r : ℕ) → s ≡ a_local r → local_of d ≡ Some r
  pub number : (n : ℕ) → s ≡ a_number n → IsNumeral d n most

pub operator_stands : (op : BinOp) (d : Exp) → Stands (second_of op d) d 128
operator_stands op d = record { local = second_local op d; number = λ n e. numeral_form op d n (second_number op d n e) }

pub key_stands : (key : Exp) → Stands (key_operand key) key 255
key_stands key = record {
  local = λ r e. local_by (numeral_of key (Some 255)) (local_of key) r e;
  number = λ n e. numeral_is key 255 n (number_by (numeral_of key (Some 255)) (local_of key) n e);
}

-- a local that is all of a list

pub record IsLone (es : Exps) (r : ℕ) : Type 0 where
  pub value : Exp
  pub values : es ≡ MoreExps value EndExps
  pub is : local_of value ≡ Some r

pub lone_is : (es : Exps) (r : ℕ) → lone_local es ≡ Some r → IsLone es r
lone_is EndExps r h = absurd (cc)
lone_is (MoreExps e (MoreExps d es)) r h = absurd (cc)
lone_is (MoreExps e EndExps) r h = record { value = e; values = refl; is = h }

-- a local makes no function
pub local_makes : (e : Exp) (r : ℕ) → local_of e ≡ Some r → made_by e ≡ 0
local_makes (Var line name) r h = refl
local_makes (Paren line e) r h = local_makes e r h
local_makes (Int line z) r h = refl
local_makes (Nil line) r h = refl
local_makes (True line) r h = refl
local_makes (False line) r h = refl
local_makes (Str line bytes) r h = refl
local_makes (Vararg line) r h = refl
local_makes _ r h = absurd (cc)

-- the first operand stays where it is a local and the second one is not made

pub first_local : (s : Second) (e : Exp) (r : ℕ) → first_of s e ≡ Some r → local_of e ≡ Some r
first_local made e r h = absurd (cc)
first_local (a_number n) e r h = h
first_local (a_local q) e r h = h

-- sizes

pub unless_sized : (at : Option ℕ) (xs ys xs' ys' : List Coded) → length xs ≡ length xs' → length ys ≡ length ys' → length (unless at xs ++ ys) ≡ length (unless at xs' ++ ys')
unless_sized None xs ys xs' ys' e d = length-append xs ys ∙ (omega (arith, e, d)) ∙ sym (length-append xs' ys')
unless_sized (Some r) xs ys xs' ys' e d = d

pub unless_short : (at : Option ℕ) (code : List Coded) → length (unless at code) ≤ length code
unless_short None code = omega arith
unless_short (Some r) code = omega arith

pub operand_short : (at : Option ℕ) (first : List Coded) (t : ℕ) (by : ℕ → List Coded) (m : ℕ) → ((x : ℕ) → length (by x) ≤ m) → length (operand_code at first t by) ≤ length first + m
operand_short None first t by m e = let sum = length-append first (by t) in let h = e t in omega (arith, sum, h)
operand_short (Some r) first t by m e = let h = e r in omega (arith, h)

pub operands_sized : (s : Second) (at : Option ℕ) (first code : List Coded) (t : ℕ) (by by' num num' : (x y : ℕ) → List Coded)
    → ((x y : ℕ) → length (by x y) ≡ length (by' x y)) → ((x n : ℕ) → length (num x n) ≡ length (num' x n))
    → length (operands_code s at first code t by num) ≡ length (operands_code s at first code t by' num')
operands_sized s at first code t by by' num num' e d = unless_sized at first _ first _ refl (second s)
  where
    second : (s : Second) → length (second_code s code t (by (seat at t)) (num (seat at t))) ≡ length (second_code s code t (by' (seat at t)) (num' (seat at t)))
    second made =
        let a = length-append code (by (seat at t) (t + 1)) in
        let b = length-append code (by' (seat at t) (t + 1)) in
        let h = e (seat at t) (t + 1) in
        omega (arith, a, b, h)
    second (a_local r) = e (seat at t) r
    second (a_number n) = d (seat at t) n

pub operands_short : (s : Second) (at : Option ℕ) (first code : List Coded) (t : ℕ) (by num : (x y : ℕ) → List Coded) (m : ℕ) → ((x y : ℕ) → length (by x y) ≤ m) → ((x n : ℕ) → length (num x n) ≤ m)
    → length (operands_code s at first code t by num) ≤ length first + (length code + m)
operands_short s at first code t by num m e d = front at (second_code s code t (by (seat at t)) (num (seat at t))) (second s)
  where
    front : (at : Option ℕ) (rest : List Coded) → length rest ≤ length code + m → length (unless at first ++ rest) ≤ length first + (length code + m)
    front None rest h = let a = length-append first rest in omega (arith, a, h)
    front (Some r) rest h = omega (arith, h)

    second : (s : Second) → length (second_code s code t (by (seat at t)) (num (seat at t))) ≤ length code + m
    second made = let a = length-append code (by (seat at t) (t + 1)) in let h = e (seat at t) (t + 1) in omega (arith, a, h)
    second (a_local r) = let h = e (seat at t) r in omega (arith, h)
    second (a_number n) = let h = d (seat at t) n in omega (arith, h)

-- registers

pub some_operands : (s : Second) (at : Option ℕ) (first second : ℕ) → 1 ≤ first → 1 ≤ operands_room 1 s at first second
some_operands made at first second h = omega (arith, h)
some_operands (a_local r) None first second h = h
some_operands (a_local r) (Some x) first second h = omega arith
some_operands (a_number n) None first second h = h
some_operands (a_number n) (Some x) first second h = omega arith

pub few_operands : (own : ℕ) (s : Second) (at : Option ℕ) (first second : ℕ) → own ≤ 1 → operands_room own s at first second ≤ max first (1 + second)
few_operands own made at first second h = omega arith
few_operands own (a_local r) None first second h = omega arith
few_operands own (a_local r) (Some x) first second h = omega (arith, h)
few_operands own (a_number n) None first second h = omega arith
few_operands own (a_number n) (Some x) first second h = omega (arith, h)

-- what is done with two operands that stay takes no registers where its result goes to a local
pub operands_less : (s : Second) (at : Option ℕ) (first second : ℕ) → operands_room 0 s at first second ≤ operands_room 1 s at first second
operands_less made at first second = omega arith
operands_less (a_local r) None first second = omega arith
operands_less (a_local r) (Some x) first second = omega arith
operands_less (a_number n) None first second = omega arith
operands_less (a_number n) (Some x) first second = omega arith
