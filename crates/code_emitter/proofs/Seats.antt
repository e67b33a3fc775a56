-- Operands by where they stand.
use Rattle.std.proofs.Common.{◌≡◌, ℕ, ◌+◌, Bool, true, false, cond, List, [], ◌++◌, Option, Some, None, refl, sym, ap, ap₂, ◌∙◌, arith, append-nil, append_assoc}
use Rattle.std.specs.Prelude.{is_some}
use Rattle.tree_core.specs.declared.operator.BinOp.{BinOp}
use Rattle.tree_core.specs.declared.operator.BinOp.TheVariants.{Concat as Join}
use Rattle.tree_core.specs.Tree.{Exp}
use Rattle.code_of.specs.Coded.{Coded}
use Rattle.code_of.specs.Expressions.{made_by}
use Rattle.code_of.specs.Operands.{local_of, numeral_of, joins, Second, a_number, a_local, made, second_by, second_of, key_operand, first_of, seat, unless, operands_code, operand_numeral}
use Rattle.code_of.proofs.Operands.{numeral_none}
use Rattle.code_of.proofs.Operands as operands
use Rattle.code_emitter.specs.Listing.{Listing, listed, followed}
use Rattle.code_emitter.specs.declared.operands.Operands.{Operands}
use Rattle.code_emitter.specs.declared.operands.Second.TheVariants.{Number, Register}
use Rattle.code_emitter.specs.Operands.{number_of_second, local_of_second, staying, standing, stays_code, stays_made, stays_at, seated_code, done_code}
use Rattle.code_emitter.proofs.Joining.{listing, then_listed}

-- where the second operand stands

join_none : (op : BinOp) (d : Exp) → joins op ≡ true → operand_numeral op d ≡ None
join_none Join d e = none (numeral_of d None) refl
  where
    none : (o : Option ℕ) → numeral_of d None ≡ o → o ≡ None
    none None e = refl
    none (Some n) e = absurd (numeral_none d n e)
join_none _ d e = absurd (cc)

pub second_numeral : (op : BinOp) (d : Exp) → number_of_second (second_of op d) ≡ operand_numeral op d
second_numeral op d = by (joins op) (operand_numeral op d) (local_of d) (join_none op d)
  where
    by : (b : Bool) (number local : Option ℕ) → (b ≡ true → number ≡ None) → number_of_second (cond b made (second_by number local)) ≡ number
    by true number local h = sym (h refl)
    by false (Some n) local h = refl
    by false None (Some r) h = refl
    by false None None h = refl

pub second_joins : (d : Exp) → local_of_second (second_of Join d) ≡ None
second_joins d = refl

pub second_number : (op : BinOp) (d : Exp) → is_some (operand_numeral op d) ≡ true → local_of_second (second_of op d) ≡ None
second_number op d e = by (joins op) (operand_numeral op d) (local_of d) e
  where
    by : (b : Bool) (number local : Option ℕ) → is_some number ≡ true → local_of_second (cond b made (second_by number local)) ≡ None
    by true number local e = refl
    by false (Some n) local e = refl
    by false None local e = absurd (cc)

not_join : (op : BinOp) → (op ≡ Join → ⊥) → joins op ≡ false
not_join Join h = absurd (h refl)
not_join _ h = refl

pub second_local : (op : BinOp) (d : Exp) → (op ≡ Join → ⊥) → is_some (operand_numeral op d) ≡ false → local_of_second (second_of op d) ≡ local_of d
second_local op d other e = by (joins op) (operand_numeral op d) (local_of d) (not_join op other) e
  where
    by : (b : Bool) (number local : Option ℕ) → b ≡ false → is_some number ≡ false → local_of_second (cond b made (second_by number local)) ≡ local
    by false None (Some r) b_is e = refl
    by false None None b_is e = refl
    by false (Some n) local b_is e = absurd (cc)
    by true number local b_is e = absurd (cc)

-- what stands first is the operands, and then what is done with them

pub seated : (s : Second) (e : Exp) (first code : List Coded) (t : ℕ) (con by num : (x y : ℕ) → List Coded)
    → operands_code s (first_of s e) first code t by num ≡ seated_code s (first_of s e) first code ++ done_code (standing s t) (seat (first_of s e) t) con by num
seated made e first code t con by num = sym (append_assoc first code (by t (t + 1)))
seated (a_local r) e first code t con by num = refl
seated (a_number n) e first code t con by num = refl

-- an operand that stays

pub number_stays : (s : Second) (n : ℕ) → number_of_second s ≡ Some n → staying s ≡ Some (Number n)
number_stays (a_number m) n h = ap (λ k. Some (Number k)) (operands.some_is m n h)
number_stays (a_local r) n h = absurd (cc)
number_stays made n h = absurd (cc)

pub local_stays : (s : Second) (r : ℕ) → local_of_second s ≡ Some r → staying s ≡ Some (Register r)
local_stays (a_local q) r h = ap (λ k. Some (Register k)) (operands.some_is q r h)
local_stays (a_number m) r h = absurd (cc)
local_stays made r h = absurd (cc)

pub none_stays : (s : Second) → number_of_second s ≡ None → local_of_second s ≡ None → staying s ≡ None
none_stays made h k = refl
none_stays (a_number m) h k = absurd (cc)
none_stays (a_local q) h k = absurd (cc)

-- it makes no function, and no code

pub nothing_more : (s : Listing) → s ≡ followed s [] 0
nothing_more s = ap₂ (listing s.constants) (sym (append-nil s.steps)) (omega arith)

pub local_written : (s : Listing) (e : Exp) (r : ℕ) (code : List Coded) → local_of e ≡ Some r → s ≡ followed s (unless (local_of e) code) (made_by e)
local_written s e r code h = nothing_more s ∙ ap₂ (λ o n. followed s (unless o code) n) (sym h) (sym (operands.local_makes e r h))

-- where two operands stand, and their code, by the form of the second one

seated_code_is : (z : Second) (e : Exp) (first second : List Coded) → stays_code (staying z) (local_of e) first second ≡ seated_code z (first_of z e) first second
seated_code_is made e first second = refl
seated_code_is (a_local r) e first second = refl
seated_code_is (a_number n) e first second = refl

pub seated_makes : (z : Second) (d : Exp) (most m : ℕ) → operands.Stands z d most → stays_made (staying z) m (made_by d) ≡ m + made_by d
seated_makes z d most m stands = by z refl
  where
    by : (x : Second) → z ≡ x → stays_made (staying x) m (made_by d) ≡ m + made_by d
    by made is = refl
    by (a_local r) is = let none = operands.local_makes d r (stands.local r is) in omega (arith, none)
    by (a_number n) is = let none : made_by d ≡ 0 = ap made_by (stands.number n is).is in omega (arith, none)

pub seated_written : (s q : Listing) (z : Second) (e d : Exp) (most : ℕ) (first second : List Coded) → operands.Stands z d most
    → q ≡ followed s (stays_code (staying z) (local_of e) first second) (stays_made (staying z) (made_by e) (made_by d)) → q ≡ followed s (seated_code z (first_of z e) first second) (made_by e + made_by d)
seated_written s q z e d most first second stands p = p ∙ ap₂ (followed s) (seated_code_is z e first second) (seated_makes z d most (made_by e) stands)

pub seated_stand : (z : Second) (e : Exp) (t : ℕ) (o : Operands) → o ≡ stays_at (staying z) (local_of e) t → (o.first ≡ seat (first_of z e) t) × (o.second ≡ standing z t)
seated_stand made e t o p = (ap (λ x. x.first) p, ap (λ x. x.second) p)
seated_stand (a_local r) e t o p = (ap (λ x. x.first) p, ap (λ x. x.second) p)
seated_stand (a_number n) e t o p = (ap (λ x. x.first) p, ap (λ x. x.second) p)

-- code that two operands and what is done with them make together
pub done_written : (s r q : Listing) (z : Second) (e : Exp) (first second : List Coded) (t n : ℕ) (o : Operands) (con by num : (x y : ℕ) → List Coded)
    → r ≡ followed s (seated_code z (first_of z e) first second) n → (o.first ≡ seat (first_of z e) t) × (o.second ≡ standing z t) → q ≡ listed r (done_code o.second o.first con by num)
    → q ≡ followed s (operands_code z (first_of z e) first second t by num) n
done_written s r q z e first second t n o con by num seated_is places p =
    then_listed s r q (seated_code z (first_of z e) first second) n (λ k. done_code (standing z t) (seat (first_of z e) t) con by num) seated_is
    (p ∙ ap₂ (λ y x. listed r (done_code y x con by num)) places.1 places.0)
    ∙ ap (λ code. followed s code n) (sym (seated z e first second t con by num))

-- keys

pub key_number : (key : Exp) (n : ℕ) → numeral_of key (Some 255) ≡ Some n → staying (key_operand key) ≡ Some (Number n)
key_number key n e = ap (λ o. staying (second_by o (local_of key))) e

pub key_local : (key : Exp) (r : ℕ) → numeral_of key (Some 255) ≡ None → local_of key ≡ Some r → staying (key_operand key) ≡ Some (Register r)
key_local key r e h = ap₂ (λ o q. staying (second_by o q)) e h

pub key_none : (key : Exp) → numeral_of key (Some 255) ≡ None → local_of key ≡ None → staying (key_operand key) ≡ None
key_none key e h = ap₂ (λ o q. staying (second_by o q)) e h
