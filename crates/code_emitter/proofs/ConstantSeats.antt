-- Second operands that may be constants: where they stand, and what both operands and the operator are together.
use Rattle.std.proofs.Common.{◌≡◌, ℕ, ◌+◌, List, ◌++◌, Option, Some, None, refl, sym, ap, ap₂, ◌∙◌, arith, append_assoc}
use Rattle.tree_core.specs.declared.operator.BinOp.{BinOp}
use Rattle.tree_core.specs.Tree.{Exp}
use Rattle.code_core.specs.declared.proto.Const.{Const}
use Rattle.code_of.specs.Coded.{Coded}
use Rattle.code_of.specs.Expressions.{made_by}
use Rattle.code_of.specs.Operands.{local_of, Second, a_number, a_local, made, second_of, first_of, operands_code}
use Rattle.code_of.specs.Operations.{constant_in, operation_by}
use Rattle.code_of.proofs.Operands.{operator_stands}
use Rattle.code_of.proofs.Operations.{operand_makes}
use Rattle.code_emitter.specs.declared.operands.Operands.{Operands}
use Rattle.code_emitter.specs.declared.operands.Second.TheVariants.{Constant}
use Rattle.code_emitter.specs.Listing.{Listing, listed, followed}
use Rattle.code_emitter.specs.Operands.{staying, operation_staying, stays_code, stays_made, stays_at, done_code}
use Rattle.code_emitter.proofs.Joining.{then_listed}
use Rattle.code_emitter.proofs.Seats.{seated_makes}

-- where the second operand stays

pub constant_stays : (o : Option ℕ) (s : Second) (n : ℕ) → o ≡ Some n → operation_staying o s ≡ Some (Constant n)
constant_stays o s n e = ap (λ o. operation_staying o s) e

pub other_stays : (o : Option ℕ) (s : Second) → o ≡ None → operation_staying o s ≡ staying s
other_stays o s e = ap (λ o. operation_staying o s) e

-- what stands first is the operands, and then what is done with them
module _ (e : Exp) (first second : List Coded) (t : ℕ) (con by num : (x y : ℕ) → List Coded) where
  apart_by : (z : Second) → operands_code z (first_of z e) first second t by num
      ≡ stays_code (staying z) (local_of e) first second ++ done_code (stays_at (staying z) (local_of e) t).second (stays_at (staying z) (local_of e) t).first con by num
  apart_by made = sym (append_assoc first second (by t (t + 1)))
  apart_by (a_local r) = refl
  apart_by (a_number n) = refl

  pub operation_apart : (o : Option ℕ) (op : BinOp) (d : Exp) → operation_by o op e d first second t con by num
      ≡ stays_code (operation_staying o (second_of op d)) (local_of e) first second
      ++ done_code (stays_at (operation_staying o (second_of op d)) (local_of e) t).second (stays_at (operation_staying o (second_of op d)) (local_of e) t).first con by num
  operation_apart (Some n) op d = refl
  operation_apart None op d = apart_by (second_of op d)

pub operation_makes : (cs : List Const) (op : BinOp) (d : Exp) (m : ℕ) → stays_made (operation_staying (constant_in cs op d) (second_of op d)) m (made_by d) ≡ m + made_by d
operation_makes cs op d m = by (constant_in cs op d) refl
  where
    by : (o : Option ℕ) → constant_in cs op d ≡ o → stays_made (operation_staying o (second_of op d)) m (made_by d) ≡ m + made_by d
    by (Some n) is = let none = operand_makes cs op d n is in omega (arith, none)
    by None is = seated_makes (second_of op d) d 128 m (operator_stands op d)

-- code that two operands and what is done with them make together
pub operation_written : (s r q : Listing) (cs : List Const) (op : BinOp) (e d : Exp) (first second : List Coded) (t : ℕ) (o : Operands) (con by num : (x y : ℕ) → List Coded)
    → r ≡ followed s (stays_code (operation_staying (constant_in cs op d) (second_of op d)) (local_of e) first second) (stays_made (operation_staying (constant_in cs op d) (second_of op d)) (made_by e) (made_by d))
    → o ≡ stays_at (operation_staying (constant_in cs op d) (second_of op d)) (local_of e) t → q ≡ listed r (done_code o.second o.first con by num)
    → q ≡ followed s (operation_by (constant_in cs op d) op e d first second t con by num) (made_by e + made_by d)
operation_written s r q cs op e d first second t o con by num seats places done =
    let stays = operation_staying (constant_in cs op d) (second_of op d) in
    let at = stays_at stays (local_of e) t in
    then_listed s r q (stays_code stays (local_of e) first second) (stays_made stays (made_by e) (made_by d)) (λ k. done_code at.second at.first con by num) seats
    (done ∙ ap (λ x. listed r (done_code x.second x.first con by num)) places)
    ∙ ap₂ (followed s) (sym (operation_apart e first second t con by num (constant_in cs op d) op d)) (operation_makes cs op d (made_by e))
