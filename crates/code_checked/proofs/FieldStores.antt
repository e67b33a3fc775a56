-- The code of a value that is stored in a field is a piece.
use Rattle.std.proofs.Common.{◌≡◌, ℕ, ◌+◌, ◌<◌, ◌≤◌, ◌^◌, List, Option, Some, None, refl, arith}
use Rattle.tree_core.specs.Tree.{Exp, Index}
use Rattle.code_core.specs.declared.proto.Const.{Const}
use Rattle.code_core.specs.Prototype.{Prototype, Prototypes}
use Rattle.code_of.specs.ConstantOperands.{any_constant}
use Rattle.code_of.specs.Constants.{with_any, of_exp}
use Rattle.code_of.specs.Expressions.{made_by, exp_code}
use Rattle.code_of.specs.Operands.{seat}
use Rattle.code_of.specs.StoredValues.{stored_value}
use Rattle.code_of.specs.Parts.{field_code}
use Rattle.code_of.specs.CodeOf.{from_exp}
use Rattle.code_of.specs.Stores.{FieldKey, StoredValue, is_constant, value_seat, is_quiet, field_key, object_of}
use Rattle.code_of.proofs.Stores.{field_key_stands, object_stays}
use Rattle.code_of.proofs.StoredValues.{value_stands}
use Rattle.code_checked.specs.Near.{ExpIsNear}
use Rattle.code_checked.proofs.Pieces.{closed, Piece, both}
use Rattle.code_checked.proofs.Found.{Grows, grows_then, grows_any}
use Rattle.code_checked.proofs.Loads.{Whole, ValueThere, Functions}
use Rattle.code_checked.proofs.Growing.{grows_exp, after_exp}
use Rattle.code_checked.proofs.ExpForms.{exp_register, local_near}
use Rattle.code_checked.proofs.KeyedFields.{unless_piece, value_piece, value_near, key_piece, store_piece}
use Rattle.code_checked.proofs.Exps.{one_law}

module _ (p : Prototype) (W : Whole p) (source : Option (List ℕ)) (H : Type 0) where
  pub field_piece : (line : ℕ) (o k e : Exp) (t j after pc size : ℕ) (cs : List Const) (rest : Prototypes) → ExpIsNear source p o size t → ExpIsNear source p k size (t + 1) → ExpIsNear source p e size (t + 2) → size ≤ t
      → Grows (of_exp e (with_any (any_constant e) (of_exp k (of_exp o cs)))) p.own.constants → Functions p j (from_exp source o (from_exp source k (from_exp source e rest))) → Functions p after (from_exp source e rest)
      → Piece p H closed closed pc (field_code p.own.constants (Index line o k) e t j after)
  field_piece line o k e t j after pc size cs rest near_o near_k near_e le g fs after_fs =
      let at = object_of s (is_quiet e) o in
      let made = of_exp k (of_exp o cs) in
      let named = with_any (any_constant e) made in
      let known = grows_then made (of_exp e named) p.own.constants (grows_then made named (of_exp e named) (grows_any (any_constant e) made) (grows_exp e named)) g in
      let register = exp_register source p k size (t + 1) near_k in
      both p (unless_piece p H at (exp_code p.own.constants o t j 2) (one_law p W source o H t j pc size cs (from_exp source k (from_exp source e rest)) near_o le (grows_then (of_exp o cs) made p.own.constants (grows_exp k (of_exp o cs)) known) fs))
      (both p (key_piece p H s (exp_code p.own.constants k (t + 1) (j + made_by o) 2)
      (one_law p W source k H (t + 1) (j + made_by o) _ size (of_exp o cs) (from_exp source e rest) near_k (omega (arith, le)) known (after_exp source p o j (from_exp source k (from_exp source e rest)) fs)))
      (both p (value_piece p H value (exp_code p.own.constants e (t + 2) after 2) (one_law p W source e H (t + 2) after _ size named rest near_e (omega (arith, le)) g after_fs))
      (store_piece p source H s (is_quiet e) k (is_constant value) (seat at t) t (value_seat value (t + 2)) size line (of_exp o cs) (field_key_stands p.own.constants (is_quiet e) k) near_k (object_seat at refl) (omega (arith, register)) value_fits known)))
    where
      value : StoredValue
      value = stored_value p.own.constants e

      s : FieldKey
      s = field_key p.own.constants (is_quiet e) k

      object_seat : (at : Option ℕ) → object_of s (is_quiet e) o ≡ at → seat at t < 2 ^ 8
      object_seat None is = let register = exp_register source p o size t near_o in omega (arith, register)
      object_seat (Some r) is = local_near source p o size t r (object_stays s (is_quiet e) o r is).local near_o

      above_near : t + 2 < 2 ^ 8
      above_near = let register = exp_register source p e size (t + 2) near_e in omega (arith, register)

      value_fits : (value_seat (stored_value p.own.constants e) (t + 2) < 2 ^ 8) × ValueThere p (is_constant (stored_value p.own.constants e)) (value_seat (stored_value p.own.constants e) (t + 2))
      value_fits = value_near p source (stored_value p.own.constants e) e size (t + 2) (t + 2) (value_stands p.own.constants e) near_e above_near
