-- Where the value of a store stands.
use Rattle.std.proofs.Common.{◌≡◌, ℕ, ◌+◌, Bool, true, false, List, Option, Some, None, refl, sym, ap, ap₂}
use Rattle.tree_core.specs.declared.name.Place.{Place}
use Rattle.tree_core.specs.Tree.{Exp}
use Rattle.code_core.specs.declared.proto.Const.{Const}
use Rattle.code_of.specs.Coded.{Coded}
use Rattle.code_of.specs.ConstantOperands.{any_constant}
use Rattle.code_of.specs.Expressions.{made_by}
use Rattle.code_of.specs.Operands.{local_of}
use Rattle.code_of.specs.Operations.{short_of}
use Rattle.code_of.specs.Stores.{FieldKey, a_name, an_index, a_register, evaluated, StoredValue, constant_value, local_value, made_value, value_by, value_code, is_constant, value_seat, field_store_by}
use Rattle.code_of.specs.StoredValues.{stored_value}
use Rattle.code_of.specs.Targets.{global_store, local_store_by}
use Rattle.code_of.proofs.Operands.{local_makes}
use Rattle.code_of.proofs.StoredValues.{ValueStands, stored_makes}
use Rattle.code_expr.specs.Stores.{key_seat, seat_store, value_place, code_if, is_made, made_if, place_store}
use Rattle.code_emitter.specs.declared.emitter.Step.{Step}
use Rattle.code_expr.specs.declared.stores.ValueSeat.TheVariants.{Constant, Local, Made}
use Rattle.code_expr.specs.Targets.{stored_step}

pub seat_constant : (constants : List Const) (e : Exp) (number : ℕ) → short_of constants (any_constant e) ≡ Some number → value_place (stored_value constants e) ≡ Constant number
seat_constant constants e number h = ap (λ o. value_place (value_by o (local_of e))) h

pub seat_local : (constants : List Const) (e : Exp) (r : ℕ) → short_of constants (any_constant e) ≡ None → local_of e ≡ Some r → value_place (stored_value constants e) ≡ Local r
seat_local constants e r h l = ap₂ (λ o m. value_place (value_by o m)) h l

pub seat_made : (constants : List Const) (e : Exp) → short_of constants (any_constant e) ≡ None → local_of e ≡ None → value_place (stored_value constants e) ≡ Made
seat_made constants e h l = ap₂ (λ o m. value_place (value_by o m)) h l

-- what is written of it

pub place_code_is : (v : StoredValue) (code : List Coded) → code_if (is_made (value_place v)) code ≡ value_code v code
place_code_is made_value code = refl
place_code_is (constant_value number) code = refl
place_code_is (local_value r) code = refl

-- what stands makes no function
pub place_makes : (v : StoredValue) (constants : List Const) (e : Exp) → ValueStands constants e v → made_if (is_made (value_place v)) (made_by e) ≡ made_by e
place_makes made_value constants e stands = refl
place_makes (constant_value number) constants e stands = sym (stored_makes constants e number stands)
place_makes (local_value r) constants e stands = sym (local_makes e r stands)

pub seat_store_is : (s : FieldKey) (flag : Bool) (x t v line : ℕ) → seat_store (key_seat s) x (t + 1) flag v line ≡ field_store_by s flag x t v line
seat_store_is evaluated flag x t v line = refl
seat_store_is (a_name number) flag x t v line = refl
seat_store_is (an_index n) flag x t v line = refl
seat_store_is (a_register r) flag x t v line = refl

pub place_store_is : (s : FieldKey) (v : StoredValue) (x t z line : ℕ) → place_store (key_seat s) (value_place v) x (t + 1) z line ≡ field_store_by s (is_constant v) x t (value_seat v z) line
place_store_is s made_value x t z line = seat_store_is s false x t z line
place_store_is s (constant_value number) x t z line = seat_store_is s true x t number line
place_store_is s (local_value r) x t z line = seat_store_is s false x t r line

-- the instruction that stores it in a global name

module _ (constants : List Const) (e : Exp) (place : Place) (number line : ℕ) where
  abbrev named : Option Step
  named = stored_step (local_store_by (Some number) (stored_value constants e) place line)

  pub constant_named : (c : ℕ) → short_of constants (any_constant e) ≡ Some c → named ≡ stored_step (global_store place number true c line)
  constant_named c h = ap (λ o. stored_step (local_store_by (Some number) (value_by o (local_of e)) place line)) h

  pub local_named : (r : ℕ) → short_of constants (any_constant e) ≡ None → local_of e ≡ Some r → named ≡ stored_step (global_store place number false r line)
  local_named r h l = ap₂ (λ o m. stored_step (local_store_by (Some number) (value_by o m) place line)) h l

  pub none_named : short_of constants (any_constant e) ≡ None → local_of e ≡ None → named ≡ None
  none_named h l = ap₂ (λ o m. stored_step (local_store_by (Some number) (value_by o m) place line)) h l
