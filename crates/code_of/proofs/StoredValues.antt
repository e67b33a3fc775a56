-- Where a value that is stored stands.
use Rattle.std.proofs.Common.{◌≡◌, ltb-true, ℕ, ◌<◌, Bool, true, false, cond, List, length, slice_get, Option, Some, None, refl, ap, subst, ◌∙◌}
use Rattle.std.specs.Prelude.{nat_lt}
use Rattle.tree_core.specs.Tree.{Exp}
use Rattle.code_core.specs.declared.proto.Const.{Const}
use Rattle.code_of.specs.ConstantOperands.{any_constant}
use Rattle.code_of.specs.Constants.{number_in}
use Rattle.code_of.specs.Expressions.{made_by}
use Rattle.code_of.specs.Operands.{local_of}
use Rattle.code_of.specs.Operations.{short_of}
use Rattle.code_of.specs.Stores.{StoredValue, constant_value, local_value, made_value, short_number, value_by}
use Rattle.code_of.specs.StoredValues.{stored_value}
use Rattle.code_of.proofs.Operands.{local_makes}
use Rattle.code_of.proofs.Operations.{number_there, literal_makes}
use Rattle.code_of.proofs.Stores.{short_is}

-- the constant that is the value
pub record IsStored (constants : List Const) (e : Exp) (number : ℕ) : Type 0 where
  pub value : Const
  pub is : any_constant e ≡ Some value
  pub there : slice_get constants number ≡ Some value
  pub short : number < 256

stored_is : (constants : List Const) (e : Exp) (number : ℕ) (o : Option Const) → any_constant e ≡ o → short_of constants o ≡ Some number → IsStored constants e number
stored_is constants e number None is h = absurd (cc)
stored_is constants e number (Some x) is h = found (nat_lt (number_in constants x) (length constants)) refl h
  where
    found : (b : Bool) → nat_lt (number_in constants x) (length constants) ≡ b → cond b (short_number (number_in constants x)) None ≡ Some number → IsStored constants e number
    found true inside h =
        let short = short_is (number_in constants x) number h in
        record { value = x; is = is; there = ap (slice_get constants) short.0 ∙ number_there x constants (ltb-true (number_in constants x) (length constants) inside); short = short.1 }
    found false inside h = absurd (cc)

-- what the fields k and C of the store name

abbrev pub StoredIn : List Const → Exp → (constant : Bool) → (v : ℕ) → Type 0
StoredIn constants e true v = IsStored constants e v
StoredIn constants e false v = local_of e ≡ Some v

abbrev pub ValueStands : List Const → Exp → StoredValue → Type 0
ValueStands constants e (constant_value number) = StoredIn constants e true number
ValueStands constants e (local_value r) = StoredIn constants e false r
ValueStands constants e made_value = Unit {0}

pub value_stands : (constants : List Const) (e : Exp) → ValueStands constants e (stored_value constants e)
value_stands constants e = by (short_of constants (any_constant e)) (local_of e) refl refl
  where
    by : (constant local : Option ℕ) → short_of constants (any_constant e) ≡ constant → local_of e ≡ local → ValueStands constants e (value_by constant local)
    by (Some number) local is at = stored_is constants e number (any_constant e) refl is
    by None (Some r) is at = at
    by None None is at = tt

-- a constant makes no function
pub stored_makes : (constants : List Const) (e : Exp) (number : ℕ) → IsStored constants e number → made_by e ≡ 0
stored_makes constants e number f = literal_makes e f.value f.is

pub stored_in_makes : (constants : List Const) (e : Exp) (constant : Bool) (v : ℕ) → StoredIn constants e constant v → made_by e ≡ 0
stored_in_makes constants e true v is = stored_makes constants e v is
stored_in_makes constants e false v is = local_makes e v is

-- what stands so is that local or that constant

pub stands_local : (constants : List Const) (e : Exp) (value : StoredValue) (r : ℕ) → value ≡ local_value r → ValueStands constants e value → local_of e ≡ Some r
stands_local constants e value r is h = subst (λ v. ValueStands constants e v) is h

pub stands_constant : (constants : List Const) (e : Exp) (value : StoredValue) (number : ℕ) → value ≡ constant_value number → ValueStands constants e value → IsStored constants e number
stands_constant constants e value number is h = subst (λ v. ValueStands constants e v) is h
