-- How the key of a target stands, and what a statement is that stores a local or a constant in a global name.
use Rattle.std.proofs.Common.{◌≡◌, ℕ, ◌<◌, ◌≤◌, Bool, true, false, List, length, [], Option, Some, None, refl, ap, subst, arith}
use Rattle.tree_core.specs.declared.name.Name.{Name}
use Rattle.tree_core.specs.Tree.{Exp, Var, Exps, EndExps, MoreExps}
use Rattle.code_core.specs.declared.proto.Const.{Const}
use Rattle.code_core.specs.declared.proto.Const.TheVariants.{Str as StrConst}
use Rattle.code_of.specs.Coded.{Coded}
use Rattle.code_of.specs.Constants.{number_in}
use Rattle.code_of.specs.Operands.{numeral_of}
use Rattle.code_of.specs.StoredValues.{stored_value}
use Rattle.code_of.specs.Stores.{FieldKey, a_name, an_index, a_register, evaluated, StoredValue, constant_value, local_value, made_value, name_in, field_key_by, key_code}
use Rattle.code_of.specs.Targets.{waiting_key, text_number, global_store, local_store_by, local_store, single_store}
use Rattle.code_of.proofs.Operands.{IsNumeral, numeral_is}
use Rattle.code_of.proofs.Stores.{IsName, name_is, short_is}
use Rattle.code_of.proofs.StoredValues.{StoredIn, ValueStands, value_stands}

-- a key that waits is that name or that numeral, and no local
abbrev pub Waits : List Const → Exp → FieldKey → Type 0
Waits constants key (a_name number) = IsName constants key number
Waits constants key (an_index n) = IsNumeral key n 255
Waits constants key (a_register r) = ⊥
Waits constants key evaluated = Unit {0}

pub key_waits : (constants : List Const) (key : Exp) → Waits constants key (waiting_key constants key)
key_waits constants key = by (name_in constants key) (numeral_of key (Some 255)) refl refl
  where
    by : (name index : Option ℕ) → name_in constants key ≡ name → numeral_of key (Some 255) ≡ index → Waits constants key (field_key_by name index None)
    by (Some number) index named is = name_is constants key number named
    by None (Some n) named is = numeral_is key 255 n is
    by None None named is = tt

pub key_code_short : (s : FieldKey) (code : List Coded) → length (key_code s code) ≤ length code
key_code_short evaluated code = omega arith
key_code_short (a_name number) code = omega arith
key_code_short (an_index n) code = omega arith
key_code_short (a_register r) code = omega arith

-- a local or a constant goes to a global name: `constant` and `field` are the fields k and C of the store

pub record StoresLocal (constants : List Const) (targets es : Exps) (x : Coded) : Type 0 where
  pub line : ℕ
  pub name : Name
  pub value : Exp
  pub constant : Bool
  pub field : ℕ
  pub target : targets ≡ MoreExps (Var line name) EndExps
  pub values : es ≡ MoreExps value EndExps
  pub is : StoredIn constants value constant field
  pub short : number_in constants (StrConst name.text) < 256
  pub store : global_store name.place (number_in constants (StrConst name.text)) constant field line ≡ Some x

local_store_is : (constants : List Const) (x e : Exp) (i : Coded) → local_store constants x e ≡ Some i → StoresLocal constants (MoreExps x EndExps) (MoreExps e EndExps) i
local_store_is constants (Var line name) e i h = by (text_number constants name.text) (stored_value constants e) refl (value_stands constants e) h
  where
    found : (number : ℕ) → text_number constants name.text ≡ Some number → (constant : Bool) (v : ℕ) → StoredIn constants e constant v → global_store name.place number constant v line ≡ Some i → StoresLocal constants (MoreExps (Var line name) EndExps) (MoreExps e EndExps) i
    found number named constant v is h =
        let short = short_is (number_in constants (StrConst name.text)) number named in
        let same = short.0 in
        let below = short.1 in
        record { line = line; name = name; value = e; constant = constant; field = v; target = refl; values = refl; is = is; short = omega (arith, same, below); store = subst (λ q. global_store name.place q constant v line ≡ Some i) same h }

    by : (number : Option ℕ) (value : StoredValue) → text_number constants name.text ≡ number → ValueStands constants e value → local_store_by number value name.place line ≡ Some i → StoresLocal constants (MoreExps (Var line name) EndExps) (MoreExps e EndExps) i
    by (Some number) (constant_value v) named is h = found number named true v is h
    by (Some number) (local_value v) named is h = found number named false v is h
    by (Some number) made_value named is h = absurd (cc)
    by None value named is h = absurd (cc)
local_store_is constants _ e i h = absurd (cc)

pub single_store_is : (constants : List Const) (targets es : Exps) (i : Coded) → single_store constants targets es ≡ Some i → StoresLocal constants targets es i
single_store_is constants EndExps es i h = absurd (cc)
single_store_is constants (MoreExps x (MoreExps y targets)) es i h = absurd (cc)
single_store_is constants (MoreExps x EndExps) EndExps i h = absurd (cc)
single_store_is constants (MoreExps x EndExps) (MoreExps e (MoreExps d es)) i h = absurd (cc)
single_store_is constants (MoreExps x EndExps) (MoreExps e EndExps) i h = local_store_is constants x e i h

pub some_store : (x y : Coded) → Some x ≡ Some y → x ≡ y
some_store x y e = ap (λ o. elim o as (λ _. Coded) [ None ↦ x | Some z ↦ z ]) e
