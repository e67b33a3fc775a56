-- Statements that store a value in a field, and where the object and the key stand.
use Rattle.std.proofs.Common.{◌≡◌, ℕ, ◌+◌, ◌<◌, ◌≤◌, ltb-true, max, Bool, true, false, cond, List, length, ◌++◌, [], ◌∷◌, Option, Some, None, refl, sym, arith, length-append}
use Rattle.std.specs.Prelude.{nat_lt}
use Rattle.tree_core.specs.Tree.{Exp, Str, Index, Exps, EndExps, MoreExps}
use Rattle.code_core.specs.declared.proto.Const.{Const}
use Rattle.code_core.specs.declared.proto.Const.TheVariants.{Str as StrConst}
use Rattle.code_of.specs.Coded.{Coded}
use Rattle.code_of.specs.Constants.{number_in}
use Rattle.code_of.specs.Operands.{local_of, numeral_of, seat, unless}
use Rattle.code_of.proofs.Operands.{some_is, IsNumeral, numeral_is, unless_short}
use Rattle.code_of.specs.Stores.{FieldKey, a_name, an_index, a_register, evaluated, short_number, name_in, field_key_by, beside_quiet, field_key, object_of, key_code, StoredValue, constant_value, local_value, made_value, value_code, is_constant, value_seat, field_store_by, fields_store, keyed_store, is_field, stores_field, room_of_key, room_of_value, room_above, keyed_room}

pub record StoresField (targets es : Exps) : Type 0 where
  pub line : ℕ
  pub object : Exp
  pub key : Exp
  pub value : Exp
  pub target : targets ≡ MoreExps (Index line object key) EndExps
  pub values : es ≡ MoreExps value EndExps

of_index : (x e : Exp) → is_field x ≡ true → StoresField (MoreExps x EndExps) (MoreExps e EndExps)
of_index (Index line object key) e h = record { line = line; object = object; key = key; value = e; target = refl; values = refl }
of_index _ e h = absurd (cc)

pub stores_field_is : (targets es : Exps) → stores_field targets es ≡ true → StoresField targets es
stores_field_is EndExps es h = absurd (cc)
stores_field_is (MoreExps x (MoreExps y targets)) es h = absurd (cc)
stores_field_is (MoreExps x EndExps) EndExps h = absurd (cc)
stores_field_is (MoreExps x EndExps) (MoreExps e (MoreExps d es)) h = absurd (cc)
stores_field_is (MoreExps x EndExps) (MoreExps e EndExps) h = of_index x e h

-- a key that is a name

pub record IsName (constants : List Const) (key : Exp) (number : ℕ) : Type 0 where
  pub line : ℕ
  pub bytes : List ℕ
  pub is : key ≡ Str line bytes
  pub same : number ≡ number_in constants (StrConst bytes)
  pub short : number < 256

pub short_is : (n number : ℕ) → short_number n ≡ Some number → (number ≡ n) × (number < 256)
short_is n number h = by (nat_lt n 256) refl h
  where
    by : (b : Bool) → nat_lt n 256 ≡ b → cond b (Some n) None ≡ Some number → (number ≡ n) × (number < 256)
    by true below h = let same = some_is n number h in let less = ltb-true n 256 below in (sym same, omega (arith, same, less))
    by false below h = absurd (cc)

pub name_is : (constants : List Const) (key : Exp) (number : ℕ) → name_in constants key ≡ Some number → IsName constants key number
name_is constants (Str line bytes) number h =
    let short = short_is (number_in constants (StrConst bytes)) number h in
    record { line = line; bytes = bytes; is = refl; same = short.0; short = short.1 }
name_is constants _ number h = absurd (cc)

-- where the key stands

none_some : {A : Type 0} (n : ℕ) → None ≡ Some n → A
none_some n h = absurd (cc)

named_by : (name index local : Option ℕ) (number : ℕ) → field_key_by name index local ≡ a_name number → name ≡ Some number
named_by (Some m) index local number h = cc
named_by None (Some n) local number h = cc
named_by None None (Some r) number h = cc
named_by None None None number h = cc

indexed_by : (name index local : Option ℕ) (n : ℕ) → field_key_by name index local ≡ an_index n → index ≡ Some n
indexed_by (Some m) index local n h = cc
indexed_by None (Some m) local n h = cc
indexed_by None None (Some r) n h = cc
indexed_by None None None n h = cc

standing_by : (name index local : Option ℕ) (r : ℕ) → field_key_by name index local ≡ a_register r → local ≡ Some r
standing_by (Some m) index local r h = cc
standing_by None (Some n) local r h = cc
standing_by None None (Some q) r h = cc
standing_by None None None r h = cc

beside_is : (quiet : Bool) (local : Option ℕ) (r : ℕ) → beside_quiet quiet local ≡ Some r → local ≡ Some r
beside_is false local r h = none_some r h
beside_is true local r h = h

beside_some : (quiet : Bool) (local : Option ℕ) (r : ℕ) → beside_quiet quiet local ≡ Some r → quiet ≡ true
beside_some false local r h = none_some r h
beside_some true local r h = refl

-- a key that stands so is that name, that numeral, or that local, and a local is there only if the value is quiet
pub record FieldKeyStands (constants : List Const) (quiet : Bool) (key : Exp) (s : FieldKey) : Type 0 where
  pub name : (number : ℕ) → s ≡ a_name number → IsName constants key number
  pub index : (n : ℕ) → s ≡ an_index n → IsNumeral key n 255
  pub local : (r : ℕ) → s ≡ a_register r → local_of key ≡ Some r
  pub only : (r : ℕ) → s ≡ a_register r → quiet ≡ true

pub field_key_stands : (constants : List Const) (quiet : Bool) (key : Exp) → FieldKeyStands constants quiet key (field_key constants quiet key)
field_key_stands constants quiet key =
    let name = name_in constants key in
    let index = numeral_of key (Some 255) in
    let local = beside_quiet quiet (local_of key) in
    record {
      name = λ number h. name_is constants key number (named_by name index local number h);
      index = λ n h. numeral_is key 255 n (indexed_by name index local n h);
      local = λ r h. beside_is quiet (local_of key) r (standing_by name index local r h);
      only = λ r h. beside_some quiet (local_of key) r (standing_by name index local r h);
    }

-- an object that stays is that local, and what is evaluated behind it is quiet

pub record ObjectStays (key : FieldKey) (quiet : Bool) (object : Exp) (r : ℕ) : Type 0 where
  pub local : local_of object ≡ Some r
  pub only : quiet ≡ true
  pub key_stays : key ≡ evaluated → ⊥

pub object_stays : (key : FieldKey) (quiet : Bool) (object : Exp) (r : ℕ) → object_of key quiet object ≡ Some r → ObjectStays key quiet object r
object_stays evaluated quiet object r h = none_some r h
object_stays (a_name number) quiet object r h = record { local = beside_is quiet (local_of object) r h; only = beside_some quiet (local_of object) r h; key_stays = λ e. cc }
object_stays (an_index n) quiet object r h = record { local = beside_is quiet (local_of object) r h; only = beside_some quiet (local_of object) r h; key_stays = λ e. cc }
object_stays (a_register q) quiet object r h = record { local = beside_is quiet (local_of object) r h; only = beside_some quiet (local_of object) r h; key_stays = λ e. cc }

-- sizes

key_short : (key : FieldKey) (code : List Coded) → length (key_code key code) ≤ length code
key_short evaluated code = omega arith
key_short (a_name number) code = omega arith
key_short (an_index n) code = omega arith
key_short (a_register r) code = omega arith

value_short : (value : StoredValue) (code : List Coded) → length (value_code value code) ≤ length code
value_short made_value code = omega arith
value_short (constant_value number) code = omega arith
value_short (local_value r) code = omega arith

pub keyed_store_short : (key : FieldKey) (value : StoredValue) (second third : List Coded) (t line : ℕ) → length (keyed_store key value second third t line) ≤ length second + (length third + 1)
keyed_store_short key value second third t line =
    omega (
      arith,
      key_short key second,
      value_short value third,
      length-append (key_code key second) (value_code value third ++ field_store_by key (is_constant value) t t (value_seat value (t + 2)) line ∷ []),
      length-append (value_code value third) (field_store_by key (is_constant value) t t (value_seat value (t + 2)) line ∷ []),
    )

pub fields_store_short : (key : FieldKey) (object : Option ℕ) (value : StoredValue) (first second third : List Coded) (t line : ℕ) → length (fields_store key object value first second third t line) ≤ length first + (length second + (length third + 1))
fields_store_short key object value first second third t line =
    omega (
      arith,
      unless_short object first,
      key_short key second,
      value_short value third,
      length-append (unless object first) (key_code key second ++ (value_code value third ++ field_store_by key (is_constant value) (seat object t) t (value_seat value (t + 2)) line ∷ [])),
      length-append (key_code key second) (value_code value third ++ field_store_by key (is_constant value) (seat object t) t (value_seat value (t + 2)) line ∷ []),
      length-append (value_code value third) (field_store_by key (is_constant value) (seat object t) t (value_seat value (t + 2)) line ∷ []),
    )

-- rooms of a field of a constructor, whose table stands in front

pub room_above_table : (key : FieldKey) (second : ℕ) → room_of_key key second ≤ 1 + room_above key second
room_above_table evaluated second = omega arith
room_above_table (a_name number) second = omega arith
room_above_table (an_index n) second = omega arith
room_above_table (a_register r) second = omega arith

pub room_above_key : (value : StoredValue) (third : ℕ) → room_of_value value (2 + third) ≤ 1 + room_of_value value (1 + third)
room_above_key made_value third = omega arith
room_above_key (constant_value number) third = omega arith
room_above_key (local_value r) third = omega arith

pub keyed_room_few : (key : FieldKey) (value : StoredValue) (second third : ℕ) → keyed_room key value second third ≤ max second (1 + third)
keyed_room_few key value second third = by (room_above key second) (room_of_value value (1 + third)) (above_few key) (value_few value)
  where
    above_few : (key : FieldKey) → room_above key second ≤ second
    above_few evaluated = omega arith
    above_few (a_name number) = omega arith
    above_few (an_index n) = omega arith
    above_few (a_register r) = omega arith

    value_few : (value : StoredValue) → room_of_value value (1 + third) ≤ 1 + third
    value_few made_value = omega arith
    value_few (constant_value number) = omega arith
    value_few (local_value r) = omega arith

    by : (a b : ℕ) → a ≤ second → b ≤ 1 + third → max a b ≤ max second (1 + third)
    by a b h k = omega arith
