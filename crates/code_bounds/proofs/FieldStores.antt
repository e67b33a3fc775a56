-- The code of a value that is stored in a field takes the registers that are counted for it, and is short.
use Rattle.std.proofs.Common.{◌≡◌, ℕ, ◌+◌, ◌<◌, ◌≤◌, ◌^◌, max, Bool, List, [], ◌∷◌, ◌++◌, Option, Some, None, refl, lit≤, arith}
use Rattle.tree_core.specs.Tree.{Exp, Index}
use Rattle.code_core.specs.declared.proto.Const.{Const}
use Rattle.code_of.specs.Expressions.{made_by, exp_code}
use Rattle.code_of.specs.Operands.{seat, unless}
use Rattle.code_of.specs.StoredValues.{stored_value}
use Rattle.code_of.specs.Parts.{field_code}
use Rattle.code_of.specs.Rooms.{room_of, room_of_field}
use Rattle.code_of.specs.Stores.{FieldKey, a_name, an_index, a_register, evaluated, is_quiet, field_key, object_of, key_code, StoredValue, constant_value, local_value, made_value, value_code, is_constant, value_seat, field_store_by, fields_store, room_unless, room_of_key, room_of_value, fields_room}
use Rattle.code_of.proofs.Stores.{FieldKeyStands, field_key_stands, object_stays}
use Rattle.code_of.proofs.StoredValues.{ValueStands, value_stands}
use Rattle.scope_core.specs.Held.{held}
use Rattle.scope_laws.specs.Finding.{ExpFinds}
use Rattle.code_bounds.proofs.Tops.{top, third_room, any_store, any_store_index, any_store_name}
use Rattle.code_bounds.proofs.Expressions.{some_room, local_found}
use Rattle.code_bounds.proofs.Room.{HasRoom, room_as, room_append, room_of_top}
use Rattle.code_bounds.proofs.Simple.{exp_room}

module _ (cs : List Const) (hidden : List ℕ) (ups : ℕ) where
  -- the store names registers below the limit
  store_top : (s : FieldKey) (quiet : Bool) (key : Exp) (constant : Bool) (x t v size line : ℕ) → FieldKeyStands cs quiet key s → ExpFinds key hidden size ups → size ≤ t → x ≤ t → t + 3 ≤ 250 → v < 2 ^ 8 → third_room constant v ≤ 250 → top (field_store_by s constant x t v line ∷ []) ≤ 250
  store_top (a_name number) quiet key constant x t v size line stands known above low few v_fits v_few = let short = (stands.name number refl).short in let e = any_store_name constant x number v (omega (arith, low, few)) (omega (arith, short)) v_fits in omega (arith, e, low, few, v_few)
  store_top (an_index n) quiet key constant x t v size line stands known above low few v_fits v_few = let small = (stands.index n refl).small in let e = any_store_index constant x n v (omega (arith, low, few)) (omega (arith, small)) v_fits in omega (arith, e, low, few, v_few)
  store_top (a_register r) quiet key constant x t v size line stands known above low few v_fits v_few =
      let below = local_found hidden ups key r size (stands.local r refl) known in
      let e = any_store constant x r v (omega (arith, low, few)) (omega (arith, below, above, few)) v_fits in
      omega (arith, e, below, above, low, few, v_few)
  store_top evaluated quiet key constant x t v size line stands known above low few v_fits v_few = let e = any_store constant x (t + 1) v (omega (arith, low, few)) (omega (arith, few)) v_fits in omega (arith, e, low, few, v_few)

  module _ (stack : ℕ) where
    -- a value that stays has no code
    value_room : (value : StoredValue) (e : Exp) (size t j : ℕ) → ExpFinds e hidden size ups → size ≤ t → t + 2 + held e ≤ 250 → t + 3 ≤ 250 →
        HasRoom stack (value_code value (exp_code cs e (t + 2) j 2)) (t ≤ stack → t + room_of_value value (2 + room_of cs e 2) ≤ stack)
    value_room made_value e size t j known above few fits =
        let some = some_room cs e 2 (omega arith) in
        room_as (exp_room cs hidden ups stack e size (t + 2) j 2 known (omega arith) few (omega (arith, fits)) (lit≤ tt)) (λ h small. omega (arith, h, some))
    value_room (constant_value number) e size t j known above few fits = record { below = omega arith; gives = λ h small. omega (arith, small) }
    value_room (local_value r) e size t j known above few fits = record { below = omega arith; gives = λ h small. omega (arith, small) }

    -- where its store names it
    seat_few : (value : StoredValue) (e : Exp) (t : ℕ) → ValueStands cs e value → ExpFinds e hidden t ups → t + 3 ≤ 250 → (value_seat value (t + 2) < 2 ^ 8) × (third_room (is_constant value) (value_seat value (t + 2)) ≤ 250)
    seat_few made_value e t stands known fits = (omega (arith, fits), omega (arith, fits))
    seat_few (constant_value number) e t stands known fits = let short = stands.short in (omega (arith, short), omega arith)
    seat_few (local_value r) e t stands known fits = let below = local_found hidden ups e r t stands known in (omega (arith, below, fits), omega (arith, below, fits))

    key_room : (s : FieldKey) (e : Exp) (size t j : ℕ) → ExpFinds e hidden size ups → size ≤ t → t + 1 + held e ≤ 250 → t + 2 ≤ 250 →
        HasRoom stack (key_code s (exp_code cs e (t + 1) j 2)) (t ≤ stack → t + room_of_key s (room_of cs e 2) ≤ stack)
    key_room evaluated e size t j known above few fits =
        let some = some_room cs e 2 (omega arith) in
        room_as (exp_room cs hidden ups stack e size (t + 1) j 2 known (omega arith) few (omega (arith, fits)) (lit≤ tt)) (λ h small. omega (arith, h, some))
    key_room (a_name number) e size t j known above few fits = record { below = omega arith; gives = λ h small. omega (arith, small) }
    key_room (an_index n) e size t j known above few fits = record { below = omega arith; gives = λ h small. omega (arith, small) }
    key_room (a_register r) e size t j known above few fits = record { below = omega arith; gives = λ h small. omega (arith, small) }

    pub field_room : (line : ℕ) (object key e : Exp) (t j after : ℕ) → ExpFinds object hidden t ups → ExpFinds key hidden t ups → ExpFinds e hidden t ups → t + held object ≤ 250 → t + 1 + held key ≤ 250 → t + 2 + held e ≤ 250 → t + 3 ≤ 250 →
        HasRoom stack (field_code cs (Index line object key) e t j after) (t ≤ stack → t + room_of_field cs (Index line object key) e ≤ stack)
    field_room line object key e t j after known_object known_key known few_object few_key few fits = by (object_of s quiet object) refl
      where
        value : StoredValue
        value = stored_value cs e

        quiet : Bool
        quiet = is_quiet e

        s : FieldKey
        s = field_key cs (is_quiet e) key

        stands : FieldKeyStands cs (is_quiet e) key (field_key cs (is_quiet e) key)
        stands = field_key_stands cs (is_quiet e) key

        seat_fits : (value_seat (stored_value cs e) (t + 2) < 2 ^ 8) × (third_room (is_constant (stored_value cs e)) (value_seat (stored_value cs e) (t + 2)) ≤ 250)
        seat_fits = seat_few (stored_value cs e) e t (value_stands cs e) known fits

        by : (at : Option ℕ) → object_of s quiet object ≡ at → HasRoom stack (fields_store s at value (exp_code cs object t j 2) (exp_code cs key (t + 1) (j + made_by object) 2) (exp_code cs e (t + 2) after 2) t line)
            (t ≤ stack → t + fields_room s at value (room_of cs object 2) (room_of cs key 2) (room_of cs e 2) ≤ stack)
        by at is =
            let second = key_code s (exp_code cs key (t + 1) (j + made_by object) 2) in
            let third = value_code value (exp_code cs e (t + 2) after 2) in
            let last = field_store_by s (is_constant value) (seat at t) t (value_seat value (t + 2)) line ∷ [] in
            let a = object_room at in
            let b = key_room s key t t (j + made_by object) known_key (omega arith) few_key (omega (arith, fits)) in
            let c = value_room value e t t after known (omega arith) few fits in
            let d = store_top s quiet key (is_constant value) (seat at t) t (value_seat value (t + 2)) t line stands known_key (omega arith) (seat_low at is) fits seat_fits.0 seat_fits.1 in
            room_as (room_append (unless at (exp_code cs object t j 2)) (second ++ (third ++ last)) a (room_append second (third ++ last) b (room_append third last c (room_of_top {stack = stack} last d))))
            (λ all small. together (room_unless at (room_of cs object 2)) (room_of_key s (room_of cs key 2)) (room_of_value value (2 + room_of cs e 2)) (all.0 small) (all.1.0 small) (all.1.1.0 small))
          where
            together : (a b c : ℕ) → t + a ≤ stack → t + b ≤ stack → t + c ≤ stack → t + max a (max b c) ≤ stack
            together a b c h k l = omega arith

            seat_low : (at : Option ℕ) → object_of s quiet object ≡ at → seat at t ≤ t
            seat_low None is = omega arith
            seat_low (Some r) is = let below = local_found hidden ups object r t (object_stays s quiet object r is).local known_object in omega (arith, below)

            object_room : (at : Option ℕ) → HasRoom stack (unless at (exp_code cs object t j 2)) (t ≤ stack → t + room_unless at (room_of cs object 2) ≤ stack)
            object_room None =
                let some = some_room cs object 2 (omega arith) in
                room_as (exp_room cs hidden ups stack object t t j 2 known_object (omega arith) few_object (omega (arith, fits)) (lit≤ tt)) (λ h small. omega (arith, h, some))
            object_room (Some r) = record { below = omega arith; gives = λ h small. omega (arith, small) }
