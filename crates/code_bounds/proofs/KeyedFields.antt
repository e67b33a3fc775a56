-- The code of a constructor's field with its key takes the registers that are counted for it.
use Rattle.std.proofs.Common.{◌≡◌, ℕ, ◌+◌, ◌<◌, ◌≤◌, ◌^◌, max, Bool, List, [], ◌∷◌, ◌++◌, refl, arith}
use Rattle.code_core.specs.declared.proto.Const.{Const}
use Rattle.tree_core.specs.Tree.{Exp}
use Rattle.code_of.specs.Coded.{Coded}
use Rattle.code_of.specs.Stores.{FieldKey, a_name, an_index, a_register, evaluated, key_code, StoredValue, constant_value, local_value, made_value, value_code, is_constant, value_seat, field_store_by, keyed_store, room_of_value, room_above, keyed_room}
use Rattle.code_of.proofs.Stores.{FieldKeyStands}
use Rattle.code_bounds.proofs.Tops.{top, top_append, third_room, any_store, any_store_index, any_store_name}
use Rattle.code_bounds.proofs.Pieces.{Takes, ListTakes}

-- a key that is made, whose room is x
key_takes : (s : FieldKey) (t x : ℕ) (first : List Coded) → (t + 1 + x ≤ 255 → Takes (t + 1) x first) → t + 1 + room_above s x ≤ 255 → Takes (t + 1) (room_above s x) (key_code s first)
key_takes evaluated t x first takes small = takes small
key_takes (a_name number) t x first takes small = (omega arith, omega arith)
key_takes (an_index n) t x first takes small = (omega arith, omega arith)
key_takes (a_register r) t x first takes small = (omega arith, omega arith)

-- a value that is made, whose room is y
value_takes : (value : StoredValue) (t y : ℕ) (second : List Coded) → 1 ≤ y → (t + 2 + y ≤ 255 → Takes (t + 2) y second) → t + 1 + room_of_value value (1 + y) ≤ 255
    → Takes (t + 1) (room_of_value value (1 + y)) (value_code value second)
value_takes made_value t y second some takes small = let h = takes (omega (arith, small)) in (omega (arith, h.0), omega (arith, h.1, some))
value_takes (constant_value number) t y second some takes small = (omega arith, omega arith)
value_takes (local_value r) t y second some takes small = (omega arith, omega arith)

-- the value stands so high, if it is no constant
seat_high : (value : StoredValue) (t y : ℕ) → 1 ≤ y → ((r : ℕ) → value ≡ local_value r → r < t) → third_room (is_constant value) (value_seat value (t + 2)) ≤ t + 1 + room_of_value value (1 + y)
seat_high made_value t y some low = omega (arith, some)
seat_high (constant_value number) t y some low = omega arith
seat_high (local_value r) t y some low = let below = low r refl in omega (arith, below)

seat_fits : (value : StoredValue) (t y : ℕ) → 1 ≤ y → ((r : ℕ) → value ≡ local_value r → r < t) → ((n : ℕ) → value ≡ constant_value n → n < 256) → t + 1 + room_of_value value (1 + y) ≤ 255 → value_seat value (t + 2) < 2 ^ 8
seat_fits made_value t y some low short small = omega (arith, some, small)
seat_fits (constant_value number) t y some low short small = let few = short number refl in omega (arith, few)
seat_fits (local_value r) t y some low short small = let below = low r refl in omega (arith, below, small)

store_high : (cs : List Const) (quiet : Bool) (key : Exp) (s : FieldKey) (constant : Bool) (t v x high line : ℕ) → FieldKeyStands cs quiet key s → 1 ≤ x → t + 1 + max (room_above s x) high ≤ 255 → v < 2 ^ 8 → third_room constant v ≤ t + 1 + high
    → ((r : ℕ) → s ≡ a_register r → r < t) → top (field_store_by s constant t t v line ∷ []) ≤ t + 1 + max (room_above s x) high
store_high cs quiet key (a_name number) constant t v x high line stands some small v_fits v_high low =
    let short = (stands.name number refl).short in
    let e = any_store_name constant t number v (omega (arith, small)) (omega (arith, short)) v_fits in
    omega (arith, e, v_high)
store_high cs quiet key (an_index n) constant t v x high line stands some small v_fits v_high low =
    let few = (stands.index n refl).small in
    let e = any_store_index constant t n v (omega (arith, small)) (omega (arith, few)) v_fits in
    omega (arith, e, v_high)
store_high cs quiet key (a_register r) constant t v x high line stands some small v_fits v_high low =
    let below = low r refl in
    let e = any_store constant t r v (omega (arith, small)) (omega (arith, small, below)) v_fits in
    omega (arith, e, v_high, below)
store_high cs quiet key evaluated constant t v x high line stands some small v_fits v_high low =
    let e = any_store constant t (t + 1) v (omega (arith, small)) (omega (arith, small, some)) v_fits in
    omega (arith, e, v_high, some)

-- the field and those behind it

join : (t a b r m o l n all : ℕ) → all ≡ max (max m (max o l)) n → m ≤ t + 1 + a → t + 1 + a ≤ max (t + 1) m → o ≤ t + 1 + b → t + 1 + b ≤ max (t + 1) o → l ≤ t + 1 + max a b → n ≤ t + (1 + r) → t + (1 + r) ≤ max (t + 1) n
    → (all ≤ t + (1 + max (max a b) r)) × (t + (1 + max (max a b) r) ≤ max (t + 1) all)
join t a b r m o l n all is p q u v w g h = (omega arith, omega arith)

pub keyed_take : (cs : List Const) (quiet : Bool) (key : Exp) (s : FieldKey) (value : StoredValue) (t x y r line : ℕ) (first second rest : List Coded) → FieldKeyStands cs quiet key s → 1 ≤ x → 1 ≤ y
    → ((q : ℕ) → s ≡ a_register q → q < t) → ((q : ℕ) → value ≡ local_value q → q < t) → ((n : ℕ) → value ≡ constant_value n → n < 256) → (t + 1 + x ≤ 255 → Takes (t + 1) x first) → (t + 2 + y ≤ 255 → Takes (t + 2) y second)
    → t + (1 + max (keyed_room s value x y) r) ≤ 255 → ListTakes t (t + 1) (1 + r) rest
    → ListTakes t (t + 1) (1 + max (keyed_room s value x y) r) (keyed_store s value first second t line ++ rest)
keyed_take cs quiet key s value t x y r line first second rest stands some_key some key_low value_low value_short takes_key takes small k =
    let v = value_seat value (t + 2) in
    let last = field_store_by s (is_constant value) t t v line ∷ [] in
    let high = room_of_value value (1 + y) in
    let h = key_takes s t x first takes_key (omega (arith, small)) in
    let i = value_takes value t y second some takes (omega (arith, small)) in
    let fits = seat_fits value t y some value_low value_short (omega (arith, small)) in
    let d = store_high cs quiet key s (is_constant value) t v x high line stands some_key (omega (arith, small)) fits (seat_high value t y some value_low) key_low in
    let a = top_append (key_code s first) (value_code value second ++ last) in
    let b = top_append (value_code value second) last in
    let c = top_append (keyed_store s value first second t line) rest in
    join t (room_above s x) high r (top (key_code s first)) (top (value_code value second)) (top last) (top rest) (top (keyed_store s value first second t line ++ rest)) (omega (arith, a, b, c)) h.0 h.1 i.0 i.1 d k.0 k.1
