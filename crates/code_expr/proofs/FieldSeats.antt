-- Where the key of a stored field stands, and the store that is written piece by piece.
use Rattle.std.proofs.Common.{◌≡◌, ℕ, ◌+◌, Bool, List, [], ◌∷◌, ◌++◌, Option, Some, None, refl, sym, ap, ap₂, ◌∙◌, arith}
use Rattle.tree_core.specs.Tree.{Exp, Index}
use Rattle.code_core.specs.declared.proto.Const.{Const}
use Rattle.code_of.specs.Coded.{Coded}
use Rattle.code_of.specs.Expressions.{made_by, exp_code}
use Rattle.code_of.specs.Operands.{local_of, numeral_of, seat, unless}
use Rattle.code_of.specs.Parts.{field_code}
use Rattle.code_of.specs.Stores.{FieldKey, a_name, an_index, a_register, evaluated, StoredValue, value_code, is_constant, value_seat, name_in, field_key_by, is_quiet, beside_quiet, field_key, object_of, key_code, field_store_by}
use Rattle.code_of.specs.StoredValues.{stored_value}
use Rattle.code_of.proofs.Operands.{local_makes}
use Rattle.code_of.proofs.Stores.{FieldKeyStands, name_is, field_key_stands, object_stays}
use Rattle.code_of.proofs.StoredValues.{value_stands}
use Rattle.code_emitter.specs.Listing.{Listing, followed}
use Rattle.code_expr.specs.Stores.{key_seat, object_at, made_unless, code_if, is_above, made_if, value_place, is_made, place_store, filled_code}
use Rattle.code_expr.specs.declared.stores.Slot.{Slot}
use Rattle.code_expr.specs.declared.stores.KeySeat.TheVariants.{Name, Index as Numeral, Register, Above}
use Rattle.code_emitter.proofs.Joining.{then_made}
use Rattle.code_emitter.proofs.Seats.{nothing_more}
use Rattle.code_expr.proofs.ValueSeats.{place_code_is, place_makes, place_store_is}

-- where the key stands

pub seat_named : (constants : List Const) (quiet : Bool) (key : Exp) (number : ℕ) → name_in constants key ≡ Some number → key_seat (field_key constants quiet key) ≡ Name number
seat_named constants quiet key number h = ap (λ o. key_seat (field_key_by o (numeral_of key (Some 255)) (beside_quiet quiet (local_of key)))) h

pub seat_indexed : (constants : List Const) (quiet : Bool) (key : Exp) (n : ℕ) → name_in constants key ≡ None → numeral_of key (Some 255) ≡ Some n → key_seat (field_key constants quiet key) ≡ Numeral n
seat_indexed constants quiet key n h i = ap₂ (λ o m. key_seat (field_key_by o m (beside_quiet quiet (local_of key)))) h i

pub seat_standing : (constants : List Const) (quiet : Bool) (key : Exp) (r : ℕ) → name_in constants key ≡ None → numeral_of key (Some 255) ≡ None → beside_quiet quiet (local_of key) ≡ Some r
    → key_seat (field_key constants quiet key) ≡ Register r
seat_standing constants quiet key r h i l = ap₂ (λ o m. key_seat (field_key_by o m (beside_quiet quiet (local_of key)))) h i ∙ ap (λ o. key_seat (field_key_by None None o)) l

pub seat_above : (constants : List Const) (quiet : Bool) (key : Exp) → name_in constants key ≡ None → numeral_of key (Some 255) ≡ None → beside_quiet quiet (local_of key) ≡ None
    → key_seat (field_key constants quiet key) ≡ Above
seat_above constants quiet key h i l = ap₂ (λ o m. key_seat (field_key_by o m (beside_quiet quiet (local_of key)))) h i ∙ ap (λ o. key_seat (field_key_by None None o)) l

pub stays_written : (s : Listing) (at : Option ℕ) (r : ℕ) (code : List Coded) (n : ℕ) → at ≡ Some r → s ≡ followed s (unless at code) (made_unless at n)
stays_written s at r code n h = nothing_more s ∙ ap (λ o. followed s (unless o code) (made_unless o n)) (sym h)

-- what stands makes no function

unless_makes : (at : Option ℕ) (e : Exp) → ((r : ℕ) → at ≡ Some r → local_of e ≡ Some r) → made_unless at (made_by e) ≡ made_by e
unless_makes None e h = refl
unless_makes (Some r) e h = sym (local_makes e r (h r refl))

-- a key that is a name makes none
pub name_makes : (constants : List Const) (object key : Exp) (number : ℕ) → name_in constants key ≡ Some number → made_by object ≡ made_by object + made_by key
name_makes constants object key number h = let none : made_by key ≡ 0 = ap made_by (name_is constants key number h).is in omega (arith, none)

key_makes : (s : FieldKey) (constants : List Const) (quiet : Bool) (key : Exp) → FieldKeyStands constants quiet key s → made_if (is_above (key_seat s)) (made_by key) ≡ made_by key
key_makes evaluated constants quiet key stands = refl
key_makes (a_name number) constants quiet key stands = sym (ap made_by (stands.name number refl).is)
key_makes (an_index n) constants quiet key stands = sym (ap made_by (stands.index n refl).is)
key_makes (a_register r) constants quiet key stands = sym (local_makes key r (stands.local r refl))

pub seat_code_is : (s : FieldKey) (code : List Coded) → code_if (is_above (key_seat s)) code ≡ key_code s code
seat_code_is evaluated code = refl
seat_code_is (a_name number) code = refl
seat_code_is (an_index n) code = refl
seat_code_is (a_register r) code = refl

object_at_is : (s : FieldKey) (quiet : Bool) (object : Exp) → object_at (key_seat s) quiet object ≡ object_of s quiet object
object_at_is evaluated quiet object = refl
object_at_is (a_name number) quiet object = refl
object_at_is (an_index n) quiet object = refl
object_at_is (a_register r) quiet object = refl

-- the pieces of a store make the whole together, whatever register the object stands in

abbrev slot_of : FieldKey → (x t line : ℕ) → Slot
slot_of s x t line = record { object = x; key = key_seat s; above = t + 1; line = line }

pub stored_written :
    (s0 q : Listing) (k : List Const) (line : ℕ) (key e : Exp) (x t : ℕ)
    → q ≡ followed s0 (filled_code s0.constants (slot_of (field_key k (is_quiet e) key) x t line) key (value_place (stored_value k e)) e (t + 2) s0.made)
    (made_if (is_above (key_seat (field_key k (is_quiet e) key))) (made_by key) + made_if (is_made (value_place (stored_value k e))) (made_by e))
    → q ≡ followed s0
    (key_code (field_key k (is_quiet e) key) (exp_code s0.constants key (t + 1) s0.made 2) ++ (value_code (stored_value k e) (exp_code s0.constants e (t + 2) (s0.made + made_by key) 2)
    ++ field_store_by (field_key k (is_quiet e) key) (is_constant (stored_value k e)) x t (value_seat (stored_value k e) (t + 2)) line ∷ []))
    (made_by key + made_by e)
stored_written s0 q k line key e x t h =
    let s = field_key k (is_quiet e) key in
    let value = stored_value k e in
    let second = exp_code s0.constants key (t + 1) s0.made 2 in
    let third = λ (n : ℕ). exp_code s0.constants e (t + 2) (s0.made + n) 2 in
    let made = made_if (is_made (value_place value)) (made_by e) in
    let last = place_store (key_seat s) (value_place value) x (t + 1) (t + 2) line ∷ [] in
    h
    ∙ ap₂ (λ c n. followed s0 (c ++ (code_if (is_made (value_place value)) (third n) ++ last)) (n + made)) (seat_code_is s second) (key_makes s k (is_quiet e) key (field_key_stands k (is_quiet e) key))
    ∙ ap₂ (λ c n. followed s0 (key_code s second ++ (c ++ last)) (made_by key + n)) (place_code_is value (third (made_by key))) (place_makes value k e (value_stands k e))
    ∙ ap (λ c. followed s0 (key_code s second ++ (value_code value (third (made_by key)) ++ c ∷ [])) (made_by key + made_by e)) (place_store_is s value x t (t + 2) line)

-- and so does its object
pub field_written :
    (s0 s1 q : Listing) (line : ℕ) (object key e : Exp) (t : ℕ) (at : Option ℕ) → at ≡ object_at (key_seat (field_key s0.constants (is_quiet e) key)) (is_quiet e) object
    → s1 ≡ followed s0 (unless at (exp_code s0.constants object t s0.made 2)) (made_unless at (made_by object))
    → q ≡ followed s1 (filled_code s1.constants (slot_of (field_key s0.constants (is_quiet e) key) (seat at t) t line) key (value_place (stored_value s0.constants e)) e (t + 2) s1.made)
    (made_if (is_above (key_seat (field_key s0.constants (is_quiet e) key))) (made_by key) + made_if (is_made (value_place (stored_value s0.constants e))) (made_by e))
    → q ≡ followed s0 (field_code s0.constants (Index line object key) e t s0.made (s0.made + (made_by object + made_by key))) (made_by object + made_by key + made_by e)
field_written s0 s1 q line object key e t at at_is e1 filled =
    then_made s0 s1 q (first at) m1 (λ k j. key_code s (exp_code k key (t + 1) j 2) ++ (value_code value (exp_code k e (t + 2) (j + m2) 2) ++ last)) (m2 + m3) (e1 ∙ ap (followed s0 (first at)) (unless_makes at object at_local))
    (stored_written s1 q s0.constants line key e (seat at t) t filled)
    ∙ ap₂ (λ j n. followed s0 (first at ++ (second ++ (value_code value (exp_code s0.constants e (t + 2) j 2) ++ last))) n) joined counted
    ∙ ap (λ o. followed s0 (first o ++ (second ++ (value_code value (exp_code s0.constants e (t + 2) (s0.made + (m1 + m2)) 2) ++ field_store_by s (is_constant value) (seat o t) t (value_seat value (t + 2)) line ∷ []))) (m1 + m2 + m3)) object_is
  where
    value : StoredValue
    value = stored_value s0.constants e

    s : FieldKey
    s = field_key s0.constants (is_quiet e) key

    m1 : ℕ
    m1 = made_by object

    m2 : ℕ
    m2 = made_by key

    m3 : ℕ
    m3 = made_by e

    first : Option ℕ → List Coded
    first o = unless o (exp_code s0.constants object t s0.made 2)

    second : List Coded
    second = key_code s (exp_code s0.constants key (t + 1) (s0.made + m1) 2)

    last : List Coded
    last = field_store_by s (is_constant value) (seat at t) t (value_seat value (t + 2)) line ∷ []

    object_is : at ≡ object_of s (is_quiet e) object
    object_is = at_is ∙ object_at_is s (is_quiet e) object

    at_local : (r : ℕ) → at ≡ Some r → local_of object ≡ Some r
    at_local r h = (object_stays s (is_quiet e) object r (sym object_is ∙ h)).local

    joined : s0.made + m1 + m2 ≡ s0.made + (m1 + m2)
    joined = omega arith

    counted : m1 + (m2 + m3) ≡ m1 + m2 + m3
    counted = omega arith
