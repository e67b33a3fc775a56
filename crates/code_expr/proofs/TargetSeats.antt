-- Where the key of a target stands, and a target that is written piece by piece.
use Rattle.std.proofs.Common.{◌≡◌, ℕ, ◌+◌, List, [], ◌++◌, Some, None, refl, sym, ap, ap₂, ◌∙◌, append-nil}
use Rattle.tree_core.specs.Tree.{Exp}
use Rattle.code_core.specs.declared.proto.Const.{Const}
use Rattle.code_of.specs.Expressions.{made_by, exp_code}
use Rattle.code_of.specs.Operands.{numeral_of}
use Rattle.code_of.specs.Stores.{FieldKey, a_name, an_index, a_register, evaluated, name_in, field_key_by, key_code}
use Rattle.code_of.specs.Targets.{waiting_key, text_number, text_key}
use Rattle.code_of.proofs.Targets.{Waits, key_waits}
use Rattle.code_emitter.specs.Listing.{Listing, listed, followed}
use Rattle.code_expr.specs.Stores.{key_seat, code_if, is_above, made_if}
use Rattle.code_expr.specs.declared.stores.KeySeat.TheVariants.{Name, Index as Numeral, Above}
use Rattle.code_emitter.proofs.Joining.{listing, then_made}
use Rattle.code_expr.proofs.FieldSeats.{seat_code_is}

pub waiting_named : (constants : List Const) (key : Exp) (number : ℕ) → name_in constants key ≡ Some number → key_seat (waiting_key constants key) ≡ Name number
waiting_named constants key number h = ap (λ o. key_seat (field_key_by o (numeral_of key (Some 255)) None)) h

pub waiting_indexed : (constants : List Const) (key : Exp) (n : ℕ) → name_in constants key ≡ None → numeral_of key (Some 255) ≡ Some n → key_seat (waiting_key constants key) ≡ Numeral n
waiting_indexed constants key n h i = ap₂ (λ o m. key_seat (field_key_by o m None)) h i

pub waiting_above : (constants : List Const) (key : Exp) → name_in constants key ≡ None → numeral_of key (Some 255) ≡ None → key_seat (waiting_key constants key) ≡ Above
waiting_above constants key h i = ap₂ (λ o m. key_seat (field_key_by o m None)) h i

pub text_named : (constants : List Const) (text : List ℕ) (number : ℕ) → text_number constants text ≡ Some number → key_seat (text_key constants text) ≡ Name number
text_named constants text number h = ap (λ o. key_seat (field_key_by o None None)) h

pub text_above : (constants : List Const) (text : List ℕ) → text_number constants text ≡ None → key_seat (text_key constants text) ≡ Above
text_above constants text h = ap (λ o. key_seat (field_key_by o None None)) h

pub nothing_listed : (s : Listing) → s ≡ listed s []
nothing_listed s = ap (λ xs. listing s.constants xs s.made) (sym (append-nil s.steps))

-- a key that waits in the store makes no function
waiting_makes : (s : FieldKey) (constants : List Const) (key : Exp) → Waits constants key s → made_if (is_above (key_seat s)) (made_by key) ≡ made_by key
waiting_makes evaluated constants key waits = refl
waiting_makes (a_name number) constants key waits = sym (ap made_by waits.is)
waiting_makes (an_index n) constants key waits = sym (ap made_by waits.is)
waiting_makes (a_register r) constants key waits = absurd waits

pub field_aimed :
    (s0 s1 q : Listing) (object key : Exp) (r : ℕ) → s1 ≡ followed s0 (exp_code s0.constants object r s0.made 2) (made_by object)
    → q ≡ followed s1 (code_if (is_above (key_seat (waiting_key s0.constants key))) (exp_code s1.constants key (r + 1) s1.made 2)) (made_if (is_above (key_seat (waiting_key s0.constants key))) (made_by key))
    → q ≡ followed s0 (exp_code s0.constants object r s0.made 2 ++ key_code (waiting_key s0.constants key) (exp_code s0.constants key (r + 1) (s0.made + made_by object) 2)) (made_by object + made_by key)
field_aimed s0 s1 q object key r e1 e2 =
    let s = waiting_key s0.constants key in
    then_made s0 s1 q (exp_code s0.constants object r s0.made 2) (made_by object) (λ k j. key_code s (exp_code k key (r + 1) j 2)) (made_by key) e1
    (e2 ∙ ap₂ (followed s1) (seat_code_is s (exp_code s1.constants key (r + 1) s1.made 2)) (waiting_makes s s0.constants key (key_waits s0.constants key)))
