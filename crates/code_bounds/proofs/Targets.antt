-- The key of a target, where the store names it and where it is made, and a store that is one instruction: the registers that they take.
use Rattle.std.proofs.Common.{◌≡◌, ℕ, ◌+◌, ◌<◌, ◌≤◌, ◌^◌, Bool, List, [], ◌∷◌, Some, ap, subst, lit≤, arith}
use Rattle.tree_core.specs.declared.name.Place.{Place}
use Rattle.tree_core.specs.declared.name.Place.TheVariants.{Unset, Upvalue, GlobalIn, GlobalOf, Local as LocalPlace}
use Rattle.tree_core.specs.Tree.{Exp}
use Rattle.code_core.specs.declared.opcode.Opcode.TheVariants.{SetTabUp, SetField}
use Rattle.code_core.specs.declared.proto.Const.{Const}
use Rattle.code_core.specs.Instruction.{abc}
use Rattle.code_of.specs.Coded.{Coded}
use Rattle.code_of.specs.Expressions.{exp_code}
use Rattle.code_of.specs.Rooms.{room_of}
use Rattle.code_of.specs.Stores.{FieldKey, a_name, an_index, a_register, evaluated, key_code, field_store}
use Rattle.code_of.specs.Targets.{global_store}
use Rattle.code_of.proofs.Targets.{Waits, some_store}
use Rattle.scope_core.specs.Held.{held}
use Rattle.scope_laws.specs.Finding.{PlaceIsThere, ExpFinds}
use Rattle.code_bounds.proofs.Tops.{top, one_store, one_store_index, one_store_name, third_room, any_store_name, any_store_global}
use Rattle.code_bounds.proofs.Room.{HasRoom, room_as}
use Rattle.code_bounds.proofs.Simple.{exp_room}

pub key_top : (s : FieldKey) (code : List Coded) → top (key_code s code) ≤ top code
key_top evaluated code = omega arith
key_top (a_name number) code = omega arith
key_top (an_index n) code = omega arith
key_top (a_register r) code = omega arith

module _ (cs : List Const) where
  -- the store names the registers of the table, of a key that is made, and of the value
  pub waiting_top : (s : FieldKey) (key : Exp) (r v line limit : ℕ) → Waits cs key s → r + 2 ≤ limit → v + 1 ≤ limit → limit ≤ 250 → top (field_store s r r v line ∷ []) ≤ limit
  waiting_top (a_name number) key r v line limit waits a b small = let short = waits.short in let e = one_store_name r number v (omega arith) (omega (arith, short)) (omega arith) in omega (arith, e)
  waiting_top (an_index n) key r v line limit waits a b small = let few = waits.small in let e = one_store_index r n v (omega arith) (omega (arith, few)) (omega arith) in omega (arith, e)
  waiting_top (a_register q) key r v line limit waits a b small = absurd waits
  waiting_top evaluated key r v line limit waits a b small = let e = one_store r (r + 1) v (omega arith) (omega arith) (omega arith) in omega (arith, e)

  module _ (hidden : List ℕ) (ups : ℕ) where
    pub waiting_room : (stack : ℕ) (s : FieldKey) (key : Exp) (size r j : ℕ) → Waits cs key s → ExpFinds key hidden size ups → size ≤ r → r + 1 + held key ≤ 250 → r + 2 ≤ 250 →
        HasRoom stack (key_code s (exp_code cs key (r + 1) j 2)) (r + 2 ≤ stack → r + 1 + room_of cs key 2 ≤ stack)
    waiting_room stack evaluated key size r j waits known above few fits =
        room_as (exp_room cs hidden ups stack key size (r + 1) j 2 known (omega arith) few (omega (arith, fits)) (lit≤ tt)) (λ h room. omega (arith, h, room))
    waiting_room stack (a_name number) key size r j waits known above few fits = let one = ap (λ q. room_of cs q 2) waits.is in record { below = omega arith; gives = λ h room. omega (arith, one, room) }
    waiting_room stack (an_index n) key size r j waits known above few fits = let one = ap (λ q. room_of cs q 2) waits.is in record { below = omega arith; gives = λ h room. omega (arith, one, room) }
    waiting_room stack (a_register q) key size r j waits known above few fits = absurd waits

    -- a local or a constant that goes to a global name
    pub local_top : (place : Place) (number : ℕ) (constant : Bool) (v line size : ℕ) (x : Coded) → global_store place number constant v line ≡ Some x → PlaceIsThere hidden size ups place → number < 256 → v < 2 ^ 8 → third_room constant v ≤ size → size ≤ 250 → ups ≤ 255 → top (x ∷ []) ≤ 250
    local_top Unset number constant v line size x h known short fits below small few = absurd known
    local_top (LocalPlace n) number constant v line size x h known short fits below small few = absurd (cc)
    local_top (Upvalue u) number constant v line size x h known short fits below small few = absurd (cc)
    local_top (GlobalIn n) number constant v line size x h known short fits below small few =
        let low = known.0 in
        let e = any_store_name constant n number v (omega (arith, low, small)) (omega (arith, short)) fits in
        subst (λ z. top (z ∷ []) ≤ 250) (some_store (abc SetField n number v constant, line) x h) (omega (arith, e, low, below, small))
    local_top (GlobalOf u) number constant v line size x h known short fits below small few =
        let e = any_store_global constant u number v (omega (arith, known, few)) (omega (arith, short)) fits in
        subst (λ z. top (z ∷ []) ≤ 250) (some_store (abc SetTabUp u number v constant, line) x h) (omega (arith, e, below, small))
