-- Each name takes a register at least, and a method two or three.
use Rattle.std.proofs.Common.{◌≡◌, ℕ, ◌≤◌, arith, Bool, true, false, cond, List, Some, refl}
use Rattle.std.specs.Prelude.{nat_lt}
use Rattle.tree_core.specs.declared.name.Place.{Place}
use Rattle.tree_core.specs.declared.name.Place.TheVariants.{Unset, Upvalue, GlobalIn, GlobalOf, Local as LocalPlace}
use Rattle.tree_core.specs.Tree.{Exp, Var, Paren}
use Rattle.code_core.specs.declared.proto.Const.{Const}
use Rattle.code_core.specs.declared.proto.Const.TheVariants.{Str as StrConst}
use Rattle.code_of.specs.Constants.{number_in}
use Rattle.code_of.specs.Operands.{local_at, local_of}
use Rattle.code_of.specs.Rooms.{room_of, room_of_name, room_of_self, room_of_name_by}

either_some : (b : Bool) → 1 ≤ cond b 1 2
either_some true = omega arith
either_some false = omega arith

either_one : (b : Bool) → 1 ≤ cond b 1 1
either_one true = omega arith
either_one false = omega arith

pub name_room : (cs : List Const) (place : Place) (text : List ℕ) → 1 ≤ room_of_name cs place text
name_room cs Unset text = omega arith
name_room cs (LocalPlace n) text = omega arith
name_room cs (Upvalue u) text = omega arith
name_room cs (GlobalIn n) text = either_one (nat_lt (number_in cs (StrConst text)) 256)
name_room cs (GlobalOf u) text = either_some (nat_lt (number_in cs (StrConst text)) 256)

either_less : (b : Bool) → cond b 0 2 ≤ cond b 1 2
either_less true = omega arith
either_less false = omega arith

local_less : (b : Bool) → cond b 0 1 ≤ cond b 1 1
local_less true = omega arith
local_less false = omega arith

-- one that goes straight to a local's register takes no more
pub name_less : (cs : List Const) (place : Place) (text : List ℕ) → room_of_name_by cs 0 place text ≤ room_of_name cs place text
name_less cs Unset text = omega arith
name_less cs (LocalPlace n) text = omega arith
name_less cs (Upvalue u) text = omega arith
name_less cs (GlobalIn n) text = local_less (nat_lt (number_in cs (StrConst text)) 256)
name_less cs (GlobalOf u) text = either_less (nat_lt (number_in cs (StrConst text)) 256)

either_self : (b : Bool) → (2 ≤ cond b 2 3) × (cond b 2 3 ≤ 3)
either_self true = (omega arith, omega arith)
either_self false = (omega arith, omega arith)

pub self_room : (cs : List Const) (text : List ℕ) → (2 ≤ room_of_self cs text) × (room_of_self cs text ≤ 3)
self_room cs text = either_self (nat_lt (number_in cs (StrConst text)) 256)

-- a local takes one register where its value is moved

place_room : (cs : List Const) (place : Place) (text : List ℕ) (r : ℕ) → local_at place ≡ Some r → room_of_name cs place text ≡ 1
place_room cs (LocalPlace q) text r e = refl
place_room cs _ text r e = absurd (cc)

pub local_room : (cs : List Const) (e : Exp) (r : ℕ) → local_of e ≡ Some r → room_of cs e 2 ≡ 1
local_room cs (Var line name) r e = place_room cs name.place name.text r e
local_room cs (Paren line inner) r e = local_room cs inner r e
local_room cs _ r e = absurd (cc)
