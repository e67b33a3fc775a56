-- Each expression names a register.
use Rattle.std.proofs.Common.{ℕ, ◌≤◌, List, arith}
use Rattle.tree_core.specs.Tree.{Exp, Var, Index, Call, Method, Unary, Binary, And, Or, Paren}
use Rattle.code_core.specs.declared.proto.Const.{Const}
use Rattle.code_of.specs.Stores.{name_in}
use Rattle.code_of.specs.Operations.{constant_in}
use Rattle.code_of.specs.Rooms.{room_of}
use Rattle.code_of.proofs.Operations.{some_operation}
use Rattle.code_of.proofs.FieldReads.{some_read}
use Rattle.code_of.proofs.Rooms.{name_room}

pub room_some : (cs : List Const) (e : Exp) → 1 ≤ room_of cs e 2
room_some cs (Var line name) = name_room cs name.place name.text
room_some cs (Index line object key) = some_read (name_in cs key) object key (room_of cs object 2) (room_of cs key 2) (room_some cs object)
room_some cs (Call line f es) = let h = room_some cs f in omega (arith, h)
room_some cs (Method line object name es) = let h = room_some cs object in omega (arith, h)
room_some cs (Unary line op e) = room_some cs e
room_some cs (Binary line op e d) = some_operation (constant_in cs op d) op e d (room_of cs e 2) (room_of cs d 2) (room_some cs e)
room_some cs (And line e d) = let h = room_some cs d in omega (arith, h)
room_some cs (Or line e d) = let h = room_some cs d in omega (arith, h)
room_some cs (Paren line e) = room_some cs e
room_some cs _ = omega arith
