-- The names of variables in registers.
use Rattle.std.specs.Prelude.{◌≡◌, ℕ, List, ◌++◌, None, Some, codes, filter, slice_get}
use Rattle.code_core.specs.declared.proto.LocVar.{LocVar}
use Rattle.code_core.specs.Prototype.{Prototype}
use Rattle.machine_core.specs.World.{Place, place_of}
use Rattle.machine_core.specs.InstructionRows.{is_alive, variable_name}
use Rattle.lua_heap.specs.declared.world.World.{World as Memory}
use Rattle.lua_heap.specs.Plain.{plain}

abbrev pub name_of : LocVar → List ℕ
name_of v = elim v.name [ None ↦ codes "?" | Some name ↦ name ]

-- that of a register among variables
abbrev pub name_in : (pc register : ℕ) → List LocVar → List ℕ
name_in pc register locals = elim (slice_get (filter (is_alive pc) locals) register) [ None ↦ codes "?" | Some v ↦ name_of v ]

-- the prototype is that of the function on top
pub record IsProtoOnTop (W : Memory) (p : Prototype) : Type 0 where
  pub is : (place : Place) → place_of (plain W 0) ≡ Some place → p ≡ place.function.code

-- what an error says of a variable that cannot be closed
abbrev pub open_text : Prototype → (pc register : ℕ) → List ℕ
open_text p pc register = codes "variable '" ++ variable_name p pc register ++ codes "' got a non-closable value"

pub record TellsOpen (W : Memory) (pc register : ℕ) (text : List ℕ) : Type 0 where
  pub is : (place : Place) → place_of (plain W 0) ≡ Some place → text ≡ open_text place.function.code pc register
