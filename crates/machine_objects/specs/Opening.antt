-- Cells that are opened for what a new function captures.
use Rattle.std.specs.Prelude.{◌≡◌, ◌≤◌, ℕ, List, [], Some, length}
use Rattle.code_core.specs.declared.proto.UpDesc.{UpDesc}
use Rattle.int_core.specs.Limits.{greatest_depth}
use Rattle.machine_core.specs.World.{Place, place_of}
use Rattle.machine_core.specs.Text.{Text}
use Rattle.machine_core.specs.InstructionRows.{opens}
use Rattle.machine_core.specs.FrameRows.{expand}
use Rattle.machine_core.specs.Moves.{run}
use Rattle.table_core.specs.declared.value.ProtoId.{ProtoId}
use Rattle.lua_heap.specs.declared.world.World.{World as Memory}
use Rattle.lua_heap.specs.Codes.{functions, prototype_at}
use Rattle.lua_heap.specs.Plain.{plain}
use Rattle.move_laws.specs.Memory.{IsSafe}

-- where a function of this code finds its upvalues
abbrev pub upvalues_at : Memory → ProtoId → List UpDesc
upvalues_at W id = (prototype_at (functions W.codes) id.0).own.upvalues

-- a row that opens cells for them does not trap, and the frames are no more than there may be
pub record MayOpen (W : Memory) (us : List UpDesc) : Type 0 where
  pub place : Place
  pub is : place_of (plain W 0) ≡ Some place
  pub depth : length place.stack.frames ≤ greatest_depth
  pub more : Text
  pub safe : IsSafe (expand (opens us more)) [] W

-- the cells are open but for those of some upvalues, and the frame on top is as it was
pub record Opens (old new : Memory) (us left : List UpDesc) : Type 0 where
  pub goes : (more : Text) (fuel : ℕ) → run (expand (opens us more)) [] (plain old fuel) ≡ run (expand (opens left more)) [] (plain new fuel)
  pub stays : (place : Place) → place_of (plain old 0) ≡ Some place → place_of (plain new 0) ≡ Some place
