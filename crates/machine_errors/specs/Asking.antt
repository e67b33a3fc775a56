-- A frame that is pushed, over which a value is asked for, once what moves has been taken.
use Rattle.std.specs.Prelude.{◌≡◌, ◌++◌, ℕ, Bool, true, false, cond, List, [], drop, map}
use Rattle.int_core.specs.Value.{Value}
use Rattle.machine_core.specs.World.{World}
use Rattle.machine_core.specs.Text.{Arg, args_of}
use Rattle.machine_core.specs.FrameRows.{then}
use Rattle.machine_core.specs.Moves.{Over, frame_over, push_frame, give_with, asks, Row, stop, act, ends, run}
use Rattle.table_core.specs.declared.value.Value.{Value as Kept}
use Rattle.lua_heap.specs.declared.world.World.{World as Memory}
use Rattle.lua_heap.specs.Plain.{plain}
use Rattle.lua_heap.specs.Reading.{value}
use Rattle.machine_moves.specs.declared.tops.Over.{Over as KeptOver}
use Rattle.machine_moves.specs.Tops.{frame_pushed}
use Rattle.move_laws.specs.Memory.{ReadsSame}

abbrev pub taken : Memory → (fuel : ℕ) → World
taken W fuel = record (plain W fuel) { moving = [] }

-- where there was room, the row ends so; where there was none, it goes on from the same world
pub record AsksOver (old new : Memory) (over : KeptOver) (asked : List Kept) (room : Bool) : Type 0 where
  pub there : room ≡ true → (what : Over) (env : List Value) (xs : List Arg) (slot : ℕ) (r : Row) → frame_over what env ≡ frame_pushed (value old.strings) over
      → args_of env xs ++ drop slot env ≡ map (value old.strings) asked
      → (fuel : ℕ) → run (act (push_frame what) (λ _ room. cond room (then (give_with xs slot) (stop asks)) r)) env (taken old fuel) ≡ ends asks (plain new fuel)
  pub full : room ≡ false → (what : Over) (env : List Value) (q r : Row) → frame_over what env ≡ frame_pushed (value old.strings) over
      → (fuel : ℕ) → run (act (push_frame what) (λ _ room. cond room q r)) env (taken old fuel) ≡ run r env (taken new fuel)
  pub same : room ≡ false → ReadsSame old new
