-- Who catches an error.
use Rattle.std.specs.Prelude.{◌≡◌, Bool, true, false, Option, None, Some, []}
use Rattle.machine_core.specs.FrameRows.{coroutine_fails, raised_row}
use Rattle.machine_core.specs.Moves.{Ending}
use Rattle.lua_heap.specs.declared.world.World.{World as Memory}
use Rattle.move_laws.specs.Memory.{IsSafe, Leads}
use Rattle.machine_moves.specs.declared.ending.Ending.{Ending as Kept}
use Rattle.machine_moves.specs.declared.ending.Ending.TheVariants.{Unwinding}
use Rattle.machine_moves.specs.Ending.{ending_of}

abbrev pub uncaught : (in_main : Bool) → Option Kept
uncaught true = Some Unwinding
uncaught false = None

-- nothing does: the running coroutine fails, and nothing has been done yet
pub record NothingCatches (old new : Memory) : Type 0 where
  pub same : new ≡ old
  pub goes : (last : Memory) (ending : Ending) → Leads coroutine_fails [] old last ending → Leads raised_row [] old last ending
  pub safe : IsSafe coroutine_fails [] old

abbrev pub Catches : (old new : Memory) → Option Kept → Type 0
Catches old new (Some ending) = Leads raised_row [] old new (ending_of ending)
Catches old new None = NothingCatches old new
