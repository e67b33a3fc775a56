-- Calls of functions whose results are at hand, seen before they are done.
use Rattle.std.specs.Prelude.{◌≡◌, ℕ, List, map}
use Rattle.library_rows.specs.Look.{Look, looked}
use Rattle.tree_core.specs.Tree.{Body}
use Rattle.load_rows.specs.Loading.{Builds}
use Rattle.loaded_code.specs.Laws.{library}
use Rattle.machine_core.specs.MachineStep.{look_row}
use Rattle.table_core.specs.declared.value.Value.{Value as Kept}
use Rattle.lua_heap.specs.declared.world.World.{World as Memory}
use Rattle.lua_heap.specs.Reading.{value}
use Rattle.pure_functions.specs.Answers.{told, heap_of}
use Rattle.pure_functions.specs.declared.answer.Answer.{Answer}
use Rattle.machine_call_rows.specs.Primitives.{MayCallPrimitive}

-- the primitive that would be called answers this, by its row
pub record IsSeen (W : Memory) (fuel function count : ℕ) (answer : Answer) : Type 0 where
  pub number : ℕ
  pub arguments : List Kept
  pub row : Look
  pub may : MayCallPrimitive W fuel function count number arguments
  pub is_row : (builds : Builds Body) → library builds number ≡ look_row row
  pub answers : looked row (map (value W.strings) arguments) (heap_of W) ≡ told W answer
