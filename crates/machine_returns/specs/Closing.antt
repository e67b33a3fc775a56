-- Rows that close variables, and calls of closing methods.
use Rattle.std.specs.Prelude.{◌≡◌, ℕ, List, [], ◌∷◌, ◌++◌}
use Rattle.int_core.specs.Value.{Value}
use Rattle.machine_core.specs.World.{Wait}
use Rattle.machine_core.specs.Text.{Arg, arg, close, close_cells}
use Rattle.machine_core.specs.InstructionRows.{closes, next, then}
use Rattle.machine_core.specs.FrameRows.{When, by_asking, expand, expand_by}
use Rattle.machine_core.specs.Moves.{Ending, find_close, named}
use Rattle.table_core.specs.declared.value.Value.{Value as Kept}
use Rattle.lua_stack.specs.declared.frame.Wait.{Wait as KeptWait}
use Rattle.lua_stack.specs.Frames.{wait_of}
use Rattle.lua_heap.specs.declared.world.World.{World as Memory}
use Rattle.lua_heap.specs.Reading.{value}
use Rattle.move_laws.specs.Memory.{IsSafe, Leads, Makes, Steps}
use Rattle.machine_calls.specs.declared.preparing.Prepared.{Prepared}
use Rattle.machine_calls.specs.Preparing.{IsCopy, prepared_of}
use Rattle.machine_calls.specs.Waiting.{IsHeld, IsHeldWait}

-- a method, or nil, is that of a value
abbrev pub Finds : Memory → (v method : Kept) → Type 0
Finds W v method = (env : List Value) (x error : Arg) → arg env x ≡ value W.strings v → Makes W W (find_close x error) env (value W.strings method ∷ value W.strings v ∷ arg env error ∷ []) tt

-- what a row has read once it is found
abbrev pub found_with : Memory → List Value → (v method : Kept) → Arg → List Value
found_with W env v method e = env ++ value W.strings method ∷ value W.strings v ∷ arg env e ∷ []

-- a value that is closed with an error or nil, and how the frame waits meanwhile, in the words of a row
pub record NamesClose (W : Memory) (env : List Value) (x e y : Arg) (w : Wait Arg) (v error : Kept) (wait : KeptWait) (prepared : Prepared) : Type 0 where
  pub closes : arg env x ≡ value W.strings v
  pub fails : arg env e ≡ value W.strings error
  pub waits : (method : Kept) → named (found_with W env v method e) w ≡ wait_of (value W.strings) wait
  pub copies : (method : Kept) → IsCopy (value W.strings) (found_with W env v method e) y prepared

-- its method is asked for
pub record AsksToClose (old new : Memory) (v error : Kept) (wait : KeptWait) (prepared : Prepared) (ending : Ending) : Type 0 where
  pub leads : (env : List Value) (x e y : Arg) (w : Wait Arg) → NamesClose old env x e y w v error wait prepared
      → Leads (expand_by by_asking (close x e w (prepared_of y prepared))) env old new ending

-- or called at once, for which the row must not trap
pub record CallsToClose (old new : Memory) (fuel left : ℕ) (v error : Kept) (wait : KeptWait) (prepared : Prepared) (ending : Ending) : Type 0 where
  pub steps : (env : List Value) (x e y : Arg) (w : Wait Arg) → NamesClose old env x e y w v error wait prepared
      → Steps (expand (close x e w (prepared_of y prepared))) env old fuel new left ending

pub record MayCallToClose (W : Memory) (v error : Kept) (wait : KeptWait) (prepared : Prepared) : Type 0 where
  pub env : List Value
  pub x : Arg
  pub e : Arg
  pub y : Arg
  pub w : Wait Arg
  pub names : NamesClose W env x e y w v error wait prepared
  pub safe : IsSafe (expand (close x e w (prepared_of y prepared))) env W
  pub held_wait : IsHeldWait W.strings wait
  pub held : IsHeld W.strings prepared

-- those from a register on
pub record MayClose (W : Memory) (register : ℕ) : Type 0 where
  pub when : When
  pub env : List Value
  pub safe : IsSafe (expand_by when (closes register)) env W

-- where none is left
pub record MayPass (W : Memory) (register : ℕ) : Type 0 where
  pub when : When
  pub env : List Value
  pub safe : IsSafe (expand_by when (then (close_cells register) next)) env W
