-- What a row of a call supposes, and what it reads.
use Rattle.std.specs.Prelude.{◌≡◌, ◌+◌, ◌<◌, ◌≤◌, ◌^◌, ℕ, Bool, List, [], ◌++◌, Some, length, map}
use Rattle.int_core.specs.Value.{Value, Shape}
use Rattle.code_core.specs.Prototype.{Prototype}
use Rattle.machine_core.specs.World.{running, Place, place_of}
use Rattle.machine_core.specs.Text.{Arg, Text, own, read, read_register}
use Rattle.machine_core.specs.InstructionRows.{read_values}
use Rattle.machine_core.specs.FrameRows.{expand}
use Rattle.machine_core.specs.Moves.{Ending, named, run}
use Rattle.machine_sound.specs.Sound.{Each, Sound, Valid, sizes}
use Rattle.instruction_forms.specs.Forms.{text_of, wait_for_call}
use Rattle.instruction_forms.specs.declared.form.Form.TheVariants.{Call}
use Rattle.table_core.specs.declared.value.Value.{Value as Kept}
use Rattle.lua_stack.specs.declared.frame.Wait.{Wait as KeptWait}
use Rattle.lua_stack.specs.Frames.{wait_of}
use Rattle.lua_heap.specs.declared.world.World.{World as Memory}
use Rattle.lua_heap.specs.Plain.{plain}
use Rattle.lua_heap.specs.Reading.{value}
use Rattle.move_laws.specs.Memory.{IsSafe, IsSound, Steps}
use Rattle.machine_calls.specs.Waiting.{IsHeldWait}
use Rattle.machine_call_rows.specs.declared.calls.CallAt.{CallAt}

-- the Lua frame on top runs, and the registers that it keeps for a call are among those of its code
pub record MayKeep (W : Memory) (keeps : ℕ) : Type 0 where
  pub place : Place
  pub is : place_of (plain W 0) ≡ Some place
  pub running : place.top.wait ≡ running
  pub within : keeps ≤ place.function.code.own.stack

-- a call may be done: its row does not trap
pub record MayDoCall (W : Memory) (at : CallAt) : Type 0 where
  pub sound : IsSound W
  pub keeps : MayKeep W at.keeps
  pub near : at.function + 1 < 2 ^ 64
  pub safe : (p : Prototype) (pc : ℕ) → IsSafe (expand (text_of p pc (Call at.function at.count at.keeps at.iterates))) [] W

-- and it leads from one world and budget to others
abbrev pub CallSteps : CallAt → Memory → ℕ → Memory → ℕ → Ending → Type 0
CallSteps at old fuel new left to = (p : Prototype) (pc : ℕ) → Steps (expand (text_of p pc (Call at.function at.count at.keeps at.iterates))) [] old fuel new left to

-- a row that begins with such reads does not trap
pub record MayReadValues (W : Memory) (from count : ℕ) : Type 0 where
  pub rest : ℕ → Shape → Text
  pub env : List Value
  pub safe : IsSafe (expand (read_values from count rest)) env W

-- and these are the values that it reads; in a sound world they are valid
pub record ReadsValues (W : Memory) (from count : ℕ) (values : List Kept) : Type 0 where
  pub told : Shape
  pub valid : (n : ℕ) → Sound n (plain W 0) → Each (Valid (sizes n (plain W 0))) (map (value W.strings) values)
  pub goes : (rest : ℕ → Shape → Text) (env : List Value) (fuel : ℕ)
      → run (expand (read_values from count rest)) env (plain W fuel) ≡ run (expand (rest (length env) told)) (env ++ map (value W.strings) values) (plain W fuel)

-- the value that is called is read, and its arguments behind it
abbrev pub with_arguments : (function count : ℕ) → (Arg → ℕ → Text) → ℕ → Shape → Text
with_arguments function count rest f s = read_values (function + 1) count (λ v _. rest (read f) v)

abbrev pub whole_text : (function count : ℕ) → (Arg → ℕ → Text) → Text
whole_text function count rest = own (read_register function) (with_arguments function count rest)

-- a row that begins so does not trap
pub record MayReadCall (W : Memory) (function count : ℕ) : Type 0 where
  pub rest : Arg → ℕ → Text
  pub safe : IsSafe (expand (whole_text function count rest)) [] W

-- the wait of a frame that calls, in the words of rows
pub record IsWaitOfCall (iterates : Bool) (wait : KeptWait) : Type 0 where
  pub is : (f : Kept → Value) (env : List Value) → named env (wait_for_call iterates) ≡ wait_of f wait
  pub held : (texts : List (List ℕ)) → IsHeldWait texts wait
