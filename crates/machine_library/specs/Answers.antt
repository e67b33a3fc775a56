-- What becomes of the answers of library functions.
use Rattle.std.specs.Prelude.{◌≡◌, ℕ, List, [], ◌∷◌, ◌++◌, length, map}
use Rattle.int_core.specs.Value.{Value, nth}
use Rattle.machine_core.specs.Moves.{Ending, LookShape, is_given, is_raised, add_printed, bytes_in}
use Rattle.machine_core.specs.MachineStep.{after_look}
use Rattle.table_core.specs.declared.value.Value.{Value as Kept}
use Rattle.lua_heap.specs.declared.world.World.{World as Memory}
use Rattle.lua_heap.specs.Plain.{plain}
use Rattle.lua_heap.specs.Reading.{value}
use Rattle.pure_functions.specs.declared.answer.Answer.{Answer}
use Rattle.pure_functions.specs.declared.answer.Answer.TheVariants.{One, Two, Gives, Raises}
use Rattle.move_laws.specs.Memory.{Leads}
use Rattle.machine_moves.specs.declared.ending.Ending.{Ending as KeptEnding}
use Rattle.machine_moves.specs.declared.ending.Ending.TheVariants.{Go, Returned, Raised}

-- no function of a library pays: one ends with results for the frame on top or with an error
abbrev pub Goes : KeptEnding → Type 0
Goes Go = Unit {0}
Goes Returned = Unit {0}
Goes Raised = Unit {0}
Goes _ = ⊥

-- an answer as a row sees it

abbrev pub shape_told : Answer → LookShape
shape_told (One v) = is_given
shape_told (Two v w) = is_given
shape_told (Gives vs) = is_given
shape_told (Raises v) = is_raised

abbrev pub values_told : Memory → Answer → List Value
values_told W (One v) = value W.strings v ∷ []
values_told W (Two v w) = value W.strings v ∷ value W.strings w ∷ []
values_told W (Gives vs) = map (value W.strings) vs.items
values_told W (Raises v) = value W.strings v ∷ []

-- the row goes on with it
pub record Tells (old new : Memory) (answer : Answer) (ending : Ending) : Type 0 where
  pub leads : (env : List Value) → Leads (after_look (length env) (shape_told answer)) (env ++ values_told old answer) old new ending

abbrev pub IsFirst : List Kept → Kept → Type 0
IsFirst vs v = (texts : List (List ℕ)) → nth (map (value texts) vs) 0 ≡ value texts v

-- a value's bytes are printed, where it is a string
pub record PrintsValue (old new : Memory) (v : Kept) : Type 0 where
  pub is : (fuel : ℕ) → plain new fuel ≡ add_printed (plain old fuel) (bytes_in (value old.strings v))
