-- What the functions answer, beside their rows.
use Rattle.std.specs.Prelude.{◌≡◌, ℕ, List, [], ◌∷◌, ◌++◌, map, Result, Ok, Err}
use Rattle.std.specs.Option.{option_map}
use Rattle.int_core.specs.Heap.{Heap}
use Rattle.int_core.specs.Value.{Plain, known, nth}
use Rattle.library_rows.specs.Look.{Look, Done, done, refused, raised, looked}
use Rattle.machine_sound.specs.Sound.{Each, Valid, sizes, Sound}
use Rattle.library_arguments.specs.Refusals.{refusal_text}
use Rattle.library_arguments.specs.declared.refusal.Fault.{Fault}
use Rattle.library_arguments.specs.declared.refusal.Fault.TheVariants.{Refused, Memory as NoMemory}
use Rattle.table_core.specs.declared.value.Value.{Value as Kept}
use Rattle.lua_heap.specs.declared.world.World.{World as Memory}
use Rattle.lua_heap.specs.Codes.{AreCodes}
use Rattle.lua_heap.specs.Plain.{heap, plain}
use Rattle.lua_heap.specs.Reading.{value}
use Rattle.pure_functions.specs.declared.answer.Answer.{Answer}
use Rattle.pure_functions.specs.declared.answer.Answer.TheVariants.{One, Two, Gives, Raises}

-- the tables of a world in memory, in the words of the definitions
abbrev pub heap_of : Memory → Heap
heap_of W = heap W.strings W.tables.objects (option_map (λ m. m.0) W.string_meta)

-- a sound world, in which the arguments are valid
pub record Stands (W : Memory) (arguments : List Kept) : Type 0 where
  pub primitives : ℕ
  pub fuel : ℕ
  pub sound : Sound primitives (plain W fuel)
  pub valid : Each (Valid (sizes primitives (plain W fuel))) (map (value W.strings) arguments)

-- nothing is changed but that strings may have been added, which no sound world shows
pub record OnlyStrings (old new : Memory) (arguments : List Kept) : Type 0 where
  pub stands : Stands new arguments
  pub read : map (value new.strings) arguments ≡ map (value old.strings) arguments
  pub plain : (fuel : ℕ) → plain new fuel ≡ plain old fuel
  pub codes : AreCodes old.strings old.codes → AreCodes new.strings new.codes
  pub rest : new ≡ record old { strings = new.strings }
  pub more : List (List ℕ)
  pub grown : new.strings ≡ old.strings ++ more

-- a value that stands for what was written out, and still does after more strings
pub record Means (texts : List (List ℕ)) (v : Kept) (p : Plain) : Type 0 where
  pub means : (more : List (List ℕ)) → value (texts ++ more) v ≡ known p

pub record MeanAll (texts : List (List ℕ)) (vs : List Kept) (ps : List Plain) : Type 0 where
  pub means : (more : List (List ℕ)) → map (value (texts ++ more)) vs ≡ map known ps

-- nothing is changed but tables, and that strings may have been added
pub record Changes (old new : Memory) (arguments : List Kept) : Type 0 where
  pub read : map (value new.strings) arguments ≡ map (value old.strings) arguments
  pub plain : (fuel : ℕ) → plain new fuel ≡ record (plain old fuel) { heap = heap_of new }
  pub codes : AreCodes old.strings old.codes → AreCodes new.strings new.codes
  pub rest : new ≡ record old { strings = new.strings; tables = new.tables }

-- the argument of a place, from 0
abbrev pub IsArgument : List Kept → ℕ → Kept → Type 0
IsArgument arguments at v = (texts : List (List ℕ)) → nth (map (value texts) arguments) at ≡ value texts v

abbrev pub told : Memory → Answer → Done
told W (One v) = done (heap_of W) (value W.strings v ∷ [])
told W (Two v w) = done (heap_of W) (value W.strings v ∷ value W.strings w ∷ [])
told W (Gives vs) = done (heap_of W) (map (value W.strings) vs.items)
told W (Raises v) = raised (heap_of W) (value W.strings v)

-- what a row comes to over arguments and tables as they were, in a world as it is now; want of memory says nothing
abbrev pub Answers : Look → List Kept → Memory → Memory → Result Answer Fault → Type 0
Answers row arguments old new (Ok answer) = looked row (map (value old.strings) arguments) (heap_of old) ≡ told new answer
Answers row arguments old new (Err (Refused why)) = looked row (map (value old.strings) arguments) (heap_of old) ≡ refused (refusal_text why)
Answers row arguments old new (Err NoMemory) = Unit {0}
