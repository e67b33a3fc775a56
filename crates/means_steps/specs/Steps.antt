-- What a step of the machine with a Lua frame on top is in the world in which activations talk: some ticks of it.
use Rattle.load_rows.specs.Loading.{Builds, built}
use Rattle.code_core.specs.Prototype.{Prototype}
use Rattle.std.specs.Prelude.{◌≡◌, ℕ, ◌<◌, true, false, List, [], ◌∷◌, length, Option, Some, slice_get, slice_set}
use Rattle.int_core.specs.Value.{Value}
use Rattle.machine_core.specs.World.{Frame, suspended, in_progress, World}
use Rattle.machine_core.specs.Moves.{Ending, go, returned, asks, calls_primitive, raised, unwinding, spent, main_yielded, main_returned, main_failed, Row, Outcome, trapped, ends, run}
use Rattle.machine_core.specs.MachineStep.{step_by}
use Rattle.machine_core.specs.PrimitiveRows.{primitive_row, row_numbered, load_row}
use Rattle.lua_meaning.specs.World as talk
use Rattle.library_rows.specs.Library.{Primitive, prelude_build, all_entries}
use Rattle.lua_meaning.specs.Step.{Primitives, does_primitive, tick, ticks}
use Rattle.lua_meaning.specs.Opening.{primitives as meant}
use Rattle.code_means.specs.Runs.{codes_run}
use Rattle.machine_sound.specs.Sound.{Solid, Settled}
use Rattle.machine_sound.specs.Laws.{SoundAfter}
use Rattle.machine_means.specs.Joined.{TalkWorld, Joined, Named}
use Rattle.machine_means.specs.Works.{Works}
use Rattle.machine_means.specs.Stands.{Stands, AtRest}

-- the main coroutine waits for the next turn: were it to go on, both would be joined
pub record MainWaits (W : World) (T : TalkWorld) : Type 0 where
  pub co : ℕ
  pub frames : List Frame
  pub main : W.main ≡ Some co
  pub idle : W.chain ≡ []
  pub there : slice_get W.coroutines co ≡ Some (suspended frames)
  pub joined : Joined false (record W { coroutines = slice_set W.coroutines co (in_progress frames); chain = co ∷ [] }) T

-- an error is all that moves, and the other world ends with it
pub record FailsWith (W : World) (T : TalkWorld) : Type 0 where
  pub error : Value
  pub moves : W.moving ≡ error ∷ []
  pub ended : T.now ≡ talk.ends (talk.failed_with error)

-- where the budget is spent the machine goes back to where its step began: the other world says so too, and has printed what had been printed by then
-- What the main coroutine hands to the session is all that moves
abbrev pub EndsSo : (shown : List ℕ) → Ending → World → TalkWorld → Type 0
EndsSo shown spent W T = (T.now ≡ talk.ends talk.spent) × (T.printed ≡ shown)
EndsSo shown go W T = Stands go W T
EndsSo shown returned W T = Stands returned W T
EndsSo shown asks W T = Stands asks W T
EndsSo shown (calls_primitive n) W T = Stands (calls_primitive n) W T
EndsSo shown raised W T = Stands raised W T
EndsSo shown unwinding W T = Stands unwinding W T
EndsSo shown main_yielded W T = (T.now ≡ talk.ends (talk.yielded W.moving)) × ((W.printed ≡ T.printed) × MainWaits W T)
EndsSo shown main_returned W T = (T.now ≡ talk.ends (talk.returned W.moving)) × (W.printed ≡ T.printed)
EndsSo shown main_failed W T = FailsWith W T × (W.printed ≡ T.printed)

-- what a row comes to stands beside the other world some ticks later; where the row traps nothing is said
abbrev pub Leads : (known : Primitives Prototype) → (shown : List ℕ) → TalkWorld → Outcome → Type 0
Leads known shown T trapped = Unit {0}
Leads known shown T (ends ending W) = (j : ℕ) × EndsSo shown ending W (ticks codes_run known j T)

-- a function runs: one step of the machine, which is an instruction, and a tick at least
abbrev pub RunningSteps : Type 0
RunningSteps = (primitives : ℕ) (rows : ℕ → Row) (known : Primitives Prototype) (M : World) (T : TalkWorld) → Solid primitives M → Settled primitives M → Works M T → Leads known M.printed (tick codes_run known T) (step_by rows go M)

-- a primitive's row is called where all frames wait, and so is the primitive in the other world
abbrev pub PrimitiveJoined : Builds Prototype → Row → Primitive → Type 0
PrimitiveJoined builds r p = (library : Primitives Prototype) (primitives : ℕ) (M : World) (T : TalkWorld) → AtRest primitives false M T → Leads library M.printed (does_primitive codes_run builds p T M.moving) (run r [] M)

-- so it is with each function of the libraries that is no Lua text, where that which loads sources does as in the other world
abbrev pub PrimitivesJoined : Type 0
PrimitivesJoined = (builds : Builds Prototype) (build : Row) → PrimitiveJoined builds build prelude_build → (p : Primitive) → PrimitiveJoined builds (primitive_row build p) p

-- each number is that of the same primitive in both
abbrev pub SameLibrary : (primitives : ℕ) → (ℕ → Row) → (Primitives Prototype) → Type 0
SameLibrary primitives rows library = (n : ℕ) → n < primitives → (p : Primitive) × (library.numbered n ≡ Some p) × PrimitiveJoined library.builds (rows n) p

abbrev pub LibrariesAreSame : Type 0
LibrariesAreSame = (builds : Builds Prototype) (build : Row) → PrimitiveJoined builds build prelude_build → SameLibrary (length all_entries) (row_numbered build) (meant builds)

-- sources are built to code that has the name with which it is built, and lines
abbrev pub BuildsNamed : Builds Prototype → Type 0
BuildsNamed builds = (name source : List ℕ) (p : Prototype) → builds name source ≡ built p → Named true name p

-- then `load` does as in the other world
abbrev pub LoadJoined : Type 0
LoadJoined = (builds : Builds Prototype) → BuildsNamed builds → PrimitiveJoined builds (load_row builds) prelude_build

abbrev pub GoesOn : Ending → Type 0
GoesOn go = Unit {0}
GoesOn returned = Unit {0}
GoesOn asks = Unit {0}
GoesOn (calls_primitive n) = Unit {0}
GoesOn raised = Unit {0}
GoesOn unwinding = Unit {0}
GoesOn _ = ⊥

-- the other world has done a call already that was asked for; all else takes it a tick at least
abbrev pub forward : (Primitives Prototype) → Ending → TalkWorld → TalkWorld
forward library asks T = T
forward library _ T = tick codes_run library T

-- whatever the last step ended with: one step of the machine
abbrev pub StepsLead : Type 0
StepsLead = (primitives : ℕ) (rows : ℕ → Row) (library : Primitives Prototype) → SameLibrary primitives rows library → (ending : Ending) → GoesOn ending → (M : World) (T : TalkWorld) → SoundAfter primitives ending M → Stands ending M T
    → Leads library M.printed (forward library ending T) (step_by rows ending M)
