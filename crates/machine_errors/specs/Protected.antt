-- Frames of `pcall` and `xpcall` that are left with an answer.
use Rattle.std.specs.Prelude.{◌≡◌, ℕ, List, [], ◌∷◌, ◌++◌, map, drop}
use Rattle.int_core.specs.Value.{Value}
use Rattle.machine_core.specs.Text.{Arg, args_of}
use Rattle.machine_core.specs.FrameRows.{hand_over}
use Rattle.machine_core.specs.Moves.{Ending, take_moving, pop_frame, give, give_with}
use Rattle.table_core.specs.declared.value.Value.{Value as Kept}
use Rattle.table_core.specs.declared.value.Value.TheVariants.{Nil}
use Rattle.lua_heap.specs.declared.world.World.{World as Memory}
use Rattle.lua_heap.specs.Reading.{value}
use Rattle.move_laws.specs.Memory.{Leads, Makes}

-- what moves is taken, the frame on top is left with an answer, and that is for the frame below
pub record AnswersWith (old new : Memory) (answer : List Kept) (ending : Ending) : Type 0 where
  pub taken : Memory
  pub left : Memory
  pub takes : (env : List Value) → Makes old taken take_moving env (map (value old.strings) old.moving.items) tt
  pub leaves : (env : List Value) → Makes taken left pop_frame env [] tt
  pub gives : (env : List Value) (xs : List Arg) → args_of env xs ≡ map (value old.strings) answer → Makes left new (give xs) env [] tt
  pub gives_more : (env : List Value) (xs : List Arg) (slot : ℕ) → args_of env xs ++ drop slot env ≡ map (value old.strings) answer → Makes left new (give_with xs slot) env [] tt
  pub hands : (env : List Value) → Leads hand_over env new new ending

abbrev pub first_of : List Kept → Kept
first_of [] = Nil
first_of (v ∷ vs) = v
