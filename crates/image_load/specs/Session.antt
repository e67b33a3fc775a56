-- The image of a session's world, and the session that is loaded from it.
use Rattle.std.specs.Prelude.{ℕ, ◌≡◌, List, [], ◌∷◌, map, Option, Some, None}
use Rattle.std.specs.List.{AllZip}
use Rattle.int_core.specs.Value.{nil, integer, string, a_table, a_function, a_coroutine, Value, known, object}
use Rattle.machine_core.specs.World.{World}
use Rattle.machine_core.specs.Moves.{Ending, Row}
use Rattle.machine_core.specs.MachineStep.{steps}
use Rattle.machine_alike.specs.Agree.{Pairs, SameNumber, SameValue, SameValues, Agree}
use Rattle.machine_alike.specs.Laws.{NoneMade, SameOutcome}
use Rattle.image_core.specs.Image.{Item, Image}
use Rattle.image_core.specs.Records.{metatable_value, parts_in_order, image_by}
use Rattle.image_core.specs.Loading.{Target, value_made, loaded, loading}
use Rattle.image_load.specs.Loads.{CanLoad}

abbrev pub main_value : Option ℕ → Value
main_value None = known nil
main_value (Some co) = object a_coroutine co

abbrev pub session_roots : World → List Value
session_roots W = main_value W.main ∷ object a_table W.globals ∷ metatable_value W.heap.string_metatable ∷ known (string W.special_key) ∷ known (integer W.max_depth) ∷ []

-- roots that are a session's; none where one is of another sort
abbrev pub with_roots : List Value → World → Option World
with_roots (object a_coroutine co ∷ object a_table g ∷ known nil ∷ known (string key) ∷ known (integer n) ∷ []) X =
    Some (record X { main = Some co; globals = g; heap = record X.heap { string_metatable = None }; special_key = key; max_depth = n })
with_roots (object a_coroutine co ∷ object a_table g ∷ object a_table m ∷ known (string key) ∷ known (integer n) ∷ []) X =
    Some (record X { main = Some co; globals = g; heap = record X.heap { string_metatable = Some m }; special_key = key; max_depth = n })
with_roots _ X = None

abbrev pub session_loaded : Target → Image → World → Option World
session_loaded T I V = with_roots (map (value_made T I.records) I.roots) (loaded T I.records V)

-- a session's world between two turns, and a world with the prelude alone
pub record CanResume (base : Pairs) (W V : World) (T : Target) (name : Value → Option Item) : Type 0 where
  pub can_load : CanLoad base W V T name (session_roots W)
  pub main : ℕ
  pub is_main : W.main ≡ Some main
  pub main_unnamed : name (object a_coroutine main) ≡ None
  pub left_idle : W.chain ≡ []
  pub right_idle : V.chain ≡ []
  pub environments : SameNumber base a_table W.prelude_environment V.prelude_environment
  pub functions : AllZip (SameNumber base a_function) W.prelude_functions V.prelude_functions

pub record Resumed (q : Pairs) (W : World) (I : Image) (T : Target) (V : World) : Type 0 where
  pub world : World
  pub is : session_loaded T I V ≡ Some world
  pub agree : Agree q W world

-- a session that was saved and loaded agrees with what it was
abbrev pub SessionAgrees : Type 0
SessionAgrees = (base : Pairs) (W V : World) (T : Target) (name : Value → Option Item) → CanResume base W V T name
    → Resumed (loading base T (parts_in_order W name (session_roots W)) (image_by W name (session_roots W)).records) W (image_by W name (session_roots W)) T V

-- so it goes on as it would have: with the same values on the way and the same budget, any number of steps trap alike, or end alike and agree again
abbrev pub SessionGoesOn : Type 0
SessionGoesOn = (primitives : ℕ → Row) → ((n : ℕ) → NoneMade (primitives n)) → (base : Pairs) (W V X : World) (T : Target) (name : Value → Option Item) → CanResume base W V T name
    → session_loaded T (image_by W name (session_roots W)) V ≡ Some X
    → (n : ℕ) (e : Ending) (vs ws : List Value) (fuel : ℕ) → SameValues (loading base T (parts_in_order W name (session_roots W)) (image_by W name (session_roots W)).records) vs ws
    → SameOutcome (loading base T (parts_in_order W name (session_roots W)) (image_by W name (session_roots W)).records)
    (steps primitives n e (record W { moving = vs; printed = []; fuel = fuel })) (steps primitives n e (record X { moving = ws; printed = []; fuel = fuel }))

-- and when it is saved again, where the permanents have the same names, its image is the same
abbrev pub SessionSavedAgain : Type 0
SessionSavedAgain = (base : Pairs) (W V X : World) (T : Target) (name other : Value → Option Item) → CanResume base W V T name
    → session_loaded T (image_by W name (session_roots W)) V ≡ Some X
    → ((v w : Value) → SameValue (loading base T (parts_in_order W name (session_roots W)) (image_by W name (session_roots W)).records) v w → name v ≡ other w)
    → image_by W name (session_roots W) ≡ image_by X other (session_roots X)
