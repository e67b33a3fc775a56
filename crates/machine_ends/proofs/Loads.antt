-- The row of `build` makes the measure smaller: the functions that it makes have at most so many instructions.
use Rattle.std.proofs.Common.{ℕ, ◌+◌, ◌*◌, ◌≤◌, ◌≡◌, List, [], ◌∷◌, ◌++◌, Option, Some, None, refl, length, arith, true}
use Rattle.int_core.specs.Value.{nil, string, Value, Shape, shape}
use Rattle.code_core.specs.Prototype.{Prototype, instruction_count}
use Rattle.load_rows.specs.Loading.{Builds, Loaded, wrong, not_loaded, loaded, load_of}
use Rattle.load_rows.proofs.Loads.{load_is}
use Rattle.machine_core.specs.World.{Function, World}
use Rattle.machine_core.specs.Text.{Arg, read, written, arg}
use Rattle.machine_core.specs.Moves.{Ending, ends, run, add_loaded, environment_in, make_loaded, act}
use Rattle.machine_core.specs.MachineStep.{gives_back}
use Rattle.machine_core.specs.PrimitiveRows.{environment_at, loaded_row, load_row}
use Rattle.machine_sound.proofs.Lists.{each_push, each_on}
use Rattle.machine_ends.specs.Measure.{Within, world_weight, measure}
use Rattle.machine_ends.specs.Falls.{anywhere, Falls}
use Rattle.machine_ends.specs.Laws.{BuildsWithin, LoadFalls}
use Rattle.machine_ends.proofs.Held.{Holds}
use Rattle.machine_ends.proofs.Rows.{Fell, run_falls}
use Rattle.machine_ends.proofs.FrameRows.{hand_over_falls, blames_fall}

module _ (most : ℕ) where
  abbrev IsShort : Loaded Prototype → Type 0
  IsShort (loaded name p) = instruction_count p ≤ most
  IsShort _ = Unit {0}

  load_short : (builds : Builds Prototype) → BuildsWithin most builds → (chunk name mode : Shape) → IsShort (load_of builds chunk name mode)
  load_short builds within chunk name mode = load_is IsShort builds (λ error. tt) (λ why l. tt) (λ name source p l e. within name source p l e) chunk name mode

  -- where a unit has been paid of which a new frame's weight is left
  abbrev bound_of : World → ℕ
  bound_of W = world_weight most W + (40 * most + 100)

  holds_in : (bound : ℕ) (W : World) → Within most W → world_weight most W + (40 * most + 100) ≤ bound → Holds most bound (anywhere true 100 None) W
  holds_in bound W w l = record { within = w; held = record { low = l; known = tt } }

  more_within : (W : World) (p : Prototype) (v : Value) → Within most W → instruction_count p ≤ most → Within most (add_loaded W p v)
  unfolding add_loaded
  more_within W p v w l = each_push (λ (f : Function). instruction_count f.code ≤ most) W.functions (record { code = p; cells = length W.cells ∷ [] }) w l

  -- neither coroutines nor the budget change
  same_weight : (W : World) (p : Prototype) (v : Value) → world_weight most (add_loaded W p v) ≡ world_weight most W
  unfolding add_loaded
  same_weight W p v = refl

  gives_fall : (xs : List Arg) → Falls (anywhere true 100 None) (gives_back xs)
  gives_fall xs = (tt, λ n t. hand_over_falls true 100 None (omega arith))

  row_falls : (bound : ℕ) (x : Option Arg) (l : Loaded Prototype) (env : List Value) (W : World) → IsShort l → Within most W → world_weight most W + (40 * most + 100) ≤ bound → (e : Ending) (V : World) → run (loaded_row x l) env W ≡ ends e V → Fell most bound e V
  row_falls bound x (wrong error) env W s w l e V h = run_falls most bound (loaded_row x (wrong error)) (anywhere true 100 None) env W (holds_in bound W w l) (blames_fall true 100 None error (omega arith)) e V h
  row_falls bound x (not_loaded why) env W s w l e V h = run_falls most bound (loaded_row x (not_loaded why)) (anywhere true 100 None) env W (holds_in bound W w l) (gives_fall (written nil ∷ written (string why) ∷ [])) e V h
  row_falls bound x (loaded name p) env W s w l e V h =
      let U = add_loaded W p (environment_in W env x) in
      run_falls most bound (gives_back (read (length env) ∷ [])) (anywhere true 100 None) _ U (holds_in bound U (more_within W p (environment_in W env x) w s) (let k = same_weight W p (environment_in W env x) in omega arith)) (gives_fall (read (length env) ∷ [])) e V h

pub load_falls : LoadFalls
load_falls builds least within most more e W V w h =
    let chunk = shape (arg W.moving (read 0)) in
    let name = shape (arg (W.moving ++ []) (read 1)) in
    let mode = shape (arg ((W.moving ++ []) ++ []) (read 2)) in
    row_falls most (bound_of most W) (environment_at 0 (length W.moving)) (load_of builds chunk name mode) (((W.moving ++ []) ++ []) ++ []) (record W { moving = [] })
    (load_short most builds (λ name source p l q. let k = within name source p l q in omega arith) chunk name mode) w (omega arith) e V h
