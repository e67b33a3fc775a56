-- A function that is made of loaded code, with one new cell; and the row of `build`.
use Rattle.std.proofs.Common.{ℕ, suc, ◌+◌, ◌<◌, ◌≤◌, ◌≡◌, ◌⊎◌, inl, inr, List, [], ◌∷◌, ◌++◌, Option, Some, None, refl, sym, ◌∙◌, length, arith, Bool, true, false, cond, length-append}
use Rattle.std.specs.Prelude.{slice_get, nat_lt}
use Rattle.int_core.specs.Value.{Value, object, a_function, Shape, shape, greatest_string}
use Rattle.code_core.specs.Prototype.{Prototype}
use Rattle.load_rows.specs.Loading.{Builds, Loaded, wrong, not_loaded, loaded, load_of}
use Rattle.load_rows.proofs.Loads.{load_is}
use Rattle.machine_core.specs.World.{Function, Cell, closed, open_at, in_progress, World, OneEach}
use Rattle.machine_core.specs.Text.{Arg, read, arg}
use Rattle.machine_core.specs.Moves.{make_loaded, TopShape, made, move, add_loaded, environment_in}
use Rattle.machine_core.specs.PrimitiveRows.{environment_at, loaded_row, load_row}
use Rattle.machine_sound.specs.Sound.{Each, sizes, Valid, TableOk, FunctionOk, CoroutineOk, CellOk, Solid, StackWaits}
use Rattle.machine_sound.specs.Safe.{waiting, LoadedOk, EnvironmentOk, Safe}
use Rattle.machine_sound.specs.Laws.{BuildsOk, LoadRowSafe}
use Rattle.machine_sound.proofs.Lists.{each_one, each_push, each_on, get_push_old, push_cases}
use Rattle.machine_sound.proofs.Values.{arg_valid}
use Rattle.machine_sound.proofs.Grow.{Grows, valid_on, values_on, table_on, function_on, coroutine_on, cell_on, each_waits_on, roots_on}
use Rattle.machine_sound.proofs.Moves.{made_so}
use Rattle.machine_sound.proofs.WaitingMoves.{WaitingGood}
use Rattle.machine_sound.proofs.NewCoroutines.{same_under}
use Rattle.machine_sound.proofs.FrameRowsSafe.{hand_over_safe}

-- one more function, and its cell
module _ (n : ℕ) (W : World) (s : Solid n W) (p : Prototype) (ok : LoadedOk p) (v : Value) (valid : Valid (sizes n W) v) where
  abbrev new : Function
  new = record { code = p; cells = length W.cells ∷ [] }

  abbrev V : World
  V = record W { functions = W.functions ++ new ∷ []; cells = W.cells ++ closed v ∷ [] }

  loaded_grows : Grows (sizes n W) (sizes n V)
  loaded_grows = record {
    primitives = refl;
    tables = omega arith;
    some = (let l = length-append W.functions (new ∷ []) in omega arith);
    functions = λ i f e. get_push_old W.functions (new ∷ []) i f e;
    cells = (let l = length-append W.cells (closed v ∷ []) in omega arith);
    coroutines = omega arith;
  }

  one_each : OneEach (W.cells ++ closed v ∷ [])
  one_each i j co g r x y = both (push_cases W.cells (closed v) (open_at co g r) i x) (push_cases W.cells (closed v) (open_at co g r) j y)
    where
      both : (slice_get W.cells i ≡ Some (open_at co g r)) ⊎ ((i ≡ length W.cells) × (closed v ≡ open_at co g r)) → (slice_get W.cells j ≡ Some (open_at co g r)) ⊎ ((j ≡ length W.cells) × (closed v ≡ open_at co g r)) → i ≡ j
      both (inl a) (inl b) = s.one_each i j co g r a b
      both (inl a) (inr b) = absurd (let e = b.1 in cc)
      both (inr a) b = absurd (let e = a.1 in cc)

  new_ok : FunctionOk (sizes n V) new
  new_ok = record { code = ok.checked; count = sym ok.one_upvalue; cells = each_one (λ c. c < length V.cells) (length W.cells) (let l = length-append W.cells (closed v ∷ []) in omega arith) }

  loaded_solid : Solid n V
  loaded_solid =
      let z = sizes n W in
      let y = sizes n V in
      record {
        tables = each_on (TableOk z) (TableOk y) (table_on z y loaded_grows) W.heap.tables s.tables;
        functions = each_push (FunctionOk y) W.functions new (each_on (FunctionOk z) (FunctionOk y) (function_on z y loaded_grows) W.functions s.functions) new_ok;
        cells = each_push (CellOk y V.coroutines) W.cells (closed v) (each_on (CellOk z W.coroutines) (CellOk y V.coroutines) (cell_on z y loaded_grows W.coroutines) W.cells s.cells) (valid_on z y loaded_grows v valid);
        one_each = one_each;
        coroutines = each_on (CoroutineOk z) (CoroutineOk y) (coroutine_on z y loaded_grows) W.coroutines s.coroutines;
        chain = s.chain;
        moving = values_on z y loaded_grows W.moving s.moving;
        roots = roots_on z y loaded_grows W V s.roots refl refl refl refl refl refl;
      }

  abbrev loaded_waits : StackWaits n W → StackWaits n V
  loaded_waits h = record { coroutine = h.coroutine; frames = h.frames; last = h.last; running = h.running; waits = each_waits_on (sizes n W) (sizes n V) loaded_grows h.frames h.waits }

environment_valid : (n : ℕ) (x : Option Arg) (env : List Value) (W : World) → Solid n W → EnvironmentOk x → Each (Valid (sizes n W)) env → Valid (sizes n W) (environment_in W env x)
environment_valid n None env W s k h = s.roots.globals
environment_valid n (Some x) env W s k h = arg_valid (sizes n W) env x h k

loaded_is : (p : Prototype) (x : Option Arg) (env : List Value) (W : World)
    → move (make_loaded p x) env W ≡ made (record W { functions = W.functions ++ record { code = p; cells = length W.cells ∷ [] } ∷ []; cells = W.cells ++ closed (environment_in W env x) ∷ [] }) (object a_function (length W.functions) ∷ []) tt
unfolding add_loaded
loaded_is p x env W = refl

pub make_loaded_waits : (n : ℕ) (p : Prototype) (x : Option Arg) → WaitingGood n (make_loaded p x)
make_loaded_waits n p x s env W i r =
    let v = environment_in W env x in
    let valid = environment_valid n x env W i.solid r.1 i.valid in
    let X : World = record W { functions = W.functions ++ record { code = p; cells = length W.cells ∷ [] } ∷ []; cells = W.cells ++ closed v ∷ [] } in
    record {
      event = length W.functions;
      world = X;
      is = loaded_is p x env W;
      holds = made_so n (waiting s) (waiting s) env (object a_function (length W.functions) ∷ []) W X i (loaded_grows n W i.solid p r.0 v valid) (loaded_solid n W i.solid p r.0 v valid)
          (same_under n s W X refl i.phase (loaded_waits n W i.solid p r.0 v valid i.phase.all) refl)
          (each_one (Valid (sizes n X)) (object a_function (length W.functions)) (let l = length-append W.functions (record { code = p; cells = length W.cells ∷ [] } ∷ []) in omega arith));
    }

-- the row

abbrev IsFine : Loaded Prototype → Type 0
IsFine (wrong error) = Unit {0}
IsFine (not_loaded why) = length why ≤ greatest_string
IsFine (loaded name p) = LoadedOk p

load_fine : (builds : Builds Prototype) → BuildsOk builds → (chunk name mode : Shape) → IsFine (load_of builds chunk name mode)
load_fine builds ok chunk name mode = load_is IsFine builds (λ error. tt) (λ why l. l) (λ name source p l e. ok name source p l e) chunk name mode

loaded_safe : (env : List Value) (x : Option Arg) (l : Loaded Prototype) → EnvironmentOk x → IsFine l → Safe (waiting None) env (loaded_row x l)
loaded_safe env x (wrong error) k f = (tt, λ _. tt)
loaded_safe env x (not_loaded why) k f = ((tt, (f, tt)), λ _. hand_over_safe None (env ++ []))
loaded_safe env x (loaded name p) k f = ((f, k), λ n. ((tt, tt), λ _. hand_over_safe None ((env ++ object a_function n ∷ []) ++ [])))

environment_fine : (c count : ℕ) → EnvironmentOk (environment_at c count)
environment_fine c count = by (nat_lt (3 + c) count)
  where
    by : (b : Bool) → EnvironmentOk (cond b (Some (read (3 + c))) None)
    by true = tt
    by false = tt

pub load_safe : LoadRowSafe
load_safe builds ok = (tt, λ vs. (tt, λ _. (tt, λ _. (tt, λ _. told vs (shape (arg vs (read 0))) (shape (arg (vs ++ []) (read 1))) (shape (arg ((vs ++ []) ++ []) (read 2)))))))
  where
    told : (vs : List Value) (chunk name mode : Shape) → Safe (waiting None) (((vs ++ []) ++ []) ++ []) (loaded_row (environment_at 0 (length vs)) (load_of builds chunk name mode))
    told vs chunk name mode = loaded_safe (((vs ++ []) ++ []) ++ []) (environment_at 0 (length vs)) (load_of builds chunk name mode) (environment_fine 0 (length vs)) (load_fine builds ok chunk name mode)
