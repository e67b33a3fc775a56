-- Ids stay valid as a world grows.
use Rattle.std.proofs.Common.{ℕ, zero, suc, ◌+◌, ◌-◌, ◌<◌, ◌≤◌, ◌≡◌, List, [], ◌∷◌, Option, Some, None, refl, subst, sym, ap, length, arith}
use Rattle.std.specs.Prelude.{slice_get}
use Rattle.int_core.specs.Value.{Plain, Value, known, object, a_table, a_function, a_coroutine}
use Rattle.int_core.specs.Heap.{Table}
use Rattle.machine_core.specs.World.{Function, Cell, closed, open_at, Wait, leaving, LuaFrame, Frame, lua, pcall, xpcall, handler, closing, Coroutine, fresh, suspended, in_progress, normal, dead, failed, World}
use Rattle.machine_sound.specs.Sound.{Each, Sizes, PlainOk, Valid, OptionOk, TableOk, FunctionOk, WaitOk, LuaOk, FrameOk, LuaWaits, FrameWaits, FramesOk, AllWait, CoroutineOk, CellOk, RootsOk}
use Rattle.machine_sound.proofs.Lists.{each_on}

pub record Grows (z y : Sizes) : Type 0 where
  pub primitives : y.primitives ≡ z.primitives
  pub tables : z.tables ≤ y.tables
  pub some : length z.functions ≤ length y.functions
  pub functions : (i : ℕ) (f : Function) → slice_get z.functions i ≡ Some f → slice_get y.functions i ≡ Some f
  pub cells : z.cells ≤ y.cells
  pub coroutines : z.coroutines ≤ y.coroutines

pub grows_self : (z : Sizes) → Grows z z
grows_self z = record { primitives = refl; tables = omega arith; some = omega arith; functions = λ i f h. h; cells = omega arith; coroutines = omega arith }

pub grows_then : (x y z : Sizes) → Grows x y → Grows y z → Grows x z
grows_then x y z g h = record {
  primitives = Rattle.std.proofs.Common.◌∙◌ h.primitives g.primitives;
  tables = let a = g.tables in let b = h.tables in omega arith;
  some = let a = g.some in let b = h.some in omega arith;
  functions = λ i f e. h.functions i f (g.functions i f e);
  cells = let a = g.cells in let b = h.cells in omega arith;
  coroutines = let a = g.coroutines in let b = h.coroutines in omega arith;
}

module _ (z y : Sizes) (g : Grows z y) where
  plain_on : (p : Plain) → PlainOk z.primitives p → PlainOk y.primitives p
  plain_on p h = subst (λ n. PlainOk n p) (sym g.primitives) h

  pub valid_on : (v : Value) → Valid z v → Valid y v
  valid_on (known p) h = plain_on p h
  valid_on (object a_table i) h = let k = g.tables in omega arith
  valid_on (object a_function i) h = let k = g.some in omega arith
  valid_on (object a_coroutine i) h = let k = g.coroutines in omega arith

  pub values_on : (vs : List Value) → Each (Valid z) vs → Each (Valid y) vs
  values_on vs h = each_on (Valid z) (Valid y) valid_on vs h

  pub option_on : {A : Type 0} (P Q : A → Type 0) → ((a : A) → P a → Q a) → (o : Option A) → OptionOk P o → OptionOk Q o
  option_on P Q f None h = tt
  option_on P Q f (Some a) h = f a h

  meta_on : (m : Option ℕ) → OptionOk (λ m. m < z.tables) m → OptionOk (λ m. m < y.tables) m
  meta_on m h = option_on (λ m. m < z.tables) (λ m. m < y.tables) (λ m k. let a = g.tables in omega arith) m h

  pub table_on : (t : Table) → TableOk z t → TableOk y t
  table_on t h = record {
    rows = each_on (λ (row : Value × Value). Valid z row.0 × Valid z row.1) (λ row. Valid y row.0 × Valid y row.1) (λ row k. (valid_on row.0 k.0, valid_on row.1 k.1)) t.rows h.rows;
    metatable = meta_on t.metatable h.metatable;
  }

  pub function_on : (f : Function) → FunctionOk z f → FunctionOk y f
  function_on f h = record { code = h.code; count = h.count; cells = each_on (λ c. c < z.cells) (λ c. c < y.cells) (λ c k. let j = g.cells in omega arith) f.cells h.cells }

  wait_on : (w : Wait Value) → WaitOk z w → WaitOk y w
  wait_on (leaving e) h = valid_on e h
  wait_on _ h = tt

  pub lua_on : (f : LuaFrame) → LuaOk z f → LuaOk y f
  lua_on f h = record {
    function = h.function;
    there = g.functions f.function h.function h.there;
    stack = h.stack;
    registers = values_on f.own.registers h.registers;
    varargs = values_on f.own.varargs h.varargs;
    pending = h.pending;
    error = wait_on f.wait h.error;
  }

  pub frame_on : (f : Frame) → FrameOk z f → FrameOk y f
  frame_on (lua f) h = lua_on f h
  frame_on pcall h = tt
  frame_on (xpcall v) h = valid_on v h
  frame_on handler h = tt
  frame_on (closing e left) h = (option_on (Valid z) (Valid y) valid_on e h.0, values_on left h.1)

  pub lua_waits_on : (f : LuaFrame) → LuaWaits z f → LuaWaits y f
  lua_waits_on f h = record {
    function = h.function;
    there = g.functions f.function h.function h.there;
    instruction = h.instruction;
    at_pc = h.at_pc;
    opcode = h.opcode;
    is_opcode = h.is_opcode;
    fits = h.fits;
    size = h.size;
    kept = h.kept;
    opened = h.opened;
  }

  pub waits_on : (f : Frame) → FrameWaits z f → FrameWaits y f
  waits_on (lua f) h = lua_waits_on f h
  waits_on _ h = tt

  pub each_waits_on : (fs : List Frame) → Each (FrameWaits z) fs → Each (FrameWaits y) fs
  each_waits_on fs h = each_on (FrameWaits z) (FrameWaits y) waits_on fs h

  pub frames_on : (fs : List Frame) → FramesOk z fs → FramesOk y fs
  frames_on fs h = record { each = each_on (FrameOk z) (FrameOk y) frame_on fs h.each; depth = h.depth }

  all_wait_on : (fs : List Frame) → AllWait z fs → AllWait y fs
  all_wait_on fs h = record { right = frames_on fs h.right; waits = each_waits_on fs h.waits }

  pub coroutine_on : (c : Coroutine) → CoroutineOk z c → CoroutineOk y c
  coroutine_on (fresh v) h = (valid_on v h.0, h.1)
  coroutine_on (suspended fs) h = all_wait_on fs h
  coroutine_on (in_progress fs) h = frames_on fs h
  coroutine_on (normal fs) h = all_wait_on fs h
  coroutine_on dead h = tt
  coroutine_on (failed e vs) h = (valid_on e h.0, values_on vs h.1)

  pub cell_on : (cs : List Coroutine) (c : Cell) → CellOk z cs c → CellOk y cs c
  cell_on cs (closed v) h = valid_on v h
  cell_on cs (open_at co f r) h = h

  -- with the same roots
  pub roots_on : (W V : World) → RootsOk z W → W.globals ≡ V.globals → W.prelude_environment ≡ V.prelude_environment → W.prelude_functions ≡ V.prelude_functions → W.special_key ≡ V.special_key → W.main ≡ V.main → W.heap.string_metatable ≡ V.heap.string_metatable → RootsOk y V
  roots_on W V h a b c d e s = record {
    string_metatable = subst (λ m. OptionOk (λ m. m < y.tables) m) s (meta_on W.heap.string_metatable h.string_metatable);
    globals = let k = h.globals in let j = g.tables in omega arith;
    prelude_environment = let k = h.prelude_environment in let j = g.tables in omega arith;
    prelude_functions = subst (λ fs. Each (λ f. f < length y.functions) fs) c (each_on (λ f. f < length z.functions) (λ f. f < length y.functions) (λ f k. let j = g.some in omega arith) W.prelude_functions h.prelude_functions);
    special_key = let k = h.special_key in let j = ap length d in omega arith;
    main = subst (λ m. OptionOk (λ co. co < y.coroutines) m) e (option_on (λ co. co < z.coroutines) (λ co. co < y.coroutines) (λ co k. let j = g.coroutines in omega arith) W.main h.main);
  }
