-- A sound world: the main coroutine runs a function that returns an integer.
use Rattle.std.proofs.Common.{ℕ, zero, suc, ◌≡◌, ◌<◌, List, [], ◌∷◌, Option, Some, None, refl, subst, true, false, arith}
use Rattle.std.specs.Prelude.{pos, slice_get, IsTrue, IsSome}
use Rattle.std.specs.List.{list_all}
use Rattle.int_core.specs.Value.{Value, known, nil, integer, nth}
use Rattle.code_core.specs.declared.opcode.Opcode.TheVariants.{ExtraArg, LoadI, Return1}
use Rattle.code_core.specs.declared.instruction.Instruction.{Instruction}
use Rattle.code_core.specs.Opcode.{opcodes, number_of}
use Rattle.code_core.specs.Instruction.{opcode_of, abc, abx}
use Rattle.code_core.specs.Prototype.{Prototype, none, stripped}
use Rattle.code_core.specs.Check.{IsChecked, AllHold, Rule, rules, at}
use Rattle.machine_core.specs.World.{Function, running, LuaFrame, lua, in_progress, World, put_top, put_frames, pop, find_open}
use Rattle.machine_core.specs.Text.{keep_pending, effect}
use Rattle.machine_core.specs.InstructionRows.{row_of}
use Rattle.machine_core.specs.FrameRows.{expand}
use Rattle.machine_core.specs.Moves.{Ending, go, main_returned, Outcome, trapped, ends, run, with_own, back_to_resumer, popped, bury, suspend_running, wait_for_another, go_into, put_coroutine}
use Rattle.machine_core.specs.MachineStep.{steps, error_row}
use Rattle.machine_core.proofs.Machine.{started}
use Rattle.machine_sound.specs.Sound.{Solid, Settled, on_top, sizes, Valid, TableOk, FunctionOk, LuaOk, FrameOk, FrameWaits, CoroutineOk, CellOk, runs, resumed_another}
use Rattle.machine_sound.specs.Laws.{SoundAfter}
use Rattle.machine_sound.proofs.Lists.{each_none, each_one}
use Rattle.machine_sound.proofs.Values.{both_of, each_nils}

abbrev code : Prototype
code = stripped 0 false 2 (abx LoadI 0 65542 ∷ abc Return1 0 2 0 false ∷ []) [] [] none

all_hold : (rs : List Rule) → IsTrue (list_all (λ r. r.1) rs) → AllHold rs
all_hold [] h = tt
all_hold (r ∷ rs) h = let b = both_of r.1 (list_all (λ r. r.1) rs) h in (b.0, all_hold rs b.1)

some_same : (v w : Instruction) → Some v ≡ Some w → v ≡ w
some_same v w e = cc

places : (pc : ℕ) (w : Instruction) → at code pc ≡ Some w → AllHold (rules code pc w)
unfolding opcodes number_of
places zero w e = subst (λ w. AllHold (rules code 0 w)) (some_same (abx LoadI 0 65542) w e) (all_hold (rules code 0 (abx LoadI 0 65542)) refl)
places (suc zero) w e = subst (λ w. AllHold (rules code 1 w)) (some_same (abc Return1 0 2 0 false) w e) (all_hold (rules code 1 (abc Return1 0 2 0 false)) refl)
places (suc (suc pc)) w e = absurd (cc)

pub code_checked : IsChecked code
unfolding number_of
code_checked = record { code = record { sized = refl; places = places; described = refl }; inner = tt }

abbrev function : Function
function = record { code = code; cells = [] }

abbrev frame : LuaFrame
frame = record { function = 0; wait = running; own = record { pc = 0; registers = known nil ∷ known nil ∷ []; varargs = []; pending = []; opened = 0 } }

abbrev pub world : World
world = record (started 0 (function ∷ []) [] (record { rows = []; metatable = None } ∷ []) []) { coroutines = in_progress (lua frame ∷ []) ∷ [] }

abbrev came : Outcome → Option (Ending × List Value)
came trapped = None
came (ends e W) = Some (e, W.moving)

-- three steps on, the script has returned 7
three_steps : came (steps (λ n. error_row) 3 go world) ≡ Some (main_returned, known (integer (pos 7)) ∷ [])
unfolding opcodes number_of with_own put_top put_frames pop back_to_resumer put_coroutine popped bury suspend_running wait_for_another go_into
three_steps = refl

zero_of : (co : ℕ) → Some 0 ≡ Some co → 0 ≡ co
zero_of co e = cc

lua_ok : LuaOk (sizes 6 world) frame
lua_ok = record {
  function = function;
  there = refl;
  stack = omega arith;
  registers = each_nils (Valid (sizes 6 world)) tt 2;
  varargs = each_none (Valid (sizes 6 world));
  pending = each_none (λ r. r < 2);
  error = tt;
}

first_opcode : opcode_of (abx LoadI 0 65542) ≡ Some LoadI
unfolding opcodes number_of
first_opcode = refl

world_solid : Solid 6 world
world_solid = record {
  tables = each_one (TableOk (sizes 6 world)) (record { rows = []; metatable = None }) (record { rows = each_none (λ (row : Value × Value). Valid (sizes 6 world) row.0 × Valid (sizes 6 world) row.1); metatable = tt });
  functions = each_one (FunctionOk (sizes 6 world)) function (record { code = code_checked; count = refl; cells = each_none (λ c. c < 0) });
  cells = each_none (CellOk (sizes 6 world) world.coroutines);
  one_each = λ i j co f r a b. absurd (cc);
  coroutines = each_one (CoroutineOk (sizes 6 world)) (in_progress (lua frame ∷ [])) (record { each = each_one (FrameOk (sizes 6 world)) (lua frame) lua_ok; depth = omega arith });
  chain = record {
    first = λ co e. e;
    last_runs = last_runs;
    before = λ i co e l. absurd (omega arith);
    running_in = running_in;
    normal_in = normal_in;
    once = once;
    bound = omega arith;
  };
  moving = each_none (Valid (sizes 6 world));
  roots = record { string_metatable = tt; globals = omega arith; prelude_environment = omega arith; prelude_functions = each_none (λ f. f < 1); special_key = omega arith; main = omega arith };
}
  where
    last_runs : (i co : ℕ) → slice_get (0 ∷ []) i ≡ Some co → suc i ≡ 1 → slice_get (runs ∷ []) co ≡ Some runs
    last_runs zero co e l = subst (λ co. slice_get (runs ∷ []) co ≡ Some runs) (zero_of co e) refl
    last_runs (suc i) co e l = absurd (cc)

    running_in : (co : ℕ) → slice_get (runs ∷ []) co ≡ Some runs → (i : ℕ) × (slice_get (0 ∷ []) i ≡ Some co)
    running_in zero e = (0, refl)
    running_in (suc co) e = absurd (cc)

    normal_in : (co : ℕ) → slice_get (runs ∷ []) co ≡ Some resumed_another → (i : ℕ) × (slice_get (0 ∷ []) i ≡ Some co)
    normal_in zero e = absurd (cc)
    normal_in (suc co) e = absurd (cc)

    once : (i j co : ℕ) → slice_get (0 ∷ []) i ≡ Some co → slice_get (0 ∷ []) j ≡ Some co → i ≡ j
    once zero zero co a b = refl
    once zero (suc j) co a b = absurd (cc)
    once (suc i) j co a b = absurd (cc)

world_settled : Settled 6 world
world_settled = record {
  top = record { code = code; pc = 0; size = 2; opened = 0; pending = 0; cells = 0; captured = []; runs = true };
  is_top = record {
    coroutine = 0;
    base = [];
    top = frame;
    function = function;
    last = refl;
    frames = refl;
    there = refl;
    below = each_none (FrameWaits (sizes 6 world));
    code = refl;
    pc = refl;
    size = refl;
    opened = refl;
    pending = each_none (λ r. r < 0);
    cells = λ i r e. absurd (cc);
    captured = each_none (λ r. IsSome (find_open 0 0 r world.cells));
    wait = refl;
  };
  fits = record { instruction = abx LoadI 0 65542; at_pc = refl; opcode = LoadI; is_opcode = first_opcode; no_extra = refl; fits_mark = (refl, refl); cells = omega arith };
}

pub world_sound : SoundAfter 6 go world
world_sound = record { sound = record { solid = world_solid; rests = on_top world_settled }; ready = world_settled }

-- why a frame that runs stands at no EXTRAARG: it has no row
extra_traps : (p : Prototype) (w : Instruction) (W : World) → run (expand (row_of p 0 ExtraArg w)) [] W ≡ trapped
extra_traps p w W = refl

-- why a frame that is left has no pending register past its code's: such a one would not be kept
not_kept : nth (effect keep_pending code [] (record { pc = 0; registers = known nil ∷ known nil ∷ known nil ∷ known (integer (pos 7)) ∷ []; varargs = []; pending = 3 ∷ []; opened = 0 })).registers 3 ≡ known nil
not_kept = refl
