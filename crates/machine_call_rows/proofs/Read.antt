-- What a row of a call has read: the value that is called, and its arguments.
use Rattle.std.proofs.Common.{◌≡◌, ℕ, suc, ◌+◌, List, [], ◌∷◌, ◌++◌, length, ap, refl, sym, subst, ◌∙◌, Bool}
use Rattle.std.specs.Prelude.{map, pos}
use Rattle.int_core.specs.Value.{Value, Shape, shape, integer, nil, is_known}
use Rattle.machine_core.specs.Text.{Arg, list_end, read, read_list, read_register, read_registers, drop_pending, cut_from, Text, call, tail_call}
use Rattle.machine_core.specs.InstructionRows.{read_values}
use Rattle.machine_core.specs.FrameRows.{expand}
use Rattle.machine_core.specs.Moves.{Ending as Ends, on_own, run}
use Rattle.machine_core.specs.MachineStep.{from_world}
use Rattle.machine_sound.specs.Sound.{Each, Sound, Valid, sizes}
use Rattle.machine_sound.proofs.Values.{each_list, each_range}
use Rattle.instruction_forms.specs.Forms.{wait_for_call}
use Rattle.table_core.specs.declared.value.Value.{Value as Kept}
use Rattle.lua_stack.specs.declared.frame.Wait.{Wait as KeptWait}
use Rattle.lua_heap.specs.declared.world.World.{World as Memory}
use Rattle.lua_heap.specs.Plain.{plain}
use Rattle.lua_heap.specs.Reading.{value}
use Rattle.move_laws.specs.Memory.{CanDo, IsSafe, IsSound, Makes, Steps}
use Rattle.move_laws.proofs.Rows.{act_is, can_do, safe_after}
use Rattle.move_laws.proofs.Sounds.{sound_top}
use Rattle.move_laws.proofs.Valid.{reads_there, top_is_ok}
use Rattle.machine_moves.specs.Ending.{ending_of}
use Rattle.machine_moves.specs.declared.ending.Ending.{Ending}
use Rattle.machine_calls.specs.declared.preparing.Prepared.TheVariants.{GivenUp}
use Rattle.machine_calls.specs.Preparing.{CanPrepare}
use Rattle.machine_calls.specs.Tails.{CallsInPlace, IsNamedTail, MayCallInPlace}
use Rattle.machine_calls.specs.Waiting.{CallsSo, IsNamed, MayCall}
use Rattle.machine_call_rows.specs.Rows.{IsWaitOfCall, MayKeep, MayReadValues, ReadsValues, whole_text, with_arguments}
use Rattle.machine_call_rows.proofs.Beyond.{none_beyond}

-- values that are read

list_valid : (W : Memory) (from : ℕ) (vs : List Kept) (told : Shape) → Makes W W (on_own (read_list from)) [] (map (value W.strings) vs) told
    → (n : ℕ) → Sound n (plain W 0) → Each (Valid (sizes n (plain W 0))) (map (value W.strings) vs)
list_valid W from vs told m n s =
    let P = Valid (sizes n (plain W 0)) in
    let a = reads_there (read_list from) [] (plain W 0) (plain W 0) (map (value W.strings) vs) told (m.is 0) in
    subst (Each P) a.values (each_list P tt from a.place.top.own.registers (list_end a.place.function.code a.place.top.own) (top_is_ok n (plain W 0) a.place s a.is).frame.registers)

registers_valid : (W : Memory) (from count : ℕ) (vs : List Kept) (told : Shape) → Makes W W (on_own (read_registers from count)) [] (map (value W.strings) vs) told
    → (n : ℕ) → Sound n (plain W 0) → Each (Valid (sizes n (plain W 0))) (map (value W.strings) vs)
registers_valid W from count vs told m n s =
    let P = Valid (sizes n (plain W 0)) in
    let a = reads_there (read_registers from count) [] (plain W 0) (plain W 0) (map (value W.strings) vs) told (m.is 0) in
    subst (Each P) a.values (each_range P tt from count a.place.top.own.registers (top_is_ok n (plain W 0) a.place s a.is).frame.registers)

pub list_read : (W : Memory) (from count : ℕ) (vs : List Kept) → count ≡ 0
    → ((env : List Value) → Makes W W (on_own (read_list from)) env (map (value W.strings) vs) (is_known (integer (pos (length vs))))) → ReadsValues W from count vs
list_read W from count vs z m =
    let told : Shape = is_known (integer (pos (length vs))) in
    record {
      told = told;
      valid = list_valid W from vs told (m []);
      goes = λ rest env fuel.
          subst (λ n. run (expand (read_values from n rest)) env (plain W fuel) ≡ run (expand (rest (length env) told)) (env ++ map (value W.strings) vs) (plain W fuel)) (sym z)
          (act_is (on_own (read_list from)) (λ n s. expand (rest n s)) env (plain W fuel) (plain W fuel) (map (value W.strings) vs) told ((m env).is fuel));
    }

pub registers_read : (W : Memory) (from count n : ℕ) (vs : List Kept) → count ≡ suc n
    → ((env : List Value) → Makes W W (on_own (read_registers from n)) env (map (value W.strings) vs) (is_known nil)) → ReadsValues W from count vs
registers_read W from count n vs e m =
    let told : Shape = is_known nil in
    record {
      told = told;
      valid = registers_valid W from n vs told (m []);
      goes = λ rest env fuel.
          subst (λ n. run (expand (read_values from n rest)) env (plain W fuel) ≡ run (expand (rest (length env) told)) (env ++ map (value W.strings) vs) (plain W fuel)) (sym e)
          (act_is (on_own (read_registers from n)) (λ n s. expand (rest n s)) env (plain W fuel) (plain W fuel) (map (value W.strings) vs) told ((m env).is fuel));
    }

-- what follows them

abbrev pub call_text : (keeps : ℕ) → Bool → Arg → ℕ → Text
call_text keeps iterates f v = call f v (wait_for_call iterates) (drop_pending keeps ∷ cut_from keeps ∷ [])

abbrev pub tail_text : Arg → ℕ → Text
tail_text f v = tail_call f v

abbrev ReadsRegister : Memory → ℕ → Kept → Type 0
ReadsRegister W function called = (env : List Value) → Makes W W (on_own (read_register function)) env (value W.strings called ∷ []) (shape (value W.strings called))

-- the register of the value that is called is there
pub reads_called : {W : Memory} (function count : ℕ) (rest : Arg → ℕ → Text) → IsSafe (expand (whole_text function count rest)) [] W → CanDo W (read_register function)
reads_called function count rest s = can_do (read_register function) (λ f s. expand (with_arguments function count rest f s)) s

pub may_read : {W : Memory} (function count : ℕ) (rest : Arg → ℕ → Text) (called : Kept) → IsSafe (expand (whole_text function count rest)) [] W → ReadsRegister W function called
    → MayReadValues W (function + 1) count
may_read {W} function count rest called s m = record {
  rest = λ v _. rest (read 0) v;
  env = value W.strings called ∷ [];
  safe = safe_after (λ f s. expand (with_arguments function count rest f s)) s (m []);
}

module _ (W : Memory) (function count : ℕ) (rest : Arg → ℕ → Text) (called : Kept) (arguments : List Kept) (m : ReadsRegister W function called) (r : ReadsValues W (function + 1) count arguments) where
  abbrev all_read : List Value
  all_read = value W.strings called ∷ map (value W.strings) arguments

  row_is : (fuel : ℕ) → run (expand (whole_text function count rest)) [] (plain W fuel) ≡ run (expand (rest (read 0) 1)) all_read (plain W fuel)
  row_is fuel =
      act_is (on_own (read_register function)) (λ f s. expand (with_arguments function count rest f s)) [] (plain W fuel) (plain W fuel) (value W.strings called ∷ []) (shape (value W.strings called)) ((m []).is fuel)
      ∙ r.goes (λ v _. rest (read 0) v) (value W.strings called ∷ []) fuel

  pub safe_read : IsSafe (expand (whole_text function count rest)) [] W → IsSafe (expand (rest (read 0) 1)) all_read W
  safe_read s = record { never = λ fuel e. s.never fuel (row_is fuel ∙ e) }

  pub steps_read : {V : Memory} {fuel left : ℕ} {ending : Ends} → Steps (expand (rest (read 0) 1)) all_read W fuel V left ending → Steps (expand (whole_text function count rest)) [] W fuel V left ending
  steps_read {fuel = fuel} s = record { is = ap (from_world (plain W fuel)) (row_is fuel) ∙ s.is }

-- a call over the frame

pub names_call : (W : Memory) (keeps : ℕ) (iterates : Bool) (called : Kept) (arguments : List Kept) (wait : KeptWait) → IsWaitOfCall iterates wait
    → IsNamed W (value W.strings called ∷ map (value W.strings) arguments) (read 0) 1 (wait_for_call iterates) (read 0) called arguments wait (GivenUp keeps)
names_call W keeps iterates called arguments wait w = record {
  calls = refl;
  gives = refl;
  waits = w.is (value W.strings) (value W.strings called ∷ map (value W.strings) arguments);
  copies = tt;
}

pub may_call : (W : Memory) (function count keeps : ℕ) (iterates : Bool) (called : Kept) (arguments : List Kept) (wait : KeptWait)
    → IsSafe (expand (whole_text function count (call_text keeps iterates))) [] W → ReadsRegister W function called → ReadsValues W (function + 1) count arguments → IsWaitOfCall iterates wait
    → MayCall W called arguments wait (GivenUp keeps)
may_call W function count keeps iterates called arguments wait s m r w = record {
  env = value W.strings called ∷ map (value W.strings) arguments;
  f = read 0;
  slot = 1;
  w = wait_for_call iterates;
  x = read 0;
  names = names_call W keeps iterates called arguments wait w;
  safe = safe_read W function count (call_text keeps iterates) called arguments m r s;
  held_wait = w.held W.strings;
  held = tt;
}

pub steps_call : (W V : Memory) (fuel left function count keeps : ℕ) (iterates : Bool) (called : Kept) (arguments : List Kept) (wait : KeptWait) (ending : Ending)
    → ReadsRegister W function called → ReadsValues W (function + 1) count arguments → IsWaitOfCall iterates wait → CallsSo W V fuel left called arguments wait (GivenUp keeps) (ending_of ending)
    → Steps (expand (whole_text function count (call_text keeps iterates))) [] W fuel V left (ending_of ending)
steps_call W V fuel left function count keeps iterates called arguments wait ending m r w c =
    steps_read W function count (call_text keeps iterates) called arguments m r
    (c.steps (value W.strings called ∷ map (value W.strings) arguments) (read 0) 1 (wait_for_call iterates) (read 0) (names_call W keeps iterates called arguments wait w))

pub can_prepare : (W : Memory) (keeps : ℕ) → IsSound W → MayKeep W keeps → CanPrepare W (GivenUp keeps)
can_prepare W keeps s k =
    let t = sound_top k.place s k.is in
    record { place = k.place; is = k.is; checked = t.checked; room = t.room; there = (k.within, none_beyond W k.place s k.is k.running) }

-- a call in its place

pub names_tail : (W : Memory) (called : Kept) (arguments : List Kept) → IsNamedTail W (value W.strings called ∷ map (value W.strings) arguments) (read 0) 1 called arguments
names_tail W called arguments = record { calls = refl; gives = refl }

pub may_tail_call : (W : Memory) (function count : ℕ) (called : Kept) (arguments : List Kept)
    → IsSafe (expand (whole_text function count tail_text)) [] W → ReadsRegister W function called → ReadsValues W (function + 1) count arguments → MayCallInPlace W called arguments
may_tail_call W function count called arguments s m r = record {
  env = value W.strings called ∷ map (value W.strings) arguments;
  f = read 0;
  slot = 1;
  names = names_tail W called arguments;
  safe = safe_read W function count tail_text called arguments m r s;
}

pub steps_tail_call : (W V : Memory) (fuel left function count : ℕ) (called : Kept) (arguments : List Kept) (ending : Ending)
    → ReadsRegister W function called → ReadsValues W (function + 1) count arguments → CallsInPlace W V fuel left called arguments (ending_of ending)
    → Steps (expand (whole_text function count tail_text)) [] W fuel V left (ending_of ending)
steps_tail_call W V fuel left function count called arguments ending m r c =
    steps_read W function count tail_text called arguments m r
    (c.steps (value W.strings called ∷ map (value W.strings) arguments) (read 0) 1 (names_tail W called arguments))
