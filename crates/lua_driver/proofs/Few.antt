-- Where a frame that runs at a return of one value or of none returns.
use Rattle.std.proofs.Common.{◌≡◌, ℕ, suc, ◌-◌, ◌≤◌, List, [], length, Option, Some, None, Bool, true, false, refl, ap, sym, subst, ◌∙◌, arith}
use Rattle.std.specs.Prelude.{cond, map, not, ◌==◌}
use Rattle.code_core.specs.declared.opcode.Opcode.{Opcode}
use Rattle.code_core.specs.Instruction.{a_of, opcode_of}
use Rattle.code_core.specs.Prototype.{Prototype}
use Rattle.int_core.specs.Value.{Value, Shape, is_known, nil}
use Rattle.machine_core.specs.Text.{Text, read_registers}
use Rattle.machine_core.specs.InstructionRows.{counted, read_values, returns}
use Rattle.machine_core.specs.FrameRows.{expand}
use Rattle.machine_core.specs.Moves.{Ending, on_own}
use Rattle.machine_sound.proofs.OpcodesCalls.{not_zero}
use Rattle.table_core.specs.declared.value.Value.{Value as Kept}
use Rattle.instruction_forms.specs.declared.form.Form.{Form}
use Rattle.instruction_forms.specs.declared.form.Form.TheVariants.{ReturnSome}
use Rattle.instruction_forms.specs.Forms.{text_of}
use Rattle.instruction_forms.specs.Waiting.{form_at}
use Rattle.lua_heap.specs.declared.world.World.{World as Memory}
use Rattle.lua_heap.specs.Reading.{value}
use Rattle.move_laws.specs.Memory.{CanDo, IsSafe, IsSound, Makes, Steps}
use Rattle.move_laws.proofs.Rows.{can_do}
use Rattle.machine_returns.proofs.Closed.{SeesPending, seen_none, steps_first}
use Rattle.step_laws.specs.Steps.{HasForm}
use Rattle.running_frame.specs.declared.place.Here.{Here}
use Rattle.running_frame.specs.Here.{IsHere}
use Rattle.machine_step.specs.Places.{RunsForm}
use Rattle.machine_step.proofs.ByForm.{returns_there, safe as never_traps}
use Rattle.lua_driver.specs.Returning.{Returns, ReturnsFew, ReturnsFrom, by_number, without_number}
use Rattle.lua_driver.proofs.Forms.{form_here, runs_so}

-- what a negated test says

pub waits_where : (b : Bool) → not b ≡ true → b ≡ false
waits_where true e = absurd (cc)
waits_where false e = refl

-- a frame runs at an instruction that is told how many values it returns
pub returns_some : {here : Here} (op : Opcode) (count : ℕ) → here.runs ≡ true → opcode_of here.word ≡ Some op → form_at op here.word ≡ Some (ReturnSome (a_of here.word) count)
    → HasForm op here.word (ReturnSome (a_of here.word) count) → ReturnsFew here count
returns_some {here} op count r o f h =
    let form = ReturnSome (a_of here.word) count in
    record { form = form; runs = runs_so op form r o f h refl; returns = without_number }

-- the row of a RETURN reads the values, and returns them

abbrev told_returns : (from told : ℕ) → ℕ → Shape → Text
told_returns from told v s = returns from (cond (told == 0) (counted s) (told - 1))

one_fewer : (told count : ℕ) (s : Shape) → told ≡ suc count → cond (told == 0) (counted s) (told - 1) ≡ count
one_fewer told count s e =
    let less : told - 1 ≡ count = omega (arith, e) in
    ap (λ b. cond b (counted s) (told - 1)) (not_zero told count e) ∙ less

module _ {W : Memory} {from count : ℕ} where
  pub registers_there : {pc : ℕ} {form : Form} → RunsForm W pc form → ReturnsFrom from count form → IsSound W → CanDo W (read_registers from count)
  registers_there r without_number s = returns_there r s
  registers_there r (by_number told e) s =
      can_do (read_registers from count) (λ v s. expand (told_returns from told v s)) (subst (λ n. IsSafe (expand (read_values from n (told_returns from told))) [] W) e (never_traps r s))

  pub steps_by_form : {V : Memory} {fuel left : ℕ} {ending : Ending} {form : Form} (values : List Kept) → ReturnsFrom from count form
      → ((env : List Value) → Makes W W (on_own (read_registers from count)) env (map (value W.strings) values) (is_known nil))
      → ((env : List Value) → Steps (expand (returns from count)) env W fuel V left ending)
      → (p : Prototype) (pc : ℕ) → Steps (expand (text_of p pc form)) [] W fuel V left ending
  steps_by_form values without_number reads steps p pc = steps []
  steps_by_form {V} {fuel} {left} {ending} values (by_number told e) reads steps p pc =
      let vs = map (value W.strings) values in
      let then_returns : Steps (expand (told_returns from told 0 (is_known nil))) vs W fuel V left ending =
      subst (λ n. Steps (expand (returns from n)) vs W fuel V left ending) (sym (one_fewer told count (is_known nil) e)) (steps vs) in
      subst (λ n. Steps (expand (read_values from n (told_returns from told))) [] W fuel V left ending) (sym e)
      (steps_first (λ v s. expand (told_returns from told v s)) (reads []) then_returns)

module _ {W : Memory} {here : Here} {count : ℕ} where
  pub runs_few : IsSound W → IsHere W here → (f : ReturnsFew here count) → RunsForm W here.pc f.form
  runs_few s h f = form_here s h f.runs

  pub returns_so : (from : ℕ) (read values : List Kept) (pending : Option Kept) → from ≡ a_of here.word → IsSound W → IsHere W here → ReturnsFew here count → SeesPending W 0 pending → pending ≡ None
      → ((env : List Value) → Makes W W (on_own (read_registers from count)) env (map (value W.strings) read) (is_known nil)) → read ≡ values → length values ≤ 1 → Returns W values
  returns_so from read values pending a s h f sees none gives same few = record {
    pc = here.pc;
    from = from;
    count = count;
    form = f.form;
    runs = runs_few s h f;
    returns = subst (λ from. ReturnsFrom from count f.form) (sym a) f.returns;
    none = λ env. seen_none W 0 pending sees none env;
    gives = λ env. subst (λ values. Makes W W (on_own (read_registers from count)) env (map (value W.strings) values) (is_known nil)) same (gives env);
    few = few;
  }
