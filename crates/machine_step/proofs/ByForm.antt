-- What the row of an instruction supposes where a step begins, and that what it does is a step.
use Rattle.std.proofs.Common.{◌≡◌, ℕ, ◌+◌, ◌<◌, [], length, Option, Some, None, Bool, sym, subst, arith}
use Rattle.std.specs.Prelude.{◌^◌}
use Rattle.machine_core.specs.World.{Place, place_of}
use Rattle.machine_core.specs.Text.{read_registers}
use Rattle.machine_core.specs.FrameRows.{expand}
use Rattle.machine_core.specs.Moves.{Ending, go}
use Rattle.machine_sound.proofs.Lists.{some_is}
use Rattle.machine_sound.proofs.Values.{le_true}
use Rattle.instruction_forms.specs.declared.operand.Operands.{Operands}
use Rattle.instruction_forms.specs.declared.operand.Operation.{Operation}
use Rattle.instruction_forms.specs.declared.form.After.{After}
use Rattle.instruction_forms.specs.declared.form.Form.{Form}
use Rattle.instruction_forms.specs.declared.form.Form.TheVariants.{Call, Operate, ReturnSome}
use Rattle.instruction_forms.specs.Forms.{text_of}
use Rattle.lua_heap.specs.declared.world.World.{World as Memory}
use Rattle.lua_heap.specs.Plain.{plain}
use Rattle.move_laws.specs.Memory.{CanDo, IsSafe, IsSound, Leads, StandsAt, StandsSound, Steps}
use Rattle.move_laws.proofs.Order.{is_spent, steps_of}
use Rattle.move_laws.proofs.Sounds.{sound_top}
use Rattle.machine_returns.specs.Returning.{MayReturn}
use Rattle.step_laws.specs.Small.{IsSmall, IsWithin}
use Rattle.step_laws.proofs.Unpaid.{IsUnpaid}
use Rattle.step_laws.proofs.Small.{forms_are_small, forms_are_within}
use Rattle.step_laws.proofs.Stepping.{instruction_is_safe, instruction_is_step, unpaid_is_step}
use Rattle.machine_step.specs.Step.{Goes, Passes}
use Rattle.machine_step.specs.Places.{MayRun, RunsForm}
use Rattle.machine_call_rows.specs.Rows.{MayKeep}
use Rattle.machine_operations.specs.Copying.{CanCopy}
use Rattle.machine_objects.specs.Filling.{FrameRuns}

-- the form of what may run is known
pub may_run : {W : Memory} {pc : ℕ} {form known : Form} → MayRun W pc form → form ≡ known → MayRun W pc known
may_run {W} {pc} m e = subst (MayRun W pc) e m

module _ {W : Memory} {pc : ℕ} {form : Form} (r : RunsForm W pc form) where
  pub stands : StandsAt W pc
  stands = record { place = r.runs.place; is = r.runs.is; at = r.at }

  pub room : pc + 2 < 2 ^ 64
  room = let l = r.near in omega (arith, l)

  pub begins : IsSound W → StandsSound W pc 2
  begins s = record { sound = s; at = stands; room = room }

  pub small : IsSmall form
  small = forms_are_small r.runs.opcode r.runs.instruction form r.is

  pub within : IsWithin r.runs.place.function.code.own.stack form
  within = forms_are_within W r.runs form r.is

  -- its row does not trap
  pub safe : IsSound W → IsSafe (expand (text_of r.runs.place.function.code pc form)) [] W
  safe s = subst (λ n. IsSafe (expand (text_of r.runs.place.function.code n form)) [] W) r.at (instruction_is_safe W form r.runs s r.has)

  pub safe_here : IsSound W → (place : Place) → place_of (plain W 0) ≡ Some place → IsSafe (expand (text_of place.function.code pc form)) [] W
  safe_here s place e = subst (λ (p : Place). IsSafe (expand (text_of p.function.code pc form)) [] W) (some_is r.runs.is e) (safe s)

  -- and what it does is a step
  pub does : {new : Memory} {fuel left : ℕ} {to : Ending} → Steps (expand (text_of r.runs.place.function.code pc form)) [] W fuel new left to
      → Goes W fuel new left to
  does {new} {fuel} {left} {to} s = record {
    is = λ rows. instruction_is_step rows W new fuel left to form r.runs r.has
        (subst (λ n. Steps (expand (text_of r.runs.place.function.code n form)) [] W fuel new left to) (sym r.at) s);
  }

  pub passes : {new : Memory} {fuel : ℕ} {to : Ending} → (is_spent to → ⊥) → Leads (expand (text_of r.runs.place.function.code pc form)) [] W new to
      → Goes W fuel new fuel to
  passes {fuel = fuel} n l = does (steps_of fuel n l)

  pub unpaid : {new : Memory} {fuel : ℕ} {to : Ending} → IsUnpaid (text_of r.runs.place.function.code pc form)
      → Leads (expand (text_of r.runs.place.function.code pc form)) [] W new to → Goes W fuel new fuel to
  unpaid {new} {fuel} {to} u l = record {
    is = λ rows. unpaid_is_step rows W new fuel to form r.runs r.has
        (subst (λ n. IsUnpaid (text_of r.runs.place.function.code n form)) (sym r.at) u)
        (subst (λ n. Leads (expand (text_of r.runs.place.function.code n form)) [] W new to) (sym r.at) l);
  }

pub goes_by : {old new : Memory} {to : Ending} {fuel : ℕ} → Passes go old new to → Goes old fuel new fuel to
goes_by {fuel = fuel} p = record { is = λ rows. p.is rows fuel }

-- registers that rows name late

pub copies : {W : Memory} {pc : ℕ} (operation : Operation) (operands : Operands) (also : Option ℕ) (after : After)
    → RunsForm W pc (Operate operation operands also after) → IsSound W → CanCopy W also
copies operation operands None after r s = tt
copies operation operands (Some register) after r s = λ place e.
    let l = within r in
    let m = (sound_top r.runs.place s r.runs.is).room in
    subst (λ (p : Place). register < length p.top.own.registers) (some_is r.runs.is e) (omega (arith, l, m))

pub keeps : {W : Memory} {pc : ℕ} {function count kept : ℕ} {iterates : Bool} → RunsForm W pc (Call function count kept iterates) → MayKeep W kept
keeps r = record { place = r.runs.place; is = r.runs.is; running = r.runs.running; within = within r }

pub frame_runs : {W : Memory} {pc : ℕ} {form : Form} → RunsForm W pc form → FrameRuns W
frame_runs r = record { place = r.runs.place; is = r.runs.is; running = r.runs.running }

pub returns_there : {W : Memory} {pc from count : ℕ} → RunsForm W pc (ReturnSome from count) → IsSound W → CanDo W (read_registers from count)
returns_there r s =
    let l = within r in
    let m = (sound_top r.runs.place s r.runs.is).room in
    record { place = r.runs.place; is = r.runs.is; fits = le_true _ _ (omega (arith, l, m)) }

pub may_return : {W : Memory} {pc from count : ℕ} → RunsForm W pc (ReturnSome from count) → IsSound W → MayReturn W from count
may_return r s = record { env = []; safe = safe r s }
