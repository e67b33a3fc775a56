-- A Lua function that is called with the values of the registers behind it.
use Rattle.std.proofs.Common.{◌≡◌, ℕ, zero, suc, ◌+◌, ◌<◌, ◌≤◌, List, [], ◌∷◌, length, Option, Some, None, refl, ap, sym, subst, ◌∙◌, arith, Bool, true, false}
use Rattle.std.specs.Prelude.{cond, map, nat_le, nat_lt}
use Rattle.std.proofs.lemmas.Bool.Decides.{nat_tests}
use Rattle.int_core.specs.Operations.{greatest_chain}
use Rattle.int_core.specs.Value.{Value, Shape, a_function, is_known, nil, object, range, shape}
use Rattle.machine_core.specs.World.{Place, place_of}
use Rattle.machine_core.specs.Text.{behind, fits, read_register, read_registers, reads, tells}
use Rattle.machine_core.specs.FrameRows.{expand}
use Rattle.machine_core.specs.InstructionRows.{read_values}
use Rattle.machine_core.specs.Moves.{Made, made, do_own, go, on_own, with_own}
use Rattle.machine_sound.proofs.Lists.{bind_at, some_is}
use Rattle.table_core.specs.declared.value.FuncId.{FuncId}
use Rattle.table_core.specs.declared.value.Value.{Value as Kept}
use Rattle.table_core.specs.declared.value.Value.TheVariants.{Func}
use Rattle.lua_stack.specs.declared.frame.Wait.{Wait as KeptWait}
use Rattle.lua_heap.specs.declared.world.World.{World as Memory}
use Rattle.lua_heap.specs.Plain.{plain}
use Rattle.lua_heap.specs.Reading.{value}
use Rattle.move_laws.specs.Memory.{CanDo, IsSafe, IsSound, Makes, Steps}
use Rattle.move_laws.proofs.Rows.{can_do}
use Rattle.machine_calls.specs.declared.preparing.Prepared.TheVariants.{GivenUp}
use Rattle.machine_calls.specs.Entering.{HasFunction}
use Rattle.machine_moves.specs.declared.ending.Ending.TheVariants.{Go}
use Rattle.machine_calls.specs.Given.{AreGiven, CallsGiven, HasGiven}
use Rattle.machine_calls.specs.Waiting.{CallsSo, MayCall}
use Rattle.machine_calls.proofs.Over.{may_enter}
use Rattle.machine_call_rows.specs.Rows.{IsWaitOfCall, MayReadValues, whole_text}
use Rattle.machine_call_rows.proofs.Read.{call_text, registers_read, steps_call}
use Rattle.machine_calls.proofs.Given.{itself}

-- what the registers hold that were read

abbrev values_in : Option (Made Shape) → List Value
values_in o = elim o [ None ↦ [] | Some d ↦ d.values ]

module _ (W : Memory) (from n : ℕ) (vs : List Kept) (m : (env : List Value) → Makes W W (on_own (read_registers from n)) env (map (value W.strings) vs) (is_known nil)) where
  read_at : (at : Place) → place_of (plain W 0) ≡ Some at → (b : Bool) → fits (read_registers from n) at.function.code at.top.own ≡ b → range from n at.top.own.registers ≡ map (value W.strings) vs
  read_at at e b f =
      by b (
      sym (bind_at (do_own (read_registers from n) [] (plain W 0)) (place_of (plain W 0)) at e
      ∙ ap (λ b. cond b (made (with_own (plain W 0) at at.top.wait (read_registers from n ∷ []) []) (reads (read_registers from n) at.function.code [] at.top.own) (tells (read_registers from n) at.function.code [] at.top.own)) None) f)
      ∙ (m []).is 0)
    where
      by : (b : Bool)
          → cond b (made (with_own (plain W 0) at at.top.wait (read_registers from n ∷ []) []) (reads (read_registers from n) at.function.code [] at.top.own) (tells (read_registers from n) at.function.code [] at.top.own)) None
          ≡ made (plain W 0) (map (value W.strings) vs) (is_known nil)
          → range from n at.top.own.registers ≡ map (value W.strings) vs
      by true p = ap values_in p
      by false p = absurd (cc)

  pub are_given : (register : ℕ) → from ≡ suc register → AreGiven W register n vs
  are_given register q = record { are = λ at e. ap (λ from. range from n at.top.own.registers) (sym q) ∙ read_at at e (fits (read_registers from n) at.function.code at.top.own) refl }

-- and that they are there

register_there : (register size : ℕ) → nat_lt register size ≡ true → register < size
register_there register size e = search (arith, nat_tests)

behind_there : (from n size : ℕ) → nat_le (behind from n) size ≡ true → behind from n ≤ size
behind_there from n size e = search (arith, nat_tests)

all_there : (register n size : ℕ) → register < size → behind (register + 1) n ≤ size → register + 1 + n ≤ size
all_there register zero size l m = omega (arith, l)
all_there register (suc n) size l m = omega (arith, m)

pub has_given : (W : Memory) (register n : ℕ) → CanDo W (read_register register) → CanDo W (read_registers (register + 1) n) → HasGiven W register n
has_given W register n f g = record {
  place = g.place;
  is = g.is;
  there =
      let same = some_is f.is g.is in
      let size = length g.place.top.own.registers in
      let l : register < size = register_there register size (subst (λ (p : Place). nat_lt register (length p.top.own.registers) ≡ true) same f.fits) in
      all_there register n size l (behind_there (register + 1) n size g.fits);
}

-- the function is there

pub function_called : (W : Memory) (at : Place) (id : FuncId) (arguments : List Kept) (wait : KeptWait) (keeps : ℕ) → IsSound W → place_of (plain W 0) ≡ Some at → MayCall W (Func id) arguments wait (GivenUp keeps) → HasFunction W id.0
function_called W at id arguments wait keeps s e h =
    let vs = map (value W.strings) arguments in
    (may_enter W at (Func id) arguments wait (GivenUp keeps) (object a_function id.0) vs s e h (itself greatest_chain (plain W 0).heap id.0 vs)).there id.0 refl

-- the registers behind it may be read
pub may_registers : (W : Memory) (from count n : ℕ) → count ≡ suc n → MayReadValues W from count → CanDo W (read_registers from n)
may_registers W from count n e h = can_do (read_registers from n) (λ n s. expand (h.rest n s)) (subst (λ n. IsSafe (expand (read_values from n h.rest)) h.env W) e h.safe)

-- the row of the call
pub steps_given : (W V : Memory) (fuel left function count n keeps : ℕ) (iterates : Bool) (called : Kept) (id : FuncId) (arguments : List Kept) (wait : KeptWait) → count ≡ suc n → keeps ≡ function → called ≡ Func id
    → ((env : List Value) → Makes W W (on_own (read_register function)) env (value W.strings called ∷ []) (shape (value W.strings called)))
    → ((env : List Value) → Makes W W (on_own (read_registers (function + 1) n)) env (map (value W.strings) arguments) (is_known nil))
    → IsWaitOfCall iterates wait → CallsGiven W V fuel left id function n wait → Steps (expand (whole_text function count (call_text keeps iterates))) [] W fuel V left go
steps_given W V fuel left function count n keeps iterates called id arguments wait e same is m ms w k =
    let one_more : function + 1 ≡ suc function = omega arith in
    let x = k.calls arguments (are_given W (function + 1) n arguments ms function one_more) in
    steps_call W V fuel left function count keeps iterates called arguments wait Go m (registers_read W (function + 1) count n arguments e ms) w
    (subst (λ v. CallsSo W V fuel left v arguments wait (GivenUp keeps) go) (sym is) (subst (λ k. CallsSo W V fuel left (Func id) arguments wait (GivenUp k) go) (sym same) x))
