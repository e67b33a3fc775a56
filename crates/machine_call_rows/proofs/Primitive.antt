-- A primitive that is called over a frame that has made itself ready.
use Rattle.std.proofs.Common.{◌≡◌, ℕ, zero, suc, ◌-◌, List, Some, refl, ap, sym, subst, ◌∙◌}
use Rattle.std.specs.Prelude.{map}
use Rattle.int_core.specs.Heap.{Heap}
use Rattle.int_core.specs.Operations.{callee, callee_of, greatest_chain}
use Rattle.int_core.specs.Value.{Value, known, primitive}
use Rattle.machine_core.specs.World.{Place, place_of}
use Rattle.machine_core.specs.Moves.{calls_primitive}
use Rattle.table_core.specs.declared.value.Value.{Value as Kept}
use Rattle.table_core.specs.declared.value.Value.TheVariants.{Prim}
use Rattle.lua_stack.specs.declared.frame.Wait.{Wait as KeptWait}
use Rattle.lua_heap.specs.declared.world.World.{World as Memory}
use Rattle.lua_heap.specs.Plain.{plain}
use Rattle.lua_heap.specs.Reading.{value}
use Rattle.machine_moves.specs.declared.ending.Ending.TheVariants.{CallsPrimitive as EndsCalling}
use Rattle.machine_calls.specs.declared.preparing.Prepared.TheVariants.{GivenUp}
use Rattle.machine_calls.specs.Preparing.{ReadyFor}
use Rattle.machine_calls.specs.Waiting.{CallsSo}
use Rattle.machine_calls.proofs.Over.{paid_so, prim_over}
use Rattle.machine_call_rows.specs.declared.calls.CallAt.{CallAt}
use Rattle.machine_call_rows.specs.Primitives.{CallsPrimitive, MayCallPrimitive}
use Rattle.machine_call_rows.specs.Rows.{IsWaitOfCall}
use Rattle.machine_call_rows.proofs.Read.{steps_call}

-- a primitive is called as it is, through no link

pub itself : (links : ℕ) (H : Heap) (n : ℕ) (vs : List Value) → callee_of links H (known (primitive n)) vs ≡ callee (known (primitive n)) vs
itself zero H n vs = refl
itself (suc links) H n vs = refl

-- with its arguments on their way

pub sent_is : (ready sent : Memory) (arguments : List Kept) → sent ≡ record ready { moving = sent.moving } → sent.moving.items ≡ arguments → (fuel : ℕ)
    → plain sent fuel ≡ record (plain ready fuel) { moving = map (value ready.strings) arguments }
sent_is ready sent arguments q items fuel = ap (λ (W : Memory). plain W fuel) q ∙ ap (λ vs. record (plain ready fuel) { moving = map (value ready.strings) vs }) items

module _ (old ready : Memory) (place : Place) (fuel : ℕ) (at : CallAt) (n : ℕ) (arguments : List Kept) (wait : KeptWait) (e : place_of (plain old 0) ≡ Some place)
    (m : MayCallPrimitive old fuel at.function at.count n arguments) (w : IsWaitOfCall at.iterates wait) (r : ReadyFor old ready wait (GivenUp at.keeps)) (texts : ready.strings ≡ old.strings) where
  calls_so : (sent : Memory) → sent ≡ record ready { moving = sent.moving } → sent.moving.items ≡ arguments
      → CallsSo old sent fuel (fuel - 1) m.called arguments wait (GivenUp at.keeps) (calls_primitive n)
  calls_so sent q items =
      let vs = map (value old.strings) arguments in
      subst (λ v. CallsSo old sent fuel (fuel - 1) v arguments wait (GivenUp at.keeps) (calls_primitive n)) (sym m.is)
      (paid_so old sent place fuel (Prim n) arguments wait (GivenUp at.keeps) (known (primitive n)) vs (calls_primitive n) e (itself greatest_chain (plain old 0).heap n vs) m.left
      (prim_over old ready sent wait (GivenUp at.keeps) n arguments r texts (sent_is ready sent arguments q items)))

  pub calls_primitive_so : CallsPrimitive old ready fuel at n arguments
  calls_primitive_so = record {
    wait = wait;
    waits = w;
    ready = r;
    few = m.few;
    steps = λ sent q items p pc. steps_call old sent fuel (fuel - 1) at.function at.count at.keeps at.iterates m.called arguments wait (EndsCalling n) m.register m.values w (calls_so sent q items);
  }
