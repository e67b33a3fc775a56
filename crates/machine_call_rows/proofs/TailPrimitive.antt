-- A primitive that is called in place of a frame that is gone.
use Rattle.std.proofs.Common.{◌≡◌, ℕ, ◌-◌, List, Some, sym, subst}
use Rattle.std.specs.Prelude.{map}
use Rattle.int_core.specs.Operations.{greatest_chain}
use Rattle.int_core.specs.Value.{Value, known, primitive}
use Rattle.machine_core.specs.World.{Place, place_of}
use Rattle.machine_core.specs.Moves.{calls_primitive}
use Rattle.table_core.specs.declared.value.Value.{Value as Kept}
use Rattle.table_core.specs.declared.value.Value.TheVariants.{Prim}
use Rattle.lua_heap.specs.declared.world.World.{World as Memory}
use Rattle.lua_heap.specs.Plain.{plain}
use Rattle.lua_heap.specs.Reading.{value}
use Rattle.move_laws.specs.Memory.{HasStack}
use Rattle.machine_moves.specs.declared.ending.Ending.TheVariants.{CallsPrimitive as EndsCalling}
use Rattle.machine_calls.specs.Tails.{CallsInPlace, Drops}
use Rattle.machine_calls.proofs.InPlace.{paid_in_place, prim_in_place}
use Rattle.machine_call_rows.specs.Primitives.{MayCallPrimitive, TailCallsPrimitive}
use Rattle.machine_call_rows.proofs.Primitive.{itself, sent_is}
use Rattle.machine_call_rows.proofs.Read.{steps_tail_call}

module _ (old gone : Memory) (place : Place) (fuel function count n : ℕ) (arguments : List Kept) (e : place_of (plain old 0) ≡ Some place) (m : MayCallPrimitive old fuel function count n arguments)
    (d : Drops old gone) (texts : gone.strings ≡ old.strings) where
  called_there : (sent : Memory) → sent ≡ record gone { moving = sent.moving } → sent.moving.items ≡ arguments → CallsInPlace old sent fuel (fuel - 1) m.called arguments (calls_primitive n)
  called_there sent q items =
      let vs = map (value old.strings) arguments in
      subst (λ v. CallsInPlace old sent fuel (fuel - 1) v arguments (calls_primitive n)) (sym m.is)
      (paid_in_place old sent place fuel (Prim n) arguments (known (primitive n)) vs (calls_primitive n) e (itself greatest_chain (plain old 0).heap n vs) m.left
      (prim_in_place old gone sent n arguments d texts (sent_is gone sent arguments q items)))

  pub tail_calls_so : HasStack gone → TailCallsPrimitive old gone fuel function count n arguments
  tail_calls_so running = record {
    few = m.few;
    running = running;
    steps = λ sent q items p pc. steps_tail_call old sent fuel (fuel - 1) function count m.called arguments (EndsCalling n) m.register m.values (called_there sent q items);
  }
