-- What an operation that is settled comes to, by its outcome: what the frame may do then, and what the row of the instruction does.
use Rattle.std.proofs.Common.{◌≡◌, ℕ, List, [], ◌∷◌, Option, Some, None, refl, ap, sym, subst, ◌∙◌}
use Rattle.std.specs.Prelude.{map}
use Rattle.machine_core.specs.World.{Place, place_of}
use Rattle.machine_core.specs.FrameRows.{expand}
use Rattle.machine_core.specs.Moves.{Ending as Ended, go, raised, Row}
use Rattle.machine_sound.proofs.Lists.{some_is}
use Rattle.table_core.specs.declared.value.Value.{Value as Kept}
use Rattle.table_core.specs.declared.value.Value.TheVariants.{Nil}
use Rattle.lua_stack.specs.declared.frame.Wait.{Wait}
use Rattle.lua_heap.specs.Errors.{HasText}
use Rattle.lua_heap.specs.declared.world.World.{World as Memory}
use Rattle.lua_heap.specs.Plain.{plain}
use Rattle.lua_heap.specs.Reading.{value}
use Rattle.instruction_forms.specs.declared.form.After.{After}
use Rattle.instruction_forms.specs.declared.form.Form.TheVariants.{Operate}
use Rattle.instruction_forms.specs.declared.operand.Operands.{Operands}
use Rattle.instruction_forms.specs.declared.operand.Operation.{Operation as Named}
use Rattle.instruction_forms.specs.Forms.{operation_of, text_of}
use Rattle.meta_ops.specs.declared.fault.Fault.{Fault as Cause}
use Rattle.meta_ops.specs.declared.operation.Operation.{Operation}
use Rattle.meta_ops.specs.declared.outcome.Outcome.{Outcome as Came}
use Rattle.meta_ops.specs.declared.outcome.Outcome.TheVariants.{Found, Done, Ask, Fault}
use Rattle.meta_ops.specs.Law.{OperandsAreThere}
use Rattle.meta_ops.specs.Operation.{kind_of, operands_of, more_of}
use Rattle.move_laws.specs.Memory.{HasFrame, IsSafe, IsSound, Leads, StandsSound, Steps}
use Rattle.move_laws.proofs.Kept.{order_with_tables}
use Rattle.move_laws.proofs.Order.{steps_of}
use Rattle.machine_moves.specs.Ending.{ending_of}
use Rattle.machine_moves.specs.declared.ending.Ending.{Ending}
use Rattle.machine_moves.specs.declared.ending.Ending.TheVariants.{Go, Raised}
use Rattle.machine_moves.specs.Operations.{Settles}
use Rattle.machine_errors.specs.Raising.{CanLeave}
use Rattle.machine_errors.proofs.Leaving.{can_leave}
use Rattle.machine_calls.specs.declared.preparing.Prepared.{Prepared}
use Rattle.machine_calls.specs.Preparing.{CanPrepare}
use Rattle.machine_calls.specs.Waiting.{CallsSo, MayCall}
use Rattle.machine_operations.specs.declared.operands.Values.{Values}
use Rattle.machine_operations.specs.Copying.{CanCopy, prepared_by}
use Rattle.machine_operations.specs.Operands.{ReadsAll, first_value, list_of}
use Rattle.machine_operations.specs.Operating.{CanEnd, CanFail, EndsSo, FailsSo, MayEnd, wait_kept}
use Rattle.machine_operations.proofs.Operated.{can_prepare_copy, copies_stay, first_has_text, leaves_stay, places_stay, sound_stays, stands_stay, texts_stay}
use Rattle.machine_operations.proofs.Settled.{ask_may, ask_steps, done_leads, done_may, fault_leads, found_leads, found_may, same_world}

abbrev row_at : Named → Operands → Option ℕ → After → ℕ → Place → Row
row_at op xs also after pc place = expand (text_of place.function.code pc (Operate op xs also after))

-- an operation on operands that have been read, which has come to an outcome in the world V
pub record Settling (W V : Memory) (op : Named) (xs : Operands) (also : Option ℕ) (after : After) (pc : ℕ) (first : Kept) (asked : Operation) (o : Came) : Type 0 where
  pub stands : StandsSound W pc 2
  pub copy : CanCopy W also
  pub safe : (place : Place) → place_of (plain W 0) ≡ Some place → IsSafe (expand (text_of place.function.code pc (Operate op xs also after))) [] W
  pub values : Values
  pub read : ReadsAll W xs values
  pub kind : kind_of asked ≡ operation_of op
  pub operands : (texts : List (List ℕ)) → operands_of texts asked ≡ map (value texts) (list_of values)
  pub first_is : first ≡ first_value values
  pub rest : V ≡ record W { tables = V.tables }
  pub settles : Settles W V asked o

pub settling : {W V : Memory} (op : Named) (xs : Operands) (also : Option ℕ) (after : After) {pc : ℕ} {first : Kept} {o : Came} {values : Values} {asked : Operation} → StandsSound W pc 2 → CanCopy W also
    → ((place : Place) → place_of (plain W 0) ≡ Some place → IsSafe (expand (text_of place.function.code pc (Operate op xs also after))) [] W) → ReadsAll W xs values → kind_of asked ≡ operation_of op
    → ((texts : List (List ℕ)) → operands_of texts asked ≡ map (value texts) (list_of values)) → first ≡ first_value values → V ≡ record W { tables = V.tables } → Settles W V asked o → Settling W V op xs also after pc first asked o
settling op xs also after {values = values} stands copy safe read kind operands first_is rest settles = record {
  stands = stands;
  copy = copy;
  safe = safe;
  values = values;
  read = read;
  kind = kind;
  operands = operands;
  first_is = first_is;
  rest = rest;
  settles = settles;
}

-- the value, where one was found or stored
abbrev pub value_of : Came → Option Kept
value_of (Found v) = Some v
value_of Done = Some Nil
value_of _ = None

module _ {W V : Memory} {op : Named} {xs : Operands} {also : Option ℕ} {after : After} {pc : ℕ} {first : Kept} {asked : Operation} {o : Came} (x : Settling W V op xs also after pc first asked o) where
  frame : HasFrame W
  frame = record { place = x.stands.at.place; is = x.stands.at.is }

  whole : CanLeave V
  whole = leaves_stay W V x.rest (can_leave W x.stands.sound frame)

  copied : CanCopy V also
  copied = copies_stay W V x.rest also x.copy

  settled : {other : Came} → o ≡ other → Settles W V asked other
  settled e = subst (λ o. Settles W V asked o) e x.settles

  held : OperandsAreThere → HasText V.strings first
  held law = subst (HasText V.strings) (sym x.first_is) (subst (λ texts. HasText texts (first_value x.values)) (sym (texts_stay W V x.rest)) (first_has_text law x.values x.stands.sound x.read))

  -- a value is there

  may_end : (v : Kept) → value_of o ≡ Some v → MayEnd V pc also first after v
  may_end v e = subst (λ first. MayEnd V pc also first after v) (sym x.first_is) (by o refl e)
    where
      by : (other : Came) → o ≡ other → value_of other ≡ Some v → MayEnd V pc also (first_value x.values) after v
      by (Found u) q e = subst (λ v. MayEnd V pc also (first_value x.values) after v) (some_is refl e)
          (found_may W op xs also after pc x.values frame x.read asked x.kind x.operands V (texts_stay W V x.rest) (places_stay W V x.rest) u (settled q) x.stands.at.place x.stands.at.is (x.safe x.stands.at.place x.stands.at.is))
      by Done q e = subst (λ v. MayEnd V pc also (first_value x.values) after v) (some_is refl e)
          (done_may W op xs also after pc x.values frame x.read asked x.kind x.operands V (texts_stay W V x.rest) (places_stay W V x.rest) (settled q) x.stands.at.place x.stands.at.is (x.safe x.stands.at.place x.stands.at.is))
      by (Ask handler object) q e = absurd (cc)
      by (Fault cause) q e = absurd (cc)

  pub can_end : (v : Kept) → value_of o ≡ Some v → CanEnd V pc also first after v
  can_end v e = record {
    order = order_with_tables x.stands.sound.order x.rest;
    whole = whole;
    at = stands_stay W V x.rest x.stands.at;
    room = x.stands.room;
    copy = copied;
    safe = may_end v e;
  }

  ends : (v : Kept) → value_of o ≡ Some v → (last : Memory) → EndsSo V last pc also (first_value x.values) after v go → (place : Place) → place_of (plain W 0) ≡ Some place → Leads (row_at op xs also after pc place) [] W last go
  ends v e last k place is = by o refl e
    where
      by : (other : Came) → o ≡ other → value_of other ≡ Some v → Leads (row_at op xs also after pc place) [] W last go
      by (Found u) q e =
          found_leads W op xs also after pc x.values frame x.read asked x.kind x.operands V (texts_stay W V x.rest) (places_stay W V x.rest) u (settled q) last
          (subst (λ v. EndsSo V last pc also (first_value x.values) after v go) (sym (some_is refl e)) k) place is
      by Done q e =
          done_leads W op xs also after pc x.values frame x.read asked x.kind x.operands V (texts_stay W V x.rest) (places_stay W V x.rest) (settled q) last
          (subst (λ v. EndsSo V last pc also (first_value x.values) after v go) (sym (some_is refl e)) k) place is
      by (Ask handler object) q e = absurd (cc)
      by (Fault cause) q e = absurd (cc)

  pub end_steps : (v : Kept) → value_of o ≡ Some v → (fuel : ℕ) (last : Memory) (ending : Ending) → EndsSo V last pc also first after v (ending_of ending) → ending ≡ Go → (place : Place) → place_of (plain W 0) ≡ Some place
      → Steps (row_at op xs also after pc place) [] W fuel last fuel (ending_of ending)
  end_steps v e fuel last ending k went place is =
      let at_once = subst (λ e. EndsSo V last pc also first after v (ending_of e)) went k in
      let of_first = subst (λ first. EndsSo V last pc also first after v go) x.first_is at_once in
      subst (λ e. Steps (row_at op xs also after pc place) [] W fuel last fuel (ending_of e)) (sym went) (steps_of fuel (λ n. n) (ends v e last of_first place is))

  -- a handler is to be called

  pub ask_ready : (prepared : Prepared) → prepared ≡ prepared_by also first → CanPrepare V prepared
  ask_ready prepared e = subst (CanPrepare V) (sym e) (can_prepare_copy also first whole copied)

  module _ (handler object : Kept) (q : o ≡ Ask handler object) where
    pub ask_sound : IsSound V
    ask_sound =
        sound_stays W V x.rest x.stands.sound (same_world W op xs also after pc x.values frame x.read asked x.kind x.operands V (Ask handler object) (settled q) (λ e. absurd (cc)))

    module _ (arguments : List Kept) (are : (texts : List (List ℕ)) → map (value texts) arguments ≡ value texts object ∷ more_of texts asked) (wait : Wait) (waits : wait ≡ wait_kept after) (prepared : Prepared)
        (prepares : prepared ≡ prepared_by also first) where
      by_first : prepared ≡ prepared_by also (first_value x.values)
      by_first = prepares ∙ ap (prepared_by also) x.first_is

      pub ask_safe : OperandsAreThere → MayCall V handler arguments wait prepared
      ask_safe law =
          let h = subst (HasText V.strings) x.first_is (held law) in
          let m = ask_may W op xs also after pc x.values frame x.read asked x.kind x.operands V (texts_stay W V x.rest) (places_stay W V x.rest) handler object (settled q) arguments are x.stands.at.place (x.safe x.stands.at.place x.stands.at.is) h in
          subst (λ wait. MayCall V handler arguments wait prepared) (sym waits) (subst (λ p. MayCall V handler arguments (wait_kept after) p) (sym by_first) m)

      pub asked_steps : (last : Memory) (fuel left : ℕ) (ending : Ended) → CallsSo V last fuel left handler arguments wait prepared ending → (place : Place) → Steps (row_at op xs also after pc place) [] W fuel last left ending
      asked_steps last fuel left ending k place =
          let with_wait = subst (λ wait. CallsSo V last fuel left handler arguments wait prepared ending) waits k in
          let with_copy = subst (λ p. CallsSo V last fuel left handler arguments (wait_kept after) p ending) by_first with_wait in
          ask_steps W op xs also after pc x.values frame x.read asked x.kind x.operands V (texts_stay W V x.rest) (places_stay W V x.rest) handler object (settled q) arguments are last fuel left ending with_copy place

  -- the frame is at fault

  module _ (cause : Cause) (q : o ≡ Fault cause) where
    pub can_fail : OperandsAreThere → CanFail V also first
    can_fail law = record {
      sound = sound_stays W V x.rest x.stands.sound (same_world W op xs also after pc x.values frame x.read asked x.kind x.operands V (Fault cause) (settled q) (λ e. absurd (cc)));
      whole = whole;
      copy = copied;
      held = held law;
    }

    pub fail_steps : (fuel : ℕ) (last : Memory) (ending : Ending) → FailsSo V last also first cause (ending_of ending) → ending ≡ Raised → (place : Place) → Steps (row_at op xs also after pc place) [] W fuel last fuel (ending_of ending)
    fail_steps fuel last ending k raises place =
        let at_once = subst (λ e. FailsSo V last also first cause (ending_of e)) raises k in
        let of_first = subst (λ first. FailsSo V last also first cause raised) x.first_is at_once in
        subst (λ e. Steps (row_at op xs also after pc place) [] W fuel last fuel (ending_of e)) (sym raises)
        (steps_of fuel (λ n. n) (fault_leads W op xs also after pc x.values frame x.read asked x.kind x.operands V (texts_stay W V x.rest) (places_stay W V x.rest) cause (settled q) last of_first place))
