-- What the row of an operation supposes at each step, where only tables have changed before.
use Rattle.std.proofs.Common.{◌≡◌, ℕ, List, [], length, Option, Some, None, refl, ap, sym, subst, ◌∙◌}
use Rattle.std.specs.Prelude.{map}
use Rattle.std.proofs.lemmas.List.{length-map}
use Rattle.int_core.specs.Value.{Value}
use Rattle.machine_core.specs.World.{Place, place_of}
use Rattle.machine_core.specs.Text.{operate}
use Rattle.machine_core.specs.FrameRows.{expand}
use Rattle.machine_sound.specs.Sound.{Each, sizes, Valid}
use Rattle.table_core.specs.declared.value.Value.{Value as Kept}
use Rattle.lua_heap.specs.declared.world.World.{World as Memory}
use Rattle.lua_heap.specs.Errors.{HasText}
use Rattle.lua_heap.specs.Plain.{plain, table}
use Rattle.lua_heap.specs.Reading.{value}
use Rattle.instruction_forms.specs.declared.form.After.{After}
use Rattle.instruction_forms.specs.declared.form.Form.TheVariants.{Operate}
use Rattle.instruction_forms.specs.declared.operand.Operands.{Operands}
use Rattle.instruction_forms.specs.declared.operand.Operation.{Operation as Named}
use Rattle.instruction_forms.specs.Forms.{also_to, follows, operation_of, text_of, wait_for}
use Rattle.meta_ops.specs.declared.operation.Operation.{Operation}
use Rattle.meta_ops.specs.Law.{OperandsAreThere}
use Rattle.meta_ops.specs.Operation.{AreIn, operands_of}
use Rattle.move_laws.specs.Memory.{IsSafe, IsSound, ReadsSame, StandsAt}
use Rattle.move_laws.proofs.Kept.{order_with_tables}
use Rattle.machine_errors.specs.Raising.{CanLeave}
use Rattle.machine_errors.proofs.Texts.{same_sound}
use Rattle.machine_calls.specs.Preparing.{CanPrepare}
use Rattle.machine_operations.specs.declared.operands.Values.{Values}
use Rattle.machine_operations.specs.declared.operands.Values.TheVariants.{One, Two, Three}
use Rattle.machine_operations.specs.Copying.{CanCopy, prepared_by}
use Rattle.machine_operations.specs.Operands.{AreRead, ReadsAll, first_value, list_of}
use Rattle.machine_operations.proofs.Settled.{are_in, has_text}

-- operands are read

pub are_read : {W : Memory} (place : Place) (pc : ℕ) (op : Named) (xs : Operands) (also : Option ℕ) (after : After) → IsSafe (expand (text_of place.function.code pc (Operate op xs also after))) [] W → AreRead W xs
are_read place pc op xs also after s = record { more = λ vs. operate (operation_of op) vs (wait_for after) (also_to also vs) (follows place.function.code pc after); safe = s }

module _ (law : OperandsAreThere) {W : Memory} {xs : Operands} (vs : Values) (s : IsSound W) (r : ReadsAll W xs vs) where
  valid : Each (Valid (sizes s.primitives (plain W 0))) (map (value W.strings) (list_of vs))
  valid = r.valid s.primitives s.sound

  count : (sizes s.primitives (plain W 0)).tables ≡ length W.tables.objects
  count = length-map W.tables.objects (table W.strings)

  pub operands_in : (op : Operation) → ((texts : List (List ℕ)) → operands_of texts op ≡ map (value texts) (list_of vs)) → AreIn W.strings W.tables.objects op
  operands_in op e = are_in law (sizes s.primitives (plain W 0)) W.strings W.tables.objects count op (subst (Each (Valid (sizes s.primitives (plain W 0)))) (sym (e W.strings)) valid)

first_of_all : (P : Value → Type 0) (f : Kept → Value) (vs : Values) → Each P (map f (list_of vs)) → P (f (first_value vs))
first_of_all P f (One v) h = h 0 (f v) refl
first_of_all P f (Two v w) h = h 0 (f v) refl
first_of_all P f (Three v w u) h = h 0 (f v) refl

pub first_has_text : OperandsAreThere → {W : Memory} {xs : Operands} (vs : Values) → IsSound W → ReadsAll W xs vs → HasText W.strings (first_value vs)
first_has_text law {W} vs s r =
    let z = sizes s.primitives (plain W 0) in
    let v = first_value vs in
    has_text W.strings W.tables.objects v (law z W.strings W.tables.objects v (length-map W.tables.objects (table W.strings)) (first_of_all (Valid z) (value W.strings) vs (r.valid s.primitives s.sound)))

-- only tables have changed

module _ (W V : Memory) (r : V ≡ record W { tables = V.tables }) where
  pub texts_stay : V.strings ≡ W.strings
  texts_stay = ap (λ (W : Memory). W.strings) r

  pub places_stay : place_of (plain V 0) ≡ place_of (plain W 0)
  places_stay = ap (λ (W : Memory). place_of (plain W 0)) r

  pub stands_stay : {pc : ℕ} → StandsAt W pc → StandsAt V pc
  stands_stay s = record { place = s.place; is = places_stay ∙ s.is; at = s.at }

  pub leaves_stay : CanLeave W → CanLeave V
  leaves_stay h = record { place = h.place; is = places_stay ∙ h.is; checked = h.checked; room = h.room }

  pub copies_stay : (also : Option ℕ) → CanCopy W also → CanCopy V also
  copies_stay None h = tt
  copies_stay (Some register) h = λ place is. h place (sym places_stay ∙ is)

  pub sound_stays : IsSound W → ReadsSame W V → IsSound V
  sound_stays s same = same_sound s same (order_with_tables s.order r)

pub can_prepare_copy : {W : Memory} (also : Option ℕ) (first : Kept) → CanLeave W → CanCopy W also → CanPrepare W (prepared_by also first)
can_prepare_copy None first h k = record { place = h.place; is = h.is; checked = h.checked; room = h.room; there = tt }
can_prepare_copy (Some register) first h k = record { place = h.place; is = h.is; checked = h.checked; room = h.room; there = k h.place h.is }
