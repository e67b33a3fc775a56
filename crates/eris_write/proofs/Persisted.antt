-- What was drawn is the image of the world, unless something is refused or it is too large.
use Rattle.std.proofs.Common.{◌≡◌, ℕ, ◌<◌, List, [], ◌∷◌, Option, Some, None, length, map, Bool, true, false, cond, refl, sym, ap, ◌∙◌, subst, arith, Result, Ok, Err}
use Rattle.std.specs.Prelude.{slice_get}
use Rattle.std.specs.declared.vec.Vec.{Vec}
use Rattle.std.specs.declared.alloc.Global.{Global}
use Rattle.code_core.specs.Writable.{signed_fits}
use Rattle.int_core.specs.Value.{integer, a_function, a_coroutine, Value, known, object}
use Rattle.machine_core.specs.World.{Coroutine, fresh, World}
use Rattle.machine_sound.specs.Sound.{Solid}
use Rattle.machine_sound.proofs.Budgets.{solid_budget}
use Rattle.table_core.specs.declared.value.Value.{Value as Kept}
use Rattle.image_core.specs.Visit.{IsMet, greatest_count}
use Rattle.image_core.specs.Image.{Item}
use Rattle.image_core.specs.Records.{Part, Field, of_value, of_cell, of_coroutine, same_part, parts_in_order, visited}
use Rattle.image_load.specs.Loads.{IsWritten as HasRecord}
use Rattle.image_sound.proofs.Savable.{savable_is_written}
use Rattle.image_bytes.specs.Bytes.{Reader, image_format}
use Rattle.lua_heap.specs.declared.world.World.{World as Memory}
use Rattle.lua_heap.specs.Plain.{plain}
use Rattle.graph_core.specs.Inverse.{KeysAreOnce}
use Rattle.graph_core.specs.Numbering.{IsNumbering}
use Rattle.graph_core.specs.Objects.{part}
use Rattle.graph_core.specs.Permanents.{permanents}
use Rattle.std.proofs.lemmas.Option.{slice_get_past}
use Rattle.std.proofs.lemmas.List.{length-map}
use Rattle.image_core.proofs.Visits.{none_past}
use Rattle.eris_write.specs.declared.fault.PersistFault.{PersistFault}
use Rattle.eris_write.specs.declared.fault.PersistFault.TheVariants.{Refused, TooLarge, Memory as NoMemory}
use Rattle.eris_write.specs.declared.fault.Refusal.{Refusal}
use Rattle.eris_write.specs.declared.fault.Refusal.TheVariants.{LibraryFunction, ActiveCoroutine, EqualKeys}
use Rattle.eris_write.specs.declared.output.Output.{Output}
use Rattle.eris_write.specs.declared.writer.Writer.{Writer}
use Rattle.eris_write.specs.Images.{Finishes, IsDrawn, all_bytes}
use Rattle.eris_write.specs.Persisting.{CanPersist, Persists, FirstRefusal, IsAllowed, image}
use Rattle.eris_write.specs.Refusals.{Cause, refused, beyond, shown, active, all_fields, coroutine_refusal, field_refusal, first_refusal, if_found, or_else, unless_item, unnamed_refusal}
use Rattle.eris_write.specs.Writing.{name_in, read_in}
use Rattle.eris_write.proofs.Allowed.{allowed_savable}
use Rattle.eris_write.proofs.Imaged.{all_kept, first_by_fuel, fields_are, image_is, too_many, Knows}

-- equal keys are refused by no field

active_is : (c : Coroutine) → active c ≡ Some (refused EqualKeys) → ⊥
active_is (fresh b) h = absurd (cc)
active_is _ h = absurd (cc)

coroutine_is : (W : World) (n : ℕ) → coroutine_refusal W n ≡ Some (refused EqualKeys) → ⊥
coroutine_is W n h = go (slice_get W.coroutines n) h
  where
    go : (o : Option Coroutine) → if_found active o ≡ Some (refused EqualKeys) → ⊥
    go None h = absurd (cc)
    go (Some c) h = active_is c h

one_of_two : (b : Bool) → cond b (Some (refused LibraryFunction)) None ≡ Some (refused EqualKeys) → ⊥
one_of_two true h = absurd (cc)
one_of_two false h = absurd (cc)

beyond_or_not : (b : Bool) → cond b None (Some beyond) ≡ Some (refused EqualKeys) → ⊥
beyond_or_not true h = absurd (cc)
beyond_or_not false h = absurd (cc)

unnamed_is : (W : World) (v : Value) → unnamed_refusal W v ≡ Some (refused EqualKeys) → ⊥
unnamed_is W (known (integer n)) h = beyond_or_not (signed_fits 63 n) h
unnamed_is W (object a_function n) h = one_of_two _ h
unnamed_is W (object a_coroutine n) h = coroutine_is W n h
unnamed_is W _ h = absurd (cc)

field_is : (W : World) (name : Value → Option Item) (f : Field) → field_refusal W name f ≡ Some (refused EqualKeys) → ⊥
field_is W name (of_value v) h = go (name v) h
  where
    go : (o : Option Item) → unless_item o (unnamed_refusal W v) ≡ Some (refused EqualKeys) → ⊥
    go None h = unnamed_is W v h
    go (Some i) h = absurd (cc)
field_is W name (of_cell n) h = absurd (cc)
field_is W name (of_coroutine n) h = coroutine_is W n h

never_equal : (W : World) (name : Value → Option Item) (fs : List Field) → first_refusal W name fs ≡ Some (refused EqualKeys) → ⊥
never_equal W name [] h = absurd (cc)
never_equal W name (f ∷ fs) h = go (field_refusal W name f) refl h (λ k. never_equal W name fs k)
  where
    go : (r : Option Cause) → field_refusal W name f ≡ r → or_else r (first_refusal W name fs) ≡ Some (refused EqualKeys) → (first_refusal W name fs ≡ Some (refused EqualKeys) → ⊥) → ⊥
    go None e h ih = ih h
    go (Some r) e h ih = field_is W name f (e ∙ h)

pub solid_by_fuel : (p : ℕ) (W : Memory) (fuel : ℕ) → Solid p (plain W 0) → Solid p (plain W fuel)
solid_by_fuel p W fuel s = solid_budget p (plain W 0) (plain W 0).printed fuel s

module _ (w : Writer) (roots : List Kept) (out : Output) (can : CanPersist w.world.now roots) (n : IsNumbering w.world.now w.permanents.now roots w.numbering.now) (once : KeysAreOnce (permanents w.permanents.now)) (drawn : (fuel : ℕ) → IsDrawn w roots fuel out) where
  abbrev Roots : List Value
  Roots = map (read_in w) roots

  abbrev First : ℕ → Option Cause
  First fuel = first_refusal (plain w.world.now fuel) (name_in w) (all_fields (plain w.world.now fuel) (name_in w) Roots)

  first_is : (fuel : ℕ) → shown out.refusal ≡ First fuel
  first_is fuel =
      let d = drawn fuel in
      d.refusal ∙ (ap (first_refusal (plain w.world.now 0) (name_in w)) (fields_are w roots n fuel) ∙ sym (first_by_fuel w.world.now (name_in w) fuel (all_fields (plain w.world.now fuel) (name_in w) Roots)))

  few_reached : (fuel : ℕ) → slice_get (visited (plain w.world.now fuel) (name_in w) (λ _. false) Roots) greatest_count ≡ None
  few_reached fuel =
      let past = none_past w.numbering.now.reached.keys greatest_count n.few_reached in
      let l = length-map w.numbering.now.reached.keys part in
      ap (λ ps. slice_get ps greatest_count) (sym (n.reached fuel)) ∙ slice_get_past (map part w.numbering.now.reached.keys) greatest_count (omega (arith, past, l))

  few : (fuel : ℕ) → slice_get (parts_in_order (plain w.world.now fuel) (name_in w) Roots) greatest_count ≡ None
  few fuel =
      let past = none_past w.numbering.now.order.keys greatest_count n.few_ordered in
      let l = length-map w.numbering.now.order.keys part in
      ap (λ ps. slice_get ps greatest_count) (sym (n.order fuel)) ∙ slice_get_past (map part w.numbering.now.order.keys) greatest_count (omega (arith, past, l))

  records_there : (fuel : ℕ) → out.refusal ≡ None → (o : Part) → IsMet same_part (parts_in_order (plain w.world.now fuel) (name_in w) Roots) o → HasRecord (plain w.world.now fuel) (name_in w) Roots o
  records_there fuel r o m =
      savable_is_written can.primitives (plain w.world.now fuel) (name_in w) Roots
      (allowed_savable can.primitives (plain w.world.now fuel) (name_in w) Roots (solid_by_fuel can.primitives w.world.now fuel can.solid) can.roots_there (few fuel) (sym (first_is fuel) ∙ ap shown r)) o m

  first_refused : (r : Option Refusal) → out.refusal ≡ r → FirstRefusal w.world.now roots w.permanents.now (shown r)
  first_refused r e = record { is = λ fuel. sym (first_is fuel) ∙ ap shown e }

  is_allowed : out.refusal ≡ None → IsAllowed w.world.now roots w.permanents.now
  is_allowed e = record { once = once; none = first_refused None e }

  spelled : (fuel : ℕ) (R : Reader) → out.refusal ≡ None → all_bytes w roots fuel (Knows w roots n fuel R) ≡ (image_format R (length roots)).spell (image w.world.now roots w.permanents.now fuel)
  spelled fuel R e = image_is w roots n fuel (records_there fuel e) R

  pub persisted : (r : Result (Vec ℕ Global) PersistFault) → Finishes out r → Persists w.world.now roots w.permanents.now r
  persisted (Ok bytes) h = record {
    allowed = is_allowed h.0;
    few = record { reached = few_reached; written = few };
    spells = record { is = λ fuel R. let d = drawn fuel in h.2 ∙ (all_kept out.bytes.items (all_bytes w roots fuel (Knows w roots n fuel R)) (d.bytes (Knows w roots n fuel R)) h.1 ∙ spelled fuel R h.0) };
    size = let l = h.1 in let e = ap length h.2 in omega (arith, l, e);
  }
  persisted (Err (Refused EqualKeys)) h = absurd (never_equal (plain w.world.now 0) (name_in w) (all_fields (plain w.world.now 0) (name_in w) Roots) (sym (first_is 0) ∙ ap shown h))
  persisted (Err (Refused LibraryFunction)) h = record { once = once; first = first_refused (Some LibraryFunction) h }
  persisted (Err (Refused ActiveCoroutine)) h = record { once = once; first = first_refused (Some ActiveCoroutine) h }
  persisted (Err TooLarge) h = record {
    allowed = is_allowed h.0;
    size = λ fuel R.
        let d = drawn fuel in
        let l = too_many out.bytes.items (all_bytes w roots fuel (Knows w roots n fuel R)) (d.bytes (Knows w roots n fuel R)) h.1 in
        subst (λ (s : List ℕ). 2147483647 < length s) (spelled fuel R h.0) l;
  }
  persisted (Err NoMemory) h = absurd h
