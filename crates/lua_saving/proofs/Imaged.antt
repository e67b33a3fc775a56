-- What `persist` gives of a session's roots under the permanents of every session.
use Rattle.std.proofs.Common.{ℕ, suc, [], ◌∷◌, ◌≡◌, ◌<◌, false, List, Some, None, refl, sym, subst, ap, ◌∙◌, length, map, arith}
use Rattle.std.specs.Prelude.{slice_get}
use Rattle.int_core.specs.Heap.{Table}
use Rattle.int_core.specs.Rows.{AreRows}
use Rattle.int_core.specs.Value.{Value, table_values}
use Rattle.library_rows.specs.Library.{all_entries}
use Rattle.library_rows.specs.PreludeText.{prelude_functions, function_keys}
use Rattle.machine_sound.specs.Sound.{Each, sizes, Valid}
use Rattle.machine_runs.specs.Opening.{numbers}
use Rattle.table_core.specs.declared.value.Value.{Value as Kept}
use Rattle.lua_heap.specs.declared.world.World.{World as Memory}
use Rattle.lua_heap.specs.Plain.{plain}
use Rattle.lua_heap.specs.Reading.{value}
use Rattle.step_laws.specs.Turns.{MayGoOn}
use Rattle.image_core.specs.Image.{Perm}
use Rattle.image_core.specs.Records.{named, image_of, visited, parts_in_order}
use Rattle.image_core.specs.Visit.{greatest_count}
use Rattle.image_bytes.specs.Bytes.{Reader, image_format}
use Rattle.image_load.specs.Session.{session_roots}
use Rattle.graph_core.specs.declared.permanents.Permanents.{Permanents}
use Rattle.graph_core.specs.Permanents.{permanents}
use Rattle.eris_write.specs.declared.fault.Refusal.{Refusal}
use Rattle.eris_write.specs.declared.fault.Refusal.TheVariants.{LibraryFunction, ActiveCoroutine, EqualKeys}
use Rattle.eris_write.specs.declared.fault.PersistFault.TheVariants.{Refused}
use Rattle.eris_write.specs.Keys.{HaveEqualKeys}
use Rattle.eris_write.specs.Persisting.{CanPersist, IsWritten, IsTooLarge, IsRefused, Causes}
use Rattle.eris_write.specs.Refusals.{refused, first_refusal, all_fields}
use Rattle.session_images.specs.Permanents.{base_permanents}
use Rattle.session_images.specs.Saved.{session_name}
use Rattle.session_images.specs.Stored.{root_count}
use Rattle.session_images.proofs.Keys.{base_inverse}
use Rattle.session_images.proofs.Resuming.{roots_valid}
use Rattle.lua_saving.specs.Saving.{IsAsMade, IsImage, IsLarge}
use Rattle.lua_saving.proofs.Fields.{none_refused}
use Rattle.images_joined.proofs.Held.{held_of}
use Rattle.lua_opening.proofs.RowByRow.{length_map}

-- a session has five roots
pub five : (W : Memory) (roots : List Kept) → ((fuel : ℕ) → map (value W.strings) roots ≡ session_roots (plain W fuel)) → length roots ≡ root_count
five W roots are = sym (length_map (value W.strings) roots) ∙ ap length (are 0)

module _ (W : Memory) (roots : List Kept) (ps : Permanents) (base : permanents ps ≡ base_permanents) (are : (fuel : ℕ) → map (value W.strings) roots ≡ session_roots (plain W fuel)) (count : length roots ≡ root_count) where
  pub may_persist : MayGoOn W → CanPersist W roots
  may_persist m = record {
    primitives = length all_entries;
    solid = m.sound.solid;
    order = m.order;
    roots_there = subst (Each (Valid (sizes (length all_entries) (plain W 0)))) (sym (are 0)) (roots_valid (length all_entries) (plain W 0) m.sound.solid);
    few = omega (arith, count);
  }

  -- the same of the permanents and roots of a session
  abbrev Told : (Perms : List Perm) (Values : List Value) (fuel : ℕ) (bytes : List ℕ) (n : ℕ) (R : Reader) → Type 0
  Told perms values fuel bytes n R = bytes ≡ (image_format R n).spell (image_of (plain W fuel) values perms)

  pub imaged : (bytes : List ℕ) → IsAsMade W → Each (λ (t : Table). AreRows table_values t.rows) (plain W 0).heap.tables → IsWritten W roots ps bytes → IsImage W bytes
  imaged bytes made rows w = record {
    written = λ fuel codes n. record {
      untouched = made.untouched fuel codes n;
      small = record {
        reached = subst (λ vs. slice_get (visited (plain W fuel) (session_name (plain W fuel)) (λ _. false) vs) greatest_count ≡ None) (are fuel)
            (subst (λ perms. slice_get (visited (plain W fuel) (named W.prelude.env.0 perms) (λ _. false) (map (value W.strings) roots)) greatest_count ≡ None) base (w.few.reached fuel));
        written = subst (λ vs. slice_get (parts_in_order (plain W fuel) (session_name (plain W fuel)) vs) greatest_count ≡ None) (are fuel)
            (subst (λ perms. slice_get (parts_in_order (plain W fuel) (named W.prelude.env.0 perms) (map (value W.strings) roots)) greatest_count ≡ None) base (w.few.written fuel));
      };
      spells = λ R.
          subst (λ n. Told base_permanents (session_roots (plain W fuel)) fuel bytes n R) count
          (subst (λ vs. Told base_permanents vs fuel bytes (length roots) R) (are fuel)
          (subst (λ perms. Told perms (map (value W.strings) roots) fuel bytes (length roots) R) base (w.spells.is fuel R)));
    };
    size = w.size;
    kept = λ fuel. record {
      held = held_of (plain W fuel) (session_name (plain W fuel)) (all_fields (plain W fuel) (session_name (plain W fuel)) (session_roots (plain W fuel)))
          (subst (λ vs. first_refusal (plain W fuel) (session_name (plain W fuel)) (all_fields (plain W fuel) (session_name (plain W fuel)) vs) ≡ None) (are fuel)
          (subst (λ perms. first_refusal (plain W fuel) (named W.prelude.env.0 perms) (all_fields (plain W fuel) (named W.prelude.env.0 perms) (map (value W.strings) roots)) ≡ None) base (w.allowed.none.is fuel)));
      rows = rows;
    };
  }

  abbrev Long : (Perms : List Perm) (Values : List Value) (fuel : ℕ) (n : ℕ) (R : Reader) → Type 0
  Long perms values fuel n R = 2147483647 < length ((image_format R n).spell (image_of (plain W fuel) values perms))

  pub too_large : IsTooLarge W roots ps → IsLarge W
  too_large t = record {
    more = λ fuel R.
        subst (λ n. Long base_permanents (session_roots (plain W fuel)) fuel n R) count
        (subst (λ vs. Long base_permanents vs fuel (length roots) R) (are fuel)
        (subst (λ perms. Long perms (map (value W.strings) roots) fuel (length roots) R) base (t.size fuel R)));
  }

  -- no refusal comes

  pub never_equal : HaveEqualKeys (permanents ps) → ⊥
  never_equal h =
      let k = h.1 in
      let same = (base_inverse (length function_keys) (omega arith)).once k.first h.0 k.one k.other (subst (λ perms. slice_get perms k.first ≡ Some k.one) base k.is_one)
      (subst (λ perms. slice_get perms h.0 ≡ Some k.other) base k.is_other) k.equal in
      let before = k.before in
      omega (arith, same, before)

  pub never_refused : (r : Refusal) → MayGoOn W → IsAsMade W → IsRefused W roots ps r → ⊥
  never_refused r m made h =
      none_refused (plain W 0) m.sound.solid m.may.idle (made.names ∙ ap (numbers 0) function_count) r
      (subst (λ vs. first_refusal (plain W 0) (session_name (plain W 0)) (all_fields (plain W 0) (session_name (plain W 0)) vs) ≡ Some (refused r)) (are 0)
      (subst (λ perms. first_refusal (plain W 0) (named W.prelude.env.0 perms) (all_fields (plain W 0) (named W.prelude.env.0 perms) (map (value W.strings) roots)) ≡ Some (refused r)) base (h.first.is 0)))
    where
      function_count : length prelude_functions ≡ length function_keys
      function_count = refl

  pub never : (r : Refusal) → MayGoOn W → IsAsMade W → Causes W roots ps (Refused r) → ⊥
  never LibraryFunction m made h = never_refused LibraryFunction m made h
  never ActiveCoroutine m made h = never_refused ActiveCoroutine m made h
  never EqualKeys m made h = never_equal h
