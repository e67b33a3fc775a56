-- Where nothing is refused, each field without a name is held.
use Rattle.std.proofs.Common.{◌≡◌, List, [], ◌∷◌, Option, Some, None, refl, sym, ap, ◌∙◌, Bool, true, false, cond}
use Rattle.code_core.specs.Writable.{signed_fits}
use Rattle.int_core.specs.Value.{integer, primitive, Value, known}
use Rattle.machine_core.specs.World.{World}
use Rattle.machine_sound.specs.Sound.{Each}
use Rattle.image_core.specs.Image.{Item}
use Rattle.image_core.specs.Records.{Field, of_value, of_cell, of_coroutine}
use Rattle.image_core.proofs.Lists.{Every, every_get}
use Rattle.images_stand.specs.Standing.{FieldIsHeld, IsHeld}
use Rattle.eris_write.specs.Refusals.{Cause, beyond, or_else, unless_item, unnamed_refusal, field_refusal, first_refusal}

module _ (W : World) (name : Value → Option Item) where
  both_none : (a b : Option Cause) → or_else a b ≡ None → (a ≡ None) × (b ≡ None)
  both_none None b h = (refl, h)
  both_none (Some c) b h = absurd (cc)

  value_held : (v : Value) → unnamed_refusal W v ≡ None → IsHeld v
  value_held (known (integer n)) h = by (signed_fits 63 n) h
    where
      by : (b : Bool) → cond b None (Some beyond) ≡ None → b ≡ true
      by true h = refl
      by false h = absurd (cc)
  value_held (known (primitive n)) h = absurd (cc)
  value_held _ h = tt

  field_held : (f : Field) → field_refusal W name f ≡ None → FieldIsHeld name f
  field_held (of_value v) h = λ e. value_held v (unless_none e h)
    where
      unless_none : name v ≡ None → field_refusal W name (of_value v) ≡ None → unnamed_refusal W v ≡ None
      unless_none e h = sym (ap (λ o. unless_item o (unnamed_refusal W v)) e) ∙ h
  field_held (of_cell n) h = tt
  field_held (of_coroutine n) h = tt

  all_held : (fs : List Field) → first_refusal W name fs ≡ None → Every (FieldIsHeld name) fs
  all_held [] h = tt
  all_held (f ∷ fs) h = let k = both_none (field_refusal W name f) (first_refusal W name fs) h in (field_held f k.0, all_held fs k.1)

pub held_of : (W : World) (name : Value → Option Item) (fs : List Field) → first_refusal W name fs ≡ None → Each (FieldIsHeld name) fs
held_of W name fs h i f e = every_get (FieldIsHeld name) fs i f (all_held W name fs h) e
