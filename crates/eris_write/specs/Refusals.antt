-- What an image cannot hold: library functions and coroutines at work, unless they are permanents, and what is refused first.
use Rattle.std.specs.Prelude.{ℕ, cond, nat_eq, List, [], ◌∷◌, ◌++◌, map, flat_map, Option, Some, None, slice_get}
use Rattle.std.specs.List.{list_any}
use Rattle.code_core.specs.Writable.{signed_fits}
use Rattle.int_core.specs.Value.{integer, primitive, a_table, a_function, a_coroutine, Value, known, object}
use Rattle.machine_core.specs.World.{Coroutine, in_progress, normal, World}
use Rattle.image_core.specs.Image.{Item}
use Rattle.image_core.specs.Records.{Field, of_value, of_cell, of_coroutine, fields, is_reached, parts_in_order}
use Rattle.eris_write.specs.declared.fault.Refusal.{Refusal}
use Rattle.eris_write.specs.declared.fault.Refusal.TheVariants.{LibraryFunction, ActiveCoroutine, EqualKeys}

-- the kinds of refusals by their numbers
abbrev pub kind_of : Refusal → ℕ
kind_of LibraryFunction = 1
kind_of ActiveCoroutine = 2
kind_of EqualKeys = 5

-- why a field cannot be written: it is refused, or it is an integer beyond 64 bits, which no world in memory holds
pub data Cause : Type 0 where
  refused : Refusal → Cause
  beyond : Cause

abbrev pub shown : Option Refusal → Option Cause
shown None = None
shown (Some r) = Some (refused r)

-- a coroutine that runs, or that resumed another
abbrev pub active : Coroutine → Option Cause
active (in_progress frames) = Some (refused ActiveCoroutine)
active (normal frames) = Some (refused ActiveCoroutine)
active _ = None

abbrev pub if_found : {A B : Type 0} → (A → Option B) → Option A → Option B
if_found f None = None
if_found f (Some x) = f x

abbrev pub coroutine_refusal : World → ℕ → Option Cause
coroutine_refusal W n = if_found active (slice_get W.coroutines n)

abbrev pub unnamed_refusal : World → Value → Option Cause
unnamed_refusal W (known (primitive n)) = Some (refused LibraryFunction)
unnamed_refusal W (known (integer n)) = cond (signed_fits 63 n) None (Some beyond)
unnamed_refusal W (known _) = None
unnamed_refusal W (object a_table n) = None
unnamed_refusal W (object a_function n) = cond (list_any (nat_eq n) W.prelude_functions) (Some (refused LibraryFunction)) None
unnamed_refusal W (object a_coroutine n) = coroutine_refusal W n

-- what stands by its name alone is not refused
abbrev pub unless_item : Option Item → Option Cause → Option Cause
unless_item None refusal = refusal
unless_item (Some i) refusal = None

abbrev pub or_else : Option Cause → Option Cause → Option Cause
or_else None other = other
or_else (Some r) other = Some r

module _ (W : World) (name : Value → Option Item) where
  abbrev pub field_refusal : Field → Option Cause
  field_refusal (of_value v) = unless_item (name v) (unnamed_refusal W v)
  field_refusal (of_cell n) = None
  field_refusal (of_coroutine n) = coroutine_refusal W n

  -- the first refusal
  abbrev pub first_refusal : List Field → Option Cause
  first_refusal [] = None
  first_refusal (f ∷ fs) = or_else (field_refusal f) (first_refusal fs)

  -- what an image names, in its order: its roots, then the fields of each record
  abbrev pub all_fields : List Value → List Field
  all_fields roots = map of_value roots ++ flat_map (fields W (is_reached W name roots)) (parts_in_order W name roots)
