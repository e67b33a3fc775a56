-- What valid values are: the strings that they name are there.
use Rattle.std.proofs.Common.{◌≡◌, ℕ, List, Option, Some, None, false, refl, ap, subst, ◌∙◌}
use Rattle.std.specs.Prelude.{map, slice_get}
use Rattle.int_core.specs.Value.{Value, known, nil, nth, shape, string}
use Rattle.library_rows.specs.Arguments.{is_table}
use Rattle.machine_sound.specs.Sound.{Each, Valid, Sizes, sizes}
use Rattle.table_core.specs.declared.value.StrId.{StrId}
use Rattle.table_core.specs.declared.value.TableId.{TableId}
use Rattle.table_core.specs.declared.value.Value.{Value as Kept}
use Rattle.table_core.specs.declared.value.Value.TheVariants.{Str, Table}
use Rattle.lua_heap.specs.Law.{StringsAreThere}
use Rattle.lua_heap.specs.Reading.{text_or, value}
use Rattle.lua_heap.specs.declared.world.World.{World as Memory}
use Rattle.lua_heap.specs.Plain.{plain}
use Rattle.pure_functions.specs.Answers.{IsArgument, Stands}
use Rattle.pure_functions.specs.Shapes.{IsThere}

pub there : StringsAreThere → (z : Sizes) (texts : List (List ℕ)) (v : Kept) → Valid z (value texts v) → IsThere texts v
there law z texts (Str id) h = law z texts id h
there law z texts _ h = tt

pub nth_valid : (z : Sizes) (vs : List Value) → Each (Valid z) vs → (at : ℕ) → Valid z (nth vs at)
nth_valid z vs h at = by (slice_get vs at) refl
  where
    by : (o : Option Value) → slice_get vs at ≡ o → Valid z (elim o [ None ↦ known nil | Some v ↦ v ])
    by None e = tt
    by (Some v) e = h at v e

-- an argument that is a string is there
pub argument_there : StringsAreThere → (W : Memory) (arguments : List Kept) → Stands W arguments → (at : ℕ) (id : StrId) → IsArgument arguments at (Str id) → IsThere W.strings (Str id)
argument_there law W arguments s at id is =
    let z : Sizes = sizes s.primitives (plain W s.fuel) in
    there law z W.strings (Str id) (subst (Valid z) (is W.strings) (nth_valid z _ s.valid at))

-- and is seen with its bytes
pub argument_bytes : (W : Memory) (arguments : List Kept) (at : ℕ) (id : StrId) (bytes : List ℕ) → IsArgument arguments at (Str id) → slice_get W.strings id.0 ≡ Some bytes → nth (map (value W.strings) arguments) at ≡ known (string bytes)
argument_bytes W arguments at id bytes is found = is W.strings ∙ ap (λ o. known (string (text_or id.0 o))) found

pub no_table : (texts : List (List ℕ)) (v : Kept) → ((id : TableId) → v ≡ Table id → ⊥) → is_table (shape (value texts v)) ≡ false
no_table texts (Table id) h = absurd (h id refl)
no_table texts _ h = refl
