-- What is read from a table of a sound world.
use Rattle.std.proofs.Common.{◌≡◌, List, [], ◌∷◌, Option, Some, None, ap, subst}
use Rattle.int_core.specs.Value.{Value, nth}
use Rattle.int_core.specs.Heap.{raw_get}
use Rattle.library_rows.specs.Look.{no_word, or_nil, read_field}
use Rattle.machine_sound.proofs.Heaps.{raw_get_ok}
use Rattle.machine_sound.proofs.Outside.{heap_of as heap_ok}
use Rattle.machine_sound.specs.Sound.{OptionOk, Valid, Sizes, sizes}
use Rattle.table_core.specs.declared.value.Value.{Value as Kept}
use Rattle.lua_heap.specs.Law.{StringsAreThere}
use Rattle.lua_heap.specs.Reading.{value}
use Rattle.lua_heap.specs.declared.world.World.{World as Memory}
use Rattle.lua_heap.specs.Plain.{plain}
use Rattle.pure_functions.specs.Answers.{Stands, heap_of}
use Rattle.lib_base.specs.Raw.{Operates}
use Rattle.pure_functions.specs.Shapes.{IsThere}
use Rattle.pure_functions.proofs.Seen.{there}

pub or_nil_valid : (z : Sizes) (o : Option Value) → OptionOk (Valid z) o → Valid z (or_nil o)
or_nil_valid z None h = tt
or_nil_valid z (Some v) h = h

-- a string that is read from a table of a sound world is there
pub read_there : StringsAreThere → (W : Memory) (arguments : List Kept) → Stands W arguments → (o key v : Kept) → Operates read_field W (o ∷ key ∷ []) W (v ∷ []) no_word → IsThere W.strings v
read_there law W arguments s o key v d =
    let z = sizes s.primitives (plain W s.fuel) in
    let ok = raw_get_ok z (plain W s.fuel).heap (heap_ok s.primitives (plain W s.fuel) s.sound.solid) (value W.strings o) (value W.strings key) in
    let e : or_nil (raw_get (heap_of W) (value W.strings o) (value W.strings key)) ≡ value W.strings v = ap (λ t. nth t.values 0) d.does in
    there law z W.strings v (subst (Valid z) e (or_nil_valid z _ ok))
