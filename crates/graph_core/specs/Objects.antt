-- Objects in memory, as what has a record in an image, and what it is that some of them are met.
use Rattle.std.specs.Prelude.{◌≡◌, ℕ, List, [], ◌∷◌, map, Option, Some, None}
use Rattle.int_core.specs.Value.{a_table, a_function, a_coroutine}
use Rattle.image_core.specs.Visit.{add_new}
use Rattle.image_core.specs.Records.{Part, an_object, a_cell, same_part}
use Rattle.graph_core.specs.declared.object.Object.{Object}
use Rattle.graph_core.specs.declared.object.Sort.{Sort}
use Rattle.graph_core.specs.declared.object.Sort.TheVariants.{Table, Func, Cell, Coro}

abbrev pub part_of : Sort → ℕ → Part
part_of Table n = an_object a_table n
part_of Func n = an_object a_function n
part_of Cell n = a_cell n
part_of Coro n = an_object a_coroutine n

abbrev pub part : Object → Part
part o = part_of o.sort o.number

abbrev pub objects_in : Option Object → List Part
objects_in None = []
objects_in (Some o) = part o ∷ []

-- those parts that were not met before go last, in their order
abbrev pub Meets : (old new : List Object) → List Part → Type 0
Meets old new parts = map part new ≡ add_new same_part (map part old) parts
