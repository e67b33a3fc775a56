-- What a walk over a world in memory knows, and what it is that some fields are met.
use Rattle.std.specs.Prelude.{ℕ, Bool, List, map, flat_map, Option}
use Rattle.int_core.specs.Value.{a_coroutine, Value}
use Rattle.table_core.specs.declared.value.Value.{Value as Kept}
use Rattle.image_core.specs.Visit.{met}
use Rattle.image_core.specs.Image.{Item}
use Rattle.image_core.specs.Records.{Field, Part, of_value, an_object, same_part, field_parts, fields, named}
use Rattle.lua_heap.specs.Plain.{plain}
use Rattle.lua_heap.specs.Reading.{value}
use Rattle.graph_core.specs.declared.object.Object.{Object}
use Rattle.graph_core.specs.declared.walk.Walk.{Walk}
use Rattle.graph_core.specs.Objects.{part, Meets}
use Rattle.graph_core.specs.Permanents.{permanents}

abbrev pub texts_in : Walk → List (List ℕ)
texts_in w = w.world.now.strings

abbrev pub name_in : Walk → Value → Option Item
name_in w = named w.world.now.prelude.env.0 (permanents w.permanents.now)

abbrev pub inside_in : Walk → ℕ → Bool
inside_in w co = met same_part (map part w.inside.now.keys) (an_object a_coroutine co)

abbrev pub value_field : Walk → Kept → Field
value_field w v = of_value (value (texts_in w) v)

-- the parts of some fields are met
abbrev pub MeetsFields : Walk → (old new : List Object) → List Field → Type 0
MeetsFields w old new names = Meets old new (flat_map (field_parts (name_in w)) names)

-- what a part's record names is met, whatever the budget
abbrev pub MeetsPart : Walk → (old new : List Object) → Part → Type 0
MeetsPart w old new p = (fuel : ℕ) → MeetsFields w old new (fields (plain w.world.now fuel) (inside_in w) p)
