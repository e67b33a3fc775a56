-- Strings among valid values are there.
use Rattle.std.proofs.Common.{ℕ, List}
use Rattle.machine_sound.specs.Sound.{Sizes, Valid}
use Rattle.table_core.specs.declared.value.Value.{Value as Kept}
use Rattle.table_core.specs.declared.value.Value.TheVariants.{Str}
use Rattle.lua_heap.specs.Errors.{HasText}
use Rattle.lua_heap.specs.Law.{StringsAreThere}
use Rattle.lua_heap.specs.Reading.{value}

pub has_text : StringsAreThere → (z : Sizes) (texts : List (List ℕ)) (v : Kept) → Valid z (value texts v) → HasText texts v
has_text law z texts (Str id) h = law z texts id h
has_text law z texts _ h = tt
