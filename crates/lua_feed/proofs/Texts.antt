-- The values that move in a sound world have their texts.
use Rattle.std.proofs.Common.{ℕ, zero, List, [], ◌∷◌, refl}
use Rattle.std.specs.Prelude.{map}
use Rattle.machine_sound.specs.Sound.{Each, Sizes, Valid, sizes, Sound}
use Rattle.machine_sound.proofs.Lists.{each_tail}
use Rattle.table_core.specs.declared.value.Value.{Value as Kept}
use Rattle.lua_heap.specs.declared.world.World.{World as Memory}
use Rattle.lua_heap.specs.Law.{StringsAreThere}
use Rattle.lua_heap.specs.Plain.{plain}
use Rattle.lua_heap.specs.Reading.{value}
use Rattle.lua_heap.proofs.TextsThere.{has_text}
use Rattle.lua_session.specs.Report.{HaveTexts}

have_texts : StringsAreThere → (z : Sizes) (texts : List (List ℕ)) (vs : List Kept) → Each (Valid z) (map (value texts) vs) → HaveTexts texts vs
have_texts law z texts [] h = tt
have_texts law z texts (v ∷ vs) h = (has_text law z texts v (h zero (value texts v) refl), have_texts law z texts vs (each_tail (Valid z) (value texts v) (map (value texts) vs) h))

pub moving_have_texts : StringsAreThere → (primitives : ℕ) (W : Memory) → Sound primitives (plain W 0) → HaveTexts W.strings W.moving.items
moving_have_texts law n W s = have_texts law (sizes n (plain W 0)) W.strings W.moving.items s.solid.moving
