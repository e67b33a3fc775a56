-- The cells of a whole stack that are closed.
use Rattle.std.specs.Prelude.{◌≡◌, ℕ, ◌<◌, List, [], ◌∷◌, Some, slice_get, slice_set}
use Rattle.table_core.specs.declared.value.Value.{Value as Kept}
use Rattle.lua_stack.specs.declared.frame.OpenCell.{OpenCell}
use Rattle.lua_stack.specs.Frames.{KeptStack, RegisterIs}
use Rattle.lua_heap.specs.declared.world.Cell.{Cell}
use Rattle.lua_heap.specs.declared.world.Cell.TheVariants.{Closed}

-- each names one of so many cells
abbrev pub AreWithin : List OpenCell → ℕ → Type 0
AreWithin cs count = (i : ℕ) (c : OpenCell) → slice_get cs i ≡ Some c → c.cell.0 < count

-- each of these cells gets the value of its register, and no other cell changes
abbrev pub ClosesEach : KeptStack → List OpenCell → (old new : List Cell) → Type 0
ClosesEach s [] old new = new ≡ old
ClosesEach s (c ∷ cs) old new = (v : Kept) × RegisterIs s c.frame c.register v × ClosesEach s cs (slice_set old c.cell.0 (Closed v)) new
