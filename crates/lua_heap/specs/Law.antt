-- What the reading of kept values keeps, and what a new string leaves as it was.
use Rattle.std.specs.Prelude.{Option, None, ◌≡◌, ℕ, ◌<◌, List, [], ◌∷◌, ◌++◌, length, map}
use Rattle.int_core.specs.Rows.{get, set, border}
use Rattle.int_core.specs.Value.{same, table_values}
use Rattle.code_core.specs.Prototype.{Prototype}
use Rattle.code_core.specs.Check.{IsChecked}
use Rattle.machine_sound.specs.Sound.{Sizes, Each, Valid, Sound}
use Rattle.table_core.specs.Value.{value_eq, lua_values}
use Rattle.table_core.specs.declared.value.StrId.{StrId}
use Rattle.table_core.specs.declared.value.Value.{Value as Kept}
use Rattle.table_core.specs.declared.value.Value.TheVariants.{Str}
use Rattle.lua_stack.specs.declared.frame.OpenCell.{OpenCell}
use Rattle.lua_heap.specs.declared.world.Cell.{Cell}
use Rattle.lua_heap.specs.declared.world.Cell.TheVariants.{Closed}
use Rattle.lua_heap.specs.Cells.{AreListed}
use Rattle.lua_heap.specs.Strings.{AreApart, AreShort}
use Rattle.lua_heap.specs.Reading.{value, row}
use Rattle.lua_heap.specs.Codes.{prototype_at}
use Rattle.lua_heap.specs.Opening.{opened_world}

-- raw equality of kept values is that of the values that they stand for
abbrev pub EqualityIsRaw : Type 0
EqualityIsRaw = (texts : List (List ℕ)) → AreApart texts → AreShort texts → (a b : Kept) → same (value texts a) (value texts b) ≡ value_eq a b

-- a field that is read, the rows after a write, and the border
pub record IsReadAs (texts : List (List ℕ)) (rows : List (Kept × Kept)) : Type 0 where
  pub field : (key : Kept) → get table_values (map (row texts) rows) (value texts key) ≡ value texts (get lua_values rows key)
  pub written : (key v : Kept) → set table_values (map (row texts) rows) (value texts key) (value texts v) ≡ map (row texts) (set lua_values rows key v)
  pub ends : border table_values (map (row texts) rows) ≡ border lua_values rows

abbrev pub TablesAreRead : Type 0
TablesAreRead = (texts : List (List ℕ)) → AreApart texts → AreShort texts → (rows : List (Kept × Kept)) → IsReadAs texts rows

-- a valid value names a string that is there
abbrev pub StringsAreThere : Type 0
StringsAreThere = (z : Sizes) (texts : List (List ℕ)) (id : StrId) → Valid z (value texts (Str id)) → id.0 < length texts

-- a new string changes no valid value
pub record NewStringKeeps (z : Sizes) (texts : List (List ℕ)) (text : List ℕ) : Type 0 where
  pub values : (vs : List Kept) → Each (Valid z) (map (value texts) vs) → map (value (texts ++ text ∷ [])) vs ≡ map (value texts) vs
  pub rows : (rs : List (Kept × Kept)) → Each (λ r. Valid z r.0 × Valid z r.1) (map (row texts) rs) → map (row (texts ++ text ∷ [])) rs ≡ map (row texts) rs

abbrev pub NewStringsKeep : Type 0
NewStringsKeep = (z : Sizes) (texts : List (List ℕ)) (text : List ℕ) → NewStringKeeps z texts text

-- the number of a function's code is that of code that is there, where what it stands for is checked
abbrev pub CheckedCodeIsThere : Type 0
CheckedCodeIsThere = (ps : List Prototype) (n : ℕ) → IsChecked (prototype_at ps n) → n < length ps

-- a world in which nothing has run is sound
abbrev pub NewWorldsAreSound : Type 0
NewWorldsAreSound = (primitives fuel : ℕ) → Sound primitives (opened_world fuel)

-- stacks list what is open where a closed cell comes last, or a coroutine without a stack
pub record StayListed (cells : List Cell) (lists : List (Option (List OpenCell))) : Type 0 where
  pub cell : (v : Kept) → AreListed (cells ++ Closed v ∷ []) lists
  pub coroutine : AreListed cells (lists ++ None ∷ [])

abbrev pub CellsStayListed : Type 0
CellsStayListed = (cells : List Cell) (lists : List (Option (List OpenCell))) → AreListed cells lists → StayListed cells lists
