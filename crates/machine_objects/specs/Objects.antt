-- Functions that are made in memory, and what they capture.
use Rattle.std.specs.Prelude.{◌≡◌, ℕ, ◌<◌, List, Option, Some, IsSome, cond, length, map, slice_get}
use Rattle.code_core.specs.declared.proto.UpDesc.{UpDesc}
use Rattle.code_core.specs.Prototype.{Prototype, list_of}
use Rattle.code_core.specs.Check.{IsChecked}
use Rattle.machine_core.specs.World.{Place, place_of, find_open}
use Rattle.machine_core.specs.Moves.{captured}
use Rattle.table_core.specs.declared.value.CellId.{CellId}
use Rattle.table_core.specs.declared.value.ProtoId.{ProtoId}
use Rattle.lua_heap.specs.declared.world.World.{World as Memory}
use Rattle.lua_heap.specs.Codes.{functions, prototype_at}
use Rattle.lua_heap.specs.Plain.{plain}

-- the cell that a variable of the function on top, or an upvalue of it, has
abbrev pub cell_for : Memory → Place → UpDesc → Option ℕ
cell_for W p u = cond u.in_stack (find_open p.stack.coroutine p.number u.index (plain W 0).cells) (slice_get p.function.cells u.index)

abbrev pub cells_for : Memory → Place → List UpDesc → Option (List ℕ)
cells_for W p us = captured us p.stack.coroutine p.number p.function.cells (plain W 0).cells

-- a function of an inner prototype of the function on top can be made: what it captures is there
pub record CanMake (W : Memory) (inner : ℕ) : Type 0 where
  pub place : Place
  pub is : place_of (plain W 0) ≡ Some place
  pub checked : IsChecked place.function.code
  pub code : Prototype
  pub there : slice_get (list_of place.function.code.inner) inner ≡ Some code
  pub cells : List ℕ
  pub captured : cells_for W place code.own.upvalues ≡ Some cells

pub record HasInner (W : Memory) (inner : ℕ) : Type 0 where
  pub place : Place
  pub is : place_of (plain W 0) ≡ Some place
  pub checked : IsChecked place.function.code
  pub there : IsSome (slice_get (list_of place.function.code.inner) inner)

pub record IsInner (W : Memory) (inner : ℕ) (id : ProtoId) : Type 0 where
  pub place : Place
  pub is : place_of (plain W 0) ≡ Some place
  pub same : slice_get (functions W.codes) id.0 ≡ slice_get (list_of place.function.code.inner) inner

pub record CanCapture (W : Memory) (id : ProtoId) : Type 0 where
  pub place : Place
  pub is : place_of (plain W 0) ≡ Some place
  pub within : id.0 < length (functions W.codes)
  pub cells : List ℕ
  pub captured : cells_for W place (prototype_at (functions W.codes) id.0).own.upvalues ≡ Some cells

pub record AreCaptured (W : Memory) (id : ProtoId) (cells : List CellId) : Type 0 where
  pub place : Place
  pub is : place_of (plain W 0) ≡ Some place
  pub captured : cells_for W place (prototype_at (functions W.codes) id.0).own.upvalues ≡ Some (map (λ c. c.0) cells)

pub record HasCell (W : Memory) (up : UpDesc) : Type 0 where
  pub place : Place
  pub is : place_of (plain W 0) ≡ Some place
  pub cell : ℕ
  pub there : cell_for W place up ≡ Some cell

pub record IsCell (W : Memory) (up : UpDesc) (cell : CellId) : Type 0 where
  pub place : Place
  pub is : place_of (plain W 0) ≡ Some place
  pub there : cell_for W place up ≡ Some cell.0

pub record HasOpen (W : Memory) (register : ℕ) : Type 0 where
  pub place : Place
  pub is : place_of (plain W 0) ≡ Some place
  pub cell : ℕ
  pub there : find_open place.stack.coroutine place.number register (plain W 0).cells ≡ Some cell

pub record IsOpen (W : Memory) (register : ℕ) (cell : CellId) : Type 0 where
  pub place : Place
  pub is : place_of (plain W 0) ≡ Some place
  pub there : find_open place.stack.coroutine place.number register (plain W 0).cells ≡ Some cell.0
