-- What is added to a world in memory: strings and code first, which change nothing that it stands for, then objects behind those that are there.
use Rattle.std.specs.Prelude.{ℕ, ◌≡◌, ◌≤◌, ◌<◌, ◌⊎◌, List, [], ◌∷◌, ◌++◌, Option, Some, None, map, length, slice_get}
use Rattle.std.specs.List.{AllZip}
use Rattle.code_core.specs.Prototype.{Prototype}
use Rattle.machine_sound.specs.Sound.{Sound}
use Rattle.image_core.specs.Image.{Record, function_record}
use Rattle.image_core.specs.Loading.{Target, table_made, function_made, cell_made, coroutine_made, chosen}
use Rattle.image_records.specs.Views.{record_read}
use Rattle.table_core.specs.declared.value.CellId.{CellId}
use Rattle.table_core.specs.declared.value.CoroId.{CoroId}
use Rattle.table_core.specs.Table.{Contents}
use Rattle.lua_stack.specs.declared.frame.OpenCell.{OpenCell}
use Rattle.lua_stack.specs.Frames.{cell_at}
use Rattle.lua_heap.specs.declared.codes.Code.{Code}
use Rattle.lua_heap.specs.declared.codes.Tree.{Tree}
use Rattle.lua_heap.specs.declared.world.Cell.{Cell}
use Rattle.lua_heap.specs.declared.world.Cell.TheVariants.{Open}
use Rattle.lua_heap.specs.declared.world.Coro.{Coro}
use Rattle.lua_heap.specs.declared.world.Func.{Func}
use Rattle.lua_heap.specs.declared.world.World.{World as Memory}
use Rattle.lua_heap.specs.Adding.{Begins}
use Rattle.lua_heap.specs.Cells.{IsOnce, open_cells_in}
use Rattle.lua_heap.specs.Codes.{functions, prototype_at, AreCodes}
use Rattle.lua_heap.specs.Plain.{table, function, cell, coroutine, plain}
use Rattle.image_placed.specs.declared.texts.Part.{Part}
use Rattle.image_placed.specs.declared.texts.Part.TheVariants.{Function, Other}
use Rattle.image_made.specs.declared.stack.Opening.{Opening}
use Rattle.image_made.specs.declared.making.Maker.{Maker}
use Rattle.image_made.specs.Making.{IsMaker}

-- strings and code may have been put last, and all else stays: a sound world reads the same
pub record AddsMore (old new : Memory) : Type 0 where
  pub strings : Begins (List ℕ) old.strings new.strings
  pub trees : Begins Tree old.codes.trees.items new.codes.trees.items
  pub list : Begins Code old.codes.list.items new.codes.list.items
  pub functions : Begins Prototype (functions old.codes) (functions new.codes)
  pub rest : new ≡ record old { strings = new.strings; codes = new.codes }
  pub plain : (primitives fuel : ℕ) → Sound primitives (plain old fuel) → plain new fuel ≡ plain old fuel
  pub codes : AreCodes old.strings old.codes → AreCodes new.strings new.codes

-- a record whose code was added
abbrev pub part_read : List Prototype → Part → Record
part_read ps (Function code cells) = function_record (prototype_at ps code.0) cells.items
part_read ps (Other r) = record_read r

abbrev pub HasCode : List Prototype → Part → Type 0
HasCode ps (Function code cells) = code.0 < length ps
HasCode ps (Other r) = Unit {0}

pub record IsPart (ps : List Prototype) (part : Part) (r : Record) : Type 0 where
  pub is : part_read ps part ≡ r
  pub there : HasCode ps part

abbrev pub ArePartsOf : List Prototype → List Part → List Record → Type 0
ArePartsOf ps parts rs = AllZip (IsPart ps) parts rs

-- objects may have been put last, and all else stays
pub record AddsObjects (old new : Memory) : Type 0 where
  pub tables : Begins Contents old.tables.objects new.tables.objects
  pub funcs : Begins Func old.funcs.objects new.funcs.objects
  pub cells : Begins Cell old.cells.objects new.cells.objects
  pub coros : Begins Coro old.coros.objects new.coros.objects
  pub rest : new ≡ record old { tables = new.tables; funcs = new.funcs; cells = new.cells; coros = new.coros }

-- what objects are made of some records, but for coroutines
pub record AreMade (T : Target) (rs made : List Record) (old new : Memory) : Type 0 where
  pub tables : map (table old.strings) new.tables.objects ≡ map (table old.strings) old.tables.objects ++ chosen (table_made T rs) made
  pub functions : map (function (functions old.codes)) new.funcs.objects ≡ map (function (functions old.codes)) old.funcs.objects ++ chosen (function_made T rs) made
  pub cells : map (cell old.strings) new.cells.objects ≡ map (cell old.strings) old.cells.objects ++ chosen (cell_made T rs) made

pub record PlacesObjects (maker : Maker) (made : List Record) (old new : Memory) : Type 0 where
  pub adds : AddsObjects old new
  pub same : new.coros ≡ old.coros
  pub are_made : (T : Target) (rs : List Record) → IsMaker T rs maker → AreMade T rs made old new

-- openings of cells, which are open so
pub record AreOpen (cells : List Cell) (openings : List Opening) : Type 0 where
  pub each : (i : ℕ) (o : Opening) → slice_get openings i ≡ Some o → slice_get cells o.cell.0 ≡ Some (Open o.coro o.frame o.register)

-- an open cell is among those from place `at` on
abbrev pub IsLeft : List Opening → (at : ℕ) → CellId → CoroId → (frame register : ℕ) → Type 0
IsLeft openings at id co frame register = (i : ℕ) × (at ≤ i) × (slice_get openings i ≡ Some (record { coro = co; frame = frame; register = register; cell = id }))

-- all open cells of some places are among them
pub record AreAll (cells : List Cell) (from to : ℕ) (openings : List Opening) : Type 0 where
  pub open_ones : AreOpen cells openings
  pub all : (id : CellId) (co : CoroId) (frame register : ℕ) → from ≤ id.0 → id.0 < to → slice_get cells id.0 ≡ Some (Open co frame register) → IsLeft openings 0 id co frame register

-- stacks list what is open, but for what is left
pub record AreListedBut (cells : List Cell) (lists : List (Option (List OpenCell))) (openings : List Opening) (at : ℕ) : Type 0 where
  pub listed : (id : CellId) (co : CoroId) (frame register : ℕ) (own : List OpenCell) → slice_get lists co.0 ≡ Some (Some own)
      → slice_get cells id.0 ≡ Some (Open co frame register) → (cell_at frame register own ≡ Some id) ⊎ IsLeft openings at id co frame register
  pub opened : (id : CellId) (co : CoroId) (frame register : ℕ) (own : List OpenCell) → slice_get lists co.0 ≡ Some (Some own)
      → cell_at frame register own ≡ Some id → slice_get cells id.0 ≡ Some (Open co frame register)
  pub held : (id : CellId) (co : CoroId) (frame register : ℕ) → slice_get cells id.0 ≡ Some (Open co frame register)
      → ((own : List OpenCell) × (slice_get lists co.0 ≡ Some (Some own))) ⊎ IsLeft openings at id co frame register
  pub once : (n : ℕ) (own : List OpenCell) → slice_get lists n ≡ Some (Some own) → IsOnce own

-- coroutines may have been put last, and all else stays
pub record PlacesCoroutines (maker : Maker) (made : List Record) (openings : List Opening) (from to : ℕ) (old new : Memory) : Type 0 where
  pub coros : Begins Coro old.coros.objects new.coros.objects
  pub rest : new ≡ record old { coros = new.coros }
  pub are_made : (T : Target) (rs : List Record) → IsMaker T rs maker → map (coroutine old.strings) new.coros.objects ≡ map (coroutine old.strings) old.coros.objects ++ chosen (coroutine_made T rs) made
  pub listed : AreOpen old.cells.objects openings → AreListedBut old.cells.objects (map open_cells_in old.coros.objects) openings from
      → AreListedBut old.cells.objects (map open_cells_in new.coros.objects) openings to

-- all is placed: what a world stands for then, and its stacks list its open cells
pub record PlacesAll (maker : Maker) (made : List Record) (old new : Memory) : Type 0 where
  pub adds : AddsObjects old new
  pub are_made : (T : Target) (rs : List Record) → IsMaker T rs maker → AreMade T rs made old new
  pub coroutines : (T : Target) (rs : List Record) → IsMaker T rs maker → map (coroutine old.strings) new.coros.objects ≡ map (coroutine old.strings) old.coros.objects ++ chosen (coroutine_made T rs) made
