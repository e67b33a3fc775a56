-- What the loading of an image leaves: a world with its objects, or one that its mark brings back.
use Rattle.std.specs.Prelude.{ℕ, ◌≡◌, List, map}
use Rattle.table_core.specs.Table.{Contents}
use Rattle.table_core.specs.declared.value.Value.{Value as Kept}
use Rattle.lua_heap.specs.declared.codes.Code.{Code}
use Rattle.lua_heap.specs.declared.codes.Tree.{Tree}
use Rattle.lua_heap.specs.declared.world.Cell.{Cell}
use Rattle.lua_heap.specs.declared.world.Coro.{Coro}
use Rattle.lua_heap.specs.declared.world.Func.{Func}
use Rattle.lua_heap.specs.declared.world.World.{World as Memory}
use Rattle.lua_heap.specs.Adding.{Begins}
use Rattle.lua_heap.specs.Codes.{AreCodes}
use Rattle.lua_heap.specs.Plain.{plain}
use Rattle.lua_heap.specs.Reading.{value}
use Rattle.image_core.specs.Image.{Perm, Image}
use Rattle.image_core.specs.Loading.{Target, loaded, value_made}
use Rattle.image_records.specs.declared.known.Known.{Known}
use Rattle.image_made.specs.declared.place.Place.{Place}
use Rattle.image_made.specs.Places.{ArePlaces, Starts}
use Rattle.eris_read.specs.Known.{IsNamed}
use Rattle.image_saved.specs.Permanents.{target}
use Rattle.eris_read.specs.Unpersist.{CanRead}

-- what a world is brought back from by its mark
pub record CanComeBack (old new : Memory) : Type 0 where
  pub strings : Begins (List ℕ) old.strings new.strings
  pub trees : Begins Tree old.codes.trees.items new.codes.trees.items
  pub list : Begins Code old.codes.list.items new.codes.list.items
  pub tables : Begins Contents old.tables.objects new.tables.objects
  pub funcs : Begins Func old.funcs.objects new.funcs.objects
  pub cells : Begins Cell old.cells.objects new.cells.objects
  pub coros : Begins Coro old.coros.objects new.coros.objects
  pub rest : new ≡ record old { strings = new.strings; codes = new.codes; tables = new.tables; funcs = new.funcs; cells = new.cells; coros = new.coros }
  pub codes : AreCodes new.strings new.codes

-- an image is loaded into a world, with these roots
pub record LoadsImage (old new : Memory) (perms : List Perm) (I : Image) (values : List Kept) : Type 0 where
  pub world : (fuel : ℕ) → plain new fuel ≡ loaded (target (plain old 0) perms) I.records (plain old fuel)
  pub roots_made : map (value new.strings) values ≡ map (value_made (target (plain old 0) perms) I.records) I.roots
  pub rest : new ≡ record old { strings = new.strings; codes = new.codes; tables = new.tables; funcs = new.funcs; cells = new.cells; coros = new.coros }

-- the same of records that become these objects, by what keys stand for
pub record LoadsBy (places : List Place) (known : Known) (old new : Memory) (I : Image) (values : List Kept) : Type 0 where
  pub loads : (perms : List Perm) → CanRead old perms → ((T : Target) → Starts T old → ArePlaces T I.records places) → IsNamed perms known → LoadsImage old new perms I values
