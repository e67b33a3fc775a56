-- What the parts of loading come to together.
use Rattle.std.proofs.Common.{◌≡◌, ℕ, suc, List, [], ◌∷◌, ◌++◌, map, length, refl, ap, sym, subst, ◌∙◌}
use Rattle.std.specs.Prelude.{Result, IfOk}
use Rattle.std.specs.declared.alloc.AllocError.{AllocError}
use Rattle.std.specs.declared.alloc.Global.{Global}
use Rattle.std.specs.declared.vec.Vec.{Vec}
use Rattle.std.proofs.lemmas.Result.{IfOk-weaker}
use Rattle.code_core.specs.Prototype.{Prototype}
use Rattle.int_core.specs.Heap.{Table}
use Rattle.machine_core.specs.World.{World, Function, Cell as CellShown, Coroutine}
use Rattle.machine_sound.specs.Sound.{Sound}
use Rattle.machine_sound.proofs.Budgets.{sound_refuelled}
use Rattle.image_core.specs.Image.{Perm, Item, Record}
use Rattle.image_core.specs.Loading.{Target, table_made, function_made, cell_made, coroutine_made, chosen, loaded}
use Rattle.image_records.specs.Views.{record_read, item, image_read}
use Rattle.image_records.specs.declared.known.Known.{Known}
use Rattle.image_records.specs.declared.record.Image.{Image as KeptImage}
use Rattle.image_records.specs.declared.record.Item.{Item as KeptItem}
use Rattle.image_records.specs.declared.record.Record.{Record as KeptRecord}
use Rattle.image_made.specs.declared.making.Maker.{Maker}
use Rattle.image_made.specs.declared.place.Place.{Place}
use Rattle.image_made.specs.Places.{Starts, ArePlaces}
use Rattle.image_made.specs.Making.{IsMaker, MakesAll}
use Rattle.image_placed.specs.declared.texts.Part.{Part}
use Rattle.image_placed.specs.Placing.{AddsMore, AddsObjects, ArePartsOf, PlacesAll, part_read}
use Rattle.table_core.specs.declared.value.Value.{Value as Kept}
use Rattle.lua_heap.specs.declared.codes.Codes.{Codes}
use Rattle.lua_heap.specs.declared.world.World.{World as Memory}
use Rattle.lua_heap.specs.Cells.{CellsAreListed}
use Rattle.lua_heap.specs.Codes.{functions, AreCodes}
use Rattle.lua_heap.specs.Plain.{table, function, cell, coroutine, plain}
use Rattle.lua_heap.specs.Reading.{value}
use Rattle.move_laws.specs.Memory.{InOrder}
use Rattle.eris_read.specs.Known.{IsNamed}
use Rattle.eris_read.specs.Loaded.{LoadsBy, LoadsImage}
use Rattle.image_saved.specs.Permanents.{target}
use Rattle.eris_read.specs.Unpersist.{CanRead}
use Rattle.image_placed.proofs.ObjectsPlaced.{length_mapped}

-- counts

pub starts : (W : Memory) (perms : List Perm) → Starts (target (plain W 0) perms) W
starts W perms = record {
  tables = length_mapped (table W.strings) W.tables.objects;
  functions = length_mapped (function (functions W.codes)) W.funcs.objects;
  coroutines = length_mapped (coroutine W.strings) W.coros.objects;
  cells = length_mapped (cell W.strings) W.cells.objects;
}

pub is_maker : (W : Memory) (perms : List Perm) (rs : List Record) (maker : Maker) → ((T : Target) → Starts T W → ArePlaces T rs maker.places.now) → IsNamed perms maker.known.now
    → maker.environment ≡ W.prelude.env → IsMaker (target (plain W 0) perms) rs maker
is_maker W perms rs maker places named e = record {
  places = places (target (plain W 0) perms) (starts W perms);
  names = λ kind key. sym (named.objects key);
  environment = ap (λ id. id.0) (sym e);
}

-- parts are the records

pub parts_are : (ps : List Prototype) (parts : List Part) (rs : List Record) → ArePartsOf ps parts rs → map (part_read ps) parts ≡ rs
parts_are ps [] [] h = refl
parts_are ps [] (r ∷ rs) h = absurd h
parts_are ps (p ∷ parts) [] h = absurd h
parts_are ps (p ∷ parts) (r ∷ rs) h = ap (λ x. x ∷ map (part_read ps) parts) h.0.is ∙ ap (λ xs. r ∷ xs) (parts_are ps parts rs h.1)

-- the world that is left

abbrev with_objects : World → List Table → List Function → List CellShown → List Coroutine → World
with_objects V ts fs cs os = record V { heap = record V.heap { tables = ts }; functions = fs; cells = cs; coroutines = os }

same_objects : (V : World) (ts us : List Table) (fs gs : List Function) (cs ds : List CellShown) (os rs : List Coroutine) → ts ≡ us → fs ≡ gs → cs ≡ ds → os ≡ rs
    → with_objects V ts fs cs os ≡ with_objects V us gs ds rs
same_objects V ts us fs gs cs ds os rs a b c d =
    ap (λ t. with_objects V t fs cs os) a ∙ ap (λ f. with_objects V us f cs os) b ∙ ap (λ k. with_objects V us gs k os) c ∙ ap (with_objects V us gs ds) d

module _ (W mid now : Memory) (perms : List Perm) (rs : List Record) (maker : Maker) (more : AddsMore W mid) (is : IsMaker (target (plain W 0) perms) rs maker) (all : PlacesAll maker rs mid now) where
  placed_in : (fuel : ℕ) → plain now fuel ≡ loaded (target (plain W 0) perms) rs (plain mid fuel)
  placed_in fuel =
      let made = all.are_made (target (plain W 0) perms) rs is in
      let V : World = plain mid fuel in
      ap (λ (X : Memory). plain X fuel) all.adds.rest
      ∙ same_objects V (map (table mid.strings) now.tables.objects) (V.heap.tables ++ chosen (table_made (target (plain W 0) perms) rs) rs)
      (map (function (functions mid.codes)) now.funcs.objects) (V.functions ++ chosen (function_made (target (plain W 0) perms) rs) rs)
      (map (cell mid.strings) now.cells.objects) (V.cells ++ chosen (cell_made (target (plain W 0) perms) rs) rs)
      (map (coroutine mid.strings) now.coros.objects) (V.coroutines ++ chosen (coroutine_made (target (plain W 0) perms) rs) rs)
      made.tables made.functions made.cells (all.coroutines (target (plain W 0) perms) rs is)

  pub loads : (roots : List Item) (values : List Kept) → (primitives : ℕ) → Sound primitives (plain W 0) → MakesAll maker mid.strings roots values
      → LoadsImage W now perms (record { roots = roots; records = rs }) values
  loads roots values primitives sound made =
      let strings : now.strings ≡ mid.strings = ap (λ (X : Memory). X.strings) all.adds.rest in
      let codes : now.codes ≡ mid.codes = ap (λ (X : Memory). X.codes) all.adds.rest in
      record {
        world = λ fuel. placed_in fuel ∙ ap (loaded (target (plain W 0) perms) rs) (more.plain primitives fuel (sound_refuelled primitives fuel (plain W 0) sound));
        roots_made = ap (λ texts. map (value texts) values) strings ∙ made.is (target (plain W 0) perms) rs is;
        rest = all.adds.rest
            ∙ ap (λ (X : Memory). record X { tables = now.tables; funcs = now.funcs; cells = now.cells; coros = now.coros }) more.rest
            ∙ ap (λ (texts : List (List ℕ)). record W { strings = texts; codes = mid.codes; tables = now.tables; funcs = now.funcs; cells = now.cells; coros = now.coros }) (sym strings)
            ∙ ap (λ (c : Codes). record W { strings = now.strings; codes = c; tables = now.tables; funcs = now.funcs; cells = now.cells; coros = now.coros }) (sym codes);
      }

pub mid_listed : (W mid : Memory) → AddsMore W mid → CellsAreListed W → CellsAreListed mid
mid_listed W mid more h = subst CellsAreListed (sym more.rest) h

pub now_in_order : (W mid now : Memory) → AddsMore W mid → AddsObjects mid now → InOrder W → CellsAreListed now → InOrder now
now_in_order W mid now more adds order listed = record {
  codes = subst (λ (X : Memory). AreCodes X.strings X.codes) (sym adds.rest) (more.codes order.codes);
  listed = listed;
}

pub loads_by : (W mid now : Memory) (places : List Place) (known : Known) (maker : Maker) (I : KeptImage) (roots : List KeptItem) (parts lent : List Part) (values : List Kept) → AddsMore W mid
    → ArePartsOf (functions mid.codes) parts (map record_read I.records.items) → roots ≡ I.roots.items → MakesAll maker mid.strings (map item roots) values
    → lent ≡ parts → PlacesAll maker (map (part_read (functions mid.codes)) lent) mid now → maker.places.now ≡ places → maker.known.now ≡ known → maker.environment ≡ mid.prelude.env
    → LoadsBy places known W now (image_read I) values
loads_by W mid now places known maker I roots parts lent values more are same made as_lent all at by env = record {
  loads = λ perms can placed named.
      let rs : List Record = map record_read I.records.items in
      loads W mid now perms rs maker more
      (is_maker W perms rs maker (λ T starts. subst (λ (ps : List Place). ArePlaces T rs ps) (sym at) (placed T starts)) (subst (IsNamed perms) (sym by) named) (env ∙ ap (λ (X : Memory). X.prelude.env) more.rest))
      (subst (λ (l : List Record). PlacesAll maker l mid now) (ap (map (part_read (functions mid.codes))) as_lent ∙ parts_are (functions mid.codes) parts rs are) all)
      (map item I.roots.items) values can.primitives can.sound (subst (λ (is : List KeptItem). MakesAll maker mid.strings (map item is) values) same made);
}

pub loads_ok : (places lent : List Place) (known : Known) (old new : Memory) (perms : List Perm) (I : KeptImage) (records : List KeptRecord) (result : Result (Vec Kept Global) AllocError) → CanRead old perms
    → records ≡ I.records.items → ((T : Target) → Starts T old → ArePlaces T (map record_read records) places) → IsNamed perms known
    → lent ≡ places → IfOk result (λ values. LoadsBy lent known old new (image_read I) values.items) → IfOk result (λ values. LoadsImage old new perms (image_read I) values.items)
loads_ok places lent known old new perms I records result can same placed named as_lent h =
    let at : (T : Target) → Starts T old → ArePlaces T (map record_read I.records.items) places =
    λ T starts. subst (λ (rs : List KeptRecord). ArePlaces T (map record_read rs) places) same (placed T starts) in
    IfOk-weaker result (λ values. LoadsBy places known old new (image_read I) values.items) (λ values. LoadsImage old new perms (image_read I) values.items)
    (λ values by. by.loads perms can at named)
    (subst (λ (ps : List Place). IfOk result (λ values. LoadsBy ps known old new (image_read I) values.items)) as_lent h)
