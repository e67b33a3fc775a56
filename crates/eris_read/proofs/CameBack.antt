-- A world that is brought back to its mark is as before.
use Rattle.std.proofs.Common.{◌≡◌, ℕ, ◌≤◌, List, map, length, refl, ap, sym, subst, ◌∙◌, arith, length-append}
use Rattle.std.specs.Option.{option_map}
use Rattle.code_core.specs.Prototype.{Prototype}
use Rattle.machine_core.specs.World.{World}
use Rattle.table_core.specs.Table.{Contents}
use Rattle.lua_heap.specs.declared.codes.Codes.{Codes}
use Rattle.lua_heap.specs.declared.codes.Tree.{Tree}
use Rattle.lua_heap.specs.declared.world.Cell.{Cell}
use Rattle.lua_heap.specs.declared.world.Coro.{Coro}
use Rattle.lua_heap.specs.declared.world.Func.{Func}
use Rattle.lua_heap.specs.declared.world.World.{World as Memory}
use Rattle.lua_heap.specs.Adding.{Begins}
use Rattle.lua_heap.specs.Cells.{AreListed, open_cells_in}
use Rattle.lua_heap.specs.Codes.{functions, functions_in, AreFirsts, AreCodes}
use Rattle.lua_heap.specs.Opening.{mark_of, IsMark, Releases}
use Rattle.lua_heap.specs.Plain.{heap, function, cell, coroutine, plain}
use Rattle.lua_heap.proofs.Added.{begins_more, begins_taken}
use Rattle.move_laws.specs.Memory.{InOrder}
use Rattle.image_placed.specs.Placing.{AddsMore, AddsObjects}
use Rattle.eris_read.specs.Loaded.{CanComeBack}
use Rattle.eris_read.specs.Unpersist.{CanRead, IsAsBefore}
use Rattle.std.specs.Prelude.{slice_get}
use Rattle.image_placed.proofs.MoreAdded.{begins_is, adds_none}
use Rattle.image_placed.proofs.ObjectsAdded.{objects_none}
use Rattle.image_core.specs.Image.{Perm}

at_most : {A : Type 0} (xs ys : List A) → Begins A xs ys → length xs ≤ length ys
at_most xs ys b = let e = ap length b.is in let l = length-append xs b.more in omega (arith, e, l)

pub is_mark : (old now : Memory) → CanComeBack old now → IsMark now (mark_of old)
is_mark old now c = record {
  strings = at_most old.strings now.strings c.strings;
  codes = at_most old.codes.trees.items now.codes.trees.items c.trees;
  tables = at_most old.tables.objects now.tables.objects c.tables;
  funcs = at_most old.funcs.objects now.funcs.objects c.funcs;
  cells = at_most old.cells.objects now.cells.objects c.cells;
  coros = at_most old.coros.objects now.coros.objects c.coros;
}

same_codes : (texts : List (List ℕ)) (a b : Codes) → b.trees.items ≡ a.trees.items → b.list.items ≡ a.list.items → AreCodes texts a → AreCodes texts b
same_codes texts a b trees list h = record {
  count = ap length list ∙ h.count ∙ ap (λ (ts : List Tree). length (functions_in ts)) (sym trees);
  firsts = subst AreFirsts (sym trees) h.firsts;
  each = λ n p code e f. h.each n p code (ap (λ (ts : List Tree). slice_get (functions_in ts) n) (sym trees) ∙ e) (ap (λ l. slice_get l n) (sym list) ∙ f);
}

-- what a world stands for, by the parts that are put in place of its own
module _ (W : Memory) (fuel : ℕ) where
  abbrev by_parts : List Prototype → List Contents → List Func → List Cell → List Coro → World
  by_parts ps ts fs cs os = record (plain W fuel) {
    heap = heap W.strings ts (option_map (λ m. m.0) W.string_meta);
    functions = map (function ps) fs;
    cells = map (cell W.strings) cs;
    coroutines = map (coroutine W.strings) os;
  }

  same_parts : (ps qs : List Prototype) (ts us : List Contents) (fs gs : List Func) (cs ds : List Cell) (os rs : List Coro) → ps ≡ qs → ts ≡ us → fs ≡ gs → cs ≡ ds → os ≡ rs
      → by_parts ps ts fs cs os ≡ by_parts qs us gs ds rs
  same_parts ps qs ts us fs gs cs ds os rs a b c d e =
      ap (λ p. by_parts p ts fs cs os) a ∙ ap (λ t. by_parts qs t fs cs os) b ∙ ap (λ f. by_parts qs us f cs os) c ∙ ap (λ k. by_parts qs us gs k os) d ∙ ap (by_parts qs us gs ds) e

pub as_before_same : (old new : Memory) → new ≡ old → InOrder old → IsAsBefore old new
as_before_same old new e order = subst (IsAsBefore old) (sym e) (record { strings = refl; trees = refl; list = refl; tables = refl; funcs = refl; cells = refl; coros = refl; rest = refl; plain = λ fuel. refl; order = order })

module _ (old now new : Memory) (c : CanComeBack old now) (r : Releases now new (mark_of old)) (order : InOrder old) where
  strings_back : new.strings ≡ old.strings
  strings_back = r.strings ∙ begins_taken old.strings now.strings (length old.strings) c.strings refl

  trees_back : new.codes.trees.items ≡ old.codes.trees.items
  trees_back = r.trees ∙ begins_taken old.codes.trees.items now.codes.trees.items (length old.codes.trees.items) c.trees refl

  list_back : new.codes.list.items ≡ old.codes.list.items
  list_back = r.list ∙ begins_taken old.codes.list.items now.codes.list.items (length (functions new.codes)) c.list (ap (λ (ts : List Tree). length (functions_in ts)) trees_back ∙ sym order.codes.count)

  tables_back : new.tables.objects ≡ old.tables.objects
  tables_back = r.tables ∙ begins_taken old.tables.objects now.tables.objects (length old.tables.objects) c.tables refl

  funcs_back : new.funcs.objects ≡ old.funcs.objects
  funcs_back = r.funcs ∙ begins_taken old.funcs.objects now.funcs.objects (length old.funcs.objects) c.funcs refl

  cells_back : new.cells.objects ≡ old.cells.objects
  cells_back = r.cells ∙ begins_taken old.cells.objects now.cells.objects (length old.cells.objects) c.cells refl

  coros_back : new.coros.objects ≡ old.coros.objects
  coros_back = r.coros ∙ begins_taken old.coros.objects now.coros.objects (length old.coros.objects) c.coros refl

  rest_back : new ≡ record old { codes = new.codes; tables = new.tables; funcs = new.funcs; cells = new.cells; coros = new.coros }
  rest_back =
      r.rest
      ∙ ap (λ (W : Memory). record W { strings = new.strings; codes = new.codes; tables = new.tables; funcs = new.funcs; cells = new.cells; coros = new.coros }) c.rest
      ∙ ap (λ (texts : List (List ℕ)). record old { strings = texts; codes = new.codes; tables = new.tables; funcs = new.funcs; cells = new.cells; coros = new.coros }) strings_back

  pub as_before : IsAsBefore old new
  as_before = record {
    strings = strings_back;
    trees = trees_back;
    list = list_back;
    tables = tables_back;
    funcs = funcs_back;
    cells = cells_back;
    coros = coros_back;
    rest = rest_back;
    plain = λ fuel.
        ap (λ (W : Memory). plain W fuel) rest_back
        ∙ same_parts old fuel (functions new.codes) (functions old.codes) new.tables.objects old.tables.objects new.funcs.objects old.funcs.objects new.cells.objects old.cells.objects
        new.coros.objects old.coros.objects (ap functions_in trees_back) tables_back funcs_back cells_back coros_back;
    order = record {
      codes = subst (λ texts. AreCodes texts new.codes) (sym strings_back) (same_codes old.strings old.codes new.codes trees_back list_back order.codes);
      listed = subst (λ (cs : List Cell). AreListed cs (map open_cells_in new.coros.objects)) (sym cells_back)
          (subst (λ (os : List Coro). AreListed old.cells.objects (map open_cells_in os)) (sym coros_back) order.listed);
    };
  }

-- texts and code, then objects

pub comes_back : (old mid now : Memory) → AreCodes old.strings old.codes → AddsMore old mid → AddsObjects mid now → CanComeBack old now
comes_back old mid now codes g h =
    let strings : now.strings ≡ mid.strings = ap (λ (W : Memory). W.strings) h.rest in
    let same : now.codes ≡ mid.codes = ap (λ (W : Memory). W.codes) h.rest in
    let at : mid ≡ record old { strings = mid.strings; codes = mid.codes } = g.rest in
    record {
      strings = begins_more old.strings mid.strings now.strings g.strings (begins_is mid.strings now.strings strings);
      trees = begins_more old.codes.trees.items mid.codes.trees.items now.codes.trees.items g.trees (begins_is mid.codes.trees.items now.codes.trees.items (ap (λ (c : Codes). c.trees.items) same));
      list = begins_more old.codes.list.items mid.codes.list.items now.codes.list.items g.list (begins_is mid.codes.list.items now.codes.list.items (ap (λ (c : Codes). c.list.items) same));
      tables = begins_more old.tables.objects mid.tables.objects now.tables.objects (begins_is old.tables.objects mid.tables.objects (ap (λ (W : Memory). W.tables.objects) at)) h.tables;
      funcs = begins_more old.funcs.objects mid.funcs.objects now.funcs.objects (begins_is old.funcs.objects mid.funcs.objects (ap (λ (W : Memory). W.funcs.objects) at)) h.funcs;
      cells = begins_more old.cells.objects mid.cells.objects now.cells.objects (begins_is old.cells.objects mid.cells.objects (ap (λ (W : Memory). W.cells.objects) at)) h.cells;
      coros = begins_more old.coros.objects mid.coros.objects now.coros.objects (begins_is old.coros.objects mid.coros.objects (ap (λ (W : Memory). W.coros.objects) at)) h.coros;
      rest = h.rest
          ∙ ap (λ (W : Memory). record W { tables = now.tables; funcs = now.funcs; cells = now.cells; coros = now.coros }) g.rest
          ∙ ap (λ (texts : List (List ℕ)). record old { strings = texts; codes = mid.codes; tables = now.tables; funcs = now.funcs; cells = now.cells; coros = now.coros }) (sym strings)
          ∙ ap (λ (c : Codes). record old { strings = now.strings; codes = c; tables = now.tables; funcs = now.funcs; cells = now.cells; coros = now.coros }) (sym same);
      codes = subst (λ (W : Memory). AreCodes W.strings W.codes) (sym h.rest) (g.codes codes);
    }

pub come_same : (W : Memory) (perms : List Perm) → CanRead W perms → CanComeBack W W
come_same W perms can = comes_back W W W can.order.codes (adds_none W) (objects_none W)

pub come_more : (old mid : Memory) → InOrder old → AddsMore old mid → CanComeBack old mid
come_more old mid order more = comes_back old mid mid order.codes more (objects_none mid)

pub come_all : (old mid now : Memory) → InOrder old → AddsMore old mid → AddsObjects mid now → CanComeBack old now
come_all old mid now order more adds = comes_back old mid now order.codes more adds
