-- Objects that are placed one after another.
use Rattle.std.proofs.Common.{◌≡◌, ℕ, suc, ◌+◌, ◌≤◌, List, [], ◌∷◌, ◌++◌, Option, Some, None, map, length, refl, ap, sym, subst, ◌∙◌, append_assoc, arith, ◌<◌, get_or, take}
use Rattle.std.specs.Prelude.{slice_get}
use Rattle.std.proofs.Math.Seq.{take-suc}
use Rattle.code_core.specs.Prototype.{Prototype}
use Rattle.object_pool.specs.Pool.{Pool}
use Rattle.machine_core.specs.World.{Function, open_at, closed}
use Rattle.list_laws.proofs.Items.{append_nil}
use Rattle.image_core.specs.Image.{Item, Record, table_record, function_record, closed_record, open_record}
use Rattle.image_core.specs.Loading.{Target, table_made, function_made, cell_made, coroutine_made, chosen}
use Rattle.table_core.specs.Table.{Contents}
use Rattle.table_core.specs.declared.value.CoroId.{CoroId}
use Rattle.table_core.specs.declared.value.Value.{Value as Kept}
use Rattle.lua_stack.specs.declared.frame.OpenCell.{OpenCell}
use Rattle.lua_heap.specs.declared.world.Cell.{Cell}
use Rattle.lua_heap.specs.declared.world.Cell.TheVariants.{Closed, Open}
use Rattle.lua_heap.specs.declared.world.Coro.{Coro}
use Rattle.lua_heap.specs.declared.world.Func.{Func}
use Rattle.lua_heap.specs.declared.world.World.{World as Memory}
use Rattle.lua_heap.specs.Cells.{AreListed, CellsAreListed, open_cells_in}
use Rattle.lua_heap.specs.Changes.{AddsTable, AddsFunction, AddsCell, AddsCoroutine}
use Rattle.lua_heap.specs.Codes.{functions, prototype_at}
use Rattle.lua_heap.specs.Plain.{table, function, cell, coroutine}
use Rattle.lua_heap.proofs.Added.{begins_same, begins_more}
use Rattle.image_made.specs.declared.making.Maker.{Maker}
use Rattle.image_made.specs.declared.place.Place.TheVariants.{Coro as CoroPlace}
use Rattle.image_made.specs.declared.stack.Opening.{Opening}
use Rattle.image_made.specs.Making.{IsMaker, Makes, MakesCells, MakesTable}
use Rattle.image_made.specs.Stacks.{ListsIn, MakesCoroutine}
use Rattle.image_placed.specs.declared.texts.Part.{Part}
use Rattle.image_placed.specs.Placing.{AddsObjects, PlacesObjects, AreOpen, AreAll, AreListedBut, PlacesCoroutines, PlacesAll, part_read}
use Rattle.image_placed.proofs.ObjectsAdded.{objects_none, objects_then}
use Rattle.image_placed.proofs.OpenListed.{stack_listed, none_listed, cells_listed, all_listed}
use Rattle.image_placed.proofs.MoreAdded.{map_push}

both_by : {B : Type 0} (o : Option B) (whole front back : List B) → whole ≡ front ++ back
    → elim o [ None ↦ whole | Some y ↦ y ∷ whole ] ≡ elim o [ None ↦ front | Some y ↦ y ∷ front ] ++ back
both_by None whole front back e = e
both_by (Some y) whole front back e = ap (λ l. y ∷ l) e

chosen_both : {A B : Type 0} (f : A → Option B) (xs ys : List A) → chosen f (xs ++ ys) ≡ chosen f xs ++ chosen f ys
chosen_both f [] ys = refl
chosen_both f (x ∷ xs) ys = both_by (f x) (chosen f (xs ++ ys)) (chosen f xs) (chosen f ys) (chosen_both f xs ys)

-- one object

pub table_placed : (maker : Maker) (old new : Memory) (rows : List (Item × Item)) (m : Item) (t : Contents) → AddsTable old new t → MakesTable maker old.strings rows m t
    → PlacesObjects maker (table_record rows m ∷ []) old new
table_placed maker old new rows m t a made = subst (PlacesObjects maker (table_record rows m ∷ []) old) (sym a.rest) (record {
  adds = record {
    tables = record { more = t ∷ []; is = a.objects };
    funcs = begins_same old.funcs.objects;
    cells = begins_same old.cells.objects;
    coros = begins_same old.coros.objects;
    rest = refl;
  };
  same = refl;
  are_made = λ T rs k. record {
    tables = ap (map (table old.strings)) a.objects ∙ (map_push (table old.strings) old.tables.objects t ∙ ap (λ x. map (table old.strings) old.tables.objects ++ x ∷ []) (made.is T rs k));
    functions = sym (append_nil (map (function (functions old.codes)) old.funcs.objects));
    cells = sym (append_nil (map (cell old.strings) old.cells.objects));
  };
})

abbrev function_with : Prototype → List ℕ → Function
function_with p cells = record { code = p; cells = cells }

pub function_placed : (maker : Maker) (old new : Memory) (cells : List ℕ) (f : Func) → AddsFunction old new f → MakesCells maker cells f.cells.items
    → PlacesObjects maker (function_record (prototype_at (functions old.codes) f.code.0) cells ∷ []) old new
function_placed maker old new cells f a made = subst (PlacesObjects maker (function_record (prototype_at (functions old.codes) f.code.0) cells ∷ []) old) (sym a.rest) (record {
  adds = record {
    tables = begins_same old.tables.objects;
    funcs = record { more = f ∷ []; is = a.objects };
    cells = begins_same old.cells.objects;
    coros = begins_same old.coros.objects;
    rest = refl;
  };
  same = refl;
  are_made = λ T rs k. record {
    tables = sym (append_nil (map (table old.strings) old.tables.objects));
    functions = ap (map (function (functions old.codes))) a.objects ∙ (map_push (function (functions old.codes)) old.funcs.objects f
        ∙ ap (λ cs. map (function (functions old.codes)) old.funcs.objects ++ function_with (prototype_at (functions old.codes) f.code.0) cs ∷ []) (made.is T rs k));
    cells = sym (append_nil (map (cell old.strings) old.cells.objects));
  };
})

cell_placed : (maker : Maker) (old new : Memory) (r : Record) (c : Cell) → AddsCell old new c → ((T : Target) (rs : List Record) → chosen (table_made T rs) (r ∷ []) ≡ [])
    → ((T : Target) (rs : List Record) → chosen (function_made T rs) (r ∷ []) ≡ []) → ((T : Target) (rs : List Record) → IsMaker T rs maker → cell old.strings c ∷ [] ≡ chosen (cell_made T rs) (r ∷ []))
    → PlacesObjects maker (r ∷ []) old new
cell_placed maker old new r c a no_table no_function made = subst (PlacesObjects maker (r ∷ []) old) (sym a.rest) (record {
  adds = record {
    tables = begins_same old.tables.objects;
    funcs = begins_same old.funcs.objects;
    cells = record { more = c ∷ []; is = a.objects };
    coros = begins_same old.coros.objects;
    rest = refl;
  };
  same = refl;
  are_made = λ T rs k. record {
    tables = sym (append_nil (map (table old.strings) old.tables.objects)) ∙ ap (λ l. map (table old.strings) old.tables.objects ++ l) (sym (no_table T rs));
    functions = sym (append_nil (map (function (functions old.codes)) old.funcs.objects)) ∙ ap (λ l. map (function (functions old.codes)) old.funcs.objects ++ l) (sym (no_function T rs));
    cells = ap (map (cell old.strings)) a.objects ∙ (map_push (cell old.strings) old.cells.objects c ∙ ap (λ l. map (cell old.strings) old.cells.objects ++ l) (made T rs k));
  };
})

pub closed_placed : (maker : Maker) (old new : Memory) (i : Item) (v : Kept) → AddsCell old new (Closed v) → Makes maker old.strings i v → PlacesObjects maker (closed_record i ∷ []) old new
closed_placed maker old new i v a made =
    cell_placed maker old new (closed_record i) (Closed v) a (λ T rs. refl) (λ T rs. refl) (λ T rs k. ap (λ x. closed x ∷ []) (made.is T rs k))

pub open_placed : (maker : Maker) (old new : Memory) (n frame register : ℕ) (co : CoroId) → AddsCell old new (Open co frame register) → slice_get maker.places.now n ≡ Some (CoroPlace co)
    → PlacesObjects maker (open_record n frame register ∷ []) old new
open_placed maker old new n frame register co a e =
    cell_placed maker old new (open_record n frame register) (Open co frame register) a (λ T rs. refl) (λ T rs. refl)
    (λ T rs k. let p = k.places.each n (CoroPlace co) e in ap (λ m. open_at m frame register ∷ []) p.2.coroutine)

-- no object of these sorts
pub nothing_placed : (maker : Maker) (W : Memory) (r : Record) → ((T : Target) (rs : List Record) → chosen (table_made T rs) (r ∷ []) ≡ [])
    → ((T : Target) (rs : List Record) → chosen (function_made T rs) (r ∷ []) ≡ []) → ((T : Target) (rs : List Record) → chosen (cell_made T rs) (r ∷ []) ≡ [])
    → PlacesObjects maker (r ∷ []) W W
nothing_placed maker W r no_table no_function no_cell = record {
  adds = objects_none W;
  same = refl;
  are_made = λ T rs k. record {
    tables = sym (append_nil (map (table W.strings) W.tables.objects)) ∙ ap (λ l. map (table W.strings) W.tables.objects ++ l) (sym (no_table T rs));
    functions = sym (append_nil (map (function (functions W.codes)) W.funcs.objects)) ∙ ap (λ l. map (function (functions W.codes)) W.funcs.objects ++ l) (sym (no_function T rs));
    cells = sym (append_nil (map (cell W.strings) W.cells.objects)) ∙ ap (λ l. map (cell W.strings) W.cells.objects ++ l) (sym (no_cell T rs));
  };
}

-- one after another

pub placed_none : (maker : Maker) (W : Memory) → PlacesObjects maker [] W W
placed_none maker W = record {
  adds = objects_none W;
  same = refl;
  are_made = λ T rs k. record {
    tables = sym (append_nil (map (table W.strings) W.tables.objects));
    functions = sym (append_nil (map (function (functions W.codes)) W.funcs.objects));
    cells = sym (append_nil (map (cell W.strings) W.cells.objects));
  };
}

joined : {A B : Type 0} (f : A → B) (xs ys zs : List A) (ps bs cs : List B) → map f ys ≡ map f xs ++ ps → map f zs ≡ map f ys ++ bs → cs ≡ ps ++ bs → map f zs ≡ map f xs ++ cs
joined f xs ys zs ps bs cs d e g = e ∙ (ap (λ l. l ++ bs) d ∙ (append_assoc (map f xs) ps bs ∙ ap (λ l. map f xs ++ l) (sym g)))

pub placed_then : (maker : Maker) (xs ys : List Record) (a b c : Memory) → PlacesObjects maker xs a b → PlacesObjects maker ys b c → PlacesObjects maker (xs ++ ys) a c
placed_then maker xs ys a b c g h =
    let strings : b.strings ≡ a.strings = ap (λ (W : Memory). W.strings) g.adds.rest in
    let codes : functions b.codes ≡ functions a.codes = ap (λ (W : Memory). functions W.codes) g.adds.rest in
    record {
      adds = objects_then a b c g.adds h.adds;
      same = h.same ∙ g.same;
      are_made = λ T rs k.
          let d = g.are_made T rs k in
          let e = h.are_made T rs k in
          record {
            tables = joined (table a.strings) a.tables.objects b.tables.objects c.tables.objects (chosen (table_made T rs) xs) (chosen (table_made T rs) ys) _ d.tables
                (subst (λ texts. map (table texts) c.tables.objects ≡ map (table texts) b.tables.objects ++ chosen (table_made T rs) ys) strings e.tables) (chosen_both (table_made T rs) xs ys);
            functions = joined (function (functions a.codes)) a.funcs.objects b.funcs.objects c.funcs.objects (chosen (function_made T rs) xs) (chosen (function_made T rs) ys) _ d.functions
                (subst (λ ps. map (function ps) c.funcs.objects ≡ map (function ps) b.funcs.objects ++ chosen (function_made T rs) ys) codes e.functions) (chosen_both (function_made T rs) xs ys);
            cells = joined (cell a.strings) a.cells.objects b.cells.objects c.cells.objects (chosen (cell_made T rs) xs) (chosen (cell_made T rs) ys) _ d.cells
                (subst (λ texts. map (cell texts) c.cells.objects ≡ map (cell texts) b.cells.objects ++ chosen (cell_made T rs) ys) strings e.cells) (chosen_both (cell_made T rs) xs ys);
          };
    }

pub placed_more : (maker : Maker) (a b c : Memory) (parts taken : List Part) (part : Part) → PlacesObjects maker (map (part_read (functions a.codes)) parts) a b
    → PlacesObjects maker (part_read (functions b.codes) part ∷ []) b c → taken ≡ parts ++ part ∷ [] → PlacesObjects maker (map (part_read (functions a.codes)) taken) a c
placed_more maker a b c parts taken part g h e =
    let codes : functions b.codes ≡ functions a.codes = ap (λ (W : Memory). functions W.codes) g.adds.rest in
    subst (λ rs. PlacesObjects maker rs a c) (sym (ap (map (part_read (functions a.codes))) e ∙ map_push (part_read (functions a.codes)) parts part))
    (placed_then maker (map (part_read (functions a.codes)) parts) (part_read (functions a.codes) part ∷ []) a b c g (subst (λ ps. PlacesObjects maker (part_read ps part ∷ []) b c) codes h))

-- coroutines

abbrev one_of : {B : Type 0} → Option B → List B
one_of None = []
one_of (Some y) = y ∷ []

one_by : {B : Type 0} (q : Option B) → elim q [ None ↦ [] | Some y ↦ y ∷ [] ] ≡ one_of q
one_by None = refl
one_by (Some y) = refl

chosen_one : {A B : Type 0} (f : A → Option B) (x : A) (o : Option B) → o ≡ f x → chosen f (x ∷ []) ≡ one_of o
chosen_one f x o e = one_by (f x) ∙ ap one_of (sym e)

pub coroutine_adds : (maker : Maker) (made : List Record) (os : List Opening) (from to : ℕ) (old new : Memory) → PlacesCoroutines maker made os from to old new → AddsObjects old new
coroutine_adds maker made os from to old new p = subst (AddsObjects old) (sym p.rest) (record {
  tables = begins_same old.tables.objects;
  funcs = begins_same old.funcs.objects;
  cells = begins_same old.cells.objects;
  coros = p.coros;
  rest = refl;
})

pub no_coroutine : (maker : Maker) (W : Memory) (r : Record) (own : CoroId) (os : List Opening) (from to : ℕ) → MakesCoroutine maker W.strings own os from to r None
    → PlacesCoroutines maker (r ∷ []) os from to W W
no_coroutine maker W r own os from to m = record {
  coros = begins_same W.coros.objects;
  rest = refl;
  are_made = λ T rs k. sym (append_nil (map (coroutine W.strings) W.coros.objects)) ∙ ap (λ l. map (coroutine W.strings) W.coros.objects ++ l) (sym (chosen_one (coroutine_made T rs) r None (m.reads T rs k)));
  listed = λ open_ones b. subst (AreListedBut W.cells.objects (map open_cells_in W.coros.objects) os) (sym m.lists) b;
}

pub function_no_coroutine : (maker : Maker) (W : Memory) (p : Prototype) (cells : List ℕ) (os : List Opening) (from : ℕ) → PlacesCoroutines maker (function_record p cells ∷ []) os from from W W
function_no_coroutine maker W p cells os from = record {
  coros = begins_same W.coros.objects;
  rest = refl;
  are_made = λ T rs k. sym (append_nil (map (coroutine W.strings) W.coros.objects));
  listed = λ open_ones b. b;
}

one_listed : (C : List Cell) (L : List (Option (List OpenCell))) (os : List Opening) (own : CoroId) (from to : ℕ) (o : Option (List OpenCell)) → own.0 ≡ length L → ListsIn o own os from to
    → AreOpen C os → AreListedBut C L os from → AreListedBut C (L ++ o ∷ []) os to
one_listed C L os own from to None e l open_ones b = subst (AreListedBut C (L ++ None ∷ []) os) (sym l) (none_listed C L os from b)
one_listed C L os own from to (Some cells) e l open_ones b = stack_listed C L os own from to cells open_ones b e l

pub length_mapped : {A B : Type 0} (f : A → B) (xs : List A) → length (map f xs) ≡ length xs
length_mapped f [] = refl
length_mapped f (x ∷ xs) = ap suc (length_mapped f xs)

pub coroutine_placed : (maker : Maker) (old new : Memory) (r : Record) (own : CoroId) (os : List Opening) (from to : ℕ) (c : Coro) → AddsCoroutine old new c
    → MakesCoroutine maker old.strings own os from to r (Some c) → own.0 ≡ length old.coros.objects → PlacesCoroutines maker (r ∷ []) os from to old new
coroutine_placed maker old new r own os from to c a m e = record {
  coros = record { more = c ∷ []; is = a.objects };
  rest = a.rest;
  are_made = λ T rs k. ap (map (coroutine old.strings)) a.objects ∙ (map_push (coroutine old.strings) old.coros.objects c
      ∙ ap (λ l. map (coroutine old.strings) old.coros.objects ++ l) (sym (chosen_one (coroutine_made T rs) r (Some (coroutine old.strings c)) (m.reads T rs k))));
  listed = λ open_ones b.
      subst (λ L. AreListedBut old.cells.objects L os to) (sym (ap (map open_cells_in) a.objects ∙ map_push open_cells_in old.coros.objects c))
      (one_listed old.cells.objects (map open_cells_in old.coros.objects) os own from to (open_cells_in c) (e ∙ sym (length_mapped open_cells_in old.coros.objects)) m.lists open_ones b);
}

pub coroutines_none : (maker : Maker) (W : Memory) (os : List Opening) (from : ℕ) → PlacesCoroutines maker [] os from from W W
coroutines_none maker W os from = record {
  coros = begins_same W.coros.objects;
  rest = refl;
  are_made = λ T rs k. sym (append_nil (map (coroutine W.strings) W.coros.objects));
  listed = λ open_ones b. b;
}

coroutines_then : (maker : Maker) (xs ys : List Record) (os : List Opening) (from mid to : ℕ) (a b c : Memory) → PlacesCoroutines maker xs os from mid a b → PlacesCoroutines maker ys os mid to b c
    → PlacesCoroutines maker (xs ++ ys) os from to a c
coroutines_then maker xs ys os from mid to a b c g h =
    let strings : b.strings ≡ a.strings = ap (λ (W : Memory). W.strings) g.rest in
    let cells : b.cells.objects ≡ a.cells.objects = ap (λ (W : Memory). W.cells.objects) g.rest in
    record {
      coros = begins_more a.coros.objects b.coros.objects c.coros.objects g.coros h.coros;
      rest = h.rest ∙ ap (λ (W : Memory). record W { coros = c.coros }) g.rest;
      are_made = λ T rs k. joined (coroutine a.strings) a.coros.objects b.coros.objects c.coros.objects (chosen (coroutine_made T rs) xs) (chosen (coroutine_made T rs) ys) _ (g.are_made T rs k)
          (subst (λ texts. map (coroutine texts) c.coros.objects ≡ map (coroutine texts) b.coros.objects ++ chosen (coroutine_made T rs) ys) strings (h.are_made T rs k)) (chosen_both (coroutine_made T rs) xs ys);
      listed = λ open_ones k.
          subst (λ (cs : List Cell). AreListedBut cs (map open_cells_in c.coros.objects) os to) cells
          (h.listed (subst (λ (cs : List Cell). AreOpen cs os) (sym cells) open_ones) (subst (λ (cs : List Cell). AreListedBut cs (map open_cells_in b.coros.objects) os mid) (sym cells) (g.listed open_ones k)));
    }

pub coroutines_more : (maker : Maker) (a b c : Memory) (os : List Opening) (from mid to : ℕ) (parts taken : List Part) (part : Part) → PlacesCoroutines maker (map (part_read (functions a.codes)) parts) os from mid a b
    → PlacesCoroutines maker (part_read (functions b.codes) part ∷ []) os mid to b c → taken ≡ parts ++ part ∷ [] → PlacesCoroutines maker (map (part_read (functions a.codes)) taken) os from to a c
coroutines_more maker a b c os from mid to parts taken part g h e =
    let codes : functions b.codes ≡ functions a.codes = ap (λ (W : Memory). functions W.codes) g.rest in
    subst (λ rs. PlacesCoroutines maker rs os from to a c) (sym (ap (map (part_read (functions a.codes))) e ∙ map_push (part_read (functions a.codes)) parts part))
    (coroutines_then maker (map (part_read (functions a.codes)) parts) (part_read (functions a.codes) part ∷ []) os from mid to a b c g (subst (λ ps. PlacesCoroutines maker (part_read ps part ∷ []) os mid to b c) codes h))

-- all

module _ (maker : Maker) (parts : List Part) (os : List Opening) (at : ℕ) (a b c : Memory) (g : PlacesObjects maker (map (part_read (functions a.codes)) parts) a b)
    (h : PlacesCoroutines maker (map (part_read (functions b.codes)) parts) os 0 at b c) where
  same_codes : functions b.codes ≡ functions a.codes
  same_codes = ap (λ (W : Memory). functions W.codes) g.adds.rest

  same_strings : b.strings ≡ a.strings
  same_strings = ap (λ (W : Memory). W.strings) g.adds.rest

  pub all_added : AddsObjects a c
  all_added = objects_then a b c g.adds (coroutine_adds maker (map (part_read (functions b.codes)) parts) os 0 at b c h)

  pub all_placed : PlacesAll maker (map (part_read (functions a.codes)) parts) a c
  all_placed = record {
    adds = all_added;
    are_made = λ T rs k.
        let d = g.are_made T rs k in
        record {
          tables = ap (λ (W : Memory). map (table a.strings) W.tables.objects) h.rest ∙ d.tables;
          functions = ap (λ (W : Memory). map (function (functions a.codes)) W.funcs.objects) h.rest ∙ d.functions;
          cells = ap (λ (W : Memory). map (cell a.strings) W.cells.objects) h.rest ∙ d.cells;
        };
    coroutines = λ T rs k.
        subst (λ texts. map (coroutine texts) c.coros.objects ≡ map (coroutine texts) a.coros.objects ++ chosen (coroutine_made T rs) (map (part_read (functions a.codes)) parts)) same_strings
        (subst (λ ps. map (coroutine b.strings) c.coros.objects ≡ map (coroutine b.strings) a.coros.objects ++ chosen (coroutine_made T rs) (map (part_read ps) parts)) same_codes
        (h.are_made T rs k ∙ ap (λ (cs : Pool Coro). map (coroutine b.strings) cs.objects ++ chosen (coroutine_made T rs) (map (part_read (functions b.codes)) parts)) g.same));
  }

  pub all_are_listed : CellsAreListed a → AreAll b.cells.objects (length a.cells.objects) (length b.cells.objects) os → length os ≤ at → CellsAreListed c
  all_are_listed listed all l =
      let begun : AreListedBut b.cells.objects (map open_cells_in b.coros.objects) os 0 =
      subst (λ (cs : Pool Coro). AreListedBut b.cells.objects (map open_cells_in cs.objects) os 0) (sym g.same) (cells_listed a.cells.objects b.cells.objects (map open_cells_in a.coros.objects) os g.adds.cells listed all) in
      subst (λ (cs : List Cell). AreListed cs (map open_cells_in c.coros.objects)) (sym (ap (λ (W : Memory). W.cells.objects) h.rest))
      (all_listed b.cells.objects (map open_cells_in c.coros.objects) os at l (h.listed all.open_ones begun))

pub adds_so_far : (maker : Maker) (made : List Record) (a b c : Memory) → PlacesObjects maker made a b → c ≡ b → AddsObjects a c
adds_so_far maker made a b c g e = subst (AddsObjects a) (sym e) g.adds

pub coroutine_adds_so_far : (maker : Maker) (made : List Record) (os : List Opening) (from to : ℕ) (a b c : Memory) → PlacesCoroutines maker made os from to a b → c ≡ b → AddsObjects a c
coroutine_adds_so_far maker made os from to a b c g e = subst (AddsObjects a) (sym e) (coroutine_adds maker made os from to a b g)

-- one item more is taken from a list
pub taken_more : {A : Type 0} (xs : List A) (i : ℕ) (x : A) → i < length xs → x ≡ get_or xs i x → take (i + 1) xs ≡ take i xs ++ x ∷ []
taken_more xs i x inside is =
    let on : i + 1 ≡ suc i = omega arith in
    ap (λ n. take n xs) on ∙ take-suc xs i x inside ∙ ap (λ y. take i xs ++ y ∷ []) (sym is)
