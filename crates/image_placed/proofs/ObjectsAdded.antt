-- Objects that are added: what one call after another adds.
use Rattle.std.proofs.Common.{◌≡◌, refl, ap, sym, subst, ◌∙◌}
use Rattle.lua_heap.specs.declared.world.World.{World as Memory}
use Rattle.lua_heap.proofs.Added.{begins_same, begins_more}
use Rattle.image_placed.specs.Placing.{AddsObjects}

pub objects_none : (W : Memory) → AddsObjects W W
objects_none W = record {
  tables = begins_same W.tables.objects;
  funcs = begins_same W.funcs.objects;
  cells = begins_same W.cells.objects;
  coros = begins_same W.coros.objects;
  rest = refl;
}

pub objects_is : (a b : Memory) → b ≡ a → AddsObjects a b
objects_is a b e = subst (AddsObjects a) (sym e) (objects_none a)

pub objects_then : (a b c : Memory) → AddsObjects a b → AddsObjects b c → AddsObjects a c
objects_then a b c g h = record {
  tables = begins_more a.tables.objects b.tables.objects c.tables.objects g.tables h.tables;
  funcs = begins_more a.funcs.objects b.funcs.objects c.funcs.objects g.funcs h.funcs;
  cells = begins_more a.cells.objects b.cells.objects c.cells.objects g.cells h.cells;
  coros = begins_more a.coros.objects b.coros.objects c.coros.objects g.coros h.coros;
  rest = h.rest ∙ ap (λ (W : Memory). record W { tables = c.tables; funcs = c.funcs; cells = c.cells; coros = c.coros }) g.rest;
}
