use Rattle.std.proofs.Common.{◌≡◌, Some, map, refl, ap, subst, ◌∙◌}
use Rattle.std.specs.Prelude.{slice_get, slice_set, IsSome}
use Rattle.lua_heap.specs.Cells.{open_cells_in}
use Rattle.lua_heap.specs.declared.world.Cell.{Cell}
use Rattle.lua_heap.specs.declared.world.Cell.TheVariants.{Closed, Open}
use Rattle.lua_heap.specs.declared.world.Coro.{Coro}
use Rattle.lua_heap.specs.declared.world.World.{World as Memory}
use Rattle.lua_heap.proofs.Listed.{closed_listed, closed_written, coroutine_listed, open_reads, open_there, open_written}
use Rattle.lua_heap.proofs.world.World.set_cell.Goals as goal

pub set_register_at-requires : goal.set_register_at-requires
set_register_at-requires c =
    open_there c.args.self.now c.args.id c.in-Open.coro c.in-Open.frame c.in-Open.register c.get_mut-in-Open.result.now c.requires.listed (c.get.ensures ∙ ap (λ (k : Cell). Some k) c.in-Open.is)
    c.get_mut-in-Open.ensures.value c.requires.there

pub returns-in-Closed-clause-written : goal.returns-in-Closed-clause-written
returns-in-Closed-clause-written c fuel =
    let W : Memory = c.args.self.now in
    let new : Memory = record W { cells = record W.cells { objects = slice_set W.cells.objects c.args.id.0 (Closed c.args.given) } } in
    closed_written W new fuel c.args.id.0 c.args.given c.in-Closed.field-0 (c.get.ensures ∙ ap (λ (k : Cell). Some k) c.in-Closed.is) refl refl

pub returns-in-Closed-clause-listed : goal.returns-in-Closed-clause-listed
returns-in-Closed-clause-listed c =
    let W : Memory = c.args.self.now in
    closed_listed W.cells.objects (map open_cells_in W.coros.objects) c.args.id.0 c.args.given c.in-Closed.field-0 (c.get.ensures ∙ ap (λ (k : Cell). Some k) c.in-Closed.is) c.requires.listed

pub returns-in-Open-clause-written : goal.returns-in-Open-clause-written
returns-in-Open-clause-written c fuel =
    let W : Memory = c.args.self.now in
    let old : Coro = c.get_mut-in-Open.result.now in
    let there : slice_get W.cells.objects c.args.id.0 ≡ Some (Open c.in-Open.coro c.in-Open.frame c.in-Open.register) = c.get.ensures ∙ ap (λ (k : Cell). Some k) c.in-Open.is in
    let read = open_reads W 0 c.args.id.0 c.in-Open.coro c.in-Open.frame c.in-Open.register old there c.get_mut-in-Open.ensures.value in
    let new : Memory = record W { coros = record W.coros { objects = slice_set W.coros.objects c.in-Open.coro.0 c.set_register_at.new.coro } } in
    open_written W new fuel c.args.id.0 c.in-Open.coro c.in-Open.frame c.in-Open.register old c.set_register_at.new.coro c.args.given there c.get_mut-in-Open.ensures.value refl refl
    (c.set_register_at.ensures.written W.strings (subst IsSome read c.requires.there))

pub returns-in-Open-clause-listed : goal.returns-in-Open-clause-listed
returns-in-Open-clause-listed c =
    let W : Memory = c.args.self.now in
    coroutine_listed W.cells.objects W.coros.objects c.in-Open.coro.0 c.get_mut-in-Open.result.now c.set_register_at.new.coro c.get_mut-in-Open.ensures.value c.set_register_at.ensures.cells c.requires.listed
