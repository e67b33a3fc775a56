use Rattle.std.proofs.Common.{◌∷◌, [], sym, subst}
use Rattle.image_records.specs.Views.{record_read}
use Rattle.lua_heap.specs.Codes.{functions}
use Rattle.table_core.specs.declared.value.CoroId.{CoroId}
use Rattle.image_made.specs.Stacks.{MakesCoroutine}
use Rattle.image_placed.specs.Placing.{PlacesCoroutines, part_read}
use Rattle.image_placed.proofs.ObjectsPlaced.{coroutine_placed}
use Rattle.image_placed.proofs.placing.place_coroutine.Goals as goal

pub returns-in_ok-add_coro-clause-placed : goal.returns-in_ok-add_coro-clause-placed
returns-in_ok-add_coro-clause-placed c =
    let own : CoroId = record { 0 = c.len.result } in
    let to = c.in_ok-made.at in
    subst (λ p. PlacesCoroutines c.args.maker.now (part_read (functions c.args.world.now.codes) p ∷ []) c.args.openings.now c.args.from to c.args.world.now c.add_coro.new.self) (sym c.in-Other.is)
    (coroutine_placed c.args.maker.now c.args.world.now c.add_coro.new.self (record_read c.in-Other.record) own c.args.openings.now c.args.from to c.in-Some.coro c.in_ok-add_coro.ensures.added
    (subst (MakesCoroutine c.args.maker.now c.args.world.now.strings own c.args.openings.now c.args.from to (record_read c.in-Other.record)) c.in-Some.is c.in_ok-made.ensures) c.len.ensures)
