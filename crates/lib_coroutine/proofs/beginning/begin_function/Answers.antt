use Rattle.std.proofs.Common.{rules, ◌≡◌, [], ◌∷◌, refl, ap, ◌∙◌, subst}
use Rattle.std.specs.Prelude.{drop}
use Rattle.lua_stack.proofs.Called.{on_err}
use Rattle.lua_heap.specs.declared.world.World.{World as Memory}
use Rattle.lua_heap.specs.Reading.{value}
use Rattle.machine_core.specs.Moves.{new_frame}
use Rattle.table_core.specs.declared.value.Value.TheVariants.{Func}
use Rattle.lib_coroutine.specs.Resuming.{GoesInto}
use Rattle.lib_coroutine.proofs.Closes.{taken_is}
use Rattle.lib_coroutine.proofs.Resumes.{behind_is, enters_leads, order_on, room_goes, room_reads, room_runs, same_reads}
use Rattle.lib_coroutine.proofs.beginning.begin_function.Goals as goal

pub run_fresh-requires : goal.run_fresh-requires
run_fresh-requires c = record { running = room_runs c.args.world.now c.reserve.new.self (search rules) c.requires.running; fresh = record { body = Func c.args.function; there = c.requires.fresh }; room = search rules; closed = search rules }

pub returns-clause-leads : goal.returns-clause-leads
returns-clause-leads c =
    let h = c.requires.function in
    let W : Memory = c.args.world.now in
    let R : Memory = c.run_fresh.new.world in
    let f = value W.strings in
    let items : c.reserve.new.self.items ≡ W.chain.items = search rules in
    let behind : c.behind_first.result.now ≡ drop 1 W.moving.items = search rules in
    let g = room_goes W c.reserve.new.self items c.run_fresh.ensures.goes in
    enters_leads W R c.take_moving.new.world c.args.co c.requires.first c.requires.running c.requires.few c.args.function.0 (Func c.args.function) h.function refl c.requires.fresh h.is
    (subst (GoesInto W R c.args.co.0)
    (c.in_ok-stack.ensures.frames h.function h.is ∙ ap (λ vs. new_frame c.args.function.0 h.function.code vs ∷ []) (behind_is f W.moving.items c.behind_first.result.now behind)) g)
    (taken_is (c.take_moving.ensures.makes []))

pub returns-clause-order : goal.returns-clause-order
returns-clause-order c = order_on c.requires.sound.order c.run_fresh.ensures.rest (c.run_fresh.ensures.listed c.requires.sound.order.listed) c.take_moving.ensures.rest

pub returns-in_err-stack-clause-err : goal.returns-in_err-stack-clause-err
returns-in_err-stack-clause-err c = on_err _ c.from_residual.result (same_reads refl)

pub returns-in_err-reserve-clause-err : goal.returns-in_err-reserve-clause-err
returns-in_err-reserve-clause-err c = room_reads c.args.world.now c.reserve.new.self c.reserve.ensures.items c.from_residual-in_err-reserve.result
