use Rattle.std.proofs.Common.{rules, ◌≡◌, refl, ap, ◌∙◌, subst}
use Rattle.std.specs.Prelude.{drop, map}
use Rattle.lua_stack.specs.Frames.{frame_of}
use Rattle.lua_stack.proofs.Called.{on_err}
use Rattle.lua_heap.specs.declared.world.World.{World as Memory}
use Rattle.lua_heap.specs.Reading.{value}
use Rattle.lua_heap.specs.Plain.{plain}
use Rattle.table_core.specs.declared.value.Value.TheVariants.{Prim}
use Rattle.lib_coroutine.specs.Resuming.{GoesInto}
use Rattle.lib_coroutine.proofs.Resumes.{behind_is, calls_leads, order_on, room_goes, room_reads, room_runs, same_reads}
use Rattle.lib_coroutine.proofs.Rows.{with_moving}
use Rattle.lib_coroutine.proofs.beginning.begin_primitive.Goals as goal

pub run_fresh-requires : goal.run_fresh-requires
run_fresh-requires c = record { running = room_runs c.args.world.now c.reserve.new.self (search rules) c.requires.running; fresh = record { body = Prim c.args.primitive; there = c.requires.fresh }; room = search rules; closed = search rules }

pub returns-clause-leads : goal.returns-clause-leads
returns-clause-leads c =
    let W : Memory = c.args.world.now in
    let R : Memory = c.run_fresh.new.world in
    let new : Memory = record R { moving = c.in_ok-arguments.arguments } in
    let f = value W.strings in
    let items : c.reserve.new.self.items ≡ W.chain.items = search rules in
    let texts : R.strings ≡ W.strings = ap (λ (M : Memory). M.strings) c.run_fresh.ensures.rest in
    let behind : new.moving.items ≡ drop 1 W.moving.items = search rules in
    let g = room_goes W c.reserve.new.self items c.run_fresh.ensures.goes in
    calls_leads W R new c.args.co c.requires.first c.requires.running c.requires.few c.args.primitive (Prim c.args.primitive) refl c.requires.fresh
    (subst (GoesInto W R c.args.co.0) (ap (map (frame_of f)) c.new.ensures.frames) g)
    (λ fuel. ap (with_moving (plain R fuel)) (ap (λ texts. map (value texts) new.moving.items) texts ∙ behind_is f W.moving.items new.moving.items behind))

pub returns-clause-order : goal.returns-clause-order
returns-clause-order c = order_on c.requires.sound.order c.run_fresh.ensures.rest (c.run_fresh.ensures.listed c.requires.sound.order.listed) refl

pub returns-in_err-arguments-clause-err : goal.returns-in_err-arguments-clause-err
returns-in_err-arguments-clause-err c = on_err _ c.from_residual.result (same_reads refl)

pub returns-in_err-reserve-clause-err : goal.returns-in_err-reserve-clause-err
returns-in_err-reserve-clause-err c = room_reads c.args.world.now c.reserve.new.self c.reserve.ensures.items c.from_residual-in_err-reserve.result
