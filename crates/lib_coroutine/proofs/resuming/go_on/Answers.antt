use Rattle.std.proofs.Common.{rules, ◌≡◌, refl, ap, ◌∙◌}
use Rattle.std.specs.Prelude.{drop, map}
use Rattle.lua_heap.specs.declared.world.World.{World as Memory}
use Rattle.lua_heap.specs.Reading.{value}
use Rattle.lua_heap.specs.Plain.{plain}
use Rattle.machine_coroutines.proofs.Handed.{running_on}
use Rattle.lib_coroutine.proofs.Resumes.{behind_is, goes_on_leads, order_on, room_goes, room_reads, room_runs}
use Rattle.lib_coroutine.proofs.Rows.{with_moving}
use Rattle.lib_coroutine.proofs.resuming.go_on.Goals as goal

pub run_suspended-requires-clause-running : goal.run_suspended-requires-clause-running
run_suspended-requires-clause-running c = room_runs c.args.world.now c.reserve.new.self (search rules) c.requires.running

pub run_suspended-requires-clause-suspended : goal.run_suspended-requires-clause-suspended
run_suspended-requires-clause-suspended c = record { stack = c.requires.suspended.stack; there = c.requires.suspended.there }

pub hand_over-requires : goal.hand_over-requires
hand_over-requires c = running_on refl c.run_suspended.ensures.running

pub returns-clause-leads : goal.returns-clause-leads
returns-clause-leads c =
    let W : Memory = c.args.world.now in
    let R : Memory = c.run_suspended.new.world in
    let new : Memory = record R { moving = c.drop_first.new.values } in
    let items : c.reserve.new.self.items ≡ W.chain.items = search rules in
    let texts : R.strings ≡ W.strings = ap (λ (M : Memory). M.strings) c.run_suspended.ensures.rest in
    let behind : new.moving.items ≡ drop 1 W.moving.items = c.drop_first.ensures ∙ ap (λ (M : Memory). drop 1 M.moving.items) c.run_suspended.ensures.rest in
    let s = c.requires.suspended in
    goes_on_leads W R new c.args.co c.requires.first c.requires.running c.requires.few s.stack s.there (room_goes W c.reserve.new.self items (c.run_suspended.ensures.goes s.stack s.there))
    (λ fuel. ap (with_moving (plain R fuel)) (ap (λ texts. map (value texts) new.moving.items) texts ∙ behind_is (value W.strings) W.moving.items new.moving.items behind)) c.hand_over.ensures

pub returns-clause-order : goal.returns-clause-order
returns-clause-order c =
    let W : Memory = c.args.world.now in
    let R : Memory = c.run_suspended.new.world in
    order_on c.requires.sound.order c.run_suspended.ensures.rest (c.run_suspended.ensures.listed c.requires.sound.order.listed) refl

pub returns-in_err-reserve-clause-err : goal.returns-in_err-reserve-clause-err
returns-in_err-reserve-clause-err c = room_reads c.args.world.now c.reserve.new.self c.reserve.ensures.items c.from_residual.result
