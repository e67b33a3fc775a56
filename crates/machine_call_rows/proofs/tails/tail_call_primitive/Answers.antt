use Rattle.std.proofs.Common.{ap}
use Rattle.lua_heap.specs.Codes.{no_code}
use Rattle.lua_heap.specs.declared.world.World.{World as Memory}
use Rattle.move_laws.proofs.Order.{order_after}
use Rattle.machine_call_rows.proofs.Read.{reads_called, tail_text}
use Rattle.machine_call_rows.proofs.TailPrimitive.{tail_calls_so}
use Rattle.machine_call_rows.proofs.tails.tail_call_primitive.Goals as goal

pub see-requires-clause-safe : goal.see-requires-clause-safe
see-requires-clause-safe c = record { rest = tail_text; safe = c.requires.safe no_code 0 }

pub drop_frame-requires-clause-frame : goal.drop_frame-requires-clause-frame
drop_frame-requires-clause-frame c =
    let d = reads_called c.args.function c.args.count tail_text (c.requires.safe no_code 0) in
    record { place = d.place; is = d.is }

pub drop_frame-requires-clause-listed : goal.drop_frame-requires-clause-listed
drop_frame-requires-clause-listed c = c.requires.sound.order.listed

pub returns-clause-calls : goal.returns-clause-calls
returns-clause-calls c =
    let d = reads_called c.args.function c.args.count tail_text (c.requires.safe no_code 0) in
    let told = c.see.new.self in
    tail_calls_so c.args.world.now c.drop_frame.new.world d.place c.args.budget.now c.args.function c.args.count told.number told.arguments d.is
    c.in_ok-see.ensures c.drop_frame.ensures.drops (ap (λ (W : Memory). W.strings) c.drop_frame.ensures.rest) c.drop_frame.ensures.running

pub returns-clause-order : goal.returns-clause-order
returns-clause-order c =
    order_after c.requires.sound.order (ap (λ (W : Memory). W.strings) c.drop_frame.ensures.rest) (ap (λ (W : Memory). W.codes) c.drop_frame.ensures.rest) c.drop_frame.ensures.listed
