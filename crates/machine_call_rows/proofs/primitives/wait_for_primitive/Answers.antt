use Rattle.std.proofs.Common.{ap}
use Rattle.lua_heap.specs.declared.world.World.{World as Memory}
use Rattle.machine_call_rows.proofs.Primitive.{calls_primitive_so}
use Rattle.machine_call_rows.proofs.Read.{can_prepare}
use Rattle.machine_call_rows.proofs.primitives.wait_for_primitive.Goals as goal

pub make_ready-requires : goal.make_ready-requires
make_ready-requires c = record { order = c.requires.sound.order; ready = can_prepare c.args.world.now c.args.at.keeps c.requires.sound c.requires.keeps }

pub returns-clause-calls : goal.returns-clause-calls
returns-clause-calls c = λ fuel number arguments m.
    calls_primitive_so c.args.world.now c.make_ready.new.world c.requires.keeps.place fuel c.args.at number arguments c.wait_of_call.result
    c.requires.keeps.is m c.wait_of_call.ensures c.make_ready.ensures.ready (ap (λ (W : Memory). W.strings) c.make_ready.ensures.rest)
