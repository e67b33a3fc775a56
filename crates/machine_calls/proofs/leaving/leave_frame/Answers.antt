use Rattle.std.proofs.Common.{[], ap}
use Rattle.std.specs.Prelude.{map}
use Rattle.lua_heap.specs.declared.world.World.{World as Memory}
use Rattle.lua_heap.specs.Plain.{plain}
use Rattle.lua_heap.specs.Reading.{value as meant}
use Rattle.machine_calls.proofs.Left.{left_is}
use Rattle.machine_calls.proofs.leaving.leave_frame.Goals as goal

pub returns-clause-makes : goal.returns-clause-makes
returns-clause-makes c = λ env what q.
    let W = c.args.world.now in
    let gone = c.drop_frame.new.world in
    let p = c.requires.frame.place in
    left_is W gone (record gone { moving = c.args.given }) p env what (map (meant W.strings) c.args.given.items) _ c.requires.frame.is c.drop_frame.ensures.drops
    (λ fuel. ap (λ texts. record (plain gone fuel) { moving = map (meant texts) c.args.given.items }) (ap (λ (W : Memory). W.strings) c.drop_frame.ensures.rest)) q (c.see_top.ensures.makes [])
