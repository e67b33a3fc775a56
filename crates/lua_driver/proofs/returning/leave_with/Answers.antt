use Rattle.std.proofs.Common.{rules, ◌≡◌, [], refl}
use Rattle.std.proofs.lemmas.Result.{IfOk-weaker}
use Rattle.lua_heap.specs.declared.world.World.{World as Memory}
use Rattle.lua_driver.proofs.Few.{waits_where}
use Rattle.lua_driver.proofs.Handing.{ready_gone, solid_woken, awake_with, left_at_once, left_and_gone_on}
use Rattle.lua_driver.proofs.returning.leave_with.Goals as goal

pub find_here-here-requires : goal.find_here-here-requires
find_here-here-requires c = record {
  ready = ready_gone c.args.world.now c.drop_frame.new.world c.args.values.now c.requires.returns c.requires.ready c.requires.still c.see_top-top.result c.drop_frame.ensures.drops c.drop_frame.ensures.rest c.drop_frame.ensures.listed
      (c.see_top-top.ensures.makes []) c.in-Lua.is;
}

pub go_on_with-requires-clause-solid : goal.go_on_with-requires-clause-solid
go_on_with-requires-clause-solid c =
    solid_woken c.args.world.now c.drop_frame.new.world c.args.values.now c.requires.returns c.requires.ready c.requires.still c.see_top-top.result c.drop_frame.ensures.drops c.drop_frame.ensures.rest c.drop_frame.ensures.listed
    (c.see_top-top.ensures.makes []) c.in-Lua.is c.set_wait.new.world c.find_here-here.result c.wait_on_top-wait.result c.find_here-here.ensures (waits_where c.find_here-here.result.runs c.if-not-here.true) c.wait_on_top-wait.ensures c.set_wait.ensures.waits c.set_wait.ensures.stays.rest
    (c.set_wait.ensures.stays.listed c.drop_frame.ensures.listed)

pub go_on_with-requires-clause-awake : goal.go_on_with-requires-clause-awake
go_on_with-requires-clause-awake c =
    awake_with c.args.world.now c.drop_frame.new.world c.args.values.now c.requires.returns c.requires.ready c.requires.still c.see_top-top.result c.drop_frame.ensures.drops c.drop_frame.ensures.rest c.drop_frame.ensures.listed
    (c.see_top-top.ensures.makes []) c.in-Lua.is c.set_wait.new.world c.find_here-here.result c.wait_on_top-wait.result c.find_here-here.ensures (waits_where c.find_here-here.result.runs c.if-not-here.true) c.wait_on_top-wait.ensures c.set_wait.ensures.waits c.set_wait.ensures.stays.rest
    (c.set_wait.ensures.stays.listed c.drop_frame.ensures.listed)

pub returns-then-not-here-clause-goes : goal.returns-then-not-here-clause-goes
returns-then-not-here-clause-goes c =
    IfOk-weaker c.go_on_with.result _ _ (λ next g.
    left_and_gone_on c.args.world.now c.drop_frame.new.world c.args.values.now c.requires.returns c.requires.ready c.requires.still c.see_top-top.result c.drop_frame.ensures.drops c.drop_frame.ensures.rest c.drop_frame.ensures.listed
    (c.see_top-top.ensures.makes []) c.in-Lua.is c.set_wait.new.world c.find_here-here.result c.wait_on_top-wait.result c.find_here-here.ensures (waits_where c.find_here-here.result.runs c.if-not-here.true) c.wait_on_top-wait.ensures c.set_wait.ensures.waits c.set_wait.ensures.stays.rest
    (c.set_wait.ensures.stays.listed c.drop_frame.ensures.listed) c.go_on_with.new.world next g) c.go_on_with.ensures.goes

pub returns-clause-goes : goal.returns-clause-goes
returns-clause-goes c =
    let gone : Memory = c.drop_frame.new.world in
    let last : Memory = record gone { moving = c.in_ok-world.field-0 } in
    let items : c.in_ok-world.field-0.items ≡ c.args.values.now = search rules in
    left_at_once c.args.world.now gone c.args.values.now c.requires.returns c.requires.ready c.requires.still c.see_top-top.result c.drop_frame.ensures.drops c.drop_frame.ensures.rest c.drop_frame.ensures.listed
    (c.see_top-top.ensures.makes []) last c.handed.result refl items c.handed.ensures.ends c.handed.ensures.paid
