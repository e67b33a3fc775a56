use Rattle.std.proofs.Common.{[], ap, subst, sym, ◌∙◌}
use Rattle.lua_heap.specs.declared.world.World.{World as Memory}
use Rattle.lua_heap.specs.Plain.{plain}
use Rattle.machine_sound.specs.Sound.{Solid}
use Rattle.move_laws.proofs.Order.{order_after}
use Rattle.machine_returns.proofs.Woken.{taken_world, taken_listed, still_stands, still_framed, wakes_so, woken_solid}
use Rattle.machine_returns.proofs.waking.wake.Goals as goal

pub set_wait-requires : goal.set_wait-requires
set_wait-requires c = still_framed (c.take_moving-values.ensures.makes []) c.requires

pub returns-clause-wakes : goal.returns-clause-wakes
returns-clause-wakes c =
    let p = c.requires.place in
    let taken = c.take_moving-values.new.world in
    record {
      place = p;
      is = c.requires.is;
      waited = c.wait_on_top-wait.ensures.is p c.requires.is;
      came = c.take_moving-values.ensures.values;
      woken_is = wakes_so c.args.world.now taken c.set_wait.new.world c.wait_on_top-wait.result c.take_moving-values.result.items p c.requires.is (taken_world (c.take_moving-values.ensures.makes [])) c.set_wait.ensures.waits;
      rest = c.set_wait.ensures.stays.rest ∙ ap (λ (W : Memory). record W { coros = c.set_wait.new.world.coros }) c.take_moving-values.ensures.rest
          ∙ ap (λ moving. record c.args.world.now { coros = c.set_wait.new.world.coros; moving = moving }) (sym (ap (λ (W : Memory). W.moving) c.set_wait.ensures.stays.rest));
    }

pub returns-clause-solid : goal.returns-clause-solid
returns-clause-solid c = λ s.
    let p = c.requires.place in
    let taken = c.take_moving-values.new.world in
    let is = wakes_so c.args.world.now taken c.set_wait.new.world c.wait_on_top-wait.result c.take_moving-values.result.items p c.requires.is (taken_world (c.take_moving-values.ensures.makes [])) c.set_wait.ensures.waits 0 in
    let strings = ap (λ (W : Memory). W.strings) c.set_wait.ensures.stays.rest ∙ ap (λ (W : Memory). W.strings) c.take_moving-values.ensures.rest in
    let codes = ap (λ (W : Memory). W.codes) c.set_wait.ensures.stays.rest ∙ ap (λ (W : Memory). W.codes) c.take_moving-values.ensures.rest in
    record {
      primitives = s.primitives;
      solid = subst (Solid s.primitives) (sym is) (woken_solid s.primitives (plain c.args.world.now 0) p s.sound c.requires.is);
      order = order_after s.order strings codes (c.set_wait.ensures.stays.listed (taken_listed c.args.world.now c.take_moving-values.new.world c.take_moving-values.ensures.rest s.order.listed));
    }

pub returns-clause-at : goal.returns-clause-at
returns-clause-at c = λ pc s. c.set_wait.ensures.stays.at pc (still_stands (c.take_moving-values.ensures.makes []) s)

pub returns-clause-listed : goal.returns-clause-listed
returns-clause-listed c = λ l. c.set_wait.ensures.stays.listed (taken_listed c.args.world.now c.take_moving-values.new.world c.take_moving-values.ensures.rest l)
