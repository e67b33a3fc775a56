use Rattle.std.proofs.Common.{ap, ◌∙◌}
use Rattle.std.specs.Prelude.{map}
use Rattle.lua_heap.specs.declared.world.World.{World as Memory}
use Rattle.lua_heap.specs.Plain.{plain}
use Rattle.lua_heap.specs.Reading.{value as meant}
use Rattle.machine_returns.proofs.Woken.{moved, waits_again}
use Rattle.machine_returns.proofs.waking.doze.Goals as goal

pub returns-clause-back : goal.returns-clause-back
returns-clause-back c = λ before k.
    let mid = c.set_wait.new.world in
    let texts = ap (λ (W : Memory). W.strings) c.set_wait.ensures.stays.rest ∙ ap (λ (W : Memory). W.strings) k.rest in
    record {
      is = λ fuel.
          ap (λ W. moved W (map (meant mid.strings) c.args.values.items)) (waits_again before c.args.world.now mid c.args.wait c.args.values.items k c.set_wait.ensures.waits fuel)
          ∙ ap (λ texts. moved (plain before fuel) (map (meant texts) c.args.values.items)) texts
          ∙ ap (λ vs. moved (plain before fuel) (map (meant before.strings) vs)) k.came;
    }

pub returns-clause-listed : goal.returns-clause-listed
returns-clause-listed c = λ l. c.set_wait.ensures.stays.listed l

pub returns-clause-rest : goal.returns-clause-rest
returns-clause-rest c = ap (λ (W : Memory). record W { moving = c.args.values }) c.set_wait.ensures.stays.rest
