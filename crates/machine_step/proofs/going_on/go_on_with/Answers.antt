use Rattle.std.proofs.Common.{ap, subst, sym}
use Rattle.std.proofs.lemmas.Result.{IfOk-weaker, on_err_weaker}
use Rattle.lua_heap.specs.declared.world.World.{World as Memory}
use Rattle.machine_moves.specs.Ending.{ending_of}
use Rattle.machine_step.specs.Places.{GoesOnSo, IsAwake, takes_value}
use Rattle.machine_step.proofs.Awake.{may_go_on, others_called, results_there, room, stands, went_on}
use Rattle.machine_step.proofs.going_on.go_on_with.Goals as goal

pub take_after-requires-clause-takes : goal.take_after-requires-clause-takes
take_after-requires-clause-takes c = ap takes_value c.in-ForValue.is

pub take_after-requires-in-ForTruth-clause-takes : goal.take_after-requires-in-ForTruth-clause-takes
take_after-requires-in-ForTruth-clause-takes c = ap takes_value c.in-ForTruth.is

pub take_after-requires-in-Dropped-clause-takes : goal.take_after-requires-in-Dropped-clause-takes
take_after-requires-in-Dropped-clause-takes c = ap takes_value c.in-Dropped.is

pub join_with-requires : goal.join_with-requires
join_with-requires c = record { awake = subst (λ w. IsAwake c.args.world.now c.args.pc c.args.word w c.args.came.now) c.in-ForConcat.is c.requires.awake }

pub returns-in-ForConcat-clause-goes : goal.returns-in-ForConcat-clause-goes
returns-in-ForConcat-clause-goes c = IfOk-weaker c.join_with.result _ _ (λ next l. subst (λ w. GoesOnSo c.args.world.now c.join_with.new.world c.args.word w c.args.came.now (ending_of next)) (sym c.in-ForConcat.is) l) c.join_with.ensures.goes

pub go_on_called-requires : goal.go_on_called-requires
go_on_called-requires c =
    let o = c.in_default in
    record {
      solid = c.requires.solid;
      at = stands c.requires.awake;
      room = room c.requires.awake;
      called = others_called c.args.wait o.not-Running o.not-ForValue o.not-ForTruth o.not-Dropped o.not-ForConcat;
      there = results_there c.requires.awake;
      safe = may_go_on c.requires.awake;
    }

pub returns-in_default : goal.returns-in_default
returns-in_default c =
    record {
      goes = IfOk-weaker c.go_on_called.result _ _ (λ next g. went_on g) c.go_on_called.ensures.leads;
      order = c.go_on_called.ensures.order;
      err = on_err_weaker c.go_on_called.result (ap (λ (W : Memory). W.printed.items)) c.go_on_called.ensures.err;
    }
