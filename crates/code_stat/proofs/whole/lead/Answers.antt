use Rattle.std.proofs.Common.{true, false}
use Rattle.std.proofs.lemmas.Result.{on_ok_weaker}
use Rattle.code_stat.proofs.Filling.{lead_is}
use Rattle.code_stat.proofs.whole.lead.Goals as goal

pub returns-then-jump : goal.returns-then-jump
returns-then-jump c =
    on_ok_weaker c.lead_closing.result (lead_is c.args.emitter.now c.lead_closing.new.emitter c.args.jump.now c.destination-to.result true c.destination-to.ensures c.if-jump.true) c.lead_closing.ensures

pub returns : goal.returns
returns c =
    on_ok_weaker c.set_jump.result (lead_is c.args.emitter.now c.set_jump.new.self c.args.jump.now c.destination-to.result false c.destination-to.ensures c.if-jump.false) c.set_jump.ensures
