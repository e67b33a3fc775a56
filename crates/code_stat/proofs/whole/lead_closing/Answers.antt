use Rattle.code_stat.proofs.Filling.{closing_led}
use Rattle.code_stat.proofs.whole.lead_closing.Goals as goal

pub returns : goal.returns
returns c = closing_led c.args.emitter.now c.set_abc.new.self c.set_jump.new.self c.args.to c.args.jump.now.place c.in_ok-behind.behind c.args.jump.now.line c.in_ok-behind.ensures c.set_abc.ensures c.in_ok-set_jump.ensures
