use Rattle.machine_sound.proofs.LuaSteps.{settles, running_text_good, waiting_text_good}
use Rattle.machine_sound.proofs.law.texts_do_not_trap.Goals as goal

pub returns-clause-running : goal.returns-clause-running
returns-clause-running c = λ n W p s e w. running_text_good n W p s.solid (settles n W p s e) e w

pub returns-clause-waiting : goal.returns-clause-waiting
returns-clause-waiting c = λ n W p s e w. waiting_text_good n W p s.solid (settles n W p s e) e w
