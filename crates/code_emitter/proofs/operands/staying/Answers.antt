use Rattle.std.proofs.Common.{sym, ◌∙◌}
use Rattle.tree_core.specs.Plain.{plain_exp}
use Rattle.code_of.specs.Operands.{second_of}
use Rattle.code_emitter.proofs.Seats.{number_stays, local_stays}
use Rattle.code_emitter.proofs.operands.staying.Goals as goal

pub returns-in-Some : goal.returns-in-Some
returns-in-Some c = sym (number_stays (second_of c.args.op (plain_exp c.args.exp.now)) c.in-Some.number (sym c.numeral.ensures ∙ c.in-Some.is))

pub returns-in-Some-local : goal.returns-in-Some-local
returns-in-Some-local c = sym (local_stays (second_of c.args.op (plain_exp c.args.exp.now)) c.in-Some-local.register (sym c.local.ensures ∙ c.in-Some-local.is))
