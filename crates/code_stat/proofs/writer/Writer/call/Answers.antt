use Rattle.std.proofs.Common.{refl}
use Rattle.tree_core.specs.Plain.{plain_exp}
use Rattle.code_of.specs.Expressions.{exp_code, made_by}
use Rattle.code_stat.proofs.Drafting.{plainly}
use Rattle.code_stat.proofs.writer.Writer.call.Goals as goal

pub returns-clause-code : goal.returns-clause-code
returns-clause-code c line closing = plainly c.args.self.now (record c.args.self.now { emitter = c.write_call.new.emitter }) (made_by (plain_exp c.args.call.now)) (exp_code c.args.self.now.emitter.constants (plain_exp c.args.call.now) c.args.level c.args.self.now.emitter.made 1) c.in_ok-write_call.ensures refl refl
