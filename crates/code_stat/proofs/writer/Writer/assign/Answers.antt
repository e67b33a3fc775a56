use Rattle.std.proofs.Common.{◌+◌, refl}
use Rattle.tree_core.specs.Tree.{exps}
use Rattle.tree_core.specs.Plain.{plain_exps}
use Rattle.code_of.specs.Expressions.{made_in}
use Rattle.code_of.specs.Parts.{assign_code}
use Rattle.code_stat.proofs.Drafting.{plainly}
use Rattle.code_stat.proofs.writer.Writer.assign.Goals as goal

pub returns-clause-code : goal.returns-clause-code
returns-clause-code c closing = plainly c.args.self.now (record c.args.self.now { emitter = c.write_assign.new.emitter }) (made_in (exps (plain_exps c.args.targets.now.items)) + made_in (exps (plain_exps c.args.values.now.items))) (assign_code c.args.self.now.emitter.constants (exps (plain_exps c.args.targets.now.items)) (exps (plain_exps c.args.values.now.items)) c.args.level c.args.self.now.emitter.made c.args.line) c.in_ok-write_assign.ensures refl refl
