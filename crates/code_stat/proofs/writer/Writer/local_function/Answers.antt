use Rattle.std.proofs.Common.{◌+◌, ◌∷◌, ◌++◌, [], ◌∙◌, ap, Some, refl}
use Rattle.tree_core.specs.Plain.{plain_body}
use Rattle.code_of.specs.Parts.{function_code}
use Rattle.code_parts.specs.Scopes.{begun}
use Rattle.code_stat.proofs.Drafting.{plainly}
use Rattle.code_stat.proofs.writer.Writer.local_function.Goals as goal

pub returns-clause-code : goal.returns-clause-code
returns-clause-code c line closing =
    plainly c.args.self.now (record c.args.self.now { emitter = c.write_local_function.new.emitter; variables = c.declare.new.self }) 1 (function_code (plain_body c.args.body.now) c.args.level c.args.self.now.emitter.made)
    c.in_ok-write_local_function.ensures refl refl

pub returns-clause-variables : goal.returns-clause-variables
returns-clause-variables c line closing =
    c.in_ok-declare.ensures ∙ ap (λ n. c.args.self.now.variables ++ begun (Some c.args.name.now.text) n ∷ []) (c.in_ok-start.ensures ∙ ap (λ n. n + 1) c.place.ensures)
