use Rattle.std.proofs.Common.{length, ◌≡◌, Some, rules, subst}
use Rattle.code_of.specs.Jumps.{leads, label_in}
use Rattle.code_stat.specs.Drafts.{Wrote}
use Rattle.code_stat.proofs.writer.Writer.goto.Goals as goal

pub returns-clause-code : goal.returns-clause-code
returns-clause-code c level =
    let wrote : Wrote c.args.self.now c.jump.new.self 0 (λ reach. leads c.closes-closes.result (label_in c.args.name.now.text reach.labels) (length c.args.self.now.emitter.steps) c.args.line) = search rules in
    subst (λ b. Wrote c.args.self.now c.jump.new.self 0 (λ reach. leads b (label_in c.args.name.now.text reach.labels) (length c.args.self.now.emitter.steps) c.args.line)) c.closes-closes.ensures wrote
