use Rattle.std.proofs.Common.{length, None, subst}
use Rattle.code_of.specs.Jumps.{leads}
use Rattle.code_stat.specs.Drafts.{Wrote, beyond}
use Rattle.code_stat.proofs.writer.Writer.leave_loop.Goals as goal

pub returns-clause-code : goal.returns-clause-code
returns-clause-code c level =
    subst (λ b. Wrote c.args.self.now c.jump.new.self 0 (λ reach. leads b (beyond None reach) (length c.args.self.now.emitter.steps) c.args.line)) c.closes-closes.ensures c.in_ok-jump.ensures.code
