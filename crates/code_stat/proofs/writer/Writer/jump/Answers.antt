use Rattle.std.proofs.Common.{rules, ◌≡◌, length, refl}
use Rattle.code_stat.proofs.Jumping.{jump_wrote}
use Rattle.code_stat.proofs.writer.Writer.jump.Goals as goal

pub returns-clause-code : goal.returns-clause-code
returns-clause-code c =
    let place : c.len-place.result ≡ length c.args.self.now.emitter.steps = search rules in
    jump_wrote c.args.closes c.args.self.now (record c.args.self.now { emitter = c.put_jump.new.emitter; jumps = c.push.new.self }) c.args.label c.len-place.result c.args.line place c.in_ok-put_jump.ensures (search rules) refl
