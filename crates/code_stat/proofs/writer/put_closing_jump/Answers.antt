use Rattle.std.proofs.Common.{[], ◌∷◌}
use Rattle.code_core.specs.declared.opcode.Opcode.TheVariants.{Close}
use Rattle.code_of.specs.Coded.{with_abc, jump_over}
use Rattle.code_stat.proofs.Going.{two_listed}
use Rattle.code_stat.proofs.writer.put_closing_jump.Goals as goal

pub returns : goal.returns
returns c = two_listed c.args.emitter.now c.put_abc.new.self c.put_jump_over.new.self (with_abc Close 0 0 0 c.args.line) (jump_over 0 c.args.line) c.in_ok-put_abc.ensures c.in_ok-put_jump_over.ensures
