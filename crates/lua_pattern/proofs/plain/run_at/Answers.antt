use Rattle.std.proofs.Common.{ap, ◌∙◌, length, length-drop, arith}
use Rattle.lua_pattern.specs.Ways.{run_of}
use Rattle.lua_pattern.proofs.plain.run_at.Goals as goal

pub returns-clause-value : goal.returns-clause-value
returns-clause-value c = c.run_in.ensures.value ∙ ap (run_of c.args.class.now) c.split_at.ensures.back

pub returns-clause-within : goal.returns-clause-within
returns-clause-within c =
    omega (arith, c.requires, c.run_in.ensures.within, ap length c.split_at.ensures.back, length-drop c.args.at c.args.subject.now)
