use Rattle.std.proofs.Common.{true, false, sym, ◌∙◌}
use Rattle.std.proofs.lemmas.Result.{on_ok_weaker}
use Rattle.code_stat.proofs.LocalFunctions.{local_follows}
use Rattle.code_stat.proofs.simple.write_local_function.Goals as goal

pub returns-then-captures_local : goal.returns-then-captures_local
returns-then-captures_local c =
    on_ok_weaker c.write_recursive.result
    (local_follows c.args.emitter.now c.write_recursive.new.emitter c.args.body.now c.args.register true (sym c.captures_local.ensures ∙ c.if-captures_local.true)) c.write_recursive.ensures

pub returns : goal.returns
returns c =
    on_ok_weaker c.put_closure.result
    (local_follows c.args.emitter.now c.put_closure.new.self c.args.body.now c.args.register false (sym c.captures_local.ensures ∙ c.if-captures_local.false)) c.put_closure.ensures
