use Rattle.std.proofs.Common.{sym, ◌∙◌}
use Rattle.std.proofs.lemmas.Result.{on_ok_weaker}
use Rattle.tree_core.specs.Tree as tree
use Rattle.tree_core.specs.Plain.{plain_exps}
use Rattle.code_stat.proofs.Returning.{local_returned, list_returned}
use Rattle.code_stat.proofs.returns.write_values_last.Goals as goal

pub returns-in-Some : goal.returns-in-Some
returns-in-Some c =
    on_ok_weaker c.put_local.result
    (local_returned c.args.emitter.now c.put_local.new.emitter (tree.exps (plain_exps c.args.values.now.items)) c.in-Some.local c.args.register c.args.line c.args.back (sym c.lone_local.ensures ∙ c.in-Some.is)) c.put_local.ensures

pub returns-in-None : goal.returns-in-None
returns-in-None c =
    on_ok_weaker c.write_listed_last.result
    (list_returned c.args.emitter.now c.write_listed_last.new.emitter (tree.exps (plain_exps c.args.values.now.items)) c.args.register c.args.line c.args.back (sym c.lone_local.ensures ∙ c.in-None.is)) c.write_listed_last.ensures
