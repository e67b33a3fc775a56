use Rattle.tree_core.specs.Plain.{plain_exp}
use Rattle.code_stat.proofs.Assigning.{two_written}
use Rattle.code_stat.proofs.simple.write_second.Goals as goal

pub returns : goal.returns
returns c =
    two_written c.args.emitter.now c.write_target.new.emitter c.expression.new.emitter c.direct.new.emitter c.write_store.new.emitter (plain_exp c.args.target.now) (plain_exp c.args.first.now) (plain_exp c.args.second.now) c.args.local c.args.register c.in_ok-value.value c.in_ok-free.free
    c.in_ok-value.ensures c.in_ok-free.ensures c.in_ok-write_target.ensures c.in_ok-expression.ensures c.in_ok-direct.ensures c.in_ok-write_store.ensures
