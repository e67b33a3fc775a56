use Rattle.std.proofs.Common.{rules, arith, ◌≡◌, ◌+◌, length}
use Rattle.tree_core.specs.Tree as tree
use Rattle.tree_core.specs.Plain.{plain_exps}
use Rattle.code_stat.proofs.Going.{stored}
use Rattle.code_stat.proofs.simple.write_stored.Goals as goal

pub returns : goal.returns
returns c =
    let size : c.len-count.result ≡ length c.args.targets.now.items = search rules in
    let value : c.in_ok-value.value ≡ c.args.register + c.len-count.result + c.len-count.result = omega (arith, c.in_ok-behind.ensures, c.in_ok-value.ensures) in
    stored c.args.emitter.now c.write_targets.new.emitter c.list.new.emitter c.write_stores.new.emitter c.args.targets.now.items (tree.exps (plain_exps c.args.values.now.items)) c.args.register c.in_ok-value.value c.len-count.result c.args.line size value
    c.in_ok-write_targets.ensures c.in_ok-list.ensures c.in_ok-write_stores.ensures
