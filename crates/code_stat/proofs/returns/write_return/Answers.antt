use Rattle.std.proofs.Common.{rules, ◌≡◌, true, false, length}
use Rattle.std.specs.Prelude.{slice_index_or}
use Rattle.std.proofs.lemmas.Result.{on_ok_weaker}
use Rattle.tree_core.specs.Tree as tree
use Rattle.tree_core.specs.Plain.{plain_exp, plain_exps}
use Rattle.code_stat.specs.Tails.{is_called}
use Rattle.code_constants.proofs.Rows.{single}
use Rattle.code_stat.proofs.Returning.{closing_follows, several_follow, tail_follows, other_follows}
use Rattle.code_stat.proofs.returns.write_return.Goals as goal

pub returns-then-closing : goal.returns-then-closing
returns-then-closing c =
    on_ok_weaker c.write_values_last.result
    (closing_follows c.args.emitter.now c.write_values_last.new.emitter c.args.closing (tree.exps (plain_exps c.args.values.now.items)) c.args.register c.args.line c.args.back c.if-closing.true) c.write_values_last.ensures

pub returns-then-len-ne1 : goal.returns-then-len-ne1
returns-then-len-ne1 c =
    let size : c.len.result ≡ length c.args.values.now.items = search rules in
    on_ok_weaker c.write_values_last-then-len-ne1.result
    (several_follow c.args.emitter.now c.write_values_last-then-len-ne1.new.emitter c.args.closing c.args.values.now.items c.len.result c.args.register c.args.line c.args.back size c.if-len-ne1.true) c.write_values_last-then-len-ne1.ensures

pub returns-then-is_called : goal.returns-then-is_called
returns-then-is_called c =
    let only = c.index-only.result.now in
    let size : length c.args.values.now.items ≡ 1 = search rules in
    let first : only ≡ slice_index_or c.args.values.now.items 0 only = search rules in
    let called : is_called (plain_exp only) ≡ true = search rules in
    on_ok_weaker c.write_tail.result
    (tail_follows c.args.emitter.now c.write_tail.new.emitter c.args.closing (tree.exps (plain_exps c.args.values.now.items)) (plain_exp only) c.args.register c.args.line c.args.back c.if-closing.false called
    (single c.args.values.now.items only size first)) c.write_tail.ensures

pub returns : goal.returns
returns c =
    let only = c.index-only.result.now in
    let size : length c.args.values.now.items ≡ 1 = search rules in
    let first : only ≡ slice_index_or c.args.values.now.items 0 only = search rules in
    let other : is_called (plain_exp only) ≡ false = search rules in
    on_ok_weaker c.write_values_last-2.result
    (other_follows c.args.emitter.now c.write_values_last-2.new.emitter c.args.closing (tree.exps (plain_exps c.args.values.now.items)) (plain_exp only) c.args.register c.args.line c.args.back other
    (single c.args.values.now.items only size first))
    c.write_values_last-2.ensures
