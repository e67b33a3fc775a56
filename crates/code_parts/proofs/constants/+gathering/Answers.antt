use Rattle.std.proofs.Common.{◌≡◌, ap, sym, ◌∙◌}
use Rattle.std.proofs.lemmas.Result.{on_ok_weaker}
use Rattle.tree_core.specs.Tree as tree
use Rattle.tree_core.specs.Plain.{plain_exps, plain_stat, plain_stat_node, plain_block}
use Rattle.tree_core.proofs.Rows.{plain-local, plain-assign, plain-gen_for, with_result, without_result}
use Rattle.code_of.specs.ConstantOperands.{stored_constant}
use Rattle.code_of.specs.Constants.{with_any, of_exps, of_stat, of_block}
use Rattle.code_parts.proofs.constants.+gathering.Goals as goal

pub add_block-returns-in_ok-add_stats-in-Some : goal.add_block-returns-in_ok-add_stats-in-Some
add_block-returns-in_ok-add_stats-in-Some t c =
    let whole = sym (ap (λ b. of_block b c.args.constants.now) (with_result c.args.block.now c.in-Some.values c.in-Some.is)) in
    on_ok_weaker c.add_exps.result (λ h. h ∙ ap (of_exps (tree.exps (plain_exps c.in-Some.values.items))) c.in_ok-add_stats-in-Some.ensures ∙ whole) c.add_exps.ensures

pub add_block-returns-in-None : goal.add_block-returns-in-None
add_block-returns-in-None t c =
    on_ok_weaker c.add_stats-in-None.result (λ h. h ∙ sym (ap (λ b. of_block b c.args.constants.now) (without_result c.args.block.now c.in-None.is))) c.add_stats-in-None.ensures

pub add_stat-returns-in-Local : goal.add_stat-returns-in-Local
add_stat-returns-in-Local t c =
    let is : plain_stat c.args.stat.now ≡ tree.Local c.args.stat.now.line c.in-Local.field-0.items (tree.exps (plain_exps c.in-Local.values.items)) =
    ap (λ node. plain_stat_node node c.args.stat.now.line) c.in-Local.is ∙ plain-local c.args.stat.now.line c.in-Local.field-0 c.in-Local.values in
    on_ok_weaker c.add_exps.result (λ h. h ∙ sym (ap (λ s. of_stat s c.args.constants.now) is)) c.add_exps.ensures

pub add_stat-returns-in_ok-add_stored-in-Assign : goal.add_stat-returns-in_ok-add_stored-in-Assign
add_stat-returns-in_ok-add_stored-in-Assign t c =
    let ts = tree.exps (plain_exps c.in-Assign.targets.items) in
    let es = tree.exps (plain_exps c.in-Assign.values.items) in
    let is : plain_stat c.args.stat.now ≡ tree.Assign c.args.stat.now.line ts es =
    ap (λ node. plain_stat_node node c.args.stat.now.line) c.in-Assign.is ∙ plain-assign c.args.stat.now.line c.in-Assign.targets c.in-Assign.values in
    let stored : c.add_stored.new.self ≡ with_any (stored_constant ts es) (of_exps ts c.args.constants.now) =
    c.in_ok-add_stored-in-Assign.ensures ∙ ap (with_any (stored_constant ts es)) c.in_ok-add_exps-in-Assign.ensures in
    on_ok_weaker c.add_exps-in-Assign-2.result (λ h. h ∙ ap (of_exps es) stored ∙ sym (ap (λ s. of_stat s c.args.constants.now) is)) c.add_exps-in-Assign-2.ensures

pub add_stat-returns-in_ok-add_exps-in-GenFor : goal.add_stat-returns-in_ok-add_exps-in-GenFor
add_stat-returns-in_ok-add_exps-in-GenFor t c =
    let block = plain_block c.in-GenFor.block.value in
    let is : plain_stat c.args.stat.now ≡ tree.GenFor c.args.stat.now.line c.in-GenFor.field-0.items (tree.exps (plain_exps c.in-GenFor.values.items)) block =
    ap (λ node. plain_stat_node node c.args.stat.now.line) c.in-GenFor.is ∙ plain-gen_for c.args.stat.now.line c.in-GenFor.field-0 c.in-GenFor.values c.in-GenFor.block in
    let block_is = ap (λ b. of_block (plain_block b) c.add_exps-in-GenFor.new.self) c.deref-in-GenFor.ensures in
    on_ok_weaker c.add_block-in-GenFor.result (λ h. h ∙ block_is ∙ ap (of_block block) c.in_ok-add_exps-in-GenFor.ensures ∙ sym (ap (λ s. of_stat s c.args.constants.now) is)) c.add_block-in-GenFor.ensures
