use Rattle.std.proofs.Common.{◌≡◌, ◌++◌, map, ap, sym, ◌∙◌}
use Rattle.std.proofs.lemmas.Result.{on_ok_weaker}
use Rattle.std.specs.Option.{option_map}
use Rattle.tree_core.specs.declared.tree.Block.{out-Block}
use Rattle.tree_core.specs.Tree as tree
use Rattle.tree_core.specs.Plain.{plain_arm, plain_block, plain_body, plain_exps, plain_stat, plain_stat_node, if_of}
use Rattle.tree_core.proofs.Rows.{plain-local, plain-assign, plain-if, plain-gen_for, with_result, without_result}
use Rattle.code_parts.specs.Bodies.{arms_bodies, block_bodies, exps_bodies, stat_bodies, stats_bodies}
use Rattle.code_parts.proofs.Joining.{joined}
use Rattle.code_parts.proofs.bodies.+statements.Goals as goal

pub find_in_block-returns-in_ok-find_in_stats-in-Some : goal.find_in_block-returns-in_ok-find_in_stats-in-Some
find_in_block-returns-in_ok-find_in_stats-in-Some t c =
    let before = map (λ b. plain_body b.now) c.args.found.now.items in
    let ss = tree.stats (map plain_stat (out-Block c.args.block.now).stats.items) in
    let whole = ap (λ b. before ++ block_bodies b) (sym (with_result c.args.block.now c.in-Some.values c.in-Some.is)) in
    on_ok_weaker c.find_in_exps.result (λ h. joined before (stats_bodies ss) (exps_bodies (tree.exps (plain_exps c.in-Some.values.items))) c.in_ok-find_in_stats-in-Some.ensures h ∙ whole) c.find_in_exps.ensures

pub find_in_block-returns-in-None : goal.find_in_block-returns-in-None
find_in_block-returns-in-None t c =
    let before = map (λ b. plain_body b.now) c.args.found.now.items in
    on_ok_weaker c.find_in_stats-in-None.result (λ h. h ∙ ap (λ b. before ++ block_bodies b) (sym (without_result c.args.block.now c.in-None.is))) c.find_in_stats-in-None.ensures

pub find_in_stat-returns-in-Local : goal.find_in_stat-returns-in-Local
find_in_stat-returns-in-Local t c =
    let before = map (λ b. plain_body b.now) c.args.found.now.items in
    let is : plain_stat c.args.stat.now ≡ tree.Local c.args.stat.now.line c.in-Local.field-0.items (tree.exps (plain_exps c.in-Local.values.items)) =
    ap (λ node. plain_stat_node node c.args.stat.now.line) c.in-Local.is ∙ plain-local c.args.stat.now.line c.in-Local.field-0 c.in-Local.values in
    on_ok_weaker c.find_in_exps.result (λ h. h ∙ ap (λ s. before ++ stat_bodies s) (sym is)) c.find_in_exps.ensures

pub find_in_stat-returns-in_ok-find_in_exps-in-Assign : goal.find_in_stat-returns-in_ok-find_in_exps-in-Assign
find_in_stat-returns-in_ok-find_in_exps-in-Assign t c =
    let before = map (λ b. plain_body b.now) c.args.found.now.items in
    let targets = tree.exps (plain_exps c.in-Assign.targets.items) in
    let es = tree.exps (plain_exps c.in-Assign.values.items) in
    let is : plain_stat c.args.stat.now ≡ tree.Assign c.args.stat.now.line targets es =
    ap (λ node. plain_stat_node node c.args.stat.now.line) c.in-Assign.is ∙ plain-assign c.args.stat.now.line c.in-Assign.targets c.in-Assign.values in
    on_ok_weaker c.find_in_exps-in-Assign-2.result (λ h. joined before (exps_bodies targets) (exps_bodies es) c.in_ok-find_in_exps-in-Assign.ensures h ∙ ap (λ s. before ++ stat_bodies s) (sym is)) c.find_in_exps-in-Assign-2.ensures

pub find_in_stat-returns-in-Some : goal.find_in_stat-returns-in-Some
find_in_stat-returns-in-Some t c =
    let before = map (λ b. plain_body b.now) c.args.found.now.items in
    let arms = map plain_arm c.in-If.list.items in
    let block = plain_block c.in-Some.block.value in
    let is : plain_stat c.args.stat.now ≡ tree.IfElse c.args.stat.now.line (tree.arms arms) block =
    ap (λ node. plain_stat_node node c.args.stat.now.line) c.in-If.is ∙ plain-if c.args.stat.now.line c.in-If.list c.in-If.otherwise
    ∙ ap (λ o. if_of c.args.stat.now.line arms (option_map (λ x. plain_block x.value) o)) c.in-Some.is in
    let block_is = ap (λ b. map (λ b. plain_body b.now) c.find_in_arms.new.found.items ++ block_bodies (plain_block b)) c.deref-in-Some.ensures in
    on_ok_weaker c.find_in_block-in-Some.result (λ h. joined before (arms_bodies (tree.arms arms)) (block_bodies block) c.in_ok-find_in_arms-in-If.ensures (h ∙ block_is) ∙ ap (λ s. before ++ stat_bodies s) (sym is)) c.find_in_block-in-Some.ensures

pub find_in_stat-returns-in_ok-find_in_exps-in-GenFor : goal.find_in_stat-returns-in_ok-find_in_exps-in-GenFor
find_in_stat-returns-in_ok-find_in_exps-in-GenFor t c =
    let before = map (λ b. plain_body b.now) c.args.found.now.items in
    let es = tree.exps (plain_exps c.in-GenFor.values.items) in
    let block = plain_block c.in-GenFor.block.value in
    let is : plain_stat c.args.stat.now ≡ tree.GenFor c.args.stat.now.line c.in-GenFor.field-0.items es block =
    ap (λ node. plain_stat_node node c.args.stat.now.line) c.in-GenFor.is ∙ plain-gen_for c.args.stat.now.line c.in-GenFor.field-0 c.in-GenFor.values c.in-GenFor.block in
    let block_is = ap (λ b. map (λ b. plain_body b.now) c.find_in_exps-in-GenFor.new.found.items ++ block_bodies (plain_block b)) c.deref-in-GenFor.ensures in
    on_ok_weaker c.find_in_block-in-GenFor.result (λ h. joined before (exps_bodies es) (block_bodies block) c.in_ok-find_in_exps-in-GenFor.ensures (h ∙ block_is) ∙ ap (λ s. before ++ stat_bodies s) (sym is)) c.find_in_block-in-GenFor.ensures
