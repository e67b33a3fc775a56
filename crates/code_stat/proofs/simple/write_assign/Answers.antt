use Rattle.std.proofs.Common.{rules, ◌≡◌, length, sym, ◌∙◌}
use Rattle.std.proofs.lemmas.Result.{on_ok_weaker}
use Rattle.tree_core.specs.Tree as tree
use Rattle.tree_core.specs.Plain.{plain_exp, plain_exps}
use Rattle.code_constants.proofs.Rows.{single}
use Rattle.code_stat.proofs.Assigning.{not_one_target, not_one_value, assigned_one, none_by, direct_follows, stored_follows}
use Rattle.code_stat.proofs.simple.write_assign.Goals as goal

pub returns-then-len-ne1 : goal.returns-then-len-ne1
returns-then-len-ne1 c =
    let ts = c.args.targets.now.items in let es = tree.exps (plain_exps c.args.values.now.items) in
    let size : c.len.result ≡ length ts = search rules in
    on_ok_weaker c.write_several.result
    (stored_follows c.args.emitter.now c.write_several.new.emitter (tree.exps (plain_exps ts)) es c.args.register c.args.line (not_one_target assigned_one ts es (λ h. c.if-len-ne1.true (size ∙ h)))) c.write_several.ensures

pub returns-then-len-ne1-2 : goal.returns-then-len-ne1-2
returns-then-len-ne1-2 c =
    let es = c.args.values.now.items in let ts = tree.exps (plain_exps c.args.targets.now.items) in
    let size : c.len-2.result ≡ length es = search rules in
    on_ok_weaker c.write_several-then-len-ne1-2.result
    (stored_follows c.args.emitter.now c.write_several-then-len-ne1-2.new.emitter ts (tree.exps (plain_exps es)) c.args.register c.args.line (not_one_value assigned_one ts es (λ h. c.if-len-ne1-2.true (size ∙ h)))) c.write_several-then-len-ne1-2.ensures

pub returns-in-Some : goal.returns-in-Some
returns-in-Some c =
    on_ok_weaker c.direct.result
    (direct_follows c.args.emitter.now c.direct.new.emitter (tree.exps (plain_exps c.args.targets.now.items)) (tree.exps (plain_exps c.args.values.now.items)) (plain_exp c.index-target.result.now) (plain_exp c.index-value.result.now) c.in-Some.local c.args.register c.args.line
    (single c.args.targets.now.items c.index-target.result.now (search rules) (search rules)) (single c.args.values.now.items c.index-value.result.now (search rules) (search rules)) (sym c.direct_local.ensures ∙ c.in-Some.is)) c.direct.ensures

pub returns-in-None : goal.returns-in-None
returns-in-None c =
    on_ok_weaker c.write_several-in-None.result
    (stored_follows c.args.emitter.now c.write_several-in-None.new.emitter (tree.exps (plain_exps c.args.targets.now.items)) (tree.exps (plain_exps c.args.values.now.items)) c.args.register c.args.line
    (none_by (single c.args.targets.now.items c.index-target.result.now (search rules) (search rules)) (single c.args.values.now.items c.index-value.result.now (search rules) (search rules)) (sym c.direct_local.ensures ∙ c.in-None.is))) c.write_several-in-None.ensures
