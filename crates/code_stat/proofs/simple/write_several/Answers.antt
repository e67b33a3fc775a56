use Rattle.std.proofs.Common.{rules, ◌≡◌, length, sym, ◌∙◌}
use Rattle.std.proofs.lemmas.Result.{on_ok_weaker}
use Rattle.tree_core.specs.Tree as tree
use Rattle.tree_core.specs.Plain.{plain_exp, plain_exps}
use Rattle.code_stat.proofs.Assigning.{two_targets, two_values, second_by, single_follows, second_follows, double}
use Rattle.code_stat.proofs.simple.write_several.Goals as goal

pub returns-then-len-ne2 : goal.returns-then-len-ne2
returns-then-len-ne2 c =
    let ts = c.args.targets.now.items in let es = tree.exps (plain_exps c.args.values.now.items) in
    let size : c.len.result ≡ length ts = search rules in
    on_ok_weaker c.write_single.result
    (single_follows c.args.emitter.now c.write_single.new.emitter (tree.exps (plain_exps ts)) es c.args.register c.args.line (two_targets ts es (λ h. c.if-len-ne2.true (size ∙ h)))) c.write_single.ensures

pub returns-then-len-ne2-2 : goal.returns-then-len-ne2-2
returns-then-len-ne2-2 c =
    let es = c.args.values.now.items in let ts = tree.exps (plain_exps c.args.targets.now.items) in
    let size : c.len-2.result ≡ length es = search rules in
    on_ok_weaker c.write_single-then-len-ne2-2.result
    (single_follows c.args.emitter.now c.write_single-then-len-ne2-2.new.emitter ts (tree.exps (plain_exps es)) c.args.register c.args.line (two_values ts es (λ h. c.if-len-ne2-2.true (size ∙ h)))) c.write_single-then-len-ne2-2.ensures

pub returns-in-Some : goal.returns-in-Some
returns-in-Some c =
    let targets = double c.args.targets.now.items c.index-target.result.now c.index-last.result.now (search rules) (search rules) (search rules) in
    let values = double c.args.values.now.items c.index-first.result.now c.index-second.result.now (search rules) (search rules) (search rules) in
    on_ok_weaker c.write_second.result
    (second_follows c.args.emitter.now c.write_second.new.emitter (tree.exps (plain_exps c.args.targets.now.items)) (tree.exps (plain_exps c.args.values.now.items)) (plain_exp c.index-target.result.now) (plain_exp c.index-last.result.now) (plain_exp c.index-first.result.now) (plain_exp c.index-second.result.now) c.in-Some.local c.args.register c.args.line
    targets values (sym c.direct_local.ensures ∙ c.in-Some.is)) c.write_second.ensures

pub returns-in-None : goal.returns-in-None
returns-in-None c =
    let targets = double c.args.targets.now.items c.index-target.result.now c.index-last.result.now (search rules) (search rules) (search rules) in
    let values = double c.args.values.now.items c.index-first.result.now c.index-second.result.now (search rules) (search rules) (search rules) in
    on_ok_weaker c.write_single-in-None.result
    (single_follows c.args.emitter.now c.write_single-in-None.new.emitter (tree.exps (plain_exps c.args.targets.now.items)) (tree.exps (plain_exps c.args.values.now.items)) c.args.register c.args.line
    (second_by targets values (sym c.direct_local.ensures ∙ c.in-None.is))) c.write_single-in-None.ensures
