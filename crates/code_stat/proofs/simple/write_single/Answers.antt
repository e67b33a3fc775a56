use Rattle.std.proofs.Common.{rules, ◌≡◌, length, sym, ◌∙◌}
use Rattle.std.proofs.lemmas.Result.{on_ok_weaker}
use Rattle.tree_core.specs.Tree as tree
use Rattle.tree_core.specs.Plain.{plain_exp, plain_exps}
use Rattle.code_constants.proofs.Rows.{single}
use Rattle.code_stat.proofs.Assigning.{not_one_target, not_one_value, field_one, store_one, no_store_by, kept_by, kept_follows, local_follows, field_follows}
use Rattle.code_stat.proofs.simple.write_single.Goals as goal

pub returns-then-len-ne1 : goal.returns-then-len-ne1
returns-then-len-ne1 c =
    let ts = c.args.targets.now.items in let es = tree.exps (plain_exps c.args.values.now.items) in
    let size : c.len.result ≡ length ts = search rules in
    on_ok_weaker c.write_stored.result
    (kept_follows c.args.emitter.now c.write_stored.new.emitter (tree.exps (plain_exps ts)) es c.args.register c.args.line (not_one_target field_one ts es (λ h. c.if-len-ne1.true (size ∙ h))) (not_one_target (store_one c.args.emitter.now.constants) ts es (λ h. c.if-len-ne1.true (size ∙ h)))) c.write_stored.ensures

pub returns-then-len-ne1-2 : goal.returns-then-len-ne1-2
returns-then-len-ne1-2 c =
    let es = c.args.values.now.items in let ts = tree.exps (plain_exps c.args.targets.now.items) in
    let size : c.len-2.result ≡ length es = search rules in
    on_ok_weaker c.write_stored-then-len-ne1-2.result
    (kept_follows c.args.emitter.now c.write_stored-then-len-ne1-2.new.emitter ts (tree.exps (plain_exps es)) c.args.register c.args.line (not_one_value field_one ts es (λ h. c.if-len-ne1-2.true (size ∙ h))) (not_one_value (store_one c.args.emitter.now.constants) ts es (λ h. c.if-len-ne1-2.true (size ∙ h)))) c.write_stored-then-len-ne1-2.ensures

pub returns-then-is_field : goal.returns-then-is_field
returns-then-is_field c =
    on_ok_weaker c.store.result
    (field_follows c.args.emitter.now c.store.new.emitter (tree.exps (plain_exps c.args.targets.now.items)) (tree.exps (plain_exps c.args.values.now.items)) (plain_exp c.index-target.result.now) (plain_exp c.index-value.result.now) c.args.register c.args.line
    (single c.args.targets.now.items c.index-target.result.now (search rules) (search rules)) (single c.args.values.now.items c.index-value.result.now (search rules) (search rules)) (sym c.is_field.ensures ∙ c.if-is_field.true)) c.store.ensures

pub returns-in-Some : goal.returns-in-Some
returns-in-Some c =
    on_ok_weaker c.put_step.result
    (local_follows c.args.emitter.now c.put_step.new.self (tree.exps (plain_exps c.args.targets.now.items)) (tree.exps (plain_exps c.args.values.now.items)) (plain_exp c.index-target.result.now) (plain_exp c.index-value.result.now) c.in-Some.step c.args.register c.args.line
    (single c.args.targets.now.items c.index-target.result.now (search rules) (search rules)) (single c.args.values.now.items c.index-value.result.now (search rules) (search rules)) (sym c.is_field.ensures ∙ c.if-is_field.false) (sym c.local_store.ensures ∙ c.in-Some.is)) c.put_step.ensures

pub returns-in-None : goal.returns-in-None
returns-in-None c =
    let targets = single c.args.targets.now.items c.index-target.result.now (search rules) (search rules) in
    let values = single c.args.values.now.items c.index-value.result.now (search rules) (search rules) in
    on_ok_weaker c.write_stored-in-None.result
    (kept_follows c.args.emitter.now c.write_stored-in-None.new.emitter (tree.exps (plain_exps c.args.targets.now.items)) (tree.exps (plain_exps c.args.values.now.items)) c.args.register c.args.line
    (kept_by targets values (sym c.is_field.ensures ∙ c.if-is_field.false))
    (no_store_by c.args.emitter.now.constants targets values (sym c.local_store.ensures ∙ c.in-None.is))) c.write_stored-in-None.ensures
