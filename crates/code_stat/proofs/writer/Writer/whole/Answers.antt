use Rattle.std.proofs.Common.{rules, ◌≡◌, sym, ap, subst, refl, map, length}
use Rattle.tree_core.specs.declared.tree.Block.{out-Block}
use Rattle.tree_core.specs.Tree as tree
use Rattle.tree_core.specs.Plain.{plain_stat, plain_block}
use Rattle.code_of.specs.Levels.{made_in_block}
use Rattle.code_stat.specs.declared.writer.Writer.{Writer}
use Rattle.code_stat.specs.Declares.{DeclaresWhole}
use Rattle.code_stat.specs.Drafts.{Wrote}
use Rattle.code_stat.proofs.Bodies.{falls_declared, returns_declared}
use Rattle.code_stat.specs.Whole.{whole_from}
use Rattle.code_stat.proofs.Filling.{whole_falls, whole_returns, ends_by_return}
use Rattle.code_stat.proofs.writer.Writer.whole.Goals as goal
use Rattle.tree_core.proofs.Rows.{without_result, with_result}

pub returns-in_ok-end_scopes-in-None-clause-code : goal.returns-in_ok-end_scopes-in-None-clause-code
returns-in_ok-end_scopes-in-None-clause-code c =
    let b = out-Block c.args.block.now in
    let after : Writer = record c.statements.new.self { emitter = c.put_leaving.new.emitter; variables = c.end_scopes.new.self } in
    subst (λ p. Wrote c.args.self.now after (made_in_block p) (λ reach. whole_from c.args.self.now.emitter.constants c.args.self.now.back p c.args.params c.args.self.now.emitter.made (length c.args.self.now.emitter.steps) reach))
    (sym (without_result c.args.block.now c.in-None.is))
    (whole_falls c.args.self.now c.statements.new.self after (tree.stats (map plain_stat b.stats.items)) b.tokens b.line c.args.params c.in_ok-end-in-None.end.level c.statements.new.self.back.back c.in_ok-end-in-None.ensures.code c.in_ok-end-in-None.ensures.level refl
    c.in_ok-put_leaving-in-None.ensures refl refl)

pub returns-in_ok-block-in-Some-clause-code : goal.returns-in_ok-block-in-Some-clause-code
returns-in_ok-block-in-Some-clause-code c =
    whole_returns c.args.self.now c.block.new.self (plain_block c.args.block.now) c.args.params c.in_ok-block-in-Some.ensures.code (ap ends_by_return (with_result c.args.block.now c.in-Some.field-0 c.in-Some.is))

pub returns-in_ok-end_scopes-in-None-clause-variables : goal.returns-in_ok-end_scopes-in-None-clause-variables
returns-in_ok-end_scopes-in-None-clause-variables c =
    let b = out-Block c.args.block.now in
    let after : Writer = record c.statements.new.self { emitter = c.put_leaving.new.emitter; variables = c.end_scopes.new.self } in
    let first : c.count-first.result ≡ length c.args.self.now.variables = search rules in
    subst (λ p. DeclaresWhole c.args.self.now after p c.args.params) (sym (without_result c.args.block.now c.in-None.is))
    (falls_declared c.args.self.now c.statements.new.self after (tree.stats (map plain_stat b.stats.items)) b.tokens b.line c.args.params c.statements.new.self.back.back c.in_ok-end-in-None.end.level c.count-first.result c.place-place.result
    c.in_ok-end-in-None.ensures.code c.in_ok-end-in-None.ensures.variables c.in_ok-put_leaving-in-None.ensures first c.place-place.ensures c.in_ok-end_scopes-in-None.ensures)

pub returns-in_ok-block-in-Some-clause-variables : goal.returns-in_ok-block-in-Some-clause-variables
returns-in_ok-block-in-Some-clause-variables c =
    returns_declared c.args.self.now c.block.new.self (plain_block c.args.block.now) c.args.params c.in_ok-block-in-Some.ensures.variables (ap ends_by_return (with_result c.args.block.now c.in-Some.field-0 c.in-Some.is))
