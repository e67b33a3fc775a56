use Rattle.std.proofs.Common.{◌≡◌, ◌+◌, true, false, sym, ◌∙◌}
use Rattle.code_of.specs.Items.{is_full}
use Rattle.code_expr.proofs.Waiting.{few_stored, few_behind, full_stored, full_behind}
use Rattle.code_expr.proofs.items.store_full.Goals as goal

pub returns-then-not-is_full-clause-code : goal.returns-then-not-is_full-clause-code
returns-then-not-is_full-clause-code c =
    let tested : c.is_full.result ≡ is_full (c.args.items.stored + c.args.items.waiting) = rw c.in_ok-count.ensures at c.is_full.ensures in
    few_stored c.args.emitter.now c.args.items c.args.target c.args.line (sym tested ∙ c.if-not-is_full.true)

pub returns-then-not-is_full-clause-items : goal.returns-then-not-is_full-clause-items
returns-then-not-is_full-clause-items c =
    let tested : c.is_full.result ≡ is_full (c.args.items.stored + c.args.items.waiting) = rw c.in_ok-count.ensures at c.is_full.ensures in
    few_behind c.args.emitter.now c.args.items c.args.target c.args.line (sym tested ∙ c.if-not-is_full.true)

pub returns-clause-code : goal.returns-clause-code
returns-clause-code c =
    let tested : c.is_full.result ≡ is_full (c.args.items.stored + c.args.items.waiting) = rw c.in_ok-count.ensures at c.is_full.ensures in
    full_stored c.args.emitter.now c.args.items c.args.target c.args.line c.set_list.new.self (sym tested ∙ c.if-not-is_full.false) c.in_ok-set_list.ensures

pub returns-clause-items : goal.returns-clause-items
returns-clause-items c =
    let tested : c.is_full.result ≡ is_full (c.args.items.stored + c.args.items.waiting) = rw c.in_ok-count.ensures at c.is_full.ensures in
    full_behind c.args.emitter.now c.args.items c.args.target c.args.line c.in_ok-count.count (sym tested ∙ c.if-not-is_full.false) c.in_ok-count.ensures
