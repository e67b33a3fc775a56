use Rattle.std.proofs.Common.{arith, List}
use Rattle.std.specs.Prelude.{Option}
use Rattle.tree_core.specs.declared.tree.Exp.{Exp}
use Rattle.tree_core.specs.Tree as tree
use Rattle.tree_core.specs.Plain.{plain_exp, plain_exps}
use Rattle.scope_core.specs.declared.violation.Violation.{Violation}
use Rattle.scope_core.specs.Rules.{target_violations}
use Rattle.lua_scope.specs.Met.{meet_all}
use Rattle.lua_scope.proofs.Meeting.{one_target}
use Rattle.lua_scope.proofs.Looping.{on, at_end}
use Rattle.lua_scope.proofs.checks.check_targets.Goals as goal

pub loop-target-preserved : goal.loop-target-preserved
loop-target-preserved c =
    on (λ (o : Option Violation) (xs : List Exp). meet_all o (target_violations c.args.nesting.now (tree.exps (plain_exps xs))))
    (λ o x xs. meet_all o (target_violations c.args.nesting.now (tree.MoreExps (plain_exp x) tree.EndExps)))
    (λ o x xs. one_target o c.args.nesting.now (plain_exp x) (tree.exps (plain_exps xs)))
    c.loop-target.least.violation c.check_target.new.least.violation c.deref-target-items.result.now c.loop-target.target-index c.target-item.result _
    (omega (arith, c.loop-target-test.true, c.loop-target.auto.target-index-end)) c.target-item.is c.check_target.ensures c.loop-target.invariant

pub returns : goal.returns
returns c =
    at_end (λ (o : Option Violation) (xs : List Exp). meet_all o (target_violations c.args.nesting.now (tree.exps (plain_exps xs))))
    c.loop-target.least.violation c.deref-target-items.result.now c.loop-target.target-index _
    (omega (arith, c.loop-target-test.false, c.loop-target.auto.target-index-end)) c.loop-target.invariant
