use Rattle.std.proofs.Common.{rules, arith, ◌≡◌, ◌<◌, true, false, length}
use Rattle.tree_activation.specs.Statements.{is_closed}
use Rattle.code_stat.proofs.Scoping.{closed_here, closed_further}
use Rattle.code_stat.proofs.scope.has_closed.Goals as goal

pub loop-declared-preserved : goal.loop-declared-preserved
loop-declared-preserved c =
    let inside : c.loop-declared.declared-index < length c.deref-declared-items.result.now = omega (arith, c.loop-declared-test.true, c.loop-declared.auto.declared-index-end) in
    let other : is_closed c.declared-item.result.attrib ≡ false = search rules in
    closed_further c.deref-declared-items.result.now c.loop-declared.declared-index c.declared-item.result _ inside c.declared-item.is other c.loop-declared.invariant

pub returns-then-is_closed : goal.returns-then-is_closed
returns-then-is_closed c =
    let inside : c.loop-declared.declared-index < length c.deref-declared-items.result.now = omega (arith, c.loop-declared-test.true, c.loop-declared.auto.declared-index-end) in
    let this : is_closed c.declared-item.result.attrib ≡ true = search rules in
    closed_here c.deref-declared-items.result.now c.loop-declared.declared-index c.declared-item.result _ inside c.declared-item.is this c.loop-declared.invariant
