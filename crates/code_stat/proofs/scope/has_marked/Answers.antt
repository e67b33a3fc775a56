use Rattle.std.proofs.Common.{rules, arith, ◌≡◌, ◌<◌, true, false, length}
use Rattle.tree_core.specs.Plain.{plain_stat}
use Rattle.code_of.specs.Levels.{closing_after}
use Rattle.code_stat.proofs.Scoping.{marked_here, marked_further}
use Rattle.code_stat.proofs.scope.has_marked.Goals as goal

pub loop-stat-preserved : goal.loop-stat-preserved
loop-stat-preserved c =
    let inside : c.loop-stat.stat-index < length c.deref-stat-items.result.now = omega (arith, c.loop-stat-test.true, c.loop-stat.auto.stat-index-end) in
    let other : closing_after (plain_stat c.stat-item.result) false ≡ false = search rules in
    marked_further c.deref-stat-items.result.now c.loop-stat.stat-index c.stat-item.result _ inside c.stat-item.is other c.loop-stat.invariant

pub returns-then-closing_after : goal.returns-then-closing_after
returns-then-closing_after c =
    let inside : c.loop-stat.stat-index < length c.deref-stat-items.result.now = omega (arith, c.loop-stat-test.true, c.loop-stat.auto.stat-index-end) in
    let this : closing_after (plain_stat c.stat-item.result) false ≡ true = search rules in
    marked_here c.deref-stat-items.result.now c.loop-stat.stat-index c.stat-item.result _ inside c.stat-item.is this c.loop-stat.invariant
