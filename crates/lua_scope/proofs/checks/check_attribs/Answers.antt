use Rattle.std.proofs.Common.{arith, Bool, List, ap, ap₂, ◌∙◌}
use Rattle.std.specs.Prelude.{Option, ◌||◌}
use Rattle.tree_core.specs.declared.name.Declared.{Declared}
use Rattle.scope_core.specs.declared.violation.Violation.{Violation}
use Rattle.scope_core.specs.Rules.{attrib_violations, attrib_breach, is_close}
use Rattle.lua_scope.specs.Met.{meet_all}
use Rattle.lua_scope.proofs.Meeting.{meet_append}
use Rattle.lua_scope.proofs.Looping.{on, at_end}
use Rattle.lua_scope.proofs.checks.check_attribs.Goals as goal

pub loop-declared-preserved : goal.loop-declared-preserved
loop-declared-preserved c =
    on (λ (s : Bool × Option Violation) (xs : List Declared). meet_all s.1 (attrib_violations s.0 xs))
    (λ s x xs. (s.0 || is_close x.attrib, meet_all s.1 (attrib_breach s.0 x.attrib x.attrib_line)))
    (λ s x xs. meet_append s.1 (attrib_breach s.0 x.attrib x.attrib_line) (attrib_violations (s.0 || is_close x.attrib) xs))
    (c.loop-declared.closed, c.loop-declared.least.violation) (c.either-closed.result, c.check_attrib.new.least.violation)
    c.deref-declared-items.result.now c.loop-declared.declared-index c.declared-item.result _
    (omega (arith, c.loop-declared-test.true, c.loop-declared.auto.declared-index-end)) c.declared-item.is
    (ap₂ (λ a b. (a, b)) (c.either-closed.ensures ∙ ap (λ b. c.loop-declared.closed || b) c.is_close.ensures) c.check_attrib.ensures) c.loop-declared.invariant

pub returns : goal.returns
returns c =
    at_end (λ (o : Option Violation) (xs : List Declared). meet_all o (attrib_violations c.loop-declared.closed xs))
    c.loop-declared.least.violation c.deref-declared-items.result.now c.loop-declared.declared-index _
    (omega (arith, c.loop-declared-test.false, c.loop-declared.auto.declared-index-end)) c.loop-declared.invariant
