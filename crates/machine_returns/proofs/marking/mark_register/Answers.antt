use Rattle.std.proofs.Common.{[], ◌++◌, ap, refl, ◌∙◌}
use Rattle.std.specs.Prelude.{pos}
use Rattle.lua_heap.specs.declared.world.World.{World as Memory}
use Rattle.machine_core.specs.Text.{go_by, mark_pending}
use Rattle.machine_core.specs.FrameRows.{at_once, expand}
use Rattle.move_laws.proofs.Order.{order_after}
use Rattle.move_laws.proofs.Rows.{first, can_do, safe_after}
use Rattle.machine_returns.proofs.Taken.{goes_on, may_go}
use Rattle.machine_returns.proofs.marking.mark_register.Goals as goal

pub mark_pending-requires : goal.mark_pending-requires
mark_pending-requires c = can_do (mark_pending c.args.register) (λ _ _. expand (go_by (pos c.args.ahead))) c.requires.safe.safe

pub go_to-requires : goal.go_to-requires
go_to-requires c =
    let k = c.requires.safe in
    may_go at_once c.args.ahead (c.in_ok-mark_pending.ensures.at c.args.pc c.requires.at) refl (safe_after (λ _ _. expand (go_by (pos c.args.ahead))) k.safe (c.in_ok-mark_pending.ensures.makes k.env))

pub returns-clause-leads : goal.returns-clause-leads
returns-clause-leads c = λ env.
    first (λ _ _. expand (go_by (pos c.args.ahead))) (c.in_ok-mark_pending.ensures.makes env) (goes_on at_once c.args.ahead (c.in_ok-mark_pending.ensures.at c.args.pc c.requires.at) refl c.go_to.ensures.makes (env ++ []))

pub returns-clause-order : goal.returns-clause-order
returns-clause-order c =
    let strings = ap (λ (W : Memory). W.strings) c.go_to.ensures.rest ∙ ap (λ (W : Memory). W.strings) c.mark_pending.ensures.rest in
    let codes = ap (λ (W : Memory). W.codes) c.go_to.ensures.rest ∙ ap (λ (W : Memory). W.codes) c.mark_pending.ensures.rest in
    order_after c.requires.order strings codes (c.go_to.ensures.listed (c.in_ok-mark_pending.ensures.listed c.requires.order.listed))
