use Rattle.std.proofs.Common.{[], ◌++◌, ap, refl, sym, subst, ◌∙◌}
use Rattle.lua_heap.specs.declared.world.World.{World as Memory}
use Rattle.machine_core.specs.InstructionRows.{next}
use Rattle.machine_core.specs.FrameRows.{expand_by}
use Rattle.machine_core.specs.Moves.{go}
use Rattle.move_laws.specs.Memory.{IsSafe, Leads}
use Rattle.move_laws.proofs.Rows.{first, can_do, safe_after}
use Rattle.move_laws.proofs.Order.{order_after}
use Rattle.machine_returns.specs.Results.{writing}
use Rattle.machine_returns.proofs.Taken.{written_text, any_slot, goes_on, may_go}
use Rattle.machine_returns.proofs.results.take_results.Goals as goal

pub write_values-requires : goal.write_values-requires
write_values-requires c =
    let k = c.requires.safe in
    let s = subst (λ t. IsSafe (expand_by k.when t) k.env c.args.world.now) (written_text c.args.to c.args.count k.slot) k.safe in
    any_slot c.args.to c.args.count k.slot 0 (can_do (writing c.args.to c.args.count k.slot) (λ _ _. expand_by k.when next) s)

pub go_to-requires : goal.go_to-requires
go_to-requires c =
    let k = c.requires.safe in
    let s = subst (λ t. IsSafe (expand_by k.when t) k.env c.args.world.now) (written_text c.args.to c.args.count k.slot) k.safe in
    may_go k.when 1 (c.in_ok-write_values.ensures.at c.args.pc c.requires.at) refl (safe_after (λ _ _. expand_by k.when next) s (c.in_ok-write_values.ensures.makes k.env k.slot k.are))

pub returns-clause-leads : goal.returns-clause-leads
returns-clause-leads c = λ when env slot e.
    subst (λ t. Leads (expand_by when t) env c.args.world.now c.go_to.new.world go) (sym (written_text c.args.to c.args.count slot))
    (first (λ _ _. expand_by when next) (c.in_ok-write_values.ensures.makes env slot e) (goes_on when 1 (c.in_ok-write_values.ensures.at c.args.pc c.requires.at) refl c.go_to.ensures.makes (env ++ [])))

pub returns-clause-order : goal.returns-clause-order
returns-clause-order c =
    let rest = c.go_to.ensures.rest ∙ ap (λ (W : Memory). record W { coros = c.go_to.new.world.coros }) c.write_values.ensures.rest in
    order_after c.requires.order (ap (λ (W : Memory). W.strings) rest) (ap (λ (W : Memory). W.codes) rest) (c.go_to.ensures.listed (c.in_ok-write_values.ensures.listed c.requires.order.listed))
