use Rattle.std.proofs.Common.{[], ◌++◌, ap, refl, ◌∙◌}
use Rattle.lua_heap.specs.declared.world.World.{World as Memory}
use Rattle.machine_core.specs.InstructionRows.{next}
use Rattle.machine_core.specs.FrameRows.{expand_by}
use Rattle.move_laws.proofs.Order.{order_after}
use Rattle.move_laws.proofs.Rows.{first, safe_after}
use Rattle.machine_returns.proofs.Taken.{goes_on, may_go}
use Rattle.machine_returns.proofs.closing.pass_over.Goals as goal

pub close_cells-requires-clause-frame : goal.close_cells-requires-clause-frame
close_cells-requires-clause-frame c = record { place = c.requires.at.place; is = c.requires.at.is }

pub go_to-requires : goal.go_to-requires
go_to-requires c =
    let k = c.requires.safe in
    may_go k.when 1 (c.close_cells.ensures.at c.args.pc c.requires.at) refl (safe_after (λ _ _. expand_by k.when next) k.safe (c.close_cells.ensures.makes k.env))

pub returns-clause-leads : goal.returns-clause-leads
returns-clause-leads c = λ when env.
    first (λ _ _. expand_by when next) (c.close_cells.ensures.makes env) (goes_on when 1 (c.close_cells.ensures.at c.args.pc c.requires.at) refl c.go_to.ensures.makes (env ++ []))

pub returns-clause-order : goal.returns-clause-order
returns-clause-order c =
    let strings = ap (λ (W : Memory). W.strings) c.go_to.ensures.rest ∙ ap (λ (W : Memory). W.strings) c.close_cells.ensures.rest in
    let codes = ap (λ (W : Memory). W.codes) c.go_to.ensures.rest ∙ ap (λ (W : Memory). W.codes) c.close_cells.ensures.rest in
    order_after c.requires.order strings codes (c.go_to.ensures.listed c.close_cells.ensures.listed)
