use Rattle.std.proofs.Common.{[]}
use Rattle.machine_core.specs.Text.{write_nils}
use Rattle.machine_core.specs.InstructionRows.{next}
use Rattle.machine_core.specs.FrameRows.{expand}
use Rattle.move_laws.proofs.Kept.{order_kept}
use Rattle.move_laws.proofs.Rows.{first, can_do, safe_after}
use Rattle.machine_rows.proofs.Going.{goes_on, may_go}
use Rattle.machine_rows.proofs.loads.clear.Goals as goal

pub clear_registers-requires : goal.clear_registers-requires
clear_registers-requires c = can_do (write_nils c.args.from c.args.count) (λ _ _. expand next) (c.requires.safe c.requires.at.place.function.code)

pub go_to-requires : goal.go_to-requires
go_to-requires c =
    may_go 1 (c.clear_registers.ensures.stays.at c.args.pc c.requires.at) c.behind.ensures (safe_after (λ _ _. expand next) (c.requires.safe c.requires.at.place.function.code) (c.clear_registers.ensures.makes []))

pub returns-clause-leads : goal.returns-clause-leads
returns-clause-leads c = λ p.
    first (λ _ _. expand next) (c.clear_registers.ensures.makes []) (goes_on 1 (c.clear_registers.ensures.stays.at c.args.pc c.requires.at) c.behind.ensures c.go_to.ensures.makes [])

pub returns-clause-order : goal.returns-clause-order
returns-clause-order c = order_kept (order_kept c.requires.order c.clear_registers.ensures.stays.rest c.clear_registers.ensures.stays.listed) c.go_to.ensures.rest c.go_to.ensures.listed
