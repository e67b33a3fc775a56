use Rattle.std.proofs.Common.{refl}
use Rattle.machine_core.specs.Text.{read}
use Rattle.machine_core.specs.InstructionRows.{next}
use Rattle.machine_core.specs.FrameRows.{expand}
use Rattle.move_laws.proofs.Rows.{first, safe_after}
use Rattle.move_laws.proofs.Kept.{order_kept}
use Rattle.machine_rows.proofs.Going.{goes_on, may_go}
use Rattle.machine_operations.proofs.following.keep.Goals as goal

pub go_to-requires : goal.go_to-requires
go_to-requires c =
    let h = c.requires.safe in
    may_go 1 (c.write_register.ensures.stays.at c.args.pc c.requires.at) refl (safe_after (λ _ _. expand next) h.safe (c.write_register.ensures.makes h.env (read 0) h.named))

pub returns-clause-leads : goal.returns-clause-leads
returns-clause-leads c = record {
  leads = λ env named.
      first (λ _ _. expand next) (c.write_register.ensures.makes env (read 0) named) (goes_on 1 (c.write_register.ensures.stays.at c.args.pc c.requires.at) refl c.go_to.ensures.makes _);
}

pub returns-clause-order : goal.returns-clause-order
returns-clause-order c = order_kept (order_kept c.requires.order c.write_register.ensures.stays.rest c.write_register.ensures.stays.listed) c.go_to.ensures.rest c.go_to.ensures.listed
