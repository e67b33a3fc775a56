use Rattle.std.proofs.Common.{[], ◌∷◌, refl}
use Rattle.lua_heap.specs.Reading.{value as meant}
use Rattle.machine_core.specs.Text.{read, write_register}
use Rattle.machine_core.specs.InstructionRows.{next}
use Rattle.machine_core.specs.FrameRows.{expand}
use Rattle.move_laws.proofs.Kept.{order_kept}
use Rattle.move_laws.proofs.Rows.{first, can_do, safe_after}
use Rattle.machine_rows.proofs.Going.{goes_on, may_go, any_value}
use Rattle.machine_rows.proofs.following.keep_value.Goals as goal

pub write_register-requires : goal.write_register-requires
write_register-requires c = any_value {x = read 0} (can_do (write_register c.args.to (read 0)) (λ _ _. expand next) c.requires.safe)

pub go_to-requires : goal.go_to-requires
go_to-requires c =
    let env = meant c.args.world.now.strings c.args.v ∷ [] in
    may_go 1 (c.write_register.ensures.stays.at c.args.pc c.requires.at) c.behind.ensures (safe_after (λ _ _. expand next) c.requires.safe (c.write_register.ensures.makes env (read 0) refl))

pub returns-clause-leads : goal.returns-clause-leads
returns-clause-leads c =
    let env = meant c.args.world.now.strings c.args.v ∷ [] in
    first (λ _ _. expand next) (c.write_register.ensures.makes env (read 0) refl) (goes_on 1 (c.write_register.ensures.stays.at c.args.pc c.requires.at) c.behind.ensures c.go_to.ensures.makes _)

pub returns-clause-order : goal.returns-clause-order
returns-clause-order c = order_kept (order_kept c.requires.order c.write_register.ensures.stays.rest c.write_register.ensures.stays.listed) c.go_to.ensures.rest c.go_to.ensures.listed
