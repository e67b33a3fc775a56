use Rattle.std.proofs.Common.{[], ◌∷◌, refl}
use Rattle.lua_heap.specs.Reading.{value as meant}
use Rattle.machine_core.specs.Text.{read, write_register}
use Rattle.machine_core.specs.InstructionRows.{back}
use Rattle.machine_core.specs.FrameRows.{expand}
use Rattle.move_laws.proofs.Kept.{order_kept}
use Rattle.move_laws.proofs.Rows.{first, can_do, safe_after}
use Rattle.machine_rows.proofs.Going.{any_value}
use Rattle.machine_loops.proofs.iterating.go_over.Goals as goal

pub write_register-requires : goal.write_register-requires
write_register-requires c = any_value {x = read 0} (can_do (write_register c.args.to (read 0)) (λ _ _. expand (back c.args.by)) c.requires.safe)

pub go_back-requires : goal.go_back-requires
go_back-requires c =
    let v = meant c.args.world.now.strings c.args.v in
    record {
      at = c.write_register.ensures.stays.at c.args.pc c.requires.at;
      room = c.requires.room;
      order = order_kept c.requires.order c.write_register.ensures.stays.rest c.write_register.ensures.stays.listed;
      safe = record { env = v ∷ []; safe = safe_after (λ _ _. expand (back c.args.by)) c.requires.safe (c.write_register.ensures.makes (v ∷ []) (read 0) refl) };
    }

pub returns-clause-leads : goal.returns-clause-leads
returns-clause-leads c =
    let v = meant c.args.world.now.strings c.args.v in
    first (λ _ _. expand (back c.args.by)) (c.write_register.ensures.makes (v ∷ []) (read 0) refl) (c.go_back.ensures.leads (v ∷ []))
