use Rattle.std.proofs.Common.{[], ◌∷◌, refl}
use Rattle.lua_heap.specs.Reading.{value as meant}
use Rattle.machine_core.specs.Text.{read, quick, read_register, write_upvalue}
use Rattle.machine_core.specs.InstructionRows.{next}
use Rattle.machine_core.specs.FrameRows.{expand}
use Rattle.move_laws.proofs.Kept.{order_kept, order_with_cells}
use Rattle.move_laws.proofs.Rows.{first, can_do, safe_after}
use Rattle.machine_rows.proofs.Going.{goes_on, may_go}
use Rattle.machine_rows.proofs.Stored.{can_store}
use Rattle.machine_rows.proofs.loads.store_upvalue.Goals as goal

pub read_register-v-requires : goal.read_register-v-requires
read_register-v-requires c = can_do (read_register c.args.from) (λ v _. expand (quick (write_upvalue c.args.upvalue (read v)) (λ _. next))) (c.requires.safe c.requires.at.place.function.code)

pub write_upvalue-requires : goal.write_upvalue-requires
write_upvalue-requires c =
    let s = safe_after (λ v _. expand (quick (write_upvalue c.args.upvalue (read v)) (λ _. next))) (c.requires.safe c.requires.at.place.function.code) (c.read_register-v.ensures []) in
    record { listed = c.requires.order.listed; there = can_store c.args.upvalue (read 0) (λ _ _. expand next) s }

pub go_to-requires : goal.go_to-requires
go_to-requires c =
    let v = meant c.args.world.now.strings c.read_register-v.result in
    let s = safe_after (λ v _. expand (quick (write_upvalue c.args.upvalue (read v)) (λ _. next))) (c.requires.safe c.requires.at.place.function.code) (c.read_register-v.ensures []) in
    may_go 1 (c.write_upvalue.ensures.at c.args.pc c.requires.at) c.behind.ensures (safe_after (λ _ _. expand next) s (c.write_upvalue.ensures.makes (v ∷ []) (read 0) refl))

pub returns-clause-leads : goal.returns-clause-leads
returns-clause-leads c = λ p.
    let v = meant c.args.world.now.strings c.read_register-v.result in
    first (λ v _. expand (quick (write_upvalue c.args.upvalue (read v)) (λ _. next))) (c.read_register-v.ensures [])
    (first (λ _ _. expand next) (c.write_upvalue.ensures.makes (v ∷ []) (read 0) refl) (goes_on 1 (c.write_upvalue.ensures.at c.args.pc c.requires.at) c.behind.ensures c.go_to.ensures.makes _))

pub returns-clause-order : goal.returns-clause-order
returns-clause-order c = order_kept (order_with_cells c.requires.order c.write_upvalue.ensures.rest c.write_upvalue.ensures.listed) c.go_to.ensures.rest c.go_to.ensures.listed
