use Rattle.std.proofs.Common.{ap, refl, sym, w64}
use Rattle.std.proofs.lemmas.Int.{to_z-of_z}
use Rattle.int_core.specs.Value.{integer, known}
use Rattle.machine_core.specs.Text.{written, write_register}
use Rattle.machine_core.specs.InstructionRows.{skip}
use Rattle.machine_core.specs.FrameRows.{expand}
use Rattle.move_laws.proofs.Rows.{can_do, first, safe_after}
use Rattle.move_laws.proofs.Kept.{order_kept}
use Rattle.machine_rows.proofs.Going.{any_value, goes_on, may_go}
use Rattle.machine_operations.proofs.computing.put_integer.Goals as goal

pub write_register-requires : goal.write_register-requires
write_register-requires c = any_value {x = written (integer c.args.n)} (can_do (write_register c.args.to (written (integer c.args.n))) (λ _ _. expand skip) c.requires.safe.safe)

pub go_to-requires : goal.go_to-requires
go_to-requires c =
    let h = c.requires.safe in
    let k = ap (λ n. known (integer n)) (sym (to_z-of_z w64 c.args.n c.ranges.n)) in
    may_go 2 (c.write_register.ensures.stays.at c.args.pc c.requires.at) refl (safe_after (λ _ _. expand skip) h.safe (c.write_register.ensures.makes h.env (written (integer c.args.n)) k))

pub returns-clause-leads : goal.returns-clause-leads
returns-clause-leads c = λ env.
    let k = ap (λ n. known (integer n)) (sym (to_z-of_z w64 c.args.n c.ranges.n)) in
    first (λ _ _. expand skip) (c.write_register.ensures.makes env (written (integer c.args.n)) k) (goes_on 2 (c.write_register.ensures.stays.at c.args.pc c.requires.at) refl c.go_to.ensures.makes _)

pub returns-clause-order : goal.returns-clause-order
returns-clause-order c = order_kept (order_kept c.requires.order c.write_register.ensures.stays.rest c.write_register.ensures.stays.listed) c.go_to.ensures.rest c.go_to.ensures.listed
