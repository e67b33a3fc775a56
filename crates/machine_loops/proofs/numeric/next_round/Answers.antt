use Rattle.std.proofs.Common.{◌+◌, ℕ}
use Rattle.std.specs.Prelude.{ℤ}
use Rattle.int_core.specs.Value.{integer}
use Rattle.machine_core.specs.Text.{written, write_register, Text}
use Rattle.machine_core.specs.InstructionRows.{back, writes_integer}
use Rattle.machine_core.specs.FrameRows.{expand}
use Rattle.move_laws.proofs.Kept.{order_kept}
use Rattle.move_laws.proofs.Rows.{first, can_do, safe_after}
use Rattle.machine_rows.proofs.Going.{any_value}
use Rattle.machine_loops.proofs.Rounds.{kept_integer}
use Rattle.machine_loops.proofs.numeric.next_round.Goals as goal

abbrev last_part : ℕ → ℕ → ℤ → Text
last_part base by next = writes_integer (base + 3) next (back by)

abbrev later_part : ℕ → ℕ → ℤ → Text
later_part base by next = writes_integer base next (last_part base by next)

pub write_register-requires : goal.write_register-requires
write_register-requires c =
    any_value {x = written (integer c.args.left)} (can_do (write_register (c.args.base + 1) (written (integer c.args.left))) (λ _ _. expand (later_part c.args.base c.args.by c.args.next)) c.requires.safe.safe)

pub write_register-requires-2 : goal.write_register-requires-2
write_register-requires-2 c =
    let s = safe_after (λ _ _. expand (later_part c.args.base c.args.by c.args.next)) c.requires.safe.safe (c.write_register.ensures.makes _ (written (integer c.args.left)) (kept_integer c.args.left c.ranges.left)) in
    any_value {x = written (integer c.args.next)} (can_do (write_register c.args.base (written (integer c.args.next))) (λ _ _. expand (last_part c.args.base c.args.by c.args.next)) s)

pub write_register-requires-3 : goal.write_register-requires-3
write_register-requires-3 c =
    let s = safe_after (λ _ _. expand (later_part c.args.base c.args.by c.args.next)) c.requires.safe.safe (c.write_register.ensures.makes _ (written (integer c.args.left)) (kept_integer c.args.left c.ranges.left)) in
    let t = safe_after (λ _ _. expand (last_part c.args.base c.args.by c.args.next)) s (c.write_register-2.ensures.makes _ (written (integer c.args.next)) (kept_integer c.args.next c.ranges.next)) in
    any_value {x = written (integer c.args.next)} (can_do (write_register (c.args.base + 3) (written (integer c.args.next))) (λ _ _. expand (back c.args.by)) t)

pub go_back-requires-clause-at : goal.go_back-requires-clause-at
go_back-requires-clause-at c = c.write_register-3.ensures.stays.at c.args.pc (c.write_register-2.ensures.stays.at c.args.pc (c.write_register.ensures.stays.at c.args.pc c.requires.at))

pub go_back-requires-clause-order : goal.go_back-requires-clause-order
go_back-requires-clause-order c =
    order_kept (order_kept (order_kept c.requires.order c.write_register.ensures.stays.rest c.write_register.ensures.stays.listed) c.write_register-2.ensures.stays.rest c.write_register-2.ensures.stays.listed) c.write_register-3.ensures.stays.rest c.write_register-3.ensures.stays.listed

pub go_back-requires-clause-safe : goal.go_back-requires-clause-safe
go_back-requires-clause-safe c =
    let s = safe_after (λ _ _. expand (later_part c.args.base c.args.by c.args.next)) c.requires.safe.safe (c.write_register.ensures.makes _ (written (integer c.args.left)) (kept_integer c.args.left c.ranges.left)) in
    let t = safe_after (λ _ _. expand (last_part c.args.base c.args.by c.args.next)) s (c.write_register-2.ensures.makes _ (written (integer c.args.next)) (kept_integer c.args.next c.ranges.next)) in
    record { env = _; safe = safe_after (λ _ _. expand (back c.args.by)) t (c.write_register-3.ensures.makes _ (written (integer c.args.next)) (kept_integer c.args.next c.ranges.next)) }

pub returns-clause-leads : goal.returns-clause-leads
returns-clause-leads c = λ env.
    first (λ _ _. expand (later_part c.args.base c.args.by c.args.next)) (c.write_register.ensures.makes env (written (integer c.args.left)) (kept_integer c.args.left c.ranges.left))
    (first (λ _ _. expand (last_part c.args.base c.args.by c.args.next)) (c.write_register-2.ensures.makes _ (written (integer c.args.next)) (kept_integer c.args.next c.ranges.next))
    (first (λ _ _. expand (back c.args.by)) (c.write_register-3.ensures.makes _ (written (integer c.args.next)) (kept_integer c.args.next c.ranges.next)) (c.go_back.ensures.leads _)))
