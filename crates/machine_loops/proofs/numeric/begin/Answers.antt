use Rattle.std.proofs.Common.{◌≡◌, ◌+◌, ℕ, refl, sym, subst, rules, false}
use Rattle.std.specs.Prelude.{ℤ, pos, cond}
use Rattle.int_core.specs.Value.{integer}
use Rattle.machine_core.specs.Text.{written, write_register, Text, go_by}
use Rattle.machine_core.specs.InstructionRows.{next, runs, rounds, starts, writes_integer}
use Rattle.machine_core.specs.FrameRows.{expand}
use Rattle.machine_core.specs.Moves.{go}
use Rattle.move_laws.specs.Memory.{IsSafe, Leads}
use Rattle.move_laws.proofs.Kept.{order_kept}
use Rattle.move_laws.proofs.Rows.{first, can_do, safe_after}
use Rattle.machine_rows.proofs.Going.{any_value, goes_on, may_go}
use Rattle.machine_loops.proofs.Rounds.{kept_integer, kept_count, no_round, has_rounds}
use Rattle.machine_loops.proofs.numeric.begin.Goals as goal

abbrev later_part : ℕ → ℤ → Text
later_part base from = writes_integer (base + 3) from next

pub go_to-requires : goal.go_to-requires
go_to-requires c =
    let r : runs c.args.from c.args.limit c.args.step ≡ false = search rules in
    let e = no_round c.args.base c.args.by c.args.from c.args.limit c.args.step c.requires.step r in
    may_go (c.args.by + 2) c.requires.at refl (subst (λ t. IsSafe (expand t) c.requires.safe.env c.args.world.now) e c.requires.safe.safe)

pub returns-then-not-has_round-clause-leads : goal.returns-then-not-has_round-clause-leads
returns-then-not-has_round-clause-leads c = λ env.
    let r : runs c.args.from c.args.limit c.args.step ≡ false = search rules in
    let e = no_round c.args.base c.args.by c.args.from c.args.limit c.args.step c.requires.step r in
    subst (λ t. Leads (expand t) env c.args.world.now c.go_to.new.world go) (sym e) (goes_on (c.args.by + 2) c.requires.at refl c.go_to.ensures.makes env)

pub returns-then-not-has_round-clause-order : goal.returns-then-not-has_round-clause-order
returns-then-not-has_round-clause-order c = order_kept c.requires.order c.go_to.ensures.rest c.go_to.ensures.listed

pub write_register-requires : goal.write_register-requires
write_register-requires c =
    let s = subst (λ t. IsSafe (expand t) c.requires.safe.env c.args.world.now) (has_rounds c.args.base c.args.by c.args.from c.args.limit c.args.step c.requires.step (search rules)) c.requires.safe.safe in
    let x = written (integer (rounds c.args.from c.args.limit c.args.step)) in
    any_value {x = x} (can_do (write_register (c.args.base + 1) x) (λ _ _. expand (later_part c.args.base c.args.from)) s)

pub write_register-requires-2 : goal.write_register-requires-2
write_register-requires-2 c =
    let s = subst (λ t. IsSafe (expand t) c.requires.safe.env c.args.world.now) (has_rounds c.args.base c.args.by c.args.from c.args.limit c.args.step c.requires.step (search rules)) c.requires.safe.safe in
    let kept = kept_count c.further_rounds-count.result (rounds c.args.from c.args.limit c.args.step) (search rules) (record { sfits = c.further_rounds-count.type_inv }) in
    let t = safe_after (λ _ _. expand (later_part c.args.base c.args.from)) s (c.write_register.ensures.makes _ (written (integer (rounds c.args.from c.args.limit c.args.step))) kept) in
    any_value {x = written (integer c.args.from)} (can_do (write_register (c.args.base + 3) (written (integer c.args.from))) (λ _ _. expand next) t)

pub go_to-requires-2 : goal.go_to-requires-2
go_to-requires-2 c =
    let s = subst (λ t. IsSafe (expand t) c.requires.safe.env c.args.world.now) (has_rounds c.args.base c.args.by c.args.from c.args.limit c.args.step c.requires.step (search rules)) c.requires.safe.safe in
    let kept = kept_count c.further_rounds-count.result (rounds c.args.from c.args.limit c.args.step) (search rules) (record { sfits = c.further_rounds-count.type_inv }) in
    let t = safe_after (λ _ _. expand (later_part c.args.base c.args.from)) s (c.write_register.ensures.makes _ (written (integer (rounds c.args.from c.args.limit c.args.step))) kept) in
    let u = safe_after (λ _ _. expand next) t (c.write_register-2.ensures.makes _ (written (integer c.args.from)) (kept_integer c.args.from c.ranges.from)) in
    may_go 1 (c.write_register-2.ensures.stays.at c.args.pc (c.write_register.ensures.stays.at c.args.pc c.requires.at)) refl u

pub returns-clause-leads : goal.returns-clause-leads
returns-clause-leads c = λ env.
    let x = written (integer (rounds c.args.from c.args.limit c.args.step)) in
    let kept = kept_count c.further_rounds-count.result (rounds c.args.from c.args.limit c.args.step) (search rules) (record { sfits = c.further_rounds-count.type_inv }) in
    subst (λ t. Leads (expand t) env c.args.world.now c.go_to-2.new.world go) (sym (has_rounds c.args.base c.args.by c.args.from c.args.limit c.args.step c.requires.step (search rules)))
    (first (λ _ _. expand (later_part c.args.base c.args.from)) (c.write_register.ensures.makes env x kept)
    (first (λ _ _. expand next) (c.write_register-2.ensures.makes _ (written (integer c.args.from)) (kept_integer c.args.from c.ranges.from))
    (goes_on 1 (c.write_register-2.ensures.stays.at c.args.pc (c.write_register.ensures.stays.at c.args.pc c.requires.at)) refl c.go_to-2.ensures.makes _)))

pub returns-clause-order : goal.returns-clause-order
returns-clause-order c =
    order_kept (order_kept (order_kept c.requires.order c.write_register.ensures.stays.rest c.write_register.ensures.stays.listed) c.write_register-2.ensures.stays.rest c.write_register-2.ensures.stays.listed) c.go_to-2.ensures.rest c.go_to-2.ensures.listed
