use Rattle.std.proofs.Common.{◌≡◌, ◌+◌, [], ap, sym, subst, ◌∙◌, rules, true, false}
use Rattle.std.specs.Prelude.{pos}
use Rattle.machine_core.specs.Text.{go_by, quick, pay}
use Rattle.machine_core.specs.InstructionRows.{back}
use Rattle.machine_core.specs.FrameRows.{expand}
use Rattle.machine_core.specs.Moves.{go, spent}
use Rattle.move_laws.specs.Memory.{IsSafe, Leads, Steps}
use Rattle.move_laws.proofs.Kept.{order_kept}
use Rattle.move_laws.proofs.Order.{steps_of}
use Rattle.machine_moves.specs.Moves.{Pays}
use Rattle.machine_rows.proofs.Going.{goes_on, may_go}
use Rattle.machine_arms_numbers.specs.Numbers.{leads_back, distance_of}
use Rattle.machine_loops.proofs.Back.{jumps_ahead, jumps_back}
use Rattle.machine_loops.proofs.Paying.{safe_paid, steps_paid, steps_spent}
use Rattle.machine_loops.proofs.jumps.jump.Goals as goal

pub go_to-requires : goal.go_to-requires
go_to-requires c =
    let z : leads_back c.args.by ≡ false = search rules in
    let e : c.distance_of-distance.result ≡ distance_of c.args.by = search rules in
    let s = subst (λ t. IsSafe (expand t) [] c.args.world.now) (jumps_ahead c.args.by z) (c.requires.safe c.requires.at.place.function.code) in
    may_go (distance_of c.args.by + 1) c.requires.at (ap (λ d. c.args.pc + (d + 1)) e) s

pub returns-then-not-leads_back-clause-steps : goal.returns-then-not-leads_back-clause-steps
returns-then-not-leads_back-clause-steps c = λ p.
    let z : leads_back c.args.by ≡ false = search rules in
    let e : c.distance_of-distance.result ≡ distance_of c.args.by = search rules in
    steps_of c.args.budget.now (λ n. n)
    (subst (λ t. Leads (expand t) [] c.args.world.now c.go_to.new.world go) (sym (jumps_ahead c.args.by z)) (goes_on (distance_of c.args.by + 1) c.requires.at (ap (λ d. c.args.pc + (d + 1)) e) c.go_to.ensures.makes []))

pub returns-then-not-leads_back-clause-order : goal.returns-then-not-leads_back-clause-order
returns-then-not-leads_back-clause-order c = order_kept c.requires.order c.go_to.ensures.rest c.go_to.ensures.listed

pub returns-then-not-pay-clause-steps : goal.returns-then-not-pay-clause-steps
returns-then-not-pay-clause-steps c = λ p.
    let z : leads_back c.args.by ≡ true = search rules in
    let b : c.pay.result ≡ false = search rules in
    subst (λ t. Steps (expand t) [] c.args.world.now c.args.budget.now c.args.world.now c.pay.new.fuel spent) (sym (jumps_back c.args.by z))
    (steps_spent (λ _. expand (back (distance_of c.args.by))) (record { place = c.requires.at.place; is = c.requires.at.is }) (subst (Pays c.args.budget.now c.pay.new.fuel) b c.pay.ensures))

pub go_back-requires-clause-safe : goal.go_back-requires-clause-safe
go_back-requires-clause-safe c =
    let z : leads_back c.args.by ≡ true = search rules in
    let e : c.distance_of-distance.result ≡ distance_of c.args.by = search rules in
    let s = subst (λ t. IsSafe (expand t) [] c.args.world.now) (jumps_back c.args.by z) (c.requires.safe c.requires.at.place.function.code) in
    record { env = []; safe = subst (λ n. IsSafe (expand (back n)) [] c.args.world.now) (sym e) (safe_paid (λ _. expand (back (distance_of c.args.by))) (record { place = c.requires.at.place; is = c.requires.at.is }) s) }

pub returns-clause-steps : goal.returns-clause-steps
returns-clause-steps c = λ p.
    let z : leads_back c.args.by ≡ true = search rules in
    let e : c.distance_of-distance.result ≡ distance_of c.args.by = search rules in
    let b : c.pay.result ≡ true = search rules in
    subst (λ t. Steps (expand t) [] c.args.world.now c.args.budget.now c.go_back.new.world c.pay.new.fuel go) (sym (jumps_back c.args.by z))
    (steps_paid (λ _. expand (back (distance_of c.args.by))) (record { place = c.requires.at.place; is = c.requires.at.is }) (subst (Pays c.args.budget.now c.pay.new.fuel) b c.pay.ensures)
    (subst (λ n. Leads (expand (back n)) [] c.args.world.now c.go_back.new.world go) e (c.go_back.ensures.leads [])))
