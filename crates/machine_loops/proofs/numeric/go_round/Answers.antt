use Rattle.std.proofs.Common.{◌≡◌, ◌≢◌, ◌+◌, ◌++◌, ℕ, [], ap, sym, subst, ◌∙◌, w64, to_z, of_z, rules, true, false}
use Rattle.std.proofs.lemmas.Int.{to_z-of_z}
use Rattle.std.specs.Prelude.{ℤ, pos, codes}
use Rattle.int_core.specs.Arithmetic.{add, sub}
use Rattle.machine_core.specs.Text.{Text, quick, pay}
use Rattle.machine_core.specs.InstructionRows.{goes_round, next, with_loop}
use Rattle.machine_core.specs.FrameRows.{expand}
use Rattle.machine_core.specs.Moves.{go, run}
use Rattle.lua_heap.specs.Plain.{plain}
use Rattle.move_laws.specs.Memory.{IsSafe, Leads}
use Rattle.move_laws.proofs.Order.{steps_of}
use Rattle.machine_moves.specs.Moves.{Pays}
use Rattle.machine_rows.proofs.Going.{safe_as}
use Rattle.machine_loops.proofs.Paying.{safe_paid, steps_as, steps_paid, steps_spent}
use Rattle.machine_loops.proofs.Rounds.{last_round, loop_row, more_rounds, raised_step, round_text}
use Rattle.machine_loops.proofs.numeric.go_round.Goals as goal

pub loop_values-requires-clause-safe : goal.loop_values-requires-clause-safe
loop_values-requires-clause-safe c = record { more = goes_round c.args.base c.args.by; safe = c.requires.safe c.requires.at.place.function.code }

pub returns-in_default-clause-steps : goal.returns-in_default-clause-steps
returns-in_default-clause-steps c =
    let x = c.loop_values.ensures in
    raised_step c.args.world.now c.raise.new.world (λ p. expand (with_loop c.args.base (goes_round c.args.base c.args.by))) (codes "'for' registers are not integers")
    (λ p. (x.values, λ fuel. x.goes (goes_round c.args.base c.args.by) fuel ∙ ap (λ t. run (expand t) x.values (plain c.args.world.now fuel)) (c.in_default.ensures.none c.args.base c.args.by)))
    c.args.budget.now c.raise.result c.raise.ensures.leads c.raise.ensures.raised

pub go_on-requires-clause-safe : goal.go_on-requires-clause-safe
go_on-requires-clause-safe c =
    let x = c.loop_values.ensures in
    let v = c.loop_values.result in
    let r = c.in-Some.round in
    let z : r.left ≡ pos 0 = search rules in
    let row = loop_row c.args.world.now c.args.base c.args.by v.first v.second v.third r.at r.left r.step next x c.in-Some.ensures.at c.in-Some.ensures.left c.in-Some.ensures.step (last_round c.args.base c.args.by r.at r.left r.step z) in
    let s = safe_as {q = expand next} {more = x.values} (c.requires.safe c.requires.at.place.function.code) row in
    record { never = s.never }

pub returns-then-round-eq0-clause-steps : goal.returns-then-round-eq0-clause-steps
returns-then-round-eq0-clause-steps c = λ p.
    let x = c.loop_values.ensures in
    let v = c.loop_values.result in
    let r = c.in-Some.round in
    let z : r.left ≡ pos 0 = search rules in
    let row = loop_row c.args.world.now c.args.base c.args.by v.first v.second v.third r.at r.left r.step next x c.in-Some.ensures.at c.in-Some.ensures.left c.in-Some.ensures.step (last_round c.args.base c.args.by r.at r.left r.step z) in
    let l : Leads (expand next) x.values c.args.world.now c.go_on.new.world go = record { is = c.go_on.ensures.leads.is } in
    steps_as {q = expand next} {vs = x.values} (row c.args.budget.now) (steps_of c.args.budget.now (λ n. n) l)

pub returns-then-not-pay-clause-steps : goal.returns-then-not-pay-clause-steps
returns-then-not-pay-clause-steps c = λ p.
    let x = c.loop_values.ensures in
    let v = c.loop_values.result in
    let r = c.in-Some.round in
    let z : r.left ≢ pos 0 = search rules in
    let b : c.pay.result ≡ false = search rules in
    let t = round_text c.args.base c.args.by (add r.at r.step) (sub r.left (pos 1)) in
    let row = loop_row c.args.world.now c.args.base c.args.by v.first v.second v.third r.at r.left r.step (quick pay (λ _. t)) x c.in-Some.ensures.at c.in-Some.ensures.left c.in-Some.ensures.step (more_rounds c.args.base c.args.by r.at r.left r.step z) in
    steps_as {q = expand (quick pay (λ _. t))} {vs = x.values} (row c.args.budget.now)
    (steps_spent (λ _. expand t) (record { place = c.requires.at.place; is = c.requires.at.is }) (subst (Pays c.args.budget.now c.pay.new.fuel) b c.pay.ensures))

same_next : (base by : ℕ) (next left n l : ℤ) → next ≡ n → left ≡ l → to_z w64 (of_z w64 next) ≡ next → to_z w64 (of_z w64 left) ≡ left → round_text base by n l ≡ round_text base by (to_z w64 (of_z w64 next)) (to_z w64 (of_z w64 left))
same_next base by next left n l e f g h = ap (λ n. round_text base by n l) (sym (g ∙ e)) ∙ ap (round_text base by (to_z w64 (of_z w64 next))) (sym (h ∙ f))

pub next_round-requires-clause-safe : goal.next_round-requires-clause-safe
next_round-requires-clause-safe c =
    let x = c.loop_values.ensures in
    let v = c.loop_values.result in
    let r = c.in-Some.round in
    let z : r.left ≢ pos 0 = search rules in
    let n : c.add-next.result ≡ add r.at r.step = search rules in
    let l : c.sub-left.result ≡ sub r.left (pos 1) = search rules in
    let t = round_text c.args.base c.args.by (add r.at r.step) (sub r.left (pos 1)) in
    let same = same_next c.args.base c.args.by c.add-next.result c.sub-left.result (add r.at r.step) (sub r.left (pos 1)) n l (to_z-of_z w64 c.add-next.result (record { sfits = c.add-next.type_inv })) (to_z-of_z w64 c.sub-left.result (record { sfits = c.sub-left.type_inv })) in
    let row = loop_row c.args.world.now c.args.base c.args.by v.first v.second v.third r.at r.left r.step (quick pay (λ _. t)) x c.in-Some.ensures.at c.in-Some.ensures.left c.in-Some.ensures.step (more_rounds c.args.base c.args.by r.at r.left r.step z) in
    let s = safe_as {q = expand (quick pay (λ _. t))} {more = x.values} (c.requires.safe c.requires.at.place.function.code) row in
    record {
      env = x.values ++ [];
      safe = subst (λ t. IsSafe (expand t) (x.values ++ []) c.args.world.now) same (safe_paid (λ _. expand t) (record { place = c.requires.at.place; is = c.requires.at.is }) s);
    }

pub returns-clause-steps : goal.returns-clause-steps
returns-clause-steps c = λ p.
    let x = c.loop_values.ensures in
    let v = c.loop_values.result in
    let r = c.in-Some.round in
    let z : r.left ≢ pos 0 = search rules in
    let b : c.pay.result ≡ true = search rules in
    let n : c.add-next.result ≡ add r.at r.step = search rules in
    let l : c.sub-left.result ≡ sub r.left (pos 1) = search rules in
    let t = round_text c.args.base c.args.by (add r.at r.step) (sub r.left (pos 1)) in
    let same = same_next c.args.base c.args.by c.add-next.result c.sub-left.result (add r.at r.step) (sub r.left (pos 1)) n l (to_z-of_z w64 c.add-next.result (record { sfits = c.add-next.type_inv })) (to_z-of_z w64 c.sub-left.result (record { sfits = c.sub-left.type_inv })) in
    let row = loop_row c.args.world.now c.args.base c.args.by v.first v.second v.third r.at r.left r.step (quick pay (λ _. t)) x c.in-Some.ensures.at c.in-Some.ensures.left c.in-Some.ensures.step (more_rounds c.args.base c.args.by r.at r.left r.step z) in
    steps_as {q = expand (quick pay (λ _. t))} {vs = x.values} (row c.args.budget.now)
    (steps_paid (λ _. expand t) (record { place = c.requires.at.place; is = c.requires.at.is }) (subst (Pays c.args.budget.now c.pay.new.fuel) b c.pay.ensures)
    (subst (λ t. Leads (expand t) (x.values ++ []) c.args.world.now c.next_round.new.world go) (sym same) (c.next_round.ensures.leads (x.values ++ []))))
