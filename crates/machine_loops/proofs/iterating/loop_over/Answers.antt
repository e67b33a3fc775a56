use Rattle.std.proofs.Common.{◌≡◌, ◌+◌, [], ◌∷◌, sym, subst, rules, true, false}
use Rattle.int_core.specs.Value.{Shape, shape}
use Rattle.lua_heap.specs.Reading.{value as meant}
use Rattle.machine_core.specs.Text.{read, Text, quick, pay, read_register, write_register}
use Rattle.machine_core.specs.InstructionRows.{back, next, then}
use Rattle.machine_core.specs.FrameRows.{expand}
use Rattle.machine_core.specs.Moves.{go, spent}
use Rattle.move_laws.specs.Memory.{IsSafe, Leads, Steps}
use Rattle.move_laws.proofs.Order.{steps_of}
use Rattle.move_laws.proofs.Rows.{can_do, safe_after}
use Rattle.table_core.specs.Value.{is_nil}
use Rattle.machine_moves.specs.Moves.{Pays}
use Rattle.machine_loops.proofs.Iterated.{over, over_nil, over_more}
use Rattle.machine_loops.proofs.Paying.{safe_paid, steps_paid, steps_read, steps_spent}
use Rattle.machine_loops.proofs.iterating.loop_over.Goals as goal

pub read_register-v-requires : goal.read_register-v-requires
read_register-v-requires c = can_do (read_register (c.args.base + 4)) (λ v s. expand (over c.args.base c.args.by v s)) (c.requires.safe c.requires.at.place.function.code)

pub go_on-requires-clause-safe : goal.go_on-requires-clause-safe
go_on-requires-clause-safe c =
    let W = c.args.world.now in let v = meant W.strings c.read_register-v.result in
    let s = safe_after (λ v s. expand (over c.args.base c.args.by v s)) (c.requires.safe c.requires.at.place.function.code) (c.read_register-v.ensures []) in
    let b : is_nil c.read_register-v.result ≡ true = search rules in
    let t = subst (λ t. IsSafe (expand t) (v ∷ []) W) (over_nil W.strings c.args.base c.args.by c.read_register-v.result b) s in
    record { never = t.never }

pub returns-then-is_nil-clause-steps : goal.returns-then-is_nil-clause-steps
returns-then-is_nil-clause-steps c = λ p.
    let W = c.args.world.now in let v = meant W.strings c.read_register-v.result in
    let b : is_nil c.read_register-v.result ≡ true = search rules in
    let l : Leads (expand next) (v ∷ []) W c.go_on.new.world go = record { is = c.go_on.ensures.leads.is } in
    steps_read (λ v s. expand (over c.args.base c.args.by v s)) (c.read_register-v.ensures [])
    (subst (λ t. Steps (expand t) (v ∷ []) W c.args.budget.now c.go_on.new.world c.args.budget.now go) (sym (over_nil W.strings c.args.base c.args.by c.read_register-v.result b))
    (steps_of c.args.budget.now (λ n. n) l))

pub returns-then-not-pay-clause-steps : goal.returns-then-not-pay-clause-steps
returns-then-not-pay-clause-steps c = λ p.
    let W = c.args.world.now in let v = meant W.strings c.read_register-v.result in
    let n : is_nil c.read_register-v.result ≡ false = search rules in let b : c.pay.result ≡ false = search rules in
    let k : Text = then (write_register (c.args.base + 2) (read 0)) (back c.args.by) in
    steps_read (λ v s. expand (over c.args.base c.args.by v s)) (c.read_register-v.ensures [])
    (subst (λ t. Steps (expand t) (v ∷ []) W c.args.budget.now W c.pay.new.fuel spent) (sym (over_more W.strings c.args.base c.args.by c.read_register-v.result n))
    (steps_spent (λ _. expand k) (record { place = c.requires.at.place; is = c.requires.at.is }) (subst (Pays c.args.budget.now c.pay.new.fuel) b c.pay.ensures)))

pub go_over-requires-clause-safe : goal.go_over-requires-clause-safe
go_over-requires-clause-safe c =
    let W = c.args.world.now in let v = meant W.strings c.read_register-v.result in
    let s = safe_after (λ v s. expand (over c.args.base c.args.by v s)) (c.requires.safe c.requires.at.place.function.code) (c.read_register-v.ensures []) in
    let n : is_nil c.read_register-v.result ≡ false = search rules in
    let k : Text = then (write_register (c.args.base + 2) (read 0)) (back c.args.by) in
    safe_paid (λ _. expand k) (record { place = c.requires.at.place; is = c.requires.at.is }) (subst (λ t. IsSafe (expand t) (v ∷ []) W) (over_more W.strings c.args.base c.args.by c.read_register-v.result n) s)

pub returns-clause-steps : goal.returns-clause-steps
returns-clause-steps c = λ p.
    let W = c.args.world.now in let v = meant W.strings c.read_register-v.result in
    let n : is_nil c.read_register-v.result ≡ false = search rules in let b : c.pay.result ≡ true = search rules in
    let k : Text = then (write_register (c.args.base + 2) (read 0)) (back c.args.by) in
    steps_read (λ v s. expand (over c.args.base c.args.by v s)) (c.read_register-v.ensures [])
    (subst (λ t. Steps (expand t) (v ∷ []) W c.args.budget.now c.go_over.new.world c.pay.new.fuel go) (sym (over_more W.strings c.args.base c.args.by c.read_register-v.result n))
    (steps_paid (λ _. expand k) (record { place = c.requires.at.place; is = c.requires.at.is }) (subst (Pays c.args.budget.now c.pay.new.fuel) b c.pay.ensures) c.go_over.ensures.leads))
