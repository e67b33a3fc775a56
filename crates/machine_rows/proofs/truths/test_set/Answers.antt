use Rattle.std.proofs.Common.{◌≡◌, ◌≢◌, ℕ, Bool, [], ◌∷◌, rules, sym, subst, ◌∙◌}
use Rattle.std.specs.Prelude.{cond}
use Rattle.int_core.specs.Value.{Shape, holds, shape, same_truth}
use Rattle.lua_heap.specs.Reading.{value as meant}
use Rattle.machine_core.specs.Text.{read, read_register, Text}
use Rattle.machine_core.specs.InstructionRows.{skip, to_register}
use Rattle.machine_core.specs.FrameRows.{expand}
use Rattle.machine_core.specs.Moves.{go}
use Rattle.move_laws.specs.Memory.{IsSafe, Leads}
use Rattle.move_laws.proofs.Kept.{order_kept}
use Rattle.move_laws.proofs.Rows.{first, can_do, safe_after}
use Rattle.machine_rows.proofs.Going.{goes_on, may_go, truth_is, truth_is_not}
use Rattle.machine_rows.proofs.truths.test_set.Goals as goal

abbrev sets : ℕ → Bool → ℕ → Shape → Text
sets to wanted v s = cond (same_truth (holds s) wanted) (to_register to (read v)) skip

pub read_register-v-requires : goal.read_register-v-requires
read_register-v-requires c = can_do (read_register c.args.from) (λ v s. expand (sets c.args.to c.args.wanted v s)) (c.requires.safe c.requires.at.place.function.code)

pub keep_value-requires-clause-safe : goal.keep_value-requires-clause-safe
keep_value-requires-clause-safe c =
    let W = c.args.world.now in
    let v = meant W.strings c.read_register-v.result in
    let s = safe_after (λ v s. expand (sets c.args.to c.args.wanted v s)) (c.requires.safe c.requires.at.place.function.code) (c.read_register-v.ensures []) in
    let e : c.is_truthy.result ≡ c.args.wanted = search rules in
    subst (λ t. IsSafe (expand t) (v ∷ []) W) (truth_is (holds (shape v)) c.args.wanted (to_register c.args.to (read 0)) skip (sym (c.is_truthy.ensures W.strings) ∙ e)) s

pub go_to-requires : goal.go_to-requires
go_to-requires c =
    let W = c.args.world.now in
    let v = meant W.strings c.read_register-v.result in
    let s = safe_after (λ v s. expand (sets c.args.to c.args.wanted v s)) (c.requires.safe c.requires.at.place.function.code) (c.read_register-v.ensures []) in
    let n : c.is_truthy.result ≢ c.args.wanted = search rules in
    may_go 2 c.requires.at c.behind.ensures (subst (λ t. IsSafe (expand t) (v ∷ []) W) (truth_is_not (holds (shape v)) c.args.wanted (to_register c.args.to (read 0)) skip (λ e. n (c.is_truthy.ensures W.strings ∙ e))) s)

pub returns-then-is_truthy-wanted-clause-leads : goal.returns-then-is_truthy-wanted-clause-leads
returns-then-is_truthy-wanted-clause-leads c = λ p.
    let W = c.args.world.now in
    let v = meant W.strings c.read_register-v.result in
    let e : c.is_truthy.result ≡ c.args.wanted = search rules in
    first (λ v s. expand (sets c.args.to c.args.wanted v s)) (c.read_register-v.ensures [])
    (subst (λ t. Leads (expand t) (v ∷ []) W c.keep_value.new.world go) (sym (truth_is (holds (shape v)) c.args.wanted (to_register c.args.to (read 0)) skip (sym (c.is_truthy.ensures W.strings) ∙ e))) c.keep_value.ensures.leads)

pub returns-else-is_truthy-wanted-clause-leads : goal.returns-else-is_truthy-wanted-clause-leads
returns-else-is_truthy-wanted-clause-leads c = λ p.
    let W = c.args.world.now in
    let v = meant W.strings c.read_register-v.result in
    let n : c.is_truthy.result ≢ c.args.wanted = search rules in
    first (λ v s. expand (sets c.args.to c.args.wanted v s)) (c.read_register-v.ensures [])
    (subst (λ t. Leads (expand t) (v ∷ []) W c.go_to.new.world go) (sym (truth_is_not (holds (shape v)) c.args.wanted (to_register c.args.to (read 0)) skip (λ e. n (c.is_truthy.ensures W.strings ∙ e))))
    (goes_on 2 c.requires.at c.behind.ensures c.go_to.ensures.makes _))

pub returns-else-is_truthy-wanted-clause-order : goal.returns-else-is_truthy-wanted-clause-order
returns-else-is_truthy-wanted-clause-order c = order_kept c.requires.order c.go_to.ensures.rest c.go_to.ensures.listed
