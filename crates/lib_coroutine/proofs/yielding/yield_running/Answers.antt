use Rattle.std.proofs.Common.{rules, ◌≡◌, ℕ, [], ◌∷◌, ◌++◌, sym, subst, ◌∙◌, true, false}
use Rattle.std.specs.Prelude.{Bool, cond, map}
use Rattle.int_core.specs.Value.{boolean}
use Rattle.machine_core.specs.Text.{written}
use Rattle.machine_core.specs.FrameRows.{then, hand_over}
use Rattle.machine_core.specs.Moves.{Row, act, give_with, main_yielded, stop, take_moving}
use Rattle.table_core.specs.declared.value.Value.TheVariants.{Bool as Boolean}
use Rattle.lua_heap.specs.Reading.{value}
use Rattle.move_laws.specs.Memory.{IsSafe, Leads}
use Rattle.move_laws.proofs.Rows.{first, ended, safe_after}
use Rattle.machine_moves.specs.Ending.{ending_of}
use Rattle.machine_coroutines.proofs.Handed.{hands_stack, true_in_front}
use Rattle.lib_coroutine.proofs.yielding.yield_running.Goals as goal

abbrev passes : ℕ → Unit {0} → Row
passes v _ = then (give_with (written (boolean true) ∷ []) v) hand_over

abbrev goes : ℕ → Bool → Row
goes _ in_main = cond in_main (stop main_yielded) (act take_moving passes)

pub returns-then-runs_main-clause-leads : goal.returns-then-runs_main-clause-leads
returns-then-runs_main-clause-leads c =
    let told : c.suspend.result ≡ true = c.suspend.ensures.main ∙ sym c.runs_main.ensures ∙ c.if-runs_main.true in
    first goes (c.suspend.ensures.makes []) (subst (λ b. Leads (goes 0 b) [] c.suspend.new.world c.suspend.new.world main_yielded) (sym told) ended)

pub hand_over-requires : goal.hand_over-requires
hand_over-requires c =
    let S = c.suspend-2.new.world in
    let vs = map (value S.strings) c.take_moving.result.items in
    let told : c.suspend-2.result ≡ false = c.suspend-2.ensures.main ∙ sym c.runs_main.ensures ∙ c.if-runs_main.false in
    let answer : c.in_ok-answer.answer.items ≡ Boolean true ∷ S.moving.items = search rules in
    let same = true_in_front S.strings c.take_moving.new.world.strings S.moving.items c.take_moving.result.items c.in_ok-answer.answer.items c.take_moving.ensures.values answer (search rules) in
    let a = subst (λ b. IsSafe (goes 0 b) [] S) told (safe_after goes c.requires.safe (c.suspend-2.ensures.makes [])) in
    hands_stack (safe_after (λ _ _. hand_over) (safe_after passes a (c.take_moving.ensures.makes [])) (c.give_values.ensures.more vs (written (boolean true) ∷ []) 0 same))

pub returns-clause-leads : goal.returns-clause-leads
returns-clause-leads c =
    let S = c.suspend-2.new.world in
    let vs = map (value S.strings) c.take_moving.result.items in
    let told : c.suspend-2.result ≡ false = c.suspend-2.ensures.main ∙ sym c.runs_main.ensures ∙ c.if-runs_main.false in
    let answer : c.in_ok-answer.answer.items ≡ Boolean true ∷ S.moving.items = search rules in
    let same = true_in_front S.strings c.take_moving.new.world.strings S.moving.items c.take_moving.result.items c.in_ok-answer.answer.items c.take_moving.ensures.values answer (search rules) in
    first goes (c.suspend-2.ensures.makes [])
    (subst (λ b. Leads (goes 0 b) [] S c.give_values.new.world (ending_of c.hand_over.result)) (sym told)
    (first passes (c.take_moving.ensures.makes []) (first (λ _ _. hand_over) (c.give_values.ensures.more vs (written (boolean true) ∷ []) 0 same) (c.hand_over.ensures (vs ++ [])))))
