use Rattle.std.proofs.Common.{arith, ◌≡◌, ℕ, length, refl}
use Rattle.lua_saving.proofs.Made.{numbered_more, all_numbered, not_numbered, count_differs}
use Rattle.lua_saving.proofs.prelude.are_numbered.Goals as goal

pub returns-then-ids-count : goal.returns-then-ids-count
returns-then-ids-count c = (λ h. absurd (cc), λ e. absurd (count_differs c.args.ids.now c.args.count c.if-ids-count.true e))

pub returns-then-ids-number : goal.returns-then-ids-number
returns-then-ids-number c =
    (λ h. absurd (cc), λ e. absurd (not_numbered c.args.ids.now c.args.count c.ids.number (record { 0 = 0 }) c.ids-test.true c.if-ids-count.false c.if-ids-number.true e))

pub ids-preserved : goal.ids-preserved
ids-preserved c = numbered_more c.args.ids.now c.args.count c.ids.number (record { 0 = 0 }) c.ids-test.true c.if-ids-count.false c.if-ids-number.false c.ids.invariant

pub returns : goal.returns
returns c =
    let n : ℕ = c.ids.number in
    let end : n ≡ length c.args.ids.now = omega (arith, c.ids-test.false, c.ids.auto.number-end) in
    (λ _. all_numbered c.args.ids.now c.args.count n c.if-ids-count.false end c.ids.invariant, λ _. refl)
