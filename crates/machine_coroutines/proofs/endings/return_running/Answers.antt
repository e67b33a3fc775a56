use Rattle.std.proofs.Common.{rules, ◌≡◌, ℕ, [], ◌∷◌, ◌++◌, refl, true}
use Rattle.std.specs.Prelude.{map}
use Rattle.int_core.specs.Value.{boolean}
use Rattle.machine_core.specs.Text.{written}
use Rattle.machine_core.specs.FrameRows.{then, hand_over}
use Rattle.machine_core.specs.Moves.{Row, end_coroutine, give_with}
use Rattle.table_core.specs.declared.value.Value.TheVariants.{Bool as Boolean}
use Rattle.lua_heap.specs.Reading.{value as meant}
use Rattle.machine_coroutines.proofs.Handed.{handed_on, running_on, still_runs, true_given}
use Rattle.machine_coroutines.proofs.endings.return_running.Goals as goal

abbrev row : ℕ → Unit {0} → Row
row v _ = then end_coroutine (then (give_with (written (boolean true) ∷ []) v) hand_over)

pub end_coroutine-requires-clause-running : goal.end_coroutine-requires-clause-running
end_coroutine-requires-clause-running c = running_on c.take_moving.ensures.rest c.requires.running

pub hand_over-requires : goal.hand_over-requires
hand_over-requires c =
    let W = c.args.world.now in
    let vs = map (meant W.strings) c.take_moving.result.items in
    let answer : c.in_ok-answer.answer.items ≡ Boolean true ∷ W.moving.items = search rules in
    let same = true_given W.strings c.end_coroutine.new.world.strings W.moving.items c.take_moving.result.items c.in_ok-answer.answer.items c.take_moving.ensures.values answer (search rules) in
    still_runs row refl (c.take_moving.ensures.makes []) (c.end_coroutine.ensures.makes vs) (c.give_values.ensures.more (vs ++ []) (written (boolean true) ∷ []) 0 same) c.requires.safe

pub returns-clause-leads : goal.returns-clause-leads
returns-clause-leads c =
    let W = c.args.world.now in
    let vs = map (meant W.strings) c.take_moving.result.items in
    let answer : c.in_ok-answer.answer.items ≡ Boolean true ∷ W.moving.items = search rules in
    let same = true_given W.strings c.end_coroutine.new.world.strings W.moving.items c.take_moving.result.items c.in_ok-answer.answer.items c.take_moving.ensures.values answer (search rules) in
    handed_on row refl (c.take_moving.ensures.makes []) (c.end_coroutine.ensures.makes vs) (c.give_values.ensures.more (vs ++ []) (written (boolean true) ∷ []) 0 same) (c.hand_over.ensures (vs ++ [] ++ []))
