use Rattle.std.proofs.Common.{rules, ◌≡◌, ℕ, [], ◌∷◌, ◌++◌, refl, ap, ◌∙◌, false}
use Rattle.std.specs.Prelude.{map}
use Rattle.int_core.specs.Value.{boolean}
use Rattle.machine_core.specs.Text.{read, written}
use Rattle.machine_core.specs.FrameRows.{then, hand_over}
use Rattle.machine_core.specs.Moves.{Row, fail_coroutine, give}
use Rattle.table_core.specs.declared.value.Value.TheVariants.{Bool as Boolean}
use Rattle.lua_heap.specs.Reading.{value as meant}
use Rattle.machine_coroutines.proofs.Handed.{error_given, error_moved, handed_on, pending_on, running_on, still_runs}
use Rattle.machine_coroutines.proofs.endings.fail_running.Goals as goal

abbrev row : ℕ → Unit {0} → Row
row e _ = then (fail_coroutine (read e)) (then (give (written (boolean false) ∷ read e ∷ [])) hand_over)

pub fail_coroutine-requires-clause-running : goal.fail_coroutine-requires-clause-running
fail_coroutine-requires-clause-running c = running_on c.take_moving.ensures.rest c.requires.running

pub fail_coroutine-requires-clause-pending : goal.fail_coroutine-requires-clause-pending
fail_coroutine-requires-clause-pending c = pending_on c.take_moving.ensures.rest c.in_ok-pending.ensures

pub hand_over-requires : goal.hand_over-requires
hand_over-requires c =
    let W = c.args.world.now in
    let taken : W.strings ≡ c.take_moving.new.world.strings = search rules in
    let answer : c.in_ok-answer.answer.items ≡ Boolean false ∷ c.first_of-error.result ∷ [] = search rules in
    let error = error_moved W.strings W.moving.items c.deref.result.now c.take_moving.result.items c.first_of-error.result c.take_moving.ensures.values (c.first_of-error.ensures W.strings) (search rules) in
    let same = error_given W.strings c.fail_coroutine.new.world.strings c.take_moving.result.items c.in_ok-answer.answer.items c.first_of-error.result error answer (search rules) in
    still_runs row refl (c.take_moving.ensures.makes []) (c.fail_coroutine.ensures.makes (map (meant W.strings) c.take_moving.result.items) (read 0) (error ∙ ap (λ texts. meant texts c.first_of-error.result) taken)) (c.give_values.ensures.all (map (meant W.strings) c.take_moving.result.items ++ []) (written (boolean false) ∷ read 0 ∷ []) same) c.requires.safe

pub returns-clause-leads : goal.returns-clause-leads
returns-clause-leads c =
    let W = c.args.world.now in
    let taken : W.strings ≡ c.take_moving.new.world.strings = search rules in
    let answer : c.in_ok-answer.answer.items ≡ Boolean false ∷ c.first_of-error.result ∷ [] = search rules in
    let error = error_moved W.strings W.moving.items c.deref.result.now c.take_moving.result.items c.first_of-error.result c.take_moving.ensures.values (c.first_of-error.ensures W.strings) (search rules) in
    let same = error_given W.strings c.fail_coroutine.new.world.strings c.take_moving.result.items c.in_ok-answer.answer.items c.first_of-error.result error answer (search rules) in
    handed_on row refl (c.take_moving.ensures.makes []) (c.fail_coroutine.ensures.makes (map (meant W.strings) c.take_moving.result.items) (read 0) (error ∙ ap (λ texts. meant texts c.first_of-error.result) taken)) (c.give_values.ensures.all (map (meant W.strings) c.take_moving.result.items ++ []) (written (boolean false) ∷ read 0 ∷ []) same) (c.hand_over.ensures (map (meant W.strings) c.take_moving.result.items ++ [] ++ []))
