use Rattle.std.proofs.Common.{rules, ◌≡◌, [], ◌∷◌, ◌++◌, ap, sym, ◌∙◌, append-nil}
use Rattle.std.specs.Prelude.{map}
use Rattle.int_core.specs.Value.{nth}
use Rattle.machine_core.specs.Text.{read, args_of}
use Rattle.machine_core.specs.FrameRows.{then}
use Rattle.machine_core.specs.Moves.{fail_coroutine, give, main_failed, stop}
use Rattle.lua_heap.specs.Reading.{value as meant}
use Rattle.move_laws.proofs.Rows.{first, ended}
use Rattle.machine_coroutines.proofs.Handed.{error_read, pending_on, running_on}
use Rattle.machine_coroutines.proofs.endings.fail_main.Goals as goal

pub fail_coroutine-requires-clause-running : goal.fail_coroutine-requires-clause-running
fail_coroutine-requires-clause-running c = running_on c.give_values.ensures.rest (running_on c.take_moving.ensures.rest c.requires.running)

pub fail_coroutine-requires-clause-pending : goal.fail_coroutine-requires-clause-pending
fail_coroutine-requires-clause-pending c = pending_on c.give_values.ensures.rest (pending_on c.take_moving.ensures.rest c.in_ok-pending.ensures)

pub returns-clause-leads : goal.returns-clause-leads
returns-clause-leads c =
    let W = c.args.world.now in
    let f = meant W.strings in
    let vs = map f c.take_moving.result.items in
    let taken : W.strings ≡ c.take_moving.new.world.strings = search rules in
    let given : W.strings ≡ c.give_values.new.world.strings = search rules in
    let answer : c.in_ok-answer.answer.items ≡ c.first_of-error.result ∷ [] = search rules in
    let moved : c.deref.result.now ≡ W.moving.items = search rules in
    let error : nth vs 0 ≡ f c.first_of-error.result = error_read f W.moving.items c.take_moving.result.items c.first_of-error.result c.take_moving.ensures.values (c.first_of-error.ensures W.strings ∙ ap (λ l. nth (map f l) 0) moved) in
    let same : args_of vs (read 0 ∷ []) ≡ map (meant c.take_moving.new.world.strings) c.in_ok-answer.answer.items =
    ap (λ v. v ∷ []) error ∙ sym (ap (map f) answer) ∙ ap (λ texts. map (meant texts) c.in_ok-answer.answer.items) taken in
    first (λ e _. then (give (read e ∷ [])) (then (fail_coroutine (read e)) (stop main_failed))) (c.take_moving.ensures.makes [])
    (first (λ _ _. then (fail_coroutine (read 0)) (stop main_failed)) (c.give_values.ensures.all vs (read 0 ∷ []) same)
    (first (λ _ _. stop main_failed) (c.fail_coroutine.ensures.makes (vs ++ []) (read 0) (ap (λ vs. nth vs 0) (append-nil vs) ∙ error ∙ ap (λ texts. meant texts c.first_of-error.result) given)) ended))
