use Rattle.std.proofs.Common.{rules, ◌≡◌, [], ◌∷◌, ap, subst, ◌∙◌}
use Rattle.std.specs.Prelude.{map}
use Rattle.lua_heap.specs.declared.world.World.{World as Memory}
use Rattle.lua_heap.specs.Reading.{value}
use Rattle.machine_core.specs.Text.{read}
use Rattle.machine_core.specs.Moves.{take_moving}
use Rattle.move_laws.specs.Memory.{Makes}
use Rattle.machine_errors.specs.Protected.{first_of}
use Rattle.machine_errors.proofs.Handled.{answers_handler}
use Rattle.machine_errors.proofs.handlers.answer_handler.Goals as goal

pub returns-clause-leads : goal.returns-clause-leads
returns-clause-leads c = λ env.
    let old = c.args.world.now in
    let took = c.take_moving.new.world in
    let left = c.pop_frame.new.world in
    let is : c.alone-error.result.items ≡ first_of old.moving.items ∷ [] = search rules in
    let texts : left.strings ≡ old.strings = ap (λ (W : Memory). W.strings) c.pop_frame.ensures.rest ∙ ap (λ (W : Memory). W.strings) c.take_moving.ensures.rest in
    answers_handler old took left c.give_values.new.world c.alone-error.result.items env
    (λ env. subst (λ items. Makes old took take_moving env (map (value old.strings) items) tt) c.take_moving.ensures.values (c.take_moving.ensures.makes env))
    c.pop_frame.ensures.makes is texts (λ E n e. c.give_values.ensures.all E (read n ∷ []) e)
