use Rattle.std.proofs.Common.{[], ap, subst, sym, ◌∙◌}
use Rattle.std.specs.Prelude.{map}
use Rattle.lua_heap.specs.Reading.{value}
use Rattle.pure_functions.specs.declared.answer.Answer.TheVariants.{One, Two, Gives, Raises}
use Rattle.machine_core.specs.Moves.{raised as ends_raised}
use Rattle.machine_moves.specs.Ending.{ending_of}
use Rattle.machine_library.specs.Answers.{Tells}
use Rattle.machine_library.proofs.Consulting.{runs_after, gives_on, gives_one, gives_two, hands_on, raises_on}
use Rattle.machine_library.proofs.calls.tell.Goals as goal

pub hand_over-requires : goal.hand_over-requires
hand_over-requires c = runs_after c.args.world.now c.give_values.new.world c.requires.running c.give_values.ensures.rest

pub hand_over-requires-in-Two : goal.hand_over-requires-in-Two
hand_over-requires-in-Two c = runs_after c.args.world.now c.give_values-in-Two.new.world c.requires.running c.give_values-in-Two.ensures.rest

pub hand_over-requires-in-Gives : goal.hand_over-requires-in-Gives
hand_over-requires-in-Gives c = runs_after c.args.world.now c.give_values-in-Gives.new.world c.requires.running c.give_values-in-Gives.ensures.rest

pub returns-in-One-clause-tells : goal.returns-in-One-clause-tells
returns-in-One-clause-tells c =
    let old = c.args.world.now in let new = c.give_values.new.world in let e = ending_of c.hand_over.result in
    let told : Tells old new (One c.in-One.given) e
    = record { leads = gives_one old new c.in-One.given c.alone.result.items e c.alone.ensures (λ env slot same. c.give_values.ensures.more env [] slot same) c.hand_over.ensures } in
    subst (λ answer. Tells old new answer e) (sym c.in-One.is) told

pub returns-in-One-clause-goes : goal.returns-in-One-clause-goes
returns-in-One-clause-goes c = hands_on c.give_values.new.world c.hand_over.result (c.hand_over.ensures [])

pub returns-in-Two-clause-tells : goal.returns-in-Two-clause-tells
returns-in-Two-clause-tells c =
    let old = c.args.world.now in let new = c.give_values-in-Two.new.world in let e = ending_of c.hand_over-in-Two.result in
    let told : Tells old new (Two c.in-Two.first c.in-Two.second) e
    = record { leads = gives_two old new c.in-Two.first c.in-Two.second c.both.result.items e c.both.ensures (λ env slot same. c.give_values-in-Two.ensures.more env [] slot same) c.hand_over-in-Two.ensures } in
    subst (λ answer. Tells old new answer e) (sym c.in-Two.is) told

pub returns-in-Two-clause-goes : goal.returns-in-Two-clause-goes
returns-in-Two-clause-goes c = hands_on c.give_values-in-Two.new.world c.hand_over-in-Two.result (c.hand_over-in-Two.ensures [])

pub returns-in-Gives-clause-tells : goal.returns-in-Gives-clause-tells
returns-in-Gives-clause-tells c =
    let old = c.args.world.now in let new = c.give_values-in-Gives.new.world in let e = ending_of c.hand_over-in-Gives.result in
    let told : Tells old new (Gives c.in-Gives.results) e
    = record { leads = gives_on old new c.in-Gives.results.items e (λ env slot same. c.give_values-in-Gives.ensures.more env [] slot same) c.hand_over-in-Gives.ensures } in
    subst (λ answer. Tells old new answer e) (sym c.in-Gives.is) told

pub returns-in-Gives-clause-goes : goal.returns-in-Gives-clause-goes
returns-in-Gives-clause-goes c = hands_on c.give_values-in-Gives.new.world c.hand_over-in-Gives.result (c.hand_over-in-Gives.ensures [])

pub returns-in-Raises-clause-tells : goal.returns-in-Raises-clause-tells
returns-in-Raises-clause-tells c =
    let old = c.args.world.now in
    let new = c.give_values-in-Raises.new.world in
    let told : Tells old new (Raises c.in-Raises.raised) ends_raised
    = record {
      leads = raises_on old new c.in-Raises.raised
          (λ env xs e. c.give_values-in-Raises.ensures.all env xs (e ∙ ap (map (value old.strings)) (sym c.alone-in-Raises.ensures)));
    } in
    subst (λ answer. Tells old new answer ends_raised) (sym c.in-Raises.is) told
