use Rattle.std.proofs.Common.{rules, ◌≡◌, ◌∷◌, [], subst, true, false}
use Rattle.lua_heap.specs.Reading.{value}
use Rattle.machine_core.specs.Moves.{closed_with_error, one_left, take_closing}
use Rattle.table_core.specs.declared.value.Value.TheVariants.{Bool as Boolean}
use Rattle.move_laws.specs.Memory.{Makes}
use Rattle.machine_coroutines.proofs.Closed.{answers_all, answers_error, asks_next}
use Rattle.machine_coroutines.proofs.finishing.close_next.Goals as goal

pub returns-in-One-clause-leads : goal.returns-in-One-clause-leads
returns-in-One-clause-leads c = λ env.
    let W = c.args.world.now in
    let V = c.take_closing.new.world in
    let v = c.in-One.value in
    let e = c.in-One.error in
    let texts : W.strings ≡ V.strings = search rules in
    let moving : c.push_reserved-in-One-2.new.self.items ≡ c.find_close.result ∷ v ∷ e ∷ [] = search rules in
    asks_next (value V.strings) v e c.find_close.result c.push_reserved-in-One-2.new.self.items env
    (subst (λ texts. Makes W V take_closing env (value texts v ∷ value texts e ∷ []) one_left) texts (c.in-One.ensures.makes env))
    c.find_close.ensures c.give_values.ensures.more moving

pub returns-in-All-clause-leads : goal.returns-in-All-clause-leads
returns-in-All-clause-leads c = λ env.
    let moving : c.push_reserved-in-All.new.self.items ≡ Boolean true ∷ [] = search rules in
    answers_all c.push_reserved-in-All.new.self.items env (c.in-All.ensures.makes env) c.leave_with.ensures.leaves moving

pub returns-in-Failed-clause-leads : goal.returns-in-Failed-clause-leads
returns-in-Failed-clause-leads c = λ env.
    let W = c.args.world.now in
    let V = c.take_closing.new.world in
    let e = c.in-Failed.error in
    let texts : W.strings ≡ V.strings = search rules in
    let moving : c.push_reserved-in-Failed-2.new.self.items ≡ Boolean false ∷ e ∷ [] = search rules in
    answers_error e c.push_reserved-in-Failed-2.new.self.items env
    (subst (λ texts. Makes W V take_closing env (value texts e ∷ []) closed_with_error) texts (c.in-Failed.ensures.makes env))
    c.leave_with-in-Failed.ensures.leaves moving
