use Rattle.std.proofs.Common.{List, refl, ap, sym, subst, ◌∙◌}
use Rattle.std.specs.Prelude.{map}
use Rattle.int_core.specs.Value.{Value}
use Rattle.lua_heap.specs.declared.world.World.{World as Memory}
use Rattle.lua_heap.specs.Reading.{value as meant}
use Rattle.machine_core.specs.FrameRows.{raises}
use Rattle.move_laws.specs.Memory.{Leads}
use Rattle.machine_moves.specs.Ending.{ending_of}
use Rattle.machine_moves.proofs.OnTop.{if_ok, on_err}
use Rattle.machine_calls.specs.Tails.{CallsInPlace, EntersInPlace}
use Rattle.machine_calls.proofs.InPlace.{fault_in_place, spent_in_place, paid_in_place, may_enter_in_place}
use Rattle.machine_calls.proofs.tails.call_in_place.Goals as goal

pub enter_in_place-requires-clause-function : goal.enter_in_place-requires-clause-function
enter_in_place-requires-clause-function c =
    let W = c.args.world.now in
    let h = c.requires.frame in
    may_enter_in_place W h.place c.args.called c.args.arguments.items _ _ c.requires.sound h.is c.requires.safe (c.in-Function.ensures (map (meant W.strings) c.args.arguments.items))

pub returns-in-Function-clause-steps : goal.returns-in-Function-clause-steps
returns-in-Function-clause-steps c =
    let W = c.args.world.now in
    let h = c.requires.frame in
    spent_in_place W h.place c.args.budget.now c.args.called c.args.arguments.items _ _ h.is (c.in-Function.ensures (map (meant W.strings) c.args.arguments.items)) c.if-budget-eq0.true

pub returns-in_ok-text-in-Fault-clause-steps : goal.returns-in_ok-text-in-Fault-clause-steps
returns-in_ok-text-in-Fault-clause-steps c =
    let W = c.args.world.now in
    let h = c.requires.frame in
    let new = c.raise.new.world in
    if_ok c.raise.result c.raise.ensures.leads c.raise.ensures.raised (λ ending r q.
    subst (λ e. CallsInPlace W new c.args.budget.now c.args.budget.now c.args.called c.args.arguments.items (ending_of e)) (sym q)
    (fault_in_place W new h.place c.args.budget.now c.args.called c.args.arguments.items _ h.is (c.in-Fault.ensures (map (meant W.strings) c.args.arguments.items))
    (subst (λ text. (env : List Value) → Leads (raises text) env W new Rattle.machine_core.specs.Moves.raised) (c.deref.ensures.value ∙ c.in_ok-text-in-Fault.ensures W.strings)
    (subst (λ e. (env : List Value) → Leads (raises c.deref.result.now) env W new (ending_of e)) q r))))

pub returns-in_ok-text-in-Fault-clause-err : goal.returns-in_ok-text-in-Fault-clause-err
returns-in_ok-text-in-Fault-clause-err c = on_err c.raise.result c.raise.ensures.err (λ e. (ap (λ (W : Memory). W.printed) e, refl))

pub returns-in_ok-ending-in-Function-2-clause-steps : goal.returns-in_ok-ending-in-Function-2-clause-steps
returns-in_ok-ending-in-Function-2-clause-steps c =
    let W = c.args.world.now in
    let h = c.requires.frame in
    let vs = map (meant W.strings) c.args.arguments.items in
    paid_in_place W c.enter_in_place.new.world h.place c.args.budget.now c.args.called c.args.arguments.items _ _ _ h.is (c.in-Function.ensures vs) c.if-budget-eq0.false
    (subst (λ all. EntersInPlace W c.enter_in_place.new.world (meant W.strings c.in-Function.function) all (ending_of c.in_ok-ending-in-Function-2.ending)) c.in_ok-all-in-Function-2.ensures c.in_ok-ending-in-Function-2.ensures.enters)
