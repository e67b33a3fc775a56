use Rattle.std.proofs.Common.{refl, ap, sym, subst, ◌∙◌}
use Rattle.std.specs.Prelude.{map, not}
use Rattle.int_core.specs.Value.{a_function, object}
use Rattle.lua_heap.specs.declared.world.World.{World as Memory}
use Rattle.lua_heap.specs.Plain.{plain}
use Rattle.lua_heap.specs.Reading.{value as meant}
use Rattle.machine_core.specs.Moves.{calls_primitive, go, is_entered, raised}
use Rattle.move_laws.proofs.Running.{has_stack}
use Rattle.move_laws.proofs.Order.{order_after}
use Rattle.machine_moves.specs.Ending.{ending_of}
use Rattle.machine_moves.proofs.OnTop.{if_ok}
use Rattle.machine_calls.specs.Entering.{EntersSo, HasFunction, entered_or_not}
use Rattle.machine_calls.specs.Waiting.{EntersOver}
use Rattle.machine_calls.proofs.Over.{entered_over, full_over, function_after, not_full, prim_over}
use Rattle.machine_calls.proofs.waiting.enter_over.Goals as goal

pub is_full-requires : goal.is_full-requires
is_full-requires c = has_stack c.args.world.now c.requires.ready.place c.requires.ready.is

pub enter_function-requires-clause-running : goal.enter_function-requires-clause-running
enter_function-requires-clause-running c = let w = c.make_ready.ensures.whole in has_stack c.make_ready.new.world w.place w.is

pub enter_function-requires-clause-function : goal.enter_function-requires-clause-function
enter_function-requires-clause-function c =
    function_after (ap (λ (W : Memory). (plain W 0).functions) c.make_ready.ensures.rest) (c.requires.function.there c.in-Func.id.0 (ap (meant c.args.world.now.strings) c.in-Func.is))

pub unreachable-requires : goal.unreachable-requires
unreachable-requires c =
    let W = c.args.world.now in
    let n = c.in-Func.id.0 in
    let ready = c.make_ready.new.world in
    let h = c.requires.ready in
    let there : HasFunction W n = c.requires.function.there n (ap (meant W.strings) c.in-Func.is) in
    let k = subst (λ room. EntersSo ready c.enter_function.new.world (object a_function n) (map (meant ready.strings) c.deref.result.now) (entered_or_not room)) c.if-not-branch.true c.in_ok-enter_function-in-Func.ensures.enters in
    not_full W ready c.enter_function.new.world c.args.wait c.args.prepared h.place n (map (meant ready.strings) c.deref.result.now) h.is c.make_ready.ensures.ready
    (function_after (ap (λ (W : Memory). (plain W 0).functions) c.make_ready.ensures.rest) there) (c.is_full.ensures.is ∙ ap not c.if-is_full.false) k

pub returns-else-not-branch-clause-enters : goal.returns-else-not-branch-clause-enters
returns-else-not-branch-clause-enters c =
    let W = c.args.world.now in
    let n = c.in-Func.id.0 in
    let ready = c.make_ready.new.world in
    let new = c.enter_function.new.world in
    let vs = c.args.arguments.items in
    let strings = ap (λ (W : Memory). W.strings) c.make_ready.ensures.rest in
    let k = subst (λ room. EntersSo ready new (object a_function n) (map (meant ready.strings) c.deref.result.now) (entered_or_not room)) c.if-not-branch.false c.in_ok-enter_function-in-Func.ensures.enters in
    subst (λ v. EntersOver W new c.args.wait c.args.prepared (meant W.strings v) (map (meant W.strings) vs) go) (sym c.in-Func.is)
    (entered_over W ready new c.args.wait c.args.prepared n vs c.make_ready.ensures.ready strings (subst (λ vs. EntersSo ready new (object a_function n) (map (meant ready.strings) vs) is_entered) c.deref.ensures.value k))

pub returns-else-not-branch-clause-order : goal.returns-else-not-branch-clause-order
returns-else-not-branch-clause-order c =
    let o = c.make_ready.ensures.order in
    order_after o (ap (λ (W : Memory). W.strings) c.enter_function.ensures.rest) (ap (λ (W : Memory). W.codes) c.enter_function.ensures.rest) (c.enter_function.ensures.listed o.listed)

pub returns-then-is_full-clause-enters : goal.returns-then-is_full-clause-enters
returns-then-is_full-clause-enters c =
    let W = c.args.world.now in
    let n = c.in-Func.id.0 in
    let new = c.raise_over.new.world in
    let vs = map (meant W.strings) c.args.arguments.items in
    let there : HasFunction W n = c.requires.function.there n (ap (meant W.strings) c.in-Func.is) in
    if_ok c.raise_over.result c.raise_over.ensures.raises c.raise_over.ensures.raised (λ ending r q.
    subst (λ e. EntersOver W new c.args.wait c.args.prepared (meant W.strings c.args.function) vs (ending_of e)) (sym q)
    (subst (λ v. EntersOver W new c.args.wait c.args.prepared (meant W.strings v) vs raised) (sym c.in-Func.is)
    (full_over W new c.args.wait c.args.prepared n vs there (c.is_full.ensures.is ∙ ap not c.if-is_full.true) r)))

pub returns-in-Prim-clause-enters : goal.returns-in-Prim-clause-enters
returns-in-Prim-clause-enters c =
    let W = c.args.world.now in
    let ready = c.make_ready-in-Prim.new.world in
    let new = record ready { moving = c.args.arguments } in
    subst (λ v. EntersOver W new c.args.wait c.args.prepared (meant W.strings v) (map (meant W.strings) c.args.arguments.items) (calls_primitive c.in-Prim.n)) (sym c.in-Prim.is)
    (prim_over W ready new c.args.wait c.args.prepared c.in-Prim.n c.args.arguments.items c.make_ready-in-Prim.ensures.ready (ap (λ (W : Memory). W.strings) c.make_ready-in-Prim.ensures.rest) (λ fuel. refl))
