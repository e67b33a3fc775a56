use Rattle.std.proofs.Common.{refl, ap, sym, subst}
use Rattle.std.specs.Prelude.{map}
use Rattle.int_core.specs.Value.{a_function, object}
use Rattle.lua_heap.specs.declared.world.World.{World as Memory}
use Rattle.lua_heap.specs.Plain.{plain}
use Rattle.lua_heap.specs.Reading.{value as meant}
use Rattle.machine_core.specs.Moves.{calls_primitive, go}
use Rattle.machine_calls.specs.Entering.{EntersSo, entered_or_not}
use Rattle.machine_calls.specs.Tails.{EntersInPlace}
use Rattle.machine_calls.proofs.Over.{function_after}
use Rattle.machine_calls.proofs.InPlace.{prim_in_place, entered_in_place, room_again, entered_there}
use Rattle.machine_calls.proofs.tails.enter_in_place.Goals as goal

pub enter_function-requires-clause-function : goal.enter_function-requires-clause-function
enter_function-requires-clause-function c =
    let W = c.args.world.now in
    function_after (ap (λ (W : Memory). (plain W 0).functions) c.drop_frame.ensures.rest) (c.requires.function.there c.in-Func.id.0 (ap (meant W.strings) c.in-Func.is))

pub unreachable-requires : goal.unreachable-requires
unreachable-requires c =
    let W = c.args.world.now in
    let gone = c.drop_frame.new.world in
    let h = c.requires.frame in
    let vs = map (meant gone.strings) c.deref.result.now in
    let k = subst (λ room. EntersSo gone c.enter_function.new.world (object a_function c.in-Func.id.0) vs (entered_or_not room)) c.if-not-branch.true c.in_ok-enter_function-in-Func.ensures.enters in
    entered_there gone c.enter_function.new.world c.in-Func.id.0 vs
    (function_after (ap (λ (W : Memory). (plain W 0).functions) c.drop_frame.ensures.rest) (c.requires.function.there c.in-Func.id.0 (ap (meant W.strings) c.in-Func.is)))
    (room_again W gone h.place c.requires.sound h.is c.drop_frame.ensures.drops) k

pub returns-else-not-branch-clause-enters : goal.returns-else-not-branch-clause-enters
returns-else-not-branch-clause-enters c =
    let W = c.args.world.now in
    let gone = c.drop_frame.new.world in
    let new = c.enter_function.new.world in
    let k = subst (λ room. EntersSo gone new (object a_function c.in-Func.id.0) (map (meant gone.strings) c.deref.result.now) (entered_or_not room)) c.if-not-branch.false c.in_ok-enter_function-in-Func.ensures.enters in
    subst (λ v. EntersInPlace W new (meant W.strings v) (map (meant W.strings) c.args.arguments.items) go) (sym c.in-Func.is)
    (entered_in_place W gone new c.in-Func.id.0 c.args.arguments.items c.drop_frame.ensures.drops (ap (λ (W : Memory). W.strings) c.drop_frame.ensures.rest)
    (subst (λ items. EntersSo gone new (object a_function c.in-Func.id.0) (map (meant gone.strings) items) (entered_or_not Rattle.std.proofs.Common.true)) c.deref.ensures.value k))

pub returns-in-Prim-clause-enters : goal.returns-in-Prim-clause-enters
returns-in-Prim-clause-enters c =
    let W = c.args.world.now in
    let gone = c.drop_frame.new.world in
    let new = record gone { moving = c.args.arguments } in
    subst (λ v. EntersInPlace W new (meant W.strings v) (map (meant W.strings) c.args.arguments.items) (calls_primitive c.in-Prim.n)) (sym c.in-Prim.is)
    (prim_in_place W gone new c.in-Prim.n c.args.arguments.items c.drop_frame.ensures.drops (ap (λ (W : Memory). W.strings) c.drop_frame.ensures.rest) (λ fuel. refl))
