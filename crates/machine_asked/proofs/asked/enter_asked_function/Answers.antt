use Rattle.std.proofs.Common.{[], ap, sym, subst, ◌∙◌}
use Rattle.std.specs.Prelude.{map, not}
use Rattle.int_core.specs.Value.{a_function, object}
use Rattle.lua_heap.specs.declared.world.World.{World as Memory}
use Rattle.lua_heap.specs.Cells.{CellsAreListed}
use Rattle.lua_heap.specs.Reading.{value as meant}
use Rattle.move_laws.proofs.Order.{order_after}
use Rattle.machine_moves.specs.Ending.{ending_of}
use Rattle.machine_moves.proofs.OnTop.{if_ok}
use Rattle.machine_calls.specs.Entering.{EntersSo, entered_or_not}
use Rattle.machine_asked.proofs.AskedFor.{asked_entered, asked_full, taken_is}
use Rattle.machine_calls.proofs.InPlace.{entered_there}
use Rattle.machine_asked.proofs.asked.enter_asked_function.Goals as goal

pub unreachable-requires : goal.unreachable-requires
unreachable-requires c =
    let W = c.args.world.now in
    let vs = map (meant W.strings) c.args.arguments.now in
    let k = subst (λ room. EntersSo W c.enter_function.new.world (object a_function c.args.function.0) vs (entered_or_not room)) c.if-not-branch.true c.in_ok-enter_function.ensures.enters in
    entered_there W c.enter_function.new.world c.args.function.0 vs c.requires.function (c.is_full.ensures.is ∙ ap not c.if-is_full.false) k

pub returns-then-is_full-clause-enters : goal.returns-then-is_full-clause-enters
returns-then-is_full-clause-enters c =
    let W = c.args.world.now in
    if_ok c.refuse_asked.result c.refuse_asked.ensures.refuses c.refuse_asked.ensures.refuses (λ ending r _.
    asked_full W c.refuse_asked.new.world c.args.function.0 (map (meant W.strings) c.args.arguments.now) (ending_of ending) c.requires.function (c.is_full.ensures.is ∙ ap not c.if-is_full.true) r)

pub returns-clause-enters : goal.returns-clause-enters
returns-clause-enters c =
    let W = c.args.world.now in
    let entered = c.enter_function.new.world in
    let vs = map (meant W.strings) c.args.arguments.now in
    let k = subst (λ room. EntersSo W entered (object a_function c.args.function.0) vs (entered_or_not room)) c.if-not-branch.false c.in_ok-enter_function.ensures.enters in
    asked_entered W entered c.take_moving.new.world c.args.function.0 vs c.requires.function (c.is_full.ensures.is ∙ ap not c.if-is_full.false) k (λ fuel. taken_is fuel (c.take_moving.ensures.makes []))

pub returns-clause-order : goal.returns-clause-order
returns-clause-order c =
    let o = c.requires.sound.order in
    let entered = c.enter_function.ensures.rest in
    let taken = c.take_moving.ensures.rest in
    order_after {new = c.take_moving.new.world} o
    (ap (λ (W : Memory). W.strings) taken ∙ ap (λ (W : Memory). W.strings) entered) (ap (λ (W : Memory). W.codes) taken ∙ ap (λ (W : Memory). W.codes) entered)
    (subst CellsAreListed (sym taken) (c.enter_function.ensures.listed o.listed))
