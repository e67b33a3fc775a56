use Rattle.std.proofs.Common.{rules, ◌+◌, ◌≤◌, refl, ap, arith}
use Rattle.lua_stack.proofs.Own.{lua_top}
use Rattle.lua_stack.proofs.Called.{IsReady, calls, handed_over, next_room, ready_in_place, register_room}
use Rattle.lua_stack.proofs.stack.Stack.call_in_place.Goals.{After-hand_over-self-inside}
use Rattle.lua_stack.proofs.stack.Stack.call_in_place.Goals as goal

pub place_of-place-requires : goal.place_of-place-requires
place_of-place-requires c = register_room c.self.inside c.self.invariant.0 c.args.self.now c.self.view_is c.args.register c.args.given c.requires.arguments c.len.result (search rules)

pub overflow_add-place : goal.overflow_add-place
overflow_add-place c = let l : c.place_of-place.result + 1 ≤ c.len.result = next_room c.self.inside c.self.invariant.0 c.args.self.now c.self.view_is c.args.register c.args.given c.requires.arguments c.len.result c.place_of-place.result (search rules) c.place_of-place.ensures in search (arith, rules)

ready : (c : After-hand_over-self-inside)
    → IsReady c.self.inside c.args.register (record { wait = c.args.wait; keeps = c.args.register; kept = c.args.register; size = c.args.stack })
    (record { function = c.args.function; shape = c.args.shape; place = c.place_of-place.result + 1; given = c.args.given }) c.grow.new.values.items
ready c =
    ready_in_place c.self.inside c.self.invariant.0 c.args.self.now c.self.view_is c.grow.new.values.items c.in_ok-grow.ensures.front c.in_ok-grow.ensures.longer c.args.register c.args.given c.args.stack
    (c.place_of-place.result + 1) c.requires.within c.requires.arguments c.requires.size (ap (λ n. n + 1) c.place_of-place.ensures) c.args.wait c.args.function c.args.shape

pub invariant_of-self-2 : goal.invariant_of-self-2
invariant_of-self-2 c = handed_over c.self.inside c.self.invariant.0 _ _ _ _ _ _ _ _ _ (ready ((goal.at.invariant_of-self-2 c).After-hand_over-self-inside)) c.in_ok-reserve.ensures.items c.hand_over-self-inside.ensures c.args.self.now c.self.view_is (lua_top c.requires.size) c.self.invariant.1 c.requires.free

pub returns-clause-frames : goal.returns-clause-frames
returns-clause-frames c = calls c.self.inside c.self.invariant.0 _ _ _ _ _ _ _ _ _ (ready ((goal.at.returns-clause-frames c).After-hand_over-self-inside)) c.in_ok-reserve.ensures.items c.hand_over-self-inside.ensures refl c.args.self.now _ c.self.view_is (lua_top c.requires.size) c.requires.params refl
