use Rattle.std.proofs.Common.{rules, ◌≡◌, ◌+◌, ◌≤◌, length, refl, ap, ◌∙◌, arith}
use Rattle.lua_stack.specs.View.{part}
use Rattle.lua_stack.proofs.Parts.{length_put_all}
use Rattle.lua_stack.proofs.Own.{lua_top, place_in}
use Rattle.lua_stack.proofs.Called.{IsReady, calls_behind, given_room, handed_over, next_room, ready_behind, register_room}
use Rattle.lua_stack.proofs.stack.Stack.call_behind.Goals.{After-hand_over-self-inside}
use Rattle.lua_stack.proofs.stack.Stack.call_behind.Goals as goal

pub place_of-from-requires : goal.place_of-from-requires
place_of-from-requires c = register_room c.self.inside c.self.invariant.0 c.args.self.now c.self.view_is c.args.register c.args.given c.requires.arguments c.len-room.result (search rules)

pub place_of-place-requires : goal.place_of-place-requires
place_of-place-requires c =
    let k = place_in c.self.inside c.args.self.now c.args.stack c.self.view_is c.self.invariant.0 c.requires.size in
    let w = c.requires.within in
    let n : c.len-room.result ≡ length c.self.inside.values.items = search rules in
    omega (arith, k, w, n)

pub overflow_add-from : goal.overflow_add-from
overflow_add-from c = let l : c.place_of-from.result + 1 ≤ c.len-room.result = next_room c.self.inside c.self.invariant.0 c.args.self.now c.self.view_is c.args.register c.args.given c.requires.arguments c.len-room.result c.place_of-from.result (search rules) c.place_of-from.ensures in search (arith, rules)

pub copy-requires-clause-from : goal.copy-requires-clause-from
copy-requires-clause-from c = given_room c.self.inside c.self.invariant.0 c.args.self.now c.self.view_is c.args.register c.args.given c.requires.arguments (length c.grow.new.values.items) c.place_of-from.result c.in_ok-grow.ensures.longer c.place_of-from.ensures

pub copy-requires-clause-to : goal.copy-requires-clause-to
copy-requires-clause-to c = omega (arith, c.in_ok-grow.ensures.room, c.in_ok-end.ensures, c.in_ok-end_of.ensures)

pub hand_over-self-inside-requires-clause-room : goal.hand_over-self-inside-requires-clause-room
hand_over-self-inside-requires-clause-room c =
    let n = ap length c.copy.ensures ∙ length_put_all (part (c.place_of-from.result + 1) c.args.given c.grow.new.values.items) c.grow.new.values.items c.place_of-place.result in
    omega (arith, n, c.in_ok-grow.ensures.room, c.in_ok-end.ensures, c.in_ok-end_of.ensures)

ready : (c : After-hand_over-self-inside)
    → IsReady c.self.inside c.args.register (record { wait = c.args.wait; keeps = c.args.keeps; kept = c.args.keeps; size = c.args.stack })
    (record { function = c.args.function; shape = c.args.shape; place = c.place_of-place.result; given = c.args.given }) c.copy.new.values.items
ready c =
    let p = c.place_of-place.ensures in
    ready_behind c.self.inside c.self.invariant.0 c.args.self.now c.self.view_is c.grow.new.values.items c.copy.new.values.items c.in_ok-grow.ensures.front c.in_ok-grow.ensures.longer
    c.args.register c.args.given c.args.keeps c.args.stack c.place_of-from.result c.place_of-place.result
    c.requires.within c.requires.arguments c.requires.size c.place_of-from.ensures (omega (arith, p)) (omega (arith, c.in_ok-grow.ensures.room, c.in_ok-end.ensures, c.in_ok-end_of.ensures)) c.copy.ensures
    c.args.wait c.args.function c.args.shape

pub invariant_of-self-2 : goal.invariant_of-self-2
invariant_of-self-2 c = handed_over c.self.inside c.self.invariant.0 _ _ _ _ _ _ _ _ _ (ready ((goal.at.invariant_of-self-2 c).After-hand_over-self-inside)) c.in_ok-reserve.ensures.items c.hand_over-self-inside.ensures c.args.self.now c.self.view_is (lua_top c.requires.size) c.self.invariant.1 c.requires.free

pub returns-clause-frames : goal.returns-clause-frames
returns-clause-frames c = calls_behind c.self.inside c.self.invariant.0 _ _ _ _ _ _ _ _ _ (ready ((goal.at.returns-clause-frames c).After-hand_over-self-inside)) c.in_ok-reserve.ensures.items c.hand_over-self-inside.ensures c.args.self.now _ c.self.view_is (lua_top c.requires.size) c.requires.params refl
