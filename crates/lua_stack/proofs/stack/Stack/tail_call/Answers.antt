use Rattle.std.proofs.Common.{◌≡◌, ◌+◌, length, refl, ap, ◌∙◌, arith}
use Rattle.lua_stack.specs.View.{part}
use Rattle.lua_stack.proofs.Parts.{length_put_all}
use Rattle.lua_stack.proofs.Own.{lua_top, room_in}
use Rattle.lua_stack.proofs.Called.{replaced_open, replaced_stands, replaces}
use Rattle.lua_stack.proofs.stack.Stack.tail_call.Goals as goal

pub lay_out-layout-requires-clause-room : goal.lay_out-layout-requires-clause-room
lay_out-layout-requires-clause-room c =
    let w = ap length c.copy.ensures ∙ length_put_all (part (c.place_of-from.result + 1) c.args.given c.grow.new.values.items) c.grow.new.values.items c.self.inside.top.window.start in
    let a = c.in_ok-grow.ensures.room in
    let b = c.in_ok-end.ensures in
    let d = c.in_ok-end_of.ensures in
    omega (arith, w, a, b, d)

pub invariant_of-self-2 : goal.invariant_of-self-2
invariant_of-self-2 c =
    let i = c.self.invariant.0 in
    let given = room_in c.self.inside c.args.self.now (c.args.register + 1 + c.args.given) c.self.view_is i c.requires.arguments in
    let e : c.place_of-from.result + 1 ≡ c.self.inside.top.window.base + c.args.register + 1 = ap (λ n. n + 1) c.place_of-from.ensures in
    let a = c.in_ok-grow.ensures.room in
    let b = c.in_ok-end.ensures in
    let d = c.in_ok-end_of.ensures in (
      replaced_stands c.self.inside i c.grow.new.values.items c.copy.new.values.items c.lay_out-layout.new.values.items c.in_ok-grow.ensures.front c.in_ok-grow.ensures.longer c.args.register c.args.given (c.place_of-from.result + 1) c.args.shape c.args.function
          c.lay_out-layout.result c.begun-self-inside.result e given (omega (arith, a, b, d)) c.copy.ensures c.lay_out-layout.ensures c.begun-self-inside.ensures,
      replaced_open c.self.inside c.args.self.now c.args.function c.lay_out-layout.result c.args.shape.stack c.self.inside.top.window.marks c.begun-self-inside.result c.self.view_is i (lua_top c.requires.arguments) c.self.invariant.1
          c.requires.closed c.begun-self-inside.ensures,
    )

pub returns-clause-frames : goal.returns-clause-frames
returns-clause-frames c =
    let i = c.self.invariant.0 in
    let given = room_in c.self.inside c.args.self.now (c.args.register + 1 + c.args.given) c.self.view_is i c.requires.arguments in
    let e : c.place_of-from.result + 1 ≡ c.self.inside.top.window.base + c.args.register + 1 = ap (λ n. n + 1) c.place_of-from.ensures in
    let a = c.in_ok-grow.ensures.room in
    let b = c.in_ok-end.ensures in
    let d = c.in_ok-end_of.ensures in
    replaces c.self.inside i c.grow.new.values.items c.copy.new.values.items c.lay_out-layout.new.values.items c.in_ok-grow.ensures.front c.in_ok-grow.ensures.longer c.args.register c.args.given (c.place_of-from.result + 1) c.args.shape c.args.function
    c.lay_out-layout.result c.begun-self-inside.result e given (omega (arith, a, b, d)) c.copy.ensures c.lay_out-layout.ensures c.begun-self-inside.ensures
    c.args.self.now _ c.self.view_is (lua_top c.requires.arguments) c.requires.params refl
